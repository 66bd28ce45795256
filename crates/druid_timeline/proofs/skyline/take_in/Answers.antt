use Rattle.std.proofs.Common.{◌≡◌, ◌⊎◌, ◌≤◌, ℕ, length, take, sym, ap, ◌∙◌, subst, arith}
use Rattle.std.specs.List.{Contains}
use Rattle.std.proofs.lemmas.Bool.{false≢true}
use Rattle.std.proofs.lemmas.Result.{on_ok_weaker}
use Rattle.druid_segment_id.specs.Group.{Group, Outranks}
use Rattle.druid_timeline.specs.Skyline.{IsSkyline, IsCovered}
use Rattle.druid_timeline.proofs.SkylineLemmas.{borrowed, taken_in, replaced_order, replaced_among, replaced_covers, replaced_keeps, covered_by, length-borrowed, length-replaced}
use Rattle.druid_timeline.proofs.skyline.take_in.Goals as goal

pub returns-then-not-beats_before-clause-covered : goal.returns-then-not-beats_before-clause-covered
returns-then-not-beats_before-clause-covered c =
    let before = subst (λ (n : ℕ). (g : Group) → Contains (take c.first_ending_before-place.result (borrowed c.deref.result.now)) g → n ≤ g.interval.end) (c.end.ensures.value ∙ ap (λ e. e.end) c.interval.ensures.value) c.first_ending_before-place.ensures.before in
    let longer = subst (λ xs. (g : Group) → Contains (take c.first_ending_before-place.result (borrowed xs)) g → c.args.key.now.interval.end ≤ g.interval.end) c.deref.ensures.value before in
    let beaten = subst (λ xs. (g : Group) × Contains (take c.first_ending_before-place.result (borrowed xs)) g × ((c.args.key.now ≡ g) ⊎ Outranks g c.args.key.now)) c.deref-2.ensures.value
    (c.beats_before.ensures.beaten (λ above. false≢true (sym c.if-not-beats_before.true ∙ above))) in
    covered_by (borrowed c.args.sky.now.items) c.first_ending_before-place.result c.args.key.now longer beaten

pub returns-clause-order : goal.returns-clause-order
returns-clause-order c =
    let t = taken_in c.args.sky.now.items c.deref.result.now c.deref-2.result.now c.deref-3.result.now c.first_ending_before-place.result c.first_better-to.result c.end.result c.args.key.now c.deref.ensures.value c.deref-2.ensures.value c.deref-3.ensures.value (c.end.ensures.value ∙ ap (λ e. e.end) c.interval.ensures.value) c.requires c.first_better-to.ensures.low
    c.first_ending_before-place.ensures.before c.first_ending_before-place.ensures.rest (c.beats_before.ensures.best c.if-not-beats_before.false) c.first_better-to.ensures.beaten c.first_better-to.ensures.rest in
    on_ok_weaker c.replace.result (λ e. subst IsSkyline (sym e) (replaced_order (borrowed c.args.sky.now.items) c.first_ending_before-place.result c.first_better-to.result c.args.key.now t)) c.replace.ensures

pub returns-clause-among : goal.returns-clause-among
returns-clause-among c =
    on_ok_weaker c.replace.result (λ e g there. replaced_among (borrowed c.args.sky.now.items) c.first_ending_before-place.result c.first_better-to.result c.args.key.now g (subst (λ xs. Contains xs g) e there)) c.replace.ensures

pub returns-clause-covered : goal.returns-clause-covered
returns-clause-covered c =
    on_ok_weaker c.replace.result (λ e. subst (λ xs. IsCovered xs c.args.key.now) (sym e) (replaced_covers (borrowed c.args.sky.now.items) c.first_ending_before-place.result c.first_better-to.result c.args.key.now)) c.replace.ensures

pub returns-clause-kept : goal.returns-clause-kept
returns-clause-kept c =
    let t = taken_in c.args.sky.now.items c.deref.result.now c.deref-2.result.now c.deref-3.result.now c.first_ending_before-place.result c.first_better-to.result c.end.result c.args.key.now c.deref.ensures.value c.deref-2.ensures.value c.deref-3.ensures.value (c.end.ensures.value ∙ ap (λ e. e.end) c.interval.ensures.value) c.requires c.first_better-to.ensures.low
    c.first_ending_before-place.ensures.before c.first_ending_before-place.ensures.rest (c.beats_before.ensures.best c.if-not-beats_before.false) c.first_better-to.ensures.beaten c.first_better-to.ensures.rest in
    on_ok_weaker c.replace.result (λ e g covered. subst (λ xs. IsCovered xs g) (sym e) (replaced_keeps (borrowed c.args.sky.now.items) c.first_ending_before-place.result c.first_better-to.result c.args.key.now t g covered)) c.replace.ensures

pub returns-clause-paid : goal.returns-clause-paid
returns-clause-paid c =
    let low = c.first_better-to.ensures.low in
    let was = length-borrowed c.args.sky.now.items in
    let borrowed_was = ap length c.deref-3.ensures.value in
    let high = c.first_better-to.ensures.high in
    let one = c.beats_before.ensures.counted in
    let two = c.first_better-to.ensures.counted in
    on_ok_weaker c.replace.result (λ e.
    let now = ap length e ∙ length-replaced (borrowed c.args.sky.now.items) c.first_ending_before-place.result c.first_better-to.result c.args.key.now low (omega (arith, was, borrowed_was, high)) in
    let is = length-borrowed c.replace.new.sky.items in
    omega (arith, now, is, was, borrowed_was, high, low, one.1, two.1)) c.replace.ensures
