use Rattle.std.proofs.Common.{◌≡◌, ◌∙◌, ◌∷◌, [], ap, refl, sym, subst, arith}
use Rattle.druid_time.specs.Extent.{Extent}
use Rattle.druid_segment_id.specs.Group.{Group, group_of}
use Rattle.druid_segment_id.specs.Identifier.{Identifier}
use Rattle.druid_timeline.specs.Holding.{Serving}
use Rattle.druid_base_tests.specs.Others.{AreAmong}
use Rattle.druid_base_tests.proofs.OthersLemmas.{AreAmong-nothing, IsAmong-itself}
use Rattle.druid_base_tests.proofs.edit_bound.count_edits.Goals as goal

pub returns-clause-first : goal.returns-clause-first
returns-clause-first w c =
    let none = ap (λ (s : Serving). s.held) c.new-timeline.ensures in
    let counted = c.add.ensures.counted [] (AreAmong-nothing c.new-timeline.result.held (group_of c.segment-v1.result.id) [] none) in
    omega (arith, counted)

pub returns-clause-third : goal.returns-clause-third
returns-clause-third w c =
    let v1 : Group = group_of c.segment-v1.result.id in
    let v2 : Group = group_of c.segment-v2.result.id in
    let g : Group = group_of c.segment-v3.result.id in
    let others = v1 ∷ v2 ∷ [] in
    let none = ap (λ (s : Serving). s.held) c.new-timeline.ensures in
    let ends : g.interval.end ≡ c.end.result = ap (λ (e : Extent). e.end) c.segment-v3.ensures ∙ sym c.end.ensures.value in
    let one = c.add.ensures.among g others (AreAmong-nothing c.new-timeline.result.held g others none) (λ other shares. (0, omega arith, refl)) in
    let two = c.add-2.ensures.among g others one (λ other shares. (1, omega arith, refl)) in
    let all = c.add_days.ensures g others (omega (arith, ends)) two in
    let counted = c.add-3.ensures.counted others all in
    omega (arith, counted)

pub returns-clause-back : goal.returns-clause-back
returns-clause-back w c =
    let v1 : Group = group_of c.segment-v1.result.id in
    let v2 : Group = group_of c.segment-v2.result.id in
    let g : Group = group_of c.segment-v3.result.id in
    let others = v1 ∷ v2 ∷ [] in
    let none = ap (λ (s : Serving). s.held) c.new-timeline.ensures in
    let ends : g.interval.end ≡ c.end.result = ap (λ (e : Extent). e.end) c.segment-v3.ensures ∙ sym c.end.ensures.value in
    let one = c.add.ensures.among g others (AreAmong-nothing c.new-timeline.result.held g others none) (λ other shares. (0, omega arith, refl)) in
    let two = c.add-2.ensures.among g others one (λ other shares. (1, omega arith, refl)) in
    let all = c.add_days.ensures g others (omega (arith, ends)) two in
    let more = c.add-3.ensures.among g others all (IsAmong-itself g g others refl) in
    let counted = c.remove.ensures.counted others
    (subst (λ (id : Identifier). AreAmong c.add-3.new.timeline.held (group_of id) others) (sym c.id.ensures.value) more) in
    omega (arith, counted)
