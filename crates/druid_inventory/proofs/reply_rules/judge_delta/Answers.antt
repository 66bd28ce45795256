use Rattle.std.proofs.Common.{◌≡◌, ◌-◌, ◌<◌, ◌≤◌, List, Some, length, take, drop, arith, refl, sym, ap, subst, ◌∙◌}
use Rattle.std.proofs.lemmas.List.{length-take, length-drop}
use Rattle.druid_segment_descriptor.specs.Described.{Described}
use Rattle.druid_segment_descriptor.specs.Mark.{Point}
use Rattle.druid_segment_descriptor.specs.Replay.{replay_from}
use Rattle.druid_inventory.proofs.PlanLemmas.{replayed_delta}
use Rattle.druid_inventory.proofs.StepLemmas.{goes_on, tail_made}
use Rattle.druid_inventory.proofs.reply_rules.judge_delta.Goals as goal

pub returns-in-Ok-clause-ok : goal.returns-in-Ok-clause-ok
returns-in-Ok-clause-ok c =
    let e = c.args.known.now in
    let held = c.mark-held.result in
    let to_incarnation : c.incarnation.result ≡ c.args.to.incarnation = c.incarnation.ensures in
    let held_incarnation : c.incarnation-2.result ≡ held.incarnation = c.incarnation-2.ensures in
    let same : c.incarnation.result ≡ c.incarnation-2.result = c.if-incarnation.false in
    let to_count : c.count.result ≡ c.args.to.count = c.count.ensures in
    let held_count : c.count-2.result ≡ held.count = c.count-2.ensures in
    let later : c.count-2.result < c.count.result = c.if-count.false in
    let from_count : c.count-3.result ≡ c.args.from.count = c.count-3.ensures in
    let held_again : c.count-4.result ≡ held.count = c.count-4.ensures in
    let near : c.count-3.result ≤ c.count-4.result = c.if-count-2.false in
    let mark : c.count-5.result ≡ c.args.known.now.mark.count = c.count-5.ensures ∙ ap (λ (p : Point). p.count) c.mark-held.ensures in
    let made = c.in-Ok.ensures.ok in
    let on = goes_on e c.args.from c.args.to held c.mark-held.ensures (sym to_incarnation ∙ same ∙ held_incarnation) (omega arith) (omega arith) in
    replayed_delta e c.args.from c.args.to c.args.changes.now _ made.0 on (omega (arith, c.requires.incarnation, c.requires.far.incarnation))
    (omega (arith, c.requires.few, length-take (length c.args.changes.now - (c.count-5.result - c.count-6.result)) (drop (c.count-5.result - c.count-6.result) c.args.changes.now), length-drop (c.count-5.result - c.count-6.result) c.args.changes.now))
    (subst (λ (s : List Described). replay_from s (take (length c.args.changes.now - (c.count-5.result - c.count-6.result)) (drop (c.count-5.result - c.count-6.result) c.args.changes.now)) ≡ Some made.0)
    c.set.ensures.value made.1)
    (λ u tail. tail_made e c.args.from c.args.changes.now e.set u c.count-5.result c.count-6.result mark c.count-6.ensures refl tail)
