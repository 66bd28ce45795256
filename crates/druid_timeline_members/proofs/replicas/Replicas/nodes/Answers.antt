use Rattle.std.proofs.Common.{◌∙◌, sym, ap, subst, map}
use Rattle.std.specs.List.Sorted.{IsStrictlyIncreasing}
use Rattle.druid_timeline_members.proofs.PairLemmas.{map-zip, rising-once}
use Rattle.druid_timeline_members.specs.Slots.{Replica}
use Rattle.druid_timeline_members.proofs.replicas.Replicas.nodes.Goals as goal

pub returns-clause-value : goal.returns-clause-value
returns-clause-value c =
    c.as_slice.ensures.value ∙ sym (map-zip _ _ c.self.invariant.0) ∙ ap (map (λ (r : Replica). r.0)) c.self.view_is

pub returns-clause-once : goal.returns-clause-once
returns-clause-once c =
    rising-once c.args.self.now
    (subst IsStrictlyIncreasing (sym (map-zip _ _ c.self.invariant.0) ∙ ap (map (λ (r : Replica). r.0)) c.self.view_is) c.self.invariant.1)
