use Rattle.std.proofs.Common.{sym, ◌∙◌, subst}
use Rattle.std.specs.Arc.{arc_value}
use Rattle.druid_base.proofs.ListLemmas.{map-copied}
use Rattle.druid_node.specs.Held.{IsHeld}
use Rattle.druid_node.proofs.held.HeldClone.clone.Goals as goal

pub invariant_of-result : goal.invariant_of-result
invariant_of-result c =
    subst IsHeld (sym (map-copied arc_value c.self.inside.segments.items c.in_ok-clone.field-0.items c.in_ok-clone.ensures.cases.0)) c.self.invariant

pub returns : goal.returns
returns c = record { cases = map-copied arc_value c.self.inside.segments.items c.in_ok-clone.field-0.items c.in_ok-clone.ensures.cases.0 ∙ c.self.view_is }
