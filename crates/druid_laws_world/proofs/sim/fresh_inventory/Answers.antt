use Rattle.std.proofs.Common.{Err, subst, sym}
use Rattle.druid_base.specs.Distinct.{AreDistinct}
use Rattle.druid_laws_world.proofs.NameLemmas.{node_names-own}
use Rattle.druid_laws_world.proofs.sim.fresh_inventory.Goals as goal

pub unreachable-requires : goal.unreachable-requires
unreachable-requires c =
    c.in-Err-DoubledNode.ensures.doubled.0 (λ i. Err (c.in-Err-DoubledNode.field-0-is i))
    (subst AreDistinct (sym c.in_ok-names.ensures.ok) (node_names-own c.args.nodes c.requires.few))
