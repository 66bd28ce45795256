use Rattle.std.proofs.Common.{Err}
use Rattle.druid_laws_world.proofs.NameLemmas.{node_name-valid}
use Rattle.druid_laws_world.proofs.sim.node_name.Goals as goal

pub unreachable-requires : goal.unreachable-requires
unreachable-requires c =
    c.in-Err-BadName.ensures.bad_name.0 (λ i. Err (c.in-Err-BadName.field-0-is i))
    (rw (c.deref.ensures, c.in_ok-text.ensures.ok) (node_name-valid c.args.node c.requires))
