use Rattle.std.proofs.Common.{subst, sym}
use Rattle.druid_laws_world.specs.Run.{IsReached}
use Rattle.druid_laws_world.proofs.SimLemmas.{opened}
use Rattle.druid_laws_world.proofs.RunLemmas.{opening-reached}
use Rattle.druid_laws_world.proofs.sim.Sim.new.Goals as goal

pub invariant_of-result : goal.invariant_of-result
invariant_of-result c =
    subst IsReached (sym (opened c.args.nodes c.args.brokers c.args.kept _ _ _ _ c.in_ok-made.ensures.ok c.new.ensures.items c.in_ok-inventories.ensures.ok c.in_ok-assemblies.ensures.ok))
    (opening-reached c.args.nodes c.args.brokers c.args.kept)

pub returns-clause-ok : goal.returns-clause-ok
returns-clause-ok c =
    opened c.args.nodes c.args.brokers c.args.kept _ _ _ _ c.in_ok-made.ensures.ok c.new.ensures.items c.in_ok-inventories.ensures.ok c.in_ok-assemblies.ensures.ok
