use Rattle.std.proofs.Common.{arith}
use Rattle.std.specs.BTreeSet.{contains}
use Rattle.druid_broker_scatter.specs.Pending.{at_cmp}
use Rattle.druid_broker_scatter.proofs.WaitLemmas.{place_step}
use Rattle.druid_broker_scatter.proofs.pending.places_of.Goals as goal

pub loop-piece-preserved : goal.loop-piece-preserved
loop-piece-preserved c = λ p.
    place_step c.args.asked.now c.loop-piece.piece-index c.piece-item.result c.place_of.result p (contains at_cmp c.loop-piece.places p) _ (omega arith) c.piece-item.is c.place_of.ensures
    (c.in_ok-insert.ensures.updates.0 p) (c.loop-piece.invariant p)
