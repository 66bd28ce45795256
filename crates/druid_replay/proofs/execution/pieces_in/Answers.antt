use Rattle.std.proofs.Common.{List, subst, sym}
use Rattle.druid_timeline.specs.Pieces.{Reported}
use Rattle.druid_replay.specs.Execution.{AreFoundIn}
use Rattle.druid_replay.proofs.LookLemmas.{found_in}
use Rattle.druid_replay.proofs.execution.pieces_in.Goals as goal

pub returns : goal.returns
returns c =
    subst (λ (ps : List Reported). AreFoundIn c.args.asked c.args.timeline.now.held ps) (sym c.new.ensures)
    (found_in c.args.asked c.in_ok-set.set c.args.timeline.now.held c.in_ok-pieces.pieces.items c.in_ok-set.ensures.instants c.in_ok-pieces.ensures.pieces c.in_ok-pieces.ensures.parts)
