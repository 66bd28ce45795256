use Rattle.std.proofs.Common.{arith}
use Rattle.druid_replay.proofs.RunLemmas.{not_flushed}
use Rattle.druid_replay.proofs.run.replay_explained.Goals as goal

pub returns-in-Err-clause-err : goal.returns-in-Err-clause-err
returns-in-Err-clause-err g c =
    not_flushed c.in-Err.stop.fault c.in-Err.stop.reason _ _ _ _ c.line.result (omega (arith, c.line.type_inv)) c.in-Err.ensures.err c.line.ensures c.flush-flushed.ensures.bytes
