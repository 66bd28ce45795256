use Rattle.std.proofs.Common.{rules, Ok, Err}
use Rattle.druid_replay.proofs.RunLemmas.{ends_by}
use Rattle.druid_program.proofs.ReasonLemmas.{nothing_reported}
use Rattle.druid_program.proofs.program.replay_all.Goals as goal

pub returns-in-Ok : goal.returns-in-Ok
returns-in-Ok g c = (Ok tt, c.in-Ok.ensures.ok, c.done.ensures, nothing_reported c.args.explain (g.E.Write.contents c.args.errors.now) c.done.result.reported)

pub returns-in-Err : goal.returns-in-Err
returns-in-Err g c = (Err c.in-Err.stop.fault, ends_by c.in-Err.stop.fault c.in-Err.stop.reason _ _ _ c.in-Err.ensures.err, search rules, search rules)
