use Rattle.std.proofs.Common.{Bool, Err, OnOk, subst}
use Rattle.druid_program.specs.Reasons.{Reports}
use Rattle.druid_program.specs.Ends.{serve_line}
use Rattle.druid_program.proofs.program.serve_file.Goals as goal

pub returns-in-Err : goal.returns-in-Err
returns-in-Err g c = (
  Err c.in-Err.stop.fault,
  c.report_stop.ensures.status,
  subst (λ (e : Bool). OnOk c.report_stop.result.reported (Reports e (g.E.Write.contents c.args.errors.now) (g.E.Write.contents c.report_stop.new.errors) (serve_line (Err c.in-Err.stop.fault))))
      c.explains.ensures c.report_stop.ensures.reported,
)
