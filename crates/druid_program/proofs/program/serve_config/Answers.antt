use Rattle.std.proofs.Common.{rules, ℕ, List, [], Bool, Option, Ok, Err, OnOk, subst, sym}
use Rattle.druid_program.specs.Reasons.{Reports}
use Rattle.druid_program.specs.Ends.{serve_line}
use Rattle.druid_serve.specs.Served.{IsConfig, ServesAs}
use Rattle.druid_program.proofs.ReasonLemmas.{nothing_reported}
use Rattle.druid_program.proofs.program.serve_config.Goals as goal

pub returns-in-Ok-clause-served : goal.returns-in-Ok-clause-served
returns-in-Ok-clause-served g c = (
  Ok tt,
  subst (λ (p : Option (List ℕ)). IsConfig c.args.config.now p) c.part-part.ensures (search rules),
  c.done.ensures,
  subst (λ (new : Option (List ℕ)). OnOk c.done.result.reported (Reports c.args.environment.now.explain (g.E.Write.contents c.args.errors.now) new []))
      (sym c.serve.ensures.quiet) (nothing_reported c.args.environment.now.explain (g.E.Write.contents c.args.errors.now) c.done.result.reported),
)

pub returns-in-Err-clause-served : goal.returns-in-Err-clause-served
returns-in-Err-clause-served g c = (
  Err c.in-Err.stop.fault,
  subst (λ (p : Option (List ℕ)). ServesAs c.args.config.now p (Err c.in-Err.stop.fault)) c.part-part.ensures c.in-Err.ensures.err,
  c.report_stop.ensures.status,
  subst (λ (e : Bool). OnOk c.report_stop.result.reported (Reports e (g.E.Write.contents c.args.errors.now) (g.E.Write.contents c.report_stop.new.errors) (serve_line (Err c.in-Err.stop.fault))))
      c.explains.ensures
      (subst (λ (old : Option (List ℕ)). OnOk c.report_stop.result.reported (Reports c.explains.result old (g.E.Write.contents c.report_stop.new.errors) (serve_line (Err c.in-Err.stop.fault))))
      c.serve.ensures.quiet c.report_stop.ensures.reported),
)
