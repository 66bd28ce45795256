use Rattle.std.proofs.Common.{◌∙◌, ap, Some}
use Rattle.druid_telemetry_log.specs.Refusals.{code_of}
use Rattle.druid_telemetry_log.proofs.RefusalLemmas.{bytes_of, code_found}
use Rattle.druid_telemetry_log.proofs.refusals.Refusals.code.Goals as goal

pub returns-in-Some : goal.returns-in-Some
returns-in-Some c =
    ap Some c.as_str.ensures.value
    ∙ ap bytes_of c.in-Some.ensures.value
    ∙ code_found c.self.inside.files.entries c.args.name.now
    ∙ ap (λ files. code_of files c.args.name.now) c.self.view_is

pub returns-in-None : goal.returns-in-None
returns-in-None c =
    ap bytes_of c.in-None.ensures.value
    ∙ code_found c.self.inside.files.entries c.args.name.now
    ∙ ap (λ files. code_of files c.args.name.now) c.self.view_is
