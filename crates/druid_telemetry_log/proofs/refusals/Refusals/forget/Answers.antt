use Rattle.std.proofs.Common.{subst, None}
use Rattle.druid_telemetry_log.specs.Refusals.{Notes, files_of}
use Rattle.druid_telemetry_log.proofs.RefusalLemmas.{noted}
use Rattle.druid_telemetry_log.proofs.refusals.Refusals.forget.Goals as goal

pub returns : goal.returns
returns c =
    subst (λ files. Notes c.args.name.now None files (files_of c.remove.new.self.entries)) c.self.view_is
    (noted c.args.name.now c.self.inside.files c.remove.new.self None c.remove.ensures.updates)
