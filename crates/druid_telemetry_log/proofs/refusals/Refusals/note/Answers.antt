use Rattle.std.proofs.Common.{string_bytes}
use Rattle.druid_telemetry_log.proofs.RefusalLemmas.{noted_as}
use Rattle.druid_telemetry_log.proofs.refusals.Refusals.note.Goals as goal

pub returns-clause-noted : goal.returns-clause-noted
returns-clause-noted c =
    noted_as c.args.name.now (string_bytes c.in_ok-name.name) c.args.code.now c.args.self.now c.self.inside.files c.insert.new.self c.in_ok-code.code
    c.in_ok-name.ensures.ok c.in_ok-code.ensures.ok c.self.view_is c.in_ok-insert.ensures.updates
