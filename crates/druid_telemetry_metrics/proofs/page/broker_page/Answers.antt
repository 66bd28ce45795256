use Rattle.std.proofs.Common.{◌∙◌, ap}
use Rattle.std.proofs.lemmas.Result.{IfOk-weaker}
use Rattle.druid_telemetry_metrics.specs.Families.{server_page}
use Rattle.druid_telemetry_metrics.proofs.page.broker_page.Goals as goal

pub returns : goal.returns
returns c =
    IfOk-weaker c.page.result _ _ (λ text is. is ∙ ap (server_page c.args.server.now c.args.readings.now) c.in_ok-own.ensures) c.page.ensures
