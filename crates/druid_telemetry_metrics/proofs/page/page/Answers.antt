use Rattle.std.proofs.Common.{◌∷◌, [], ◌++◌, ◌∙◌, ap, List}
use Rattle.std.proofs.lemmas.Result.{IfOk-weaker}
use Rattle.druid_telemetry_metrics.specs.Text.{Family, Histogram, page_text}
use Rattle.druid_telemetry_metrics.specs.Families.{server_families}
use Rattle.druid_telemetry_metrics.proofs.page.page.Goals as goal

pub returns : goal.returns
returns c =
    IfOk-weaker c.render.result _ _ (λ text is. is
    ∙ ap (λ (families : List Family). page_text families (c.in_ok-histogram.histogram ∷ []))
    (c.deref.ensures.value ∙ c.in_ok-append.ensures.items ∙ ap (λ (families : List Family). families ++ c.args.own.items) c.in_ok-families.ensures)
    ∙ ap (λ (h : Histogram). page_text (server_families c.args.server.now c.args.readings.now ++ c.args.own.items) (h ∷ [])) c.in_ok-histogram.ensures)
    c.render.ensures
