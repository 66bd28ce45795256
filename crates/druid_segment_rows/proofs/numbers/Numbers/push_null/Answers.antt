use Rattle.std.proofs.Common.{◌≡◌, ◌∙◌, ◌++◌, [], ◌∷◌, pos, None, length, ap}
use Rattle.druid_segment_rows.specs.Metrics.{unless_null}
use Rattle.druid_segment_rows.proofs.MetricLemmas.{null_more}
use Rattle.druid_segment_rows.proofs.numbers.Numbers.push_null.Goals as goal

pub returns-clause-ok : goal.returns-clause-ok
returns-clause-ok c =
    let it = c.self.inside in
    let numbers = c.reserve.new.self.items in
    let marks = c.mark_numbers.new.nulls.items in
    let long : length marks ≡ length numbers = c.in_ok-mark_numbers.ensures.all ∙ c.len.ensures ∙ c.reserve.new.self.ok.0 in
    ap (λ ns. unless_null ns c.push.new.self.items) c.push_reserved.ensures.items
    ∙ ap (unless_null (numbers ++ pos 0 ∷ [])) c.in_ok-push.ensures.items
    ∙ null_more numbers marks (pos 0) long
    ∙ ap (λ vs. vs ++ None ∷ []) (c.mark_numbers.ensures.same numbers ∙ ap (λ ns. unless_null ns it.nulls.items) c.reserve.ensures.items ∙ c.self.view_is)
