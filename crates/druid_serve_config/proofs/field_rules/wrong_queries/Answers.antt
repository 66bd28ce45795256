use Rattle.std.proofs.Common.{◌∙◌, ap, is_some, option_and_then}
use Rattle.druid_base.specs.Each.{each_of}
use Rattle.druid_serve_config.specs.Configs.{query_at}
use Rattle.druid_serve_config.proofs.FormLemmas.{queries_judged}
use Rattle.druid_serve_config.proofs.field_rules.wrong_queries.Goals as goal

pub returns-in-Some-bad_query-clause-test : goal.returns-in-Some-bad_query-clause-test
returns-in-Some-bad_query-clause-test c =
    c.in-Some-bad_query.ensures.test
    ∙ queries_judged c.args.brokers c.in-Some.values.now
    ∙ ap (λ o. is_some (option_and_then (each_of (query_at c.args.brokers)) o)) c.in-Some.ensures

pub returns-in-None-clause-test : goal.returns-in-None-clause-test
returns-in-None-clause-test c =
    c.in-None.ensures.test
    ∙ queries_judged c.args.brokers c.in-Some.values.now
    ∙ ap (λ o. is_some (option_and_then (each_of (query_at c.args.brokers)) o)) c.in-Some.ensures
