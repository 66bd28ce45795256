use Rattle.std.proofs.Common.{◌≡◌, rules}
use Rattle.druid_base.specs.Distinct.{are_distinct}
use Rattle.druid_base.proofs.DistinctLemmas.{distinct_tested}
use Rattle.druid_base.proofs.distinct.are_distinct.Goals as goal

pub returns-clause-distinct : goal.returns-clause-distinct
returns-clause-distinct g c =
    let is : c.is_none.result ≡ are_distinct (g.T.TextList.texts c.args.texts.now) = search rules in
    distinct_tested (g.T.TextList.texts c.args.texts.now) c.is_none.result is
