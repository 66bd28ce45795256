use Rattle.druid_segment_descriptor.specs.declared.change.Ask.TheVariants.{Whole}
use Rattle.druid_broker_follow.specs.Turns.{entry_request}
use Rattle.druid_laws_headline.proofs.FetchLemmas.{asked_true, fetched_from_true}
use Rattle.druid_laws_headline.proofs.laws.fetched_replies_are_honest.Goals as goal

pub returns-clause-fetched : goal.returns-clause-fetched
returns-clause-fetched g c life inventory node entry old new reply valid words honest at text fetched =
    fetched_from_true g.L.Link.exchanges life valid words inventory node entry old new reply honest at text fetched

pub returns-clause-of_entry : goal.returns-clause-of_entry
returns-clause-of_entry g c life node old new reply valid words honest asked =
    asked_true g.L.Link.exchanges life valid words (entry_request node) Whole old new reply honest tt asked
