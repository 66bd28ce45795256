use Rattle.std.proofs.Common.{◌≡◌, Some}
use Rattle.druid_segment_descriptor.specs.declared.change.Ask.{Ask}
use Rattle.druid_segment_descriptor.specs.declared.change.Ask.TheVariants.{Whole, Since, Page}
use Rattle.druid_sync_text.specs.Asks.{ask_at, parameters_of}
use Rattle.druid_laws_headline.specs.Headline.{HasText}
use Rattle.druid_laws_tests.proofs.FetchLemmas.{link_is_honest}
use Rattle.druid_laws_tests.proofs.laws.fetches_are_honest.Goals as goal

pub returns : goal.returns
returns c life inventory number entry old new reply valid words last at text fetched =
    c.fetched_replies_are_honest.ensures.fetched life inventory number entry old new reply valid words
    (link_is_honest back life old new (λ ask status body reply. c.asks_are_answered.ensures.honest life old old ask status body reply valid last)) at text fetched where
      back : (ask : Ask) → HasText ask → ask_at (parameters_of ask) ≡ Some ask
      back Whole text = c.asks_are_read_back.ensures.whole
      back (Since m) text = c.asks_are_read_back.ensures.since m text.0 text.1
      back (Page m page) text = c.asks_are_read_back.ensures.page m page text.0 text.1 text.2
