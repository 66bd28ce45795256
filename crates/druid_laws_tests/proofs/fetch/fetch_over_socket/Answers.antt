use Rattle.std.proofs.Common.{◌≡◌, ◌++◌, List, Some, Result, Ok, Err, IfOk, slice_get}
use Rattle.druid_segment_descriptor.specs.declared.reply.Body.{Body}
use Rattle.druid_inventory.specs.Entry.{Entry, ask_of}
use Rattle.druid_link.specs.Exchanged.{Exchanged}
use Rattle.druid_link.specs.TcpLinks.{ExchangesOverTcp}
use Rattle.druid_broker_follow.specs.Turns.{IsFetchedFrom, ask_request}
use Rattle.druid_broker_follow.specs.declared.fault.TurnFault.{TurnFault}
use Rattle.druid_laws_world.specs.World.{Life, IsHonest, IsLife, eras_of}
use Rattle.druid_laws_headline.specs.Headline.{HasText, HasWords, WereHonest}
use Rattle.druid_laws_tests.proofs.fetch.fetch_over_socket.Goals as goal

pub returns : goal.returns
returns g c = by c.fetch.result c.fetch.ensures
  where
    by : (r : Result Body TurnFault) → IsFetchedFrom ExchangesOverTcp c.args.inventory.now c.args.node c.args.link.now c.fetch.new.link r
        → IfOk r (λ reply. (made : List Exchanged) × (c.fetch.new.link.made ≡ made ++ c.args.link.now.made)
        × ((life : Life) (entry : Entry) → IsLife life → HasWords life → slice_get c.args.inventory.now c.args.node ≡ Some entry
        → HasText (ask_of entry.mark) → WereHonest ask_request life made → IsHonest (eras_of life) reply))
    by (Ok reply) fetched =
        let kept = c.kept_exchanges_are_of_the_call.ensures.kept c.args.inventory.now c.args.node c.args.link.now c.fetch.new.link reply fetched in (
          kept.0,
          kept.1,
          λ life entry valid words at text honest.
              c.fetched_replies_are_honest.ensures.fetched life c.args.inventory.now c.args.node entry c.args.link.now c.fetch.new.link reply valid words
              (c.kept_exchanges_are_of_the_call.ensures.honest ask_request life c.args.link.now c.fetch.new.link kept.0 kept.1 honest) at text fetched,
        )
    by (Err fault) fetched = tt
