use Rattle.std.proofs.Common.{sym, ◌∙◌}
use Rattle.std.proofs.lemmas.Bool.{false≢true}
use Rattle.druid_broker_follow.proofs.TurnLemmas.{fetched_first, fetched_again}
use Rattle.druid_broker_follow.proofs.turns.ask_node.Goals as goal

pub returns-then-starts_again : goal.returns-then-starts_again
returns-then-starts_again g c =
    fetched_again g.L.Link.exchanges c.args.ask.now c.args.link.now c.ask_once.new.link c.ask_all.new.link c.in-Ok.reply c.ask_all.result c.in-Ok.ensures
    (c.starts_again.ensures.0 c.if-starts_again.true) c.ask_all.ensures

pub returns : goal.returns
returns g c =
    fetched_first g.L.Link.exchanges c.args.ask.now c.args.link.now c.ask_once.new.link c.follow_pages.new.link c.in-Ok.reply c.follow_pages.result c.in-Ok.ensures
    (λ again. false≢true (sym c.if-starts_again.false ∙ c.starts_again.ensures.1 again)) c.follow_pages.ensures
