use Rattle.druid_broker_follow.specs.Turns.{IsFetchedFrom}
use Rattle.druid_broker_follow.proofs.TurnLemmas.{turn_lacks, takes_turn, fails_turn}
use Rattle.druid_broker_follow.proofs.turns.sync_turn.Goals as goal

pub returns-in-Ok-clause-ok : goal.returns-in-Ok-clause-ok
returns-in-Ok-clause-ok g c =
    takes_turn (IsFetchedFrom g.L.Link.exchanges c.args.publisher.now.inventory c.args.node c.args.link.now c.fetch_change.new.link)
    c.args.node c.in-Ok.reply c.in-Ok.ensures c.args.publisher.now c.publish_reply.new.publisher c.publish_reply.result c.publish_reply.ensures.ok

pub returns-in-Ok-clause-err : goal.returns-in-Ok-clause-err
returns-in-Ok-clause-err g c =
    fails_turn (IsFetchedFrom g.L.Link.exchanges c.args.publisher.now.inventory c.args.node c.args.link.now c.fetch_change.new.link)
    c.args.node c.in-Ok.reply c.in-Ok.ensures c.args.publisher.now.inventory c.publish_reply.result c.publish_reply.ensures.err

pub returns-in-Err-clause-err : goal.returns-in-Err-clause-err
returns-in-Err-clause-err g c =
    turn_lacks (IsFetchedFrom g.L.Link.exchanges c.args.publisher.now.inventory c.args.node c.args.link.now c.fetch_change.new.link)
    c.args.publisher.now.inventory c.args.node c.in-Err.fault c.in-Err.ensures
