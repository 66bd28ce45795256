use Rattle.druid_segment_descriptor.specs.declared.change.Ask.TheVariants.{Whole}
use Rattle.druid_broker_follow.specs.Turns.{IsAsked, entry_request}
use Rattle.druid_broker_follow.proofs.TurnLemmas.{turn_lacks, takes_turn, fails_turn}
use Rattle.druid_broker_follow.proofs.turns.seed_turn.Goals as goal

pub returns-in-Ok-clause-ok : goal.returns-in-Ok-clause-ok
returns-in-Ok-clause-ok g c =
    takes_turn (IsAsked g.L.Link.exchanges (entry_request c.args.node) Whole c.args.peer.now c.fetch_entry.new.peer)
    c.args.node c.in-Ok.reply c.in-Ok.ensures c.args.publisher.now c.publish_reply.new.publisher c.publish_reply.result c.publish_reply.ensures.ok

pub returns-in-Ok-clause-err : goal.returns-in-Ok-clause-err
returns-in-Ok-clause-err g c =
    fails_turn (IsAsked g.L.Link.exchanges (entry_request c.args.node) Whole c.args.peer.now c.fetch_entry.new.peer)
    c.args.node c.in-Ok.reply c.in-Ok.ensures c.args.publisher.now.inventory c.publish_reply.result c.publish_reply.ensures.err

pub returns-in-Err-clause-err : goal.returns-in-Err-clause-err
returns-in-Err-clause-err g c =
    turn_lacks (IsAsked g.L.Link.exchanges (entry_request c.args.node) Whole c.args.peer.now c.fetch_entry.new.peer)
    c.args.publisher.now.inventory c.args.node c.in-Err.fault c.in-Err.ensures
