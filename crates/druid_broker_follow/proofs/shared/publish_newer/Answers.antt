use Rattle.druid_broker_follow.proofs.TurnLemmas.{there_in_fold}
use Rattle.druid_broker_follow.proofs.shared.publish_newer.Goals as goal

pub publish_reply-requires : goal.publish_reply-requires
publish_reply-requires g c =
    there_in_fold g.J.Publication.opening c.args.publisher.now.inventory c.args.publisher.now.published c.args.node c.inventory_is_fold.ensures.fold c.requires
