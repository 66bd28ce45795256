use Rattle.std.proofs.Common.{sym, subst}
use Rattle.druid_laws_tests.specs.FollowedNodes.{AreFollowed}
use Rattle.druid_laws_tests.proofs.FollowLemmas.{both_followed}
use Rattle.druid_laws_tests.proofs.followed_nodes.follow_two.Goals as goal

pub returns-clause-followed : goal.returns-clause-followed
returns-clause-followed g c =
    let both = both_followed c.requires.fresh.0 c.args.publisher.now c.sync_turn-first.new.publisher c.sync_turn-second.new.publisher c.args.left.now c.args.right.now
    c.sync_turn-first.new.link c.sync_turn-second.new.link c.in-Ok.field-0.0 c.in-Ok-second.field-0-0 c.asks_are_read_back.ensures.whole c.requires.left c.requires.right c.requires.fresh.1 c.requires.published c.requires.fresh.2
    c.in-Ok.ensures.ok c.in-Ok-second.ensures.ok in
    subst (AreFollowed c.args.left.now c.args.right.now) (sym c.in-Ok-second.ensures.receipt) both.followed

pub returns-clause-left : goal.returns-clause-left
returns-clause-left g c =
    (both_followed c.requires.fresh.0 c.args.publisher.now c.sync_turn-first.new.publisher c.sync_turn-second.new.publisher c.args.left.now c.args.right.now
    c.sync_turn-first.new.link c.sync_turn-second.new.link c.in-Ok.field-0.0 c.in-Ok-second.field-0-0 c.asks_are_read_back.ensures.whole c.requires.left c.requires.right c.requires.fresh.1 c.requires.published c.requires.fresh.2
    c.in-Ok.ensures.ok c.in-Ok-second.ensures.ok).same_left

pub returns-clause-right : goal.returns-clause-right
returns-clause-right g c =
    (both_followed c.requires.fresh.0 c.args.publisher.now c.sync_turn-first.new.publisher c.sync_turn-second.new.publisher c.args.left.now c.args.right.now
    c.sync_turn-first.new.link c.sync_turn-second.new.link c.in-Ok.field-0.0 c.in-Ok-second.field-0-0 c.asks_are_read_back.ensures.whole c.requires.left c.requires.right c.requires.fresh.1 c.requires.published c.requires.fresh.2
    c.in-Ok.ensures.ok c.in-Ok-second.ensures.ok).same_right
