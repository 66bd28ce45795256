use Rattle.std.proofs.Common.{rules, string_bytes}
use Rattle.druid_sync_text.proofs.TextLemmas.{delta_text, snapshot_text, page_text, reset_text}
use Rattle.druid_sync_text.proofs.WrittenLemmas.{delta_read, snapshot_read, page_read, reset_read, delta_again, snapshot_again, page_again, reset_again}
use Rattle.druid_sync_text.proofs.reply_writer.reply_text.Goals as goal

pub returns-in_ok-push_str-in-Delta-clause-read_back : goal.returns-in_ok-push_str-in-Delta-clause-read_back
returns-in_ok-push_str-in-Delta-clause-read_back c =
    delta_read c.args.reply.now (string_bytes c.push_str.new.self) c.in-Delta.from c.in-Delta.to c.in-Delta.changes (search rules) (search (rules, delta_text)) (search rules) (search rules)

pub returns-in_ok-push_str-in-Snapshot-clause-read_back : goal.returns-in_ok-push_str-in-Snapshot-clause-read_back
returns-in_ok-push_str-in-Snapshot-clause-read_back c =
    snapshot_read c.args.reply.now (string_bytes c.push_str-in-Snapshot.new.self) c.in-Snapshot.at c.in-Snapshot.segments (search rules) (search (rules, snapshot_text)) (search rules) (search rules)

pub returns-in_ok-push_str-in-Page-clause-read_back : goal.returns-in_ok-push_str-in-Page-clause-read_back
returns-in_ok-push_str-in-Page-clause-read_back c =
    page_read c.args.reply.now (string_bytes c.push_str-in-Page.new.self) c.in-Page.at c.in-Page.page c.in-Page.of c.in-Page.segments (search rules) (search rules) (search (rules, page_text)) (search rules) (search rules)

pub returns-in_ok-push_str-in-Reset-2-clause-read_back : goal.returns-in_ok-push_str-in-Reset-2-clause-read_back
returns-in_ok-push_str-in-Reset-2-clause-read_back c =
    reset_read c.args.reply.now (string_bytes c.push_str-in-Reset-2.new.self) c.in-Reset.cause c.in-Reset.at (search rules) (search (rules, reset_text)) (search rules)

pub returns-in_ok-push_str-in-Delta-clause-again : goal.returns-in_ok-push_str-in-Delta-clause-again
returns-in_ok-push_str-in-Delta-clause-again c =
    delta_again c.args.reply.now c.in-Delta.from c.in-Delta.to c.in-Delta.changes (search rules) (search rules) (search rules) (search rules)

pub returns-in_ok-push_str-in-Snapshot-clause-again : goal.returns-in_ok-push_str-in-Snapshot-clause-again
returns-in_ok-push_str-in-Snapshot-clause-again c =
    snapshot_again c.args.reply.now c.in-Snapshot.at c.in-Snapshot.segments (search rules) (search rules) (search rules) (search rules)

pub returns-in_ok-push_str-in-Page-clause-again : goal.returns-in_ok-push_str-in-Page-clause-again
returns-in_ok-push_str-in-Page-clause-again c =
    page_again c.args.reply.now c.in-Page.at c.in-Page.page c.in-Page.of c.in-Page.segments (search rules) (search rules) (search rules) (search rules)

pub returns-in_ok-push_str-in-Reset-2-clause-again : goal.returns-in_ok-push_str-in-Reset-2-clause-again
returns-in_ok-push_str-in-Reset-2-clause-again c =
    reset_again c.args.reply.now c.in-Reset.cause c.in-Reset.at (search rules) (search rules) (search rules)
