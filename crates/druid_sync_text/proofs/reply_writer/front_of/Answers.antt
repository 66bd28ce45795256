use Rattle.std.proofs.Common.{rules, string_bytes}
use Rattle.druid_sync_text.proofs.TextLemmas.{front_pushed}
use Rattle.druid_sync_text.proofs.reply_writer.front_of.Goals as goal

pub returns-clause-text : goal.returns-clause-text
returns-clause-text c =
    front_pushed c.args.counter c.args.from c.args.numbers (string_bytes c.push_str.new.self) (string_bytes c.push_str-2.new.self) (string_bytes c.push_str-3.new.self)
    (string_bytes c.push_str-4.new.self) (string_bytes c.push_str-5.new.self) (search rules) (search rules) (search rules) (search rules) (search rules)
