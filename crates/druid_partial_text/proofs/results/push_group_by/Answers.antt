use Rattle.std.proofs.lemmas.Result.{on_ok_weaker}
use Rattle.serde_json.specs.Data.{object}
use Rattle.druid_partial_text.specs.Named.{members_by}
use Rattle.druid_partial_text.proofs.NamedLemmas.{group_by_steps}
use Rattle.druid_partial_text.proofs.results.push_group_by.Goals as goal

pub returns-clause-ok : goal.returns-clause-ok
returns-clause-ok c =
    on_ok_weaker c.end_object.result
    (group_by_steps (object (members_by c.args.group.now c.args.columns.now.entries)) c.args.group.now.key.bucket c.args.out.now.tokens c.begin_object.new.self.tokens c.key.new.self.tokens
    c.push_columns.new.out.tokens c.key-2.new.self.tokens c.push_label.new.out.tokens c.key-3.new.self.tokens c.string.new.self.tokens c.end_object.new.self.tokens c.in_ok-begin_object.ensures.ok c.in_ok-key.ensures.ok
    c.in_ok-push_columns.ensures.ok c.in_ok-key-2.ensures.ok (rw (← c.bucket.ensures.value) c.in_ok-push_label.ensures.ok) c.in_ok-key-3.ensures.ok c.in_ok-string.ensures.ok)
    c.end_object.ensures.ok
