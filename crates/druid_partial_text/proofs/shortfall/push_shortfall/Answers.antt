use Rattle.std.proofs.lemmas.Result.{on_ok_weaker}
use Rattle.std.proofs.Common.{rules}
use Rattle.druid_partial_text.specs.Named.{rows_by}
use Rattle.druid_partial_text.proofs.AnswerLemmas.{shortfall_steps}
use Rattle.druid_partial_text.proofs.shortfall.push_shortfall.Goals as goal

pub returns-clause-ok : goal.returns-clause-ok
returns-clause-ok c =
    on_ok_weaker c.end_object.result
    (shortfall_steps c.args.missing.now (rows_by c.args.kind c.args.columns.now.entries c.args.partial.now.groups) c.args.out.now.tokens c.begin_object.new.self.tokens c.key.new.self.tokens
    c.string.new.self.tokens c.key-2.new.self.tokens c.push_pieces.new.out.tokens c.key-3.new.self.tokens c.push_rows.new.out.tokens c.end_object.new.self.tokens
    c.in_ok-begin_object.ensures.ok c.in_ok-key.ensures.ok c.in_ok-string.ensures.ok c.in_ok-key-2.ensures.ok (search (c.in_ok-push_pieces.ensures.ok, rules))
    c.in_ok-key-3.ensures.ok (search (c.in_ok-push_rows.ensures.ok, rules)))
    c.end_object.ensures.ok
