use Rattle.std.proofs.lemmas.Result.{on_ok_weaker}
use Rattle.std.proofs.Common.{rules}
use Rattle.druid_partial_text.proofs.AnswerLemmas.{answer_steps}
use Rattle.druid_partial_text.proofs.answer_writer.push_answer.Goals as goal

pub returns-clause-ok : goal.returns-clause-ok
returns-clause-ok c =
    on_ok_weaker c.end_object.result
    (answer_steps c.args.answer.now.missing c.args.answer.now.partial.groups c.args.out.now.tokens c.begin_object.new.self.tokens c.key.new.self.tokens c.push_pieces.new.out.tokens
    c.key-2.new.self.tokens c.push_groups.new.out.tokens c.end_object.new.self.tokens c.in_ok-begin_object.ensures.ok c.in_ok-key.ensures.ok (search (c.in_ok-push_pieces.ensures.ok, rules))
    c.in_ok-key-2.ensures.ok (search (c.in_ok-push_groups.ensures.ok, rules)))
    c.end_object.ensures.ok
