use Rattle.std.proofs.lemmas.Result.{on_ok_weaker}
use Rattle.druid_partial_text.proofs.AnswerLemmas.{asked_steps}
use Rattle.druid_partial_text.proofs.answer_writer.push_asked.Goals as goal

pub returns-clause-ok : goal.returns-clause-ok
returns-clause-ok c =
    on_ok_weaker c.end_object.result
    (asked_steps c.args.asked.now c.args.out.now.tokens c.begin_object.new.self.tokens c.key.new.self.tokens c.string.new.self.tokens c.key-2.new.self.tokens c.string-2.new.self.tokens
    c.key-3.new.self.tokens c.u64.new.self.tokens c.key-4.new.self.tokens c.string-3.new.self.tokens c.end_object.new.self.tokens
    c.in_ok-begin_object.ensures.ok c.in_ok-key.ensures.ok
    (cc (c.in_ok-string.ensures.ok, c.as_str.ensures.value, c.in_ok-text.ensures, c.interval.ensures.value))
    c.in_ok-key-2.ensures.ok
    (cc (c.in_ok-string-2.ensures.ok, c.as_str-2.ensures.value, c.in_ok-text-2.ensures))
    c.in_ok-key-3.ensures.ok
    (cc (c.in_ok-u64.ensures.ok, c.partition.ensures.value))
    c.in_ok-key-4.ensures.ok
    (cc (c.in_ok-string-3.ensures.ok, c.as_str-3.ensures.value, c.in_ok-text-3.ensures, c.version.ensures.value)))
    c.end_object.ensures.ok
