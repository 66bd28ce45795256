use Rattle.std.proofs.Common.{rules, List, ℕ, Some, subst, sym}
use Rattle.druid_base.specs.Fields.{text_or_null}
use Rattle.druid_partial_text.specs.Spelt.{Spells}
use Rattle.druid_partial_text.proofs.SpeltLemmas.{spells_text, spells_no_text}
use Rattle.druid_partial_text.proofs.whole_answer.value_in.Goals as goal

pub returns-in_ok-from_str-in-Some-String : goal.returns-in_ok-from_str-in-Some-String
returns-in_ok-from_str-in-Some-String c =
    subst (λ (s : List ℕ). Spells text_or_null 0 c.args.reader.now c.next.new.self (Some s)) (sym c.in_ok-from_str-in-Some-String.ensures.ok)
    (spells_text c.args.reader.now c.next.new.self c.in-Some-String.text.now (search rules))

pub returns-in-Some-Null : goal.returns-in-Some-Null
returns-in-Some-Null c = spells_no_text c.args.reader.now c.next.new.self (search rules)
