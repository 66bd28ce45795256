use Rattle.std.proofs.Common.{◌∷◌, sym, subst}
use Rattle.json.specs.Token.{begin_array}
use Rattle.druid_partial.specs.Groups.{Group}
use Rattle.druid_partial_text.specs.Read.{group_at}
use Rattle.druid_partial_text.specs.Spelt.{Spells}
use Rattle.druid_partial_text.proofs.SpeltLemmas.{spells_row}
use Rattle.druid_base.proofs.ClauseLemmas.{if_some}
use Rattle.druid_partial_text.proofs.whole_answer.group_in.Goals as goal

pub returns-clause-spells : goal.returns-clause-spells
returns-clause-spells c =
    subst (λ (g : Group). Spells group_at 2 (begin_array ∷ c.args.reader.now) c.ends_array.new.reader g) (sym c.new.ensures)
    (spells_row c.args.reader.now c.bucket_in.new.reader c.begins_array.new.reader c.values_in.new.reader c.begins_array-2.new.reader c.numbers_in.new.reader c.ends_array.new.reader c.in-Some.bucket _ _
    c.in-Some.ensures.spells (c.begins_array.ensures c.if-not-begins_array.false) (if_some _ _ _ c.in-Some-2.is c.in_ok-values.ensures.rest) (c.begins_array-2.ensures c.if-not-begins_array-2.false)
    (if_some _ _ _ c.in-Some-3.is c.in_ok-numbers.ensures.rest) (c.ends_array.ensures c.if-not-ends_array.false))
