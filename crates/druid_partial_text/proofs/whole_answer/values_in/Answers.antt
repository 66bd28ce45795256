use Rattle.std.proofs.Common.{rules, List, Option, String, Global, subst, sym}
use Rattle.druid_filter.specs.Values.{nullable_texts_of}
use Rattle.druid_base.specs.Fields.{text_or_null}
use Rattle.druid_partial_text.specs.Spelt.{SpellsItems}
use Rattle.druid_partial_text.proofs.SpeltLemmas.{texts_more}
use Rattle.druid_base.proofs.ClauseLemmas.{if_some}
use Rattle.druid_partial_text.proofs.whole_answer.values_in.Goals as goal

pub loop-preserved : goal.loop-preserved
loop-preserved c =
    let more = texts_more c.args.reader.now c.loop.reader c.value_in.new.reader c.loop.values.items c.in-Some.value c.loop.invariant.0 (if_some _ _ _ c.in-Some.is c.in_ok-value.ensures) in (
      subst (λ (vs : List (Option (String Global))). SpellsItems text_or_null 0 c.args.reader.now c.value_in.new.reader (nullable_texts_of vs)) (sym c.in_ok-push.ensures.items) more,
      search rules,
    )
