use Rattle.std.proofs.Common.{rules, List, Option, ℤ, IfSome, FitsSigned, w64, subst, sym}
use Rattle.std.proofs.lemmas.List.Elements.{All-push}
use Rattle.druid_partial.specs.Groups.{AreWords}
use Rattle.druid_partial_text.specs.Read.{number_or_null}
use Rattle.druid_partial_text.specs.Spelt.{SpellsItems}
use Rattle.druid_partial_text.proofs.SpeltLemmas.{items_more}
use Rattle.druid_partial_text.proofs.whole_answer.numbers_in.Goals as goal

pub loop-preserved : goal.loop-preserved
loop-preserved c =
    let word : IfSome c.in-Some.number (FitsSigned w64) = search rules in
    let more = items_more number_or_null 0 c.args.reader.now c.loop.reader c.number_in.new.reader c.loop.numbers.items c.in-Some.number c.loop.invariant.0 c.in-Some.ensures in (
      subst (λ (ns : List (Option ℤ)). SpellsItems number_or_null 0 c.args.reader.now c.number_in.new.reader ns) (sym c.in_ok-push.ensures.items) more,
      search rules,
      subst AreWords (sym c.in_ok-push.ensures.items) (All-push (λ number. IfSome number (FitsSigned w64)) c.loop.numbers.items c.in-Some.number c.loop.invariant.2 word),
    )
