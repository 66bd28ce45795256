use Rattle.std.proofs.Common.{◌≡◌, ◌∙◌, ◌+◌, ◌-◌, ◌/◌, ◌<◌, Option, String, Global, length, string_bytes, option_map, Some, None, subst, subst₂, sym, arith}
use Rattle.std.specs.Ordering.{nat_cmp}
use Rattle.std.specs.declared.cmp.Ordering.TheVariants.{Less, Equal, Greater}
use Rattle.std.specs.Cmp.Lexicographic.{slice_cmp}
use Rattle.druid_partial_scan.specs.CodeFilters.{IsCodeOf}
use Rattle.druid_partial_scan.proofs.RankLemmas.{below_to, above_from, code_found, code_absent}
use Rattle.druid_partial_scan.proofs.code_filter.code_of.Goals as goal

pub loop-low-preserved-in-Less : goal.loop-low-preserved-in-Less
loop-low-preserved-in-Less c =
    let texts = c.args.texts.now in
    let text = string_bytes c.in-Some.text in
    let middle = c.loop-low.low + (c.loop-low.high - c.loop-low.low) / 2 in
    let within : middle < length texts = omega (arith, c.loop-low-test.true, c.loop-low.invariant.inside) in
    let less = subst₂ (λ a b. slice_cmp nat_cmp a b ≡ Less) c.get.ensures c.as_str.ensures.value (sym c.cmp.ensures ∙ c.in-Less.is) in
    record {
      inside = c.loop-low.invariant.inside;
      halves = λ s. (below_to texts text middle s within less, (c.loop-low.invariant.halves s).1);
    }

pub loop-low-preserved : goal.loop-low-preserved
loop-low-preserved c =
    let texts = c.args.texts.now in
    let text = string_bytes c.in-Some.text in
    let middle = c.loop-low.low + (c.loop-low.high - c.loop-low.low) / 2 in
    let greater = subst₂ (λ a b. slice_cmp nat_cmp a b ≡ Greater) c.get.ensures c.as_str.ensures.value (sym c.cmp.ensures ∙ c.in-Greater.is) in
    record {
      inside = omega (arith, c.loop-low-test.true, c.loop-low.invariant.inside);
      halves = λ s. ((c.loop-low.invariant.halves s).0, above_from texts text middle s greater);
    }

pub returns-in-Equal-clause-code : goal.returns-in-Equal-clause-code
returns-in-Equal-clause-code c = λ s.
    let texts = c.args.texts.now in
    let middle = c.loop-low.low + (c.loop-low.high - c.loop-low.low) / 2 in
    let within : middle < length texts = omega (arith, c.loop-low-test.true, c.loop-low.invariant.inside) in
    let equal = subst₂ (λ a b. slice_cmp nat_cmp a b ≡ Equal) c.get.ensures c.as_str.ensures.value (sym c.cmp.ensures ∙ c.in-Equal.is) in
    let P : Option (String Global) → Type 0 = λ w. IsCodeOf texts (option_map string_bytes w) (Some (middle + 1)) in
    subst P (sym c.in-Some.is) (code_found texts (string_bytes c.in-Some.text) middle s within equal)

pub returns-clause-code : goal.returns-clause-code
returns-clause-code c = λ s.
    let texts = c.args.texts.now in
    let halves = c.loop-low.invariant.halves s in
    let P : Option (String Global) → Type 0 = λ w. IsCodeOf texts (option_map string_bytes w) None in
    subst P (sym c.in-Some.is) (code_absent texts (string_bytes c.in-Some.text) c.loop-low.low c.loop-low.high (omega (arith, c.loop-low-test.false)) halves.0 halves.1)
