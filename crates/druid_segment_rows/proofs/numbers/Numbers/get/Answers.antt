use Rattle.std.proofs.Common.{◌≡◌, ◌<◌, ◌∙◌, ℤ, List, length, get_or, None, Some, false, pos, ap, sym, arith, to_z, of_z}
use Rattle.std.specs.Int.{w64}
use Rattle.std.proofs.lemmas.Int.{to_z-of_z}
use Rattle.druid_segment_rows.proofs.MetricLemmas.{length_values, null_at, number_at}
use Rattle.druid_segment_rows.proofs.numbers.Numbers.get.Goals as goal

pub returns-then-is_marked : goal.returns-then-is_marked
returns-then-is_marked c =
    let it = c.self.inside in
    null_at it.numbers.items it.nulls.items c.args.row (sym c.if-is_marked.true ∙ c.is_marked.ensures ∙ ap (λ ns. get_or ns c.args.row false) c.deref.ensures.value)
    ∙ ap (λ vs. get_or vs c.args.row None) c.self.view_is

pub number_at-requires : goal.number_at-requires
number_at-requires c =
    let it = c.self.inside in
    omega (arith, c.requires, ap length c.self.view_is, length_values it.numbers.items it.nulls.items, ap length c.deref-2.ensures.value)

pub returns : goal.returns
returns c =
    let it = c.self.inside in
    let row = c.args.row in
    let numbers = it.numbers.items in
    let here : row < length numbers = omega (arith, c.requires, ap length c.self.view_is, length_values numbers it.nulls.items) in
    let number : c.number_at.result ≡ get_or numbers row (pos 0) = c.number_at.ensures ∙ ap (λ (ns : List ℤ). get_or ns row (pos 0)) c.deref-2.ensures.value in
    let not_null = sym c.if-is_marked.false ∙ c.is_marked.ensures ∙ ap (λ ns. get_or ns row false) c.deref.ensures.value in
    ap Some (ap (λ (n : ℤ). to_z w64 (of_z w64 n)) number ∙ to_z-of_z w64 (get_or numbers row (pos 0)) (c.self.invariant.1 row (pos 0) here))
    ∙ number_at numbers it.nulls.items row (pos 0) here not_null
    ∙ ap (λ vs. get_or vs row None) c.self.view_is
