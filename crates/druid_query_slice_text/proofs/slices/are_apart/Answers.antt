use Rattle.std.proofs.Common.{◌↔◌, IsTrue, length, sym, ◌∙◌, subst}
use Rattle.std.specs.List.{AllAdjacentBelow}
use Rattle.std.specs.List.Sorted.{IsPermutation}
use Rattle.std.proofs.lemmas.Option.{same_Some}
use Rattle.serde_json.specs.View.{items_view}
use Rattle.druid_time.specs.Extent.{IsExtent}
use Rattle.druid_query.specs.AskedOrder.{AreApart}
use Rattle.druid_query.proofs.AskedLemmas.{searched, all_of_each}
use Rattle.druid_query_slice_text.proofs.PieceLemmas.{inside_valid}
use Rattle.druid_query_slice_text.proofs.slices.are_apart.Goals as goal

pub returns : goal.returns
returns c = λ all read.
    let same = same_Some c.in_ok-pieces.pieces.items all (sym c.in_ok-pieces.ensures ∙ read) in
    let reported = subst (λ xs. IsTrue c.stand_apart.result ↔ AllAdjacentBelow AreApart xs (length xs)) c.deref.ensures.value c.stand_apart.ensures in
    searched all c.sort_unstable.new.self.items c.stand_apart.result
    (all_of_each (λ a. IsExtent a.1) all (inside_valid c.args.source.now (items_view c.args.values.now) all read))
    (subst (λ xs. IsPermutation xs c.sort_unstable.new.self.items) same c.sort_unstable.ensures.permutation)
    c.sort_unstable.ensures.sorted reported
