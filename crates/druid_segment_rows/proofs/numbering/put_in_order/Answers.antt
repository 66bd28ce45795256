use Rattle.std.proofs.Common.{◌∙◌, ◌≤◌, List, [], length, All, sym, subst, arith}
use Rattle.std.proofs.lemmas.List.Sorted.{All-permutation}
use Rattle.druid_segment_rows.specs.Numbering.{Entry, texts_in, HavePlaces}
use Rattle.druid_segment_rows.proofs.PlaceLemmas.{placed_first}
use Rattle.druid_segment_rows.proofs.numbering.put_in_order.Goals as goal

pub place-requires-clause-within : goal.place-requires-clause-within
place-requires-clause-within c =
    let es = c.args.entries.items in
    let one = λ (entry : Entry). (1 ≤ entry.1) × (entry.1 ≤ length c.mark.new.ranks) in
    subst (λ (sorted : List Entry). All one sorted) (sym c.deref.ensures.value)
    (All-permutation one es c.sort_unstable.new.self.items c.sort_unstable.ensures.permutation (λ k d lt.
    let number = c.requires.numbers k d lt in
    (omega (arith, number), omega (arith, number, lt, c.mark.ensures.len, c.requires.long))))

pub returns : goal.returns
returns c =
    let es = c.args.entries.items in (
      c.in_ok-values.ensures.places (texts_in es) c.args.codes.now
          (subst (λ (left : List Entry). HavePlaces (texts_in es) c.args.codes.now left [] c.mark.new.ranks) (sym c.deref.ensures.value)
          (placed_first es c.sort_unstable.new.self.items c.args.codes.now c.mark.new.ranks c.requires.numbers c.sort_unstable.ensures.permutation c.sort_unstable.ensures.sorted c.requires.within (c.mark.ensures.len ∙ c.requires.long) c.mark.ensures.marks)),
      c.rank.ensures,
    )
