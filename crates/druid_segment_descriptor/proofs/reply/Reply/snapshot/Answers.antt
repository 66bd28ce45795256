use Rattle.std.proofs.Common.{refl, sym, ◌∙◌, subst, arith}
use Rattle.std.proofs.lemmas.Bool.{false≢true}
use Rattle.druid_segment_descriptor.specs.Reply.{AreSorted}
use Rattle.druid_segment_descriptor.proofs.SortedLemmas.{AreSorted-own, own-AreSorted, own-permutation}
use Rattle.std.proofs.lemmas.List.Sorted.{IsPermutation-sym}
use Rattle.druid_segment_descriptor.proofs.reply.Reply.snapshot.Goals as goal

pub returns-then-not-are_sorted-clause-doubled : goal.returns-then-not-are_sorted-clause-doubled
returns-then-not-are_sorted-clause-doubled c = (
  λ _. (
    omega arith,
    λ own.
        let sorted = own-AreSorted c.sort_unstable.new.self.items c.sort_unstable.ensures.sorted (own-permutation _ _ c.sort_unstable.ensures.permutation own) in
        let reported = c.are_sorted.ensures.1 (subst AreSorted (sym c.deref.ensures.value) sorted) in
        absurd (false≢true (sym c.if-not-are_sorted.true ∙ reported)),
  ),
  λ _. refl,
)

pub returns-clause-doubled : goal.returns-clause-doubled
returns-clause-doubled c = (
  λ e. absurd cc,
  λ h.
      let sorted = c.are_sorted.ensures.0 c.if-not-are_sorted.false in
      let own = AreSorted-own _ (subst AreSorted c.deref.ensures.value sorted) in
      absurd (h.1 (own-permutation _ _ (IsPermutation-sym _ _ c.sort_unstable.ensures.permutation) own)),
)
