-- Sorted intervals are merged one after another: some parts are done, and the last one may still grow.
use Rattle.std.proofs.Common.{◌≡◌, ◌↔◌, ◌⊎◌, inl, inr, ℕ, suc, List, [], ◌∷◌, ◌++◌, length, get_or, take, subst, ◌+◌, ◌<◌, ◌≤◌, max, refl, sym, ap, ◌∙◌, arith, Bool, true, false, nat_cmp}
use Rattle.std.specs.List.{All}
use Rattle.std.specs.List.Sorted.{IsNonDecreasingBy}
use Rattle.std.specs.Ordering.{is_le}
use Rattle.std.proofs.lemmas.Bool.{cases_lt}
use Rattle.std.proofs.lemmas.List.{take_more, get_or_default}
use Rattle.std.proofs.lemmas.List.Elements.{All-push}
use Rattle.druid_time.specs.Extent.{Extent, IsExtent, Has, AnyHas, AreApart, AreParts}
use Rattle.druid_time.proofs.ExtentLemmas.{AnyHas-push, AreApart-push, AreApart-last, at_most, above}

-- the parts hold the instants of `first` and of the first i of `rest`
pub record IsMerged (first : Extent) (rest : List Extent) (i : ℕ) (done : List Extent) (last : Extent) : Type 0 where
  pub each : All IsExtent done
  pub valid : IsExtent last
  pub apart : AreApart (done ++ last ∷ [])
  pub same : (t : ℕ) → AnyHas (done ++ last ∷ []) t ↔ AnyHas (first ∷ take i rest) t
  pub before : (k : ℕ) (d : Extent) → i ≤ k → k < length rest → last.start ≤ (get_or rest k d).start

-- the instants of one interval more
more_instants : (first : Extent) (rest : List Extent) (i : ℕ) (t : ℕ) (next : Extent) → i < length rest → next ≡ get_or rest i next → AnyHas (first ∷ take (i + 1) rest) t ↔ (AnyHas (first ∷ take i rest) t ⊎ Has next t)
more_instants first rest i t next below is =
    let longer : take (i + 1) rest ≡ take i rest ++ next ∷ [] =
    take_more rest i next below ∙ ap (λ x. take i rest ++ x ∷ []) (sym is) in
    rw longer (AnyHas-push (first ∷ take i rest) next t)

-- at the start nothing is done
pub IsMerged-first : (first : Extent) (rest : List Extent) → IsExtent first → ((k : ℕ) (d : Extent) → k < length rest → first.start ≤ (get_or rest k d).start) → IsMerged first rest 0 [] first
IsMerged-first first rest valid sorted = record {
  each = λ k d h. absurd (omega arith);
  valid = valid;
  apart = tt;
  same = λ t. (λ h. h, λ h. h);
  before = λ k d low h. sorted k d h;
}

-- what `last` and `next` hold together, where they touch
joined_instants : (last next : Extent) (t : ℕ) → last.start ≤ next.start → next.start ≤ last.end → ((last.start ≤ t) × (t < max last.end next.end)) ↔ (Has last t ⊎ Has next t)
joined_instants last next t low touch = (
  λ h. elim (cases_lt t last.end) [
    | inl early ↦ inl (h.0, early)
    | inr late ↦ inr (omega arith, omega arith)
  ],
  λ h. elim h [
    | inl left ↦ (left.0, omega arith)
    | inr right ↦ (omega arith, omega arith)
  ],
)

-- `last` takes in an interval that begins no later than it ends
pub IsMerged-join : (first : Extent) (rest : List Extent) (i : ℕ) (done : List Extent) (last next : Extent) → IsMerged first rest i done last → i < length rest → next ≡ get_or rest i next → IsExtent next → next.start ≤ last.end → IsMerged first rest (i + 1) done (record { start = last.start; end = max last.end next.end })
IsMerged-join first rest i done last next h below is valid touch =
    let order : last.start ≤ next.start = rw is (h.before i next (omega arith) below) in
    record {
      each = h.each;
      valid = (omega (arith, h.valid), omega (arith, h.valid, valid));
      apart = AreApart-last done last (record { start = last.start; end = max last.end next.end }) h.apart refl;
      same = λ t.
          let joined = joined_instants last next t order touch in
          let one = AnyHas-push done (record { start = last.start; end = max last.end next.end }) t in
          let before = AnyHas-push done last t in
          let more = more_instants first rest i t next below is in (
            λ has. elim (one.0 has) [
              | inl left ↦ more.1 (inl ((h.same t).0 (before.1 (inl left))))
              | inr right ↦ elim (joined.0 right) [
                | inl old ↦ more.1 (inl ((h.same t).0 (before.1 (inr old))))
                | inr new ↦ more.1 (inr new)
              ]
            ],
            λ has. elim (more.0 has) [
              | inl old ↦ elim (before.0 ((h.same t).1 old)) [
                | inl left ↦ one.1 (inl left)
                | inr right ↦ one.1 (inr (joined.1 (inl right)))
              ]
              | inr new ↦ one.1 (inr (joined.1 (inr new)))
            ],
          );
      before = λ k d low high. h.before k d (omega arith) high;
    }

-- after a gap a new part begins
pub IsMerged-push : (first : Extent) (rest : List Extent) (i : ℕ) (done : List Extent) (last next : Extent) → IsMerged first rest i done last → i < length rest → next ≡ get_or rest i next → IsExtent next → last.end < next.start → ((k : ℕ) (d : Extent) → i + 1 ≤ k → k < length rest → next.start ≤ (get_or rest k d).start) → IsMerged first rest (i + 1) (done ++ last ∷ []) next
IsMerged-push first rest i done last next h below is valid gap sorted =
    record {
      each = All-push IsExtent done last h.each h.valid;
      valid = valid;
      apart = AreApart-push done last next h.apart gap;
      same = λ t.
          let longer = AnyHas-push (done ++ last ∷ []) next t in
          let more = more_instants first rest i t next below is in (
            λ has. elim (longer.0 has) [ inl old ↦ more.1 (inl ((h.same t).0 old)) | inr new ↦ more.1 (inr new) ],
            λ has. elim (more.0 has) [ inl old ↦ longer.1 (inl ((h.same t).1 old)) | inr new ↦ longer.1 (inr new) ],
          );
      before = sorted;
    }

-- the same, in the steps of the code
pub IsMerged-touching : (first : Extent) (rest : List Extent) (i : ℕ) (done : List Extent) (last next : Extent) (s e : ℕ) (r : Bool) → IsMerged first rest i done last → i < length rest → next ≡ get_or rest i next → IsExtent next → s ≡ next.start → e ≡ last.end → r ≡ is_le (nat_cmp s e) → r ≡ true → IsMerged first rest (i + 1) done (record { start = last.start; end = max last.end next.end })
IsMerged-touching first rest i done last next s e r h below is valid start end test touches =
    IsMerged-join first rest i done last next h below is valid (at_most next.start last.end (ap2 start end ∙ sym test ∙ touches))
  where
    ap2 : s ≡ next.start → e ≡ last.end → is_le (nat_cmp next.start last.end) ≡ is_le (nat_cmp s e)
    ap2 p q = rw (p, q) refl

pub IsMerged-beyond : (first : Extent) (rest : List Extent) (i : ℕ) (done : List Extent) (last next : Extent) (s e : ℕ) (r : Bool) → IsMerged first rest i done last → i < length rest → next ≡ get_or rest i next → IsExtent next → s ≡ next.start → e ≡ last.end → r ≡ is_le (nat_cmp s e) → r ≡ false → ((k : ℕ) (d : Extent) → i + 1 ≤ k → k < length rest → next.start ≤ (get_or rest k d).start) → IsMerged first rest (i + 1) (done ++ last ∷ []) next
IsMerged-beyond first rest i done last next s e r h below is valid start end test beyond later =
    IsMerged-push first rest i done last next h below is valid (above next.start last.end (ap2 start end ∙ sym test ∙ beyond)) later
  where
    ap2 : s ≡ next.start → e ≡ last.end → is_le (nat_cmp next.start last.end) ≡ is_le (nat_cmp s e)
    ap2 p q = rw (p, q) refl

-- sorted intervals begin no earlier than the first
pub starts_after_first : (all : List Extent) (first : Extent) (rest : List Extent) → all ≡ first ∷ rest → IsNonDecreasingBy (λ e. e.start) all → (k : ℕ) (d : Extent) → k < length rest → first.start ≤ (get_or rest k d).start
starts_after_first all first rest e sorted k d h =
    let rises : IsNonDecreasingBy (λ e. e.start) (first ∷ rest) = subst (IsNonDecreasingBy (λ e. e.start)) e sorted in
    rises 0 (suc k) d (omega arith) (omega arith)

-- and no earlier than one before them
pub starts_after : (all : List Extent) (first : Extent) (rest : List Extent) (i : ℕ) (next : Extent) → all ≡ first ∷ rest → IsNonDecreasingBy (λ e. e.start) all → i < length rest → next ≡ get_or rest i next → (k : ℕ) (d : Extent) → i + 1 ≤ k → k < length rest → next.start ≤ (get_or rest k d).start
starts_after all first rest i next e sorted below is k d low h =
    let rises : IsNonDecreasingBy (λ e. e.start) (first ∷ rest) = subst (IsNonDecreasingBy (λ e. e.start)) e sorted in
    rw (is, get_or_default rest i next d below) (rises (suc i) (suc k) d (omega arith) (omega arith))
