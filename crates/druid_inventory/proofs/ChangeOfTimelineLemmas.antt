-- Timelines that go over from one map to another, one by one, and stay what they are.
use Rattle.std.proofs.Common.{◌≡◌, ℕ, List, [], Option, None, Some, refl, sym, ap, ◌∙◌, subst, inl, inr}
use Rattle.std.specs.BTreeMap.{BTreeMap, UpdatesBy, is_at}
use Rattle.std.specs.Map.{lookup}
use Rattle.std.specs.Ordering.{nat_cmp}
use Rattle.std.specs.Cmp.Lexicographic.{slice_cmp}
use Rattle.druid_segment_descriptor.specs.Described.{Described}
use Rattle.druid_timeline.specs.Holding.{Serving}
use Rattle.druid_inventory.specs.Timelines.{kept, IsKept, AreTimelines}
use Rattle.druid_inventory.proofs.TimelineLemmas.{same_or_not}
use Rattle.druid_inventory.proofs.TransactionLemmas.{others_stay}

-- the same timelines
abbrev pub SameKept : BTreeMap (List ℕ) Serving → BTreeMap (List ℕ) Serving → Type 0
SameKept m n = (s : List ℕ) → kept n s ≡ kept m s

pub AreTimelines-same : (served : ℕ → Described → Type 0) (m n : BTreeMap (List ℕ) Serving) → SameKept m n → AreTimelines served m → AreTimelines served n
AreTimelines-same served m n same h = record {
  each = λ s. subst (IsKept served s) (sym (same s)) (h.each s);
}

-- ---- from one map to another

-- what is in the first, else in the second
abbrev pub first_of : Option Serving → Option Serving → Option Serving
first_of None y = y
first_of (Some x) y = Some x

-- of the timelines, each is among the rest or has gone over
abbrev pub GoOver : BTreeMap (List ℕ) Serving → BTreeMap (List ℕ) Serving → BTreeMap (List ℕ) Serving → Type 0
GoOver m rest n = (s : List ℕ) → kept m s ≡ first_of (kept rest s) (kept n s)

first_alone : (x : Option Serving) → x ≡ first_of x None
first_alone None = refl
first_alone (Some x) = refl

none_kept : (m : BTreeMap (List ℕ) Serving) → m.entries ≡ [] → (s : List ℕ) → kept m s ≡ None
none_kept m empty s = ap (lookup (is_at (slice_cmp nat_cmp s))) empty

pub GoOver-start : (m n : BTreeMap (List ℕ) Serving) → n.entries ≡ [] → GoOver m m n
GoOver-start m n empty s = first_alone (kept m s) ∙ ap (first_of (kept m s)) (sym (none_kept n empty s))

-- one more goes over
pub GoOver-next : (m rest less n more : BTreeMap (List ℕ) Serving) (source key : List ℕ) (was now : Serving) → kept rest source ≡ Some was
    → UpdatesBy (slice_cmp nat_cmp) (slice_cmp nat_cmp source) rest less None → key ≡ source → now ≡ was
    → UpdatesBy (slice_cmp nat_cmp) (slice_cmp nat_cmp key) n more (Some now) → GoOver m rest n → GoOver m less more
GoOver-next m rest less n more source key was now found takes at same puts h s = elim (same_or_not s source) [
  | inl e ↦
      let here : kept m source ≡ first_of (kept less source) (kept more source) =
      h source ∙ ap (λ (o : Option Serving). first_of o (kept n source)) found
      ∙ ap (λ (t : Serving). Some t) (sym same) ∙ sym (subst (λ (x : List ℕ). kept more x ≡ Some now) at puts.1)
      ∙ ap (λ (o : Option Serving). first_of o (kept more source)) (sym takes.1) in
      subst (λ (x : List ℕ). kept m x ≡ first_of (kept less x) (kept more x)) (sym e) here
  | inr apart ↦
      h s ∙ ap (λ (o : Option Serving). first_of o (kept n s)) (sym (others_stay rest less source source None refl takes s apart))
      ∙ ap (first_of (kept less s)) (sym (others_stay n more source key (Some now) at puts s apart))
]

pub GoOver-end : (m rest n : BTreeMap (List ℕ) Serving) → rest.entries ≡ [] → GoOver m rest n → SameKept m n
GoOver-end m rest n empty h s = sym (h s ∙ ap (λ (o : Option Serving). first_of o (kept n s)) (none_kept rest empty s))
