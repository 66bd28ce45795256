-- Identifiers read from texts: what the code sees of a text.
use Rattle.std.proofs.Common.{◌≡◌, ◌≢◌, ℕ, ◌+◌, ◌-◌, ◌<◌, ◌≤◌, true, false, List, [], ◌∷◌, suc, length, get_or, take, drop, refl, sym, ap, ◌∙◌, subst, arith, inl, inr, Some, None, Result, Ok, Err}
use Rattle.std.specs.Str.{IsUtf8}
use Rattle.std.specs.Result.{result_ok}
use Rattle.std.specs.List.{list_any, position_or_len, before_first}
use Rattle.std.proofs.lemmas.Bool.{cases_Bool, and_from, eq-eqb, le-leb, false_from_ne_true}
use Rattle.std.proofs.lemmas.List.{length-drop, take_all}
use Rattle.std.proofs.lemmas.List.Sums.{position_or_len_is}
use Rattle.std.proofs.lemmas.Str.{IsUtf8-from_ascii}
use Rattle.druid_time.specs.declared.fault.TimeFault.{TimeFault}
use Rattle.druid_time.specs.Texts.{instant_at}
use Rattle.druid_time.proofs.TextLemmas.{IsUtf8-instant_text}
use Rattle.druid_time.proofs.PrintedLemmas.{instant_text-instant_at}
use Rattle.druid_segment_id.specs.Names.{is_version}
use Rattle.druid_segment_id.proofs.IdentifierLemmas.{IsAscii-version}
use Rattle.druid_segment_id.proofs.NameLemmas.{is_version-to}
use Rattle.druid_segment_id.specs.Parsed.{is_underscore, tail_at, printed_at, version_at, partition_number, partition_at}

-- ---- the first `_`

-- a loop that found none, and one that did
pub underscore_place-end : (text : List ℕ) → ((k : ℕ) → k < length text → is_underscore (get_or text k 0) ≡ false) → position_or_len is_underscore text ≡ length text
underscore_place-end text before = position_or_len_is is_underscore text (length text) 0 (omega arith) before (λ h. absurd (omega arith))

pub underscore_place-found : (text : List ℕ) (i : ℕ) → i < length text → ((k : ℕ) → k < i → is_underscore (get_or text k 0) ≡ false) → get_or text i 0 ≡ 95 → position_or_len is_underscore text ≡ i
underscore_place-found text i within before found = position_or_len_is is_underscore text i 0 (omega arith) before (λ h. eq-eqb (get_or text i 0) 95 found)

pub ruleset place_facts = (underscore_place-end, underscore_place-found)

-- a text has one, or it has none
pub any_underscore : (text : List ℕ) → position_or_len is_underscore text < length text → list_any is_underscore text ≡ true
any_underscore [] h = absurd (omega arith)
any_underscore (b ∷ bs) h =
    elim (cases_Bool (is_underscore b)) [
      | inl here ↦ rw here refl
      | inr other ↦
          let rest = rw other at h in
          rw other (any_underscore bs (omega (arith, rest)))
    ]

pub no_underscore : (text : List ℕ) → position_or_len is_underscore text ≡ length text → list_any is_underscore text ≡ false
no_underscore [] h = refl
no_underscore (b ∷ bs) h =
    elim (cases_Bool (is_underscore b)) [
      | inl here ↦ absurd (let none : 0 ≡ suc (length bs) = rw here at h in omega arith)
      | inr other ↦
          let rest = rw other at h in
          rw other (no_underscore bs (omega (arith, rest)))
    ]

-- ---- the instants

not_read : (r : Result ℕ TimeFault) → ((t : ℕ) → r ≡ Ok t → ⊥) → result_ok r ≡ None
not_read (Ok t) none = absurd (none t refl)
not_read (Err e) none = refl

-- bytes that are no text name no instant
pub printed_at-not_utf8 : (printed : List ℕ) → length printed ≡ 24 → ¬ IsUtf8 printed → printed_at printed ≡ None
printed_at-not_utf8 printed long bad =
    not_read (instant_at printed) (λ t e. bad (subst IsUtf8 (instant_text-instant_at printed t long e) (IsUtf8-instant_text t)))

-- ---- the parts

pub tail_at-found : (rest : List ℕ) → 50 < length rest → get_or rest 24 0 ≡ 95 → get_or rest 49 0 ≡ 95 → tail_at rest ≡ Some (take (length rest - 50) (drop 50 rest))
unfolding tail_at
tail_at-found rest long first second =
    let whole : take (length rest - 50) (drop 50 rest) ≡ drop 50 rest = take_all (length rest - 50) (drop 50 rest) (omega (arith, length-drop 50 rest)) in
    let passes = and_from _ _ (and_from _ _ (le-leb 51 (length rest) (omega arith)) (eq-eqb (get_or rest 24 0) 95 first)) (eq-eqb (get_or rest 49 0) 95 second) in
    rw passes (ap Some (sym whole))

-- bytes that are no text are no version
pub version_at-not_utf8 : (tail : List ℕ) (place : ℕ) → place ≡ position_or_len is_underscore tail → ¬ IsUtf8 (take place tail) → version_at tail ≡ None
unfolding version_at
version_at-not_utf8 tail place e bad =
    let front = before_first is_underscore tail in
    let other : is_version front ≡ false = false_from_ne_true (is_version front) (λ h.
    bad (subst (λ n. IsUtf8 (take n tail)) (sym e) (IsUtf8-from_ascii front (IsAscii-version front (is_version-to front h))))) in
    rw other refl

pub partition_at-none : (tail : List ℕ) (place : ℕ) → place ≡ position_or_len is_underscore tail → place ≡ length tail → partition_at tail ≡ Some 0
unfolding partition_at
partition_at-none tail place e f = rw (no_underscore tail (sym e ∙ f)) refl

pub partition_at-some : (tail digits : List ℕ) (place : ℕ) → place ≡ position_or_len is_underscore tail → place ≢ length tail → place ≤ length tail
    → digits ≡ take (length tail - (place + 1)) (drop (place + 1) tail) → partition_at tail ≡ partition_number digits
unfolding partition_at
partition_at-some tail digits place e other within cut =
    let inside : place < length tail = omega arith in
    let here : list_any is_underscore tail ≡ true = any_underscore tail (subst (λ n. n < length tail) e inside) in
    let whole : take (length tail - (place + 1)) (drop (place + 1) tail) ≡ drop (place + 1) tail =
    take_all (length tail - (place + 1)) (drop (place + 1) tail) (omega (arith, length-drop (place + 1) tail)) in
    rw here (ap (λ n. partition_number (drop (n + 1) tail)) (sym e) ∙ ap partition_number (sym (cut ∙ whole)))

-- what the comparison of two texts tells
pub ruleset tail_facts = (tail_at-found)

pub ruleset version_facts = (version_at-not_utf8)

pub ruleset instant_facts = (printed_at-not_utf8)

pub ruleset partition_facts = (partition_at-none)
