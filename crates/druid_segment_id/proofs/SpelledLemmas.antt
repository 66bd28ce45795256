-- Reading gives the identifier that a text spells: part by part, in both directions.
use Rattle.std.proofs.Common.{◌≡◌, ◌≢◌, ◌↔◌, ℕ, ◌+◌, ◌<◌, ◌≤◌, true, false, List, [], ◌∷◌, ◌++◌, length, not, nat_lt, nat_le, ◌&&◌, if◌then◌else◌, get_or, take, drop, refl, sym, ap, ◌∙◌, subst, arith, inl, inr, append-nil, length-append, drop-cons, codes, decimal, Option, Some, None, Result, Ok, Err}
use Rattle.std.specs.Option.{option_and_then, ok_or}
use Rattle.std.specs.Str.{bytes_eq}
use Rattle.std.specs.Result.{result_ok}
use Rattle.std.specs.List.{list_any, position_or_len, before_first, after_first}
use Rattle.std.proofs.lemmas.Bool.{cases_Bool, cases_eq, cases_lt, and_parts, and_from, eq-eqb, ne_eqb, eqb-true, le-leb, lt-ltb, leb-true, ltb-true}
use Rattle.std.proofs.lemmas.Bool.Decides.{nat_tests}
use Rattle.std.proofs.lemmas.List.{take-append-drop, length-take-le, length-drop, drop-drop, take_all, get_or-append-add, get_or_append_left}
use Rattle.std.proofs.lemmas.List.Sums.{position_or_len_is, split_at_first, passes_at_first, prefix_len-le-length}
use Rattle.std.proofs.lemmas.Slice.Eq.{bytes_eq-Decides}
use Rattle.std.proofs.Math.Seq.{take-append_seam, drop-append_seam, get_or-append_seam, drop-append-add}
use Rattle.druid_time.specs.declared.fault.TimeFault.{TimeFault}
use Rattle.druid_time.specs.Extent.{Extent, IsExtent}
use Rattle.druid_time.specs.Instant.{instant_count}
use Rattle.druid_time.specs.Results.{◌>>=◌}
use Rattle.druid_time.specs.Texts.{instant_at, instant_text}
use Rattle.druid_time.proofs.TextLemmas.{length-instant_text, instant_at-instant_text, IfOk-instant_at}
use Rattle.druid_time.proofs.PrintedLemmas.{instant_text-instant_at}
use Rattle.druid_segment_id.specs.Names.{IsName, IsVersion, is_version}
use Rattle.druid_segment_id.specs.Identifier.{Identifier, Spells, partition_suffix}
use Rattle.druid_segment_id.specs.Parsed.{Refusal, other_source, bad_parts, bad_interval, bad_version, bad_partition, is_underscore, beyond, rest_at, tail_at, printed_at, interval_at, version_at, partition_number, partition_at, identifier_at}
use Rattle.druid_base.specs.Numbers.{number_at}
use Rattle.druid_segment_id.proofs.IdentifierLemmas.{identifier_text-beyond}
use Rattle.druid_segment_id.proofs.NameLemmas.{is_version-true, is_version-to}
use Rattle.druid_segment_id.proofs.ParsedLemmas.{any_underscore, no_underscore}
use Rattle.druid_base.proofs.NumberLemmas.{number_at-found, number_at-to}
use Rattle.druid_base.proofs.OptionLemmas.{chained}

-- ---- steps

some_next : {A B : Type 0} (o : Option A) (e : Refusal) (f : A → Result B Refusal) (y : B) → (ok_or o e >>= f) ≡ Ok y → (x : A) × (o ≡ Some x) × (f x ≡ Ok y)
some_next None e f y h = absurd (cc)
some_next (Some x) e f y h = (x, refl, h)

some_same : {A : Type 0} (x y : A) → Some x ≡ Some y → x ≡ y
some_same x y h = cc

-- what each part reads as
record ReadAs (source text : List ℕ) (id : Identifier) : Type 0 where
  rest : List ℕ
  tail : List ℕ
  of_source : id.source ≡ source
  rest_is : rest_at source text ≡ Some rest
  tail_is : tail_at rest ≡ Some tail
  interval_is : interval_at rest ≡ Some id.interval
  version_is : version_at tail ≡ Some id.version
  partition_is : partition_at tail ≡ Some id.partition

abbrev made : List ℕ → Extent → List ℕ → ℕ → Result Identifier Refusal
made source interval version partition =
    Ok (record { source = source; interval = interval; version = version; partition = partition })

abbrev from_version : List ℕ → Extent → List ℕ → List ℕ → Result Identifier Refusal
from_version source interval tail version = ok_or (partition_at tail) bad_partition >>= λ p. made source interval version p

abbrev from_interval : List ℕ → List ℕ → Extent → Result Identifier Refusal
from_interval source tail interval = ok_or (version_at tail) bad_version >>= λ v. from_version source interval tail v

abbrev from_tail : List ℕ → List ℕ → List ℕ → Result Identifier Refusal
from_tail source rest tail = ok_or (interval_at rest) bad_interval >>= λ i. from_interval source tail i

abbrev from_rest : List ℕ → List ℕ → Result Identifier Refusal
from_rest source rest = ok_or (tail_at rest) bad_parts >>= λ t. from_tail source rest t

-- the parts of what was read
read_as : (source text rest tail version : List ℕ) (interval : Extent) (partition : ℕ) (id : Identifier) → rest_at source text ≡ Some rest
    → tail_at rest ≡ Some tail → interval_at rest ≡ Some interval → version_at tail ≡ Some version → partition_at tail ≡ Some partition
    → made source interval version partition ≡ Ok id → ReadAs source text id
read_as source text rest tail version interval partition id rest_is tail_is interval_is version_is partition_is h =
    let whole : record { source = source; interval = interval; version = version; partition = partition } ≡ id = cc in
    record {
      rest = rest;
      tail = tail;
      of_source = sym (ap (λ (x : Identifier). x.source) whole);
      rest_is = rest_is;
      tail_is = tail_is;
      interval_is = interval_is ∙ ap (λ (x : Identifier). Some x.interval) whole;
      version_is = version_is ∙ ap (λ (x : Identifier). Some x.version) whole;
      partition_is = partition_is ∙ ap (λ (x : Identifier). Some x.partition) whole;
    }

read_parts : (source text : List ℕ) (id : Identifier) → identifier_at source text ≡ Ok id → ReadAs source text id
unfolding identifier_at
read_parts source text id h =
    let first = some_next (rest_at source text) other_source (λ r. from_rest source r) id h in
    let second = some_next (tail_at first.0) bad_parts (λ t. from_tail source first.0 t) id first.2 in
    let third = some_next (interval_at first.0) bad_interval (λ i. from_interval source second.0 i) id second.2 in
    let fourth = some_next (version_at second.0) bad_version (λ v. from_version source third.0 second.0 v) id third.2 in
    let fifth = some_next (partition_at second.0) bad_partition (λ p. made source third.0 fourth.0 p) id fourth.2 in
    read_as source text first.0 second.0 fourth.0 third.0 fifth.0 id first.1 second.1 third.1 fourth.1 fifth.1 fifth.2

read_whole : (source text : List ℕ) (id : Identifier) → ReadAs source text id → identifier_at source text ≡ Ok id
unfolding identifier_at
read_whole source text id r =
    rw (r.rest_is, r.tail_is, r.interval_is, r.version_is, r.partition_is)
    (ap (λ (s : List ℕ). made s id.interval id.version id.partition) (sym r.of_source))

-- ---- what follows the source

beyond-to : (front text rest : List ℕ) → beyond front text ≡ Some rest → text ≡ front ++ rest
beyond-to front text rest h =
    elim (cases_Bool (bytes_eq (take (length front) text) front)) [
      | inl begins ↦
          let same : drop (length front) text ≡ rest = some_same _ _ (rw begins at h) in
          sym (take-append-drop (length front) text) ∙ (λ i. (bytes_eq-Decides (take (length front) text) front).0 begins i ++ same i)
      | inr other ↦ let none = rw other at h in absurd (cc)
    ]

beyond-made : (front rest : List ℕ) → beyond front (front ++ rest) ≡ Some rest
beyond-made front rest =
    rw ((bytes_eq-Decides (take (length front) (front ++ rest)) front).1 (take-append_seam front rest)) (ap Some (drop-append_seam front rest))

rest_at-to : (source text rest : List ℕ) → rest_at source text ≡ Some rest → text ≡ source ++ (95 ∷ rest)
unfolding rest_at
rest_at-to source text rest h =
    let both = chained (beyond (codes "_")) (beyond source text) rest h in
    beyond-to source text both.0 both.1 ∙ ap (λ r. source ++ r) (beyond-to (codes "_") both.0 rest both.2)

rest_at-made : (source rest : List ℕ) → rest_at source (source ++ (95 ∷ rest)) ≡ Some rest
unfolding rest_at
rest_at-made source rest = rw (beyond-made source (95 ∷ rest)) (beyond-made (codes "_") rest)

-- ---- the places of the parts

-- the two instants and what stands after them
record Placed (rest tail : List ℕ) : Type 0 where
  long : 50 < length rest
  whole : rest ≡ take 24 rest ++ (95 ∷ (take 24 (drop 25 rest) ++ (95 ∷ tail)))

placed : (rest tail : List ℕ) → (nat_le 51 (length rest) && is_underscore (get_or rest 24 0) && is_underscore (get_or rest 49 0)) ≡ true → drop 50 rest ≡ tail → Placed rest tail
placed rest tail pass same =
    let last = and_parts _ _ pass in
    let first = and_parts _ _ last.0 in
    let long : 51 ≤ length rest = leb-true 51 (length rest) first.0 in
    let line : get_or rest 24 0 ≡ 95 = eqb-true (get_or rest 24 0) 95 first.1 in
    let far_line : get_or rest 49 0 ≡ 95 = eqb-true (get_or rest 49 0) 95 last.1 in
    let to_tail : drop 24 (drop 25 rest) ≡ 95 ∷ tail = drop-drop 24 25 rest ∙ drop-cons rest 49 0 (omega arith) ∙ (λ i. far_line i ∷ same i) in
    let beyond_first : drop 25 rest ≡ take 24 (drop 25 rest) ++ (95 ∷ tail) = sym (take-append-drop 24 (drop 25 rest)) ∙ ap (λ l. take 24 (drop 25 rest) ++ l) to_tail in
    let to_first : drop 24 rest ≡ 95 ∷ (take 24 (drop 25 rest) ++ (95 ∷ tail)) = drop-cons rest 24 0 (omega arith) ∙ (λ i. line i ∷ beyond_first i) in
    record { long = omega arith; whole = sym (take-append-drop 24 rest) ∙ ap (λ l. take 24 rest ++ l) to_first }

tail_at-to : (rest tail : List ℕ) → tail_at rest ≡ Some tail → Placed rest tail
unfolding tail_at
tail_at-to rest tail h =
    elim (cases_Bool (nat_le 51 (length rest) && is_underscore (get_or rest 24 0) && is_underscore (get_or rest 49 0))) [
      | inl pass ↦ placed rest tail pass (some_same _ _ (rw pass at h))
      | inr fail ↦ let none = rw fail at h in absurd (cc)
    ]

tail_at-made : (first second tail : List ℕ) → length first ≡ 24 → length second ≡ 24 → 1 ≤ length tail
    → tail_at (first ++ (95 ∷ (second ++ (95 ∷ tail)))) ≡ Some tail
unfolding tail_at
tail_at-made first second tail h k more =
    let beyond_first = second ++ (95 ∷ tail) in
    let rest = first ++ (95 ∷ beyond_first) in
    let long : 51 ≤ length rest = omega (arith, length-append first (95 ∷ beyond_first), length-append second (95 ∷ tail)) in
    let line : get_or rest 24 0 ≡ 95 = subst (λ n. get_or rest n 0 ≡ 95) h (get_or-append_seam first 95 beyond_first 0) in
    let second_line : get_or beyond_first 24 0 ≡ 95 = subst (λ n. get_or beyond_first n 0 ≡ 95) k (get_or-append_seam second 95 tail 0) in
    let far_line : get_or rest 49 0 ≡ 95 = subst (λ n. get_or rest (n + 25) 0 ≡ get_or beyond_first 24 0) h (get_or-append-add first (95 ∷ beyond_first) 25 0) ∙ second_line in
    let beyond_second : drop 25 beyond_first ≡ tail = subst (λ n. drop (n + 1) beyond_first ≡ tail) k (drop-append-add second (95 ∷ tail) 1) in
    let left : drop 50 rest ≡ tail = subst (λ n. drop (n + 26) rest ≡ drop 25 beyond_first) h (drop-append-add first (95 ∷ beyond_first) 26) ∙ beyond_second in
    let pass = and_from _ _ (and_from _ _ (le-leb 51 (length rest) long) (eq-eqb (get_or rest 24 0) 95 line)) (eq-eqb (get_or rest 49 0) 95 far_line) in
    rw pass (ap Some left)

-- ---- the interval

read_ok : (r : Result ℕ TimeFault) (t : ℕ) → result_ok r ≡ Some t → r ≡ Ok t
read_ok (Ok s) t h = let same : s ≡ t = some_same s t h in ap (λ n. Ok n) same
read_ok (Err e) t h = absurd (cc)

printed_at-to : (text : List ℕ) (t : ℕ) → printed_at text ≡ Some t → instant_at text ≡ Ok t
printed_at-to text t h = read_ok (instant_at text) t h

-- the two texts are the printed forms of an interval's ends
record Printed (rest : List ℕ) (e : Extent) : Type 0 where
  start : instant_text e.start ≡ take 24 rest
  end : instant_text e.end ≡ take 24 (drop 25 rest)
  valid : IsExtent e

abbrev extent_between : ℕ → ℕ → Option Extent
extent_between start end = if nat_lt start end then Some (record { start = start; end = end }) else None

extent_between-to : (s t : ℕ) (e : Extent) → extent_between s t ≡ Some e → (s < t) × (e ≡ record { start = s; end = t })
extent_between-to s t e h =
    elim (cases_Bool (nat_lt s t)) [
      | inl before ↦ (ltb-true s t before, sym (some_same _ _ (rw before at h)))
      | inr late ↦ let none = rw late at h in absurd (cc)
    ]

interval_at-to : (rest : List ℕ) (e : Extent) → 50 < length rest → interval_at rest ≡ Some e → Printed rest e
unfolding interval_at
interval_at-to rest e long h =
    let first = chained (λ s. option_and_then (λ t. extent_between s t) (printed_at (take 24 (drop 25 rest)))) (printed_at (take 24 rest)) e h in
    let second = chained (λ t. extent_between first.0 t) (printed_at (take 24 (drop 25 rest))) e first.2 in
    let between = extent_between-to first.0 second.0 e second.2 in
    let start = printed_at-to (take 24 rest) first.0 first.1 in
    let end = printed_at-to (take 24 (drop 25 rest)) second.0 second.1 in
    let far : second.0 < instant_count = rw end at (IfOk-instant_at (take 24 (drop 25 rest))) in
    record {
      start = ap (λ (x : Extent). instant_text x.start) between.1 ∙ instant_text-instant_at (take 24 rest) first.0 (length-take-le 24 rest (omega arith)) start;
      end = ap (λ (x : Extent). instant_text x.end) between.1
          ∙ instant_text-instant_at (take 24 (drop 25 rest)) second.0 (length-take-le 24 (drop 25 rest) (omega (arith, length-drop 25 rest))) end;
      valid = subst IsExtent (sym between.1) (between.0, far);
    }

interval_at-made : (rest : List ℕ) (e : Extent) → take 24 rest ≡ instant_text e.start → take 24 (drop 25 rest) ≡ instant_text e.end → IsExtent e → interval_at rest ≡ Some e
unfolding interval_at
interval_at-made rest e start end valid =
    rw (start, end, instant_at-instant_text e.start (omega (arith, valid)), instant_at-instant_text e.end (omega (arith, valid)), lt-ltb e.start e.end valid.0) refl

-- ---- the version and the partition

version_at-to : (tail version : List ℕ) → version_at tail ≡ Some version → (before_first is_underscore tail ≡ version) × IsVersion version
unfolding version_at
version_at-to tail version h =
    elim (cases_Bool (is_version (before_first is_underscore tail))) [
      | inl pass ↦
          let same : before_first is_underscore tail ≡ version = some_same _ _ (rw pass at h) in
          (same, subst IsVersion same (is_version-to (before_first is_underscore tail) pass))
      | inr fail ↦ let none = rw fail at h in absurd (cc)
    ]

partition_number-found : (p : ℕ) → 1 ≤ p → p < 65536 → partition_number (decimal p) ≡ Some p
unfolding partition_number
partition_number-found p low high =
    rw (number_at-found (decimal p) p (omega (arith, high)) refl, le-leb 1 p low, lt-ltb p 65536 high) refl

partition_number-to : (digits : List ℕ) (p : ℕ) → partition_number digits ≡ Some p → (1 ≤ p) × (p < 65536) × (digits ≡ decimal p)
unfolding partition_number
partition_number-to digits p h = by (number_at digits) refl h where
  by : (o : Option ℕ) → number_at digits ≡ o → option_and_then (λ n. if nat_le 1 n && nat_lt n 65536 then Some n else None) o ≡ Some p
      → (1 ≤ p) × (p < 65536) × (digits ≡ decimal p)
  by None e h = absurd (cc)
  by (Some n) e h =
      elim (cases_Bool (nat_le 1 n && nat_lt n 65536)) [
        | inl pass ↦
            let same : n ≡ p = some_same _ _ (rw pass at h) in
            let bounds = and_parts _ _ pass in
            subst (λ k. (1 ≤ k) × (k < 65536) × (digits ≡ decimal k)) same
            (leb-true 1 n bounds.0, ltb-true n 65536 bounds.1, (number_at-to digits n e).1)
        | inr fail ↦ let none = rw fail at h in absurd (cc)
      ]

partition_at-to : (tail : List ℕ) (p : ℕ) → partition_at tail ≡ Some p → (before_first is_underscore tail ++ partition_suffix p ≡ tail) × (p < 65536)
unfolding partition_at
partition_at-to tail p h =
    let place = position_or_len is_underscore tail in
    elim (cases_lt place (length tail)) [
      | inl inside ↦
          let number = partition_number-to (after_first is_underscore tail) p (rw (any_underscore tail inside) at h) in
          let line : get_or tail place 0 ≡ 95 = eqb-true (get_or tail place 0) 95 (passes_at_first is_underscore tail 0 inside) in
          let back_line : 95 ≡ get_or tail place 0 = sym line in
          let back_digits : decimal p ≡ after_first is_underscore tail = sym number.2 in
          let some : p ≢ 0 = omega (arith, number.0) in
          let suffix : partition_suffix p ≡ 95 ∷ decimal p = rw (ne_eqb p 0 some) refl in
          (ap (λ s. before_first is_underscore tail ++ s) (suffix ∙ (λ i. back_line i ∷ back_digits i)) ∙ sym (split_at_first is_underscore tail 0 inside), number.1)
      | inr past ↦
          let end : place ≡ length tail = omega (arith, prefix_len-le-length (λ b. not (is_underscore b)) tail) in
          let none : 0 ≡ p = some_same _ _ (rw (no_underscore tail end) at h) in
          let suffix : partition_suffix p ≡ [] = ap partition_suffix (sym none) in
          let all : before_first is_underscore tail ≡ tail = take_all place tail (omega arith) in
          (ap (λ s. before_first is_underscore tail ++ s) suffix ∙ append-nil (before_first is_underscore tail) ∙ all, omega arith)
    ]

-- a byte of a version is no `_`
no_underscore_in : (version : List ℕ) → IsVersion version → (k : ℕ) → k < length version → is_underscore (get_or version k 0) ≡ false
no_underscore_in version h k l = let byte = h.bytes k 0 l in grind (arith, nat_tests)

underscore_place-alone : (version : List ℕ) → IsVersion version → position_or_len is_underscore version ≡ length version
underscore_place-alone version h =
    position_or_len_is is_underscore version (length version) 0 (omega arith) (no_underscore_in version h) (λ l. absurd (omega arith))

underscore_place-beyond : (version digits : List ℕ) → IsVersion version → position_or_len is_underscore (version ++ (95 ∷ digits)) ≡ length version
underscore_place-beyond version digits h =
    position_or_len_is is_underscore (version ++ (95 ∷ digits)) (length version) 0
    (omega (arith, length-append version (95 ∷ digits)))
    (λ k l. rw (get_or_append_left version (95 ∷ digits) 0 k l) (no_underscore_in version h k l))
    (λ l. rw (get_or-append_seam version 95 digits 0) refl)

-- what a version and a partition are read as
record ReadTail (tail version : List ℕ) (p : ℕ) : Type 0 where
  version_is : version_at tail ≡ Some version
  partition_is : partition_at tail ≡ Some p

tail_made : (tail version : List ℕ) (p : ℕ) → IsVersion version → before_first is_underscore tail ≡ version → partition_at tail ≡ Some p → ReadTail tail version p
unfolding version_at
tail_made tail version p h front partition =
    record { version_is = rw (front, is_version-true version h) refl; partition_is = partition }

tail-alone : (version : List ℕ) → IsVersion version → ReadTail version version 0
unfolding partition_at
tail-alone version h =
    let place = underscore_place-alone version h in
    tail_made version version 0 h (take_all _ version (omega (arith, place))) (rw (no_underscore version place) refl)

tail-beyond : (version : List ℕ) (p : ℕ) → IsVersion version → 1 ≤ p → p < 65536 → ReadTail (version ++ (95 ∷ decimal p)) version p
unfolding partition_at
tail-beyond version p h low high =
    let tail = version ++ (95 ∷ decimal p) in
    let place = underscore_place-beyond version (decimal p) h in
    let here : list_any is_underscore tail ≡ true = any_underscore tail (omega (arith, place, length-append version (95 ∷ decimal p))) in
    let front : before_first is_underscore tail ≡ version = ap (λ n. take n tail) place ∙ take-append_seam version (95 ∷ decimal p) in
    let back : after_first is_underscore tail ≡ decimal p = ap (λ n. drop (n + 1) tail) place ∙ drop-append-add version (95 ∷ decimal p) 1 in
    tail_made tail version p h front (rw here (ap partition_number back ∙ partition_number-found p low high))

tail-made : (version : List ℕ) (p : ℕ) → IsVersion version → p < 65536 → ReadTail (version ++ partition_suffix p) version p
tail-made version p h high =
    elim (cases_eq p 0) [
      | inl none ↦
          let alone : version ++ partition_suffix p ≡ version = ap (λ n. version ++ partition_suffix n) none ∙ append-nil version in
          subst (λ t. ReadTail t version p) (sym alone) (subst (λ n. ReadTail version version n) (sym none) (tail-alone version h))
      | inr some ↦
          let suffix : partition_suffix p ≡ 95 ∷ decimal p = rw (ne_eqb p 0 some) refl in
          subst (λ t. ReadTail t version p) (ap (λ s. version ++ s) (sym suffix)) (tail-beyond version p h (omega arith) high)
    ]

-- ---- the whole

read_spells : (source text : List ℕ) (id : Identifier) → IsName source → ReadAs source text id → Spells source text id
read_spells source text id name r =
    let places = tail_at-to r.rest r.tail r.tail_is in
    let printed = interval_at-to r.rest id.interval places.long r.interval_is in
    let version = version_at-to r.tail id.version r.version_is in
    let partition = partition_at-to r.tail id.partition r.partition_is in
    let tail_same : id.version ++ partition_suffix id.partition ≡ r.tail = ap (λ v. v ++ partition_suffix id.partition) (sym version.0) ∙ partition.0 in
    record {
      valid = record { source = subst IsName (sym r.of_source) name; interval = printed.valid; version = version.1; partition = partition.1 };
      of_source = r.of_source;
      spelled = identifier_text-beyond id
          ∙ (λ i. r.of_source i ++ (95 ∷ (printed.start i ++ (95 ∷ (printed.end i ++ (95 ∷ tail_same i))))))
          ∙ ap (λ rest. source ++ (95 ∷ rest)) (sym places.whole)
          ∙ sym (rest_at-to source text r.rest r.rest_is);
    }

spelled_reads : (source text : List ℕ) (id : Identifier) → Spells source text id → ReadAs source text id
spelled_reads source text id h =
    let first = instant_text id.interval.start in
    let second = instant_text id.interval.end in
    let tail = id.version ++ partition_suffix id.partition in
    let beyond_first = second ++ (95 ∷ tail) in
    let rest = first ++ (95 ∷ beyond_first) in
    let long = length-instant_text id.interval.start in
    let long_too = length-instant_text id.interval.end in
    let text_is : text ≡ source ++ (95 ∷ rest) = sym h.spelled ∙ identifier_text-beyond id ∙ ap (λ s. s ++ (95 ∷ rest)) h.of_source in
    let start : take 24 rest ≡ first = subst (λ n. take n rest ≡ first) long (take-append_seam first (95 ∷ beyond_first)) in
    let left : drop 25 rest ≡ beyond_first = subst (λ n. drop (n + 1) rest ≡ beyond_first) long (drop-append-add first (95 ∷ beyond_first) 1) in
    let end : take 24 (drop 25 rest) ≡ second = ap (take 24) left ∙ subst (λ n. take n beyond_first ≡ second) long_too (take-append_seam second (95 ∷ tail)) in
    let read = tail-made id.version id.partition h.valid.version h.valid.partition in
    let more : 1 ≤ length tail = omega (arith, h.valid.version.not_empty, length-append id.version (partition_suffix id.partition)) in
    record {
      rest = rest;
      tail = tail;
      of_source = h.of_source;
      rest_is = ap (rest_at source) text_is ∙ rest_at-made source rest;
      tail_is = tail_at-made first second tail long long_too more;
      interval_is = interval_at-made rest id.interval start end h.valid.interval;
      version_is = read.version_is;
      partition_is = read.partition_is;
    }

-- reading gives an identifier exactly where the text spells it
pub read_is_spelled : (source text : List ℕ) (id : Identifier) → IsName source → (identifier_at source text ≡ Ok id) ↔ Spells source text id
read_is_spelled source text id name = (
  λ h. read_spells source text id name (read_parts source text id h),
  λ h. read_whole source text id (spelled_reads source text id h),
)
