-- The texts of identifiers: their bytes, that no two identifiers share one, and their order.
use Rattle.std.proofs.Common.{◌≡◌, ℕ, ◌<◌, ◌≤◌, ◌≢◌, List, [], ◌∷◌, ◌++◌, length, take, drop, min, refl, sym, ap, ◌∙◌, arith, inl, inr, append_assoc, length-append, lit<, codes, decimal, IsTrue, All}
use Rattle.std.specs.Str.{IsAscii, IsUtf8}
use Rattle.std.specs.Ordering.{nat_cmp, ordering_then}
use Rattle.std.specs.declared.cmp.Ordering.{Ordering}
use Rattle.std.specs.declared.cmp.Ordering.TheVariants.{Less, Equal, Greater}
use Rattle.std.specs.Cmp.Lexicographic.{slice_cmp}
use Rattle.std.proofs.lemmas.Bool.{cases_eq, eq-eqb, ne_eqb}
use Rattle.std.proofs.lemmas.Bool.Decides.{nat_tests}
use Rattle.std.proofs.lemmas.Fmt.{length-decimal-le, IsAscii-decimal, decimal_injective}
use Rattle.std.proofs.lemmas.Str.{IsUtf8-from_ascii, IsAscii-append}
use Rattle.std.proofs.lemmas.Str.Ascii.{IsAscii-nil, IsAscii-cons, IsAscii-from_all}
use Rattle.std.proofs.lemmas.List.{take-append-drop, length-take-le}
use Rattle.std.proofs.lemmas.List.Elements.{All-head, All-tail}
use Rattle.druid_base.proofs.ListLemmas.{append-fronts}
use Rattle.druid_time.specs.Texts.{instant_text, civil_text, digit}
use Rattle.druid_time.proofs.TextLemmas.{length-instant_text, IsAscii-instant_text, instant_text_injective, slice_cmp-instant_text}
use Rattle.druid_segment_id.specs.Names.{is_name_byte, IsName, is_version_byte, IsVersion}
use Rattle.druid_segment_id.specs.IdentifierLaws.{identifier_same}
use Rattle.druid_segment_id.specs.Identifier.{Identifier, IsIdentifier, identifier_text, partition_suffix}
use Rattle.druid_segment_id.proofs.OrderLemmas.{slice_cmp-front, slice_cmp-append, slice_cmp-Equal}

-- ---- the bytes

pub length-partition_suffix : (p : ℕ) → p < 65536 → length (partition_suffix p) ≤ 6
length-partition_suffix p h =
    elim (cases_eq p 0) [
      | inl none ↦ rw (eq-eqb p 0 none) (omega arith)
      | inr some ↦ rw (ne_eqb p 0 some) (omega (arith, length-decimal-le 5 p (omega arith) (omega arith) (omega arith)))
    ]

-- what follows the source
abbrev pub beyond_source : Identifier → List ℕ
beyond_source id =
    codes "_" ++ (instant_text id.interval.start ++ (codes "_" ++ (instant_text id.interval.end ++ (codes "_" ++ (id.version ++ partition_suffix id.partition)))))

pub identifier_text-beyond : (id : Identifier) → identifier_text id ≡ id.source ++ beyond_source id
unfolding identifier_text
identifier_text-beyond id = simp append_assoc

pub length-identifier_text : (id : Identifier) → IsIdentifier id → length (identifier_text id) ≤ 221
unfolding identifier_text
length-identifier_text id h =
    simp length-append
    (omega (arith, h.source.short, h.version.short, length-partition_suffix id.partition h.partition, length-instant_text id.interval.start, length-instant_text id.interval.end))

pub IsAscii-name : (text : List ℕ) → IsName text → IsAscii text
IsAscii-name text h = IsAscii-from_all text (λ k d l. let byte = h.bytes k d l in grind (arith, nat_tests))

pub IsAscii-version : (text : List ℕ) → IsVersion text → IsAscii text
IsAscii-version text h = IsAscii-from_all text (λ k d l. let byte = h.bytes k d l in grind (arith, nat_tests))

pub IsAscii-line : IsAscii (codes "_")
IsAscii-line = IsAscii-cons 95 [] (lit< tt) IsAscii-nil

IsAscii-partition_suffix : (p : ℕ) → p < 65536 → IsAscii (partition_suffix p)
IsAscii-partition_suffix p h =
    elim (cases_eq p 0) [
      | inl none ↦ rw (eq-eqb p 0 none) IsAscii-nil
      | inr some ↦ rw (ne_eqb p 0 some) (IsAscii-append (codes "_") (decimal p) IsAscii-line (IsAscii-decimal p (omega arith)))
    ]

pub IsAscii-identifier_text : (id : Identifier) → IsIdentifier id → IsAscii (identifier_text id)
IsAscii-identifier_text id h =
    let last = id.version ++ partition_suffix id.partition in
    let ending = instant_text id.interval.end ++ (codes "_" ++ last) in
    let starting = instant_text id.interval.start ++ (codes "_" ++ ending) in
    let last_ascii = IsAscii-append id.version (partition_suffix id.partition) (IsAscii-version id.version h.version) (IsAscii-partition_suffix id.partition h.partition) in
    let ending_ascii = IsAscii-append (instant_text id.interval.end) (codes "_" ++ last) (IsAscii-instant_text id.interval.end) (IsAscii-append (codes "_") last IsAscii-line last_ascii) in
    let starting_ascii = IsAscii-append (instant_text id.interval.start) (codes "_" ++ ending) (IsAscii-instant_text id.interval.start) (IsAscii-append (codes "_") ending IsAscii-line ending_ascii) in
    rw (identifier_text-beyond id)
    (IsAscii-append id.source (codes "_" ++ starting) (IsAscii-name id.source h.source) (IsAscii-append (codes "_") starting IsAscii-line starting_ascii))

pub IsUtf8-identifier_text : (id : Identifier) → IsIdentifier id → IsUtf8 (identifier_text id)
IsUtf8-identifier_text id h = IsUtf8-from_ascii (identifier_text id) (IsAscii-identifier_text id h)

-- ---- no two identifiers share a text

-- the byte is not in the text
abbrev Lacks : ℕ → List ℕ → Type 0
Lacks c [] = Unit {0}
Lacks c (b ∷ bs) = (b ≢ c) × Lacks c bs

-- the text is empty, or begins with the byte
abbrev BeginsBy : ℕ → List ℕ → Type 0
BeginsBy c [] = Unit {0}
BeginsBy c (b ∷ bs) = b ≡ c

Lacks-append : (c : ℕ) (xs ys : List ℕ) → Lacks c xs → Lacks c ys → Lacks c (xs ++ ys)
Lacks-append c [] ys h k = k
Lacks-append c (x ∷ xs) ys h k = (h.0, Lacks-append c xs ys h.1 k)

-- texts that are alike are alike before the first such byte, and from it on
cut_same : (c : ℕ) (xs ys us vs : List ℕ) → Lacks c xs → Lacks c ys → BeginsBy c us → BeginsBy c vs → xs ++ us ≡ ys ++ vs → (xs ≡ ys) × (us ≡ vs)
cut_same c [] [] us vs h k f g e = (refl, e)
cut_same c [] (y ∷ ys) [] vs h k f g e = absurd (cc)
cut_same c [] (y ∷ ys) (u ∷ us) vs h k f g e = let same : y ≡ c = cc in absurd (k.0 same)
cut_same c (x ∷ xs) [] us [] h k f g e = absurd (cc)
cut_same c (x ∷ xs) [] us (v ∷ vs) h k f g e = let same : x ≡ c = cc in absurd (h.0 same)
cut_same c (x ∷ xs) (y ∷ ys) us vs h k f g e =
    let head : x ≡ y = cc in
    let tail : xs ++ us ≡ ys ++ vs = cc in
    let rest = cut_same c xs ys us vs h.1 k.1 f g tail in
    (λ i. head i ∷ rest.0 i, rest.1)

-- a name has no `:`
name_lacks : (text : List ℕ) → All (λ b. IsTrue (is_name_byte b)) text → Lacks 58 text
name_lacks [] h = tt
name_lacks (b ∷ bs) h =
    let first = All-head (λ c. IsTrue (is_name_byte c)) b bs h in
    (λ e. let e' : b ≡ 58 = e in absurd (grind (arith, nat_tests)), name_lacks bs (All-tail (λ c. IsTrue (is_name_byte c)) b bs h))

-- a version has no `_`
version_lacks : (text : List ℕ) → All (λ b. IsTrue (is_version_byte b)) text → Lacks 95 text
version_lacks [] h = tt
version_lacks (b ∷ bs) h =
    let first = All-head (λ c. IsTrue (is_version_byte c)) b bs h in
    (λ e. let e' : b ≡ 95 = e in absurd (grind (arith, nat_tests)), version_lacks bs (All-tail (λ c. IsTrue (is_version_byte c)) b bs h))

-- the hour ends at the first `:`
hour_of : ℕ → List ℕ
hour_of t = take 13 (instant_text t)

minutes_of : ℕ → List ℕ
minutes_of t = drop 13 (instant_text t)

digit_plain : (n : ℕ) → digit n ≢ 58
digit_plain n e = omega arith

hour_lacks : (t : ℕ) → Lacks 58 (hour_of t)
unfolding hour_of instant_text civil_text
hour_lacks t =
    (digit_plain _, (digit_plain _, (digit_plain _, (digit_plain _, ((λ e. omega arith), (digit_plain _, (digit_plain _, ((λ e. omega arith), (digit_plain _, (digit_plain _, ((λ e. omega arith), (digit_plain _, (digit_plain _, tt)))))))))))))

minutes_begin : (t : ℕ) (more : List ℕ) → BeginsBy 58 (minutes_of t ++ more)
unfolding minutes_of instant_text civil_text
minutes_begin t more = refl

length-hour_of : (t : ℕ) → length (hour_of t) ≡ 13
unfolding hour_of
length-hour_of t = length-take-le 13 (instant_text t) (omega (arith, length-instant_text t))

hour_minutes : (t : ℕ) → hour_of t ++ minutes_of t ≡ instant_text t
unfolding hour_of minutes_of
hour_minutes t = take-append-drop 13 (instant_text t)

suffix_begins : (p : ℕ) → BeginsBy 95 (partition_suffix p)
suffix_begins p =
    elim (cases_eq p 0) [ inl none ↦ rw (eq-eqb p 0 none) tt | inr some ↦ rw (ne_eqb p 0 some) refl ]

suffix_same : (p q : ℕ) → p < 65536 → q < 65536 → partition_suffix p ≡ partition_suffix q → p ≡ q
suffix_same p q h k e =
    elim (cases_eq p 0) [
      | inl none ↦ elim (cases_eq q 0) [
        | inl nothing ↦ none ∙ sym nothing
        | inr some ↦ let apart = rw (eq-eqb p 0 none, ne_eqb q 0 some) at e in absurd (cc)
      ]
      | inr some ↦ elim (cases_eq q 0) [
        | inl none ↦ let apart = rw (ne_eqb p 0 some, eq-eqb q 0 none) at e in absurd (cc)
        | inr other ↦
            let both = rw (ne_eqb p 0 some, ne_eqb q 0 other) at e in
            decimal_injective p q (omega arith) (omega arith) (append-fronts (95 ∷ []) (95 ∷ []) (decimal p) (decimal q) refl both).1
      ]
    ]

-- what follows the start
beyond_start : Identifier → List ℕ
beyond_start id = codes "_" ++ (instant_text id.interval.end ++ (codes "_" ++ (id.version ++ partition_suffix id.partition)))

-- the text, cut at its first `:`
text_at_colon : (id : Identifier) → identifier_text id ≡ (id.source ++ (95 ∷ hour_of id.interval.start)) ++ (minutes_of id.interval.start ++ beyond_start id)
unfolding beyond_start
text_at_colon id =
    identifier_text-beyond id
    ∙ ap (λ t. id.source ++ (95 ∷ (t ++ beyond_start id))) (sym (hour_minutes id.interval.start))
    ∙ ap (λ t. id.source ++ (95 ∷ t)) (append_assoc (hour_of id.interval.start) (minutes_of id.interval.start) (beyond_start id))
    ∙ sym (append_assoc id.source (95 ∷ hour_of id.interval.start) (minutes_of id.interval.start ++ beyond_start id))

front_lacks : (id : Identifier) → IsIdentifier id → Lacks 58 (id.source ++ (95 ∷ hour_of id.interval.start))
front_lacks id h =
    Lacks-append 58 id.source (95 ∷ hour_of id.interval.start) (name_lacks id.source h.source.bytes) ((λ e. omega arith), hour_lacks id.interval.start)

-- the first `:` of a text tells how long its source is
length-source : (a b : Identifier) → IsIdentifier a → IsIdentifier b → identifier_text a ≡ identifier_text b → length a.source ≡ length b.source
length-source a b h k e =
    let cut = cut_same 58 (a.source ++ (95 ∷ hour_of a.interval.start)) (b.source ++ (95 ∷ hour_of b.interval.start)) _ _
    (front_lacks a h) (front_lacks b k) (minutes_begin a.interval.start (beyond_start a)) (minutes_begin b.interval.start (beyond_start b))
    (sym (text_at_colon a) ∙ e ∙ text_at_colon b) in
    let long = simp length-append at (ap length cut.0) in
    omega (arith, long, length-hour_of a.interval.start, length-hour_of b.interval.start)

-- no two identifiers share a text
pub identifier_text_injective : (a b : Identifier) → IsIdentifier a → IsIdentifier b → identifier_text a ≡ identifier_text b → a ≡ b
identifier_text_injective a b h k e =
    let alike : (xs ys us vs : List ℕ) → length xs ≡ length ys → xs ++ us ≡ ys ++ vs → (xs ≡ ys) × (us ≡ vs) = append-fronts in
    let long = λ (s t : ℕ). length-instant_text s ∙ sym (length-instant_text t) in
    let sources = alike a.source b.source (beyond_source a) (beyond_source b) (length-source a b h k e) (sym (identifier_text-beyond a) ∙ e ∙ identifier_text-beyond b) in
    let first = alike (95 ∷ []) (95 ∷ []) _ _ refl sources.1 in
    let starts = alike (instant_text a.interval.start) (instant_text b.interval.start) _ _ (long a.interval.start b.interval.start) first.1 in
    let second = alike (95 ∷ []) (95 ∷ []) _ _ refl starts.1 in
    let ends = alike (instant_text a.interval.end) (instant_text b.interval.end) _ _ (long a.interval.end b.interval.end) second.1 in
    let third = alike (95 ∷ []) (95 ∷ []) _ _ refl ends.1 in
    let versions = cut_same 95 a.version b.version (partition_suffix a.partition) (partition_suffix b.partition)
    (version_lacks a.version h.version.bytes) (version_lacks b.version k.version.bytes) (suffix_begins a.partition) (suffix_begins b.partition) third.1 in
    identifier_same a b sources.0
    (instant_text_injective a.interval.start b.interval.start (omega (arith, h.interval)) (omega (arith, k.interval)) starts.0)
    (instant_text_injective a.interval.end b.interval.end (omega (arith, h.interval)) (omega (arith, k.interval)) ends.0)
    versions.0 (suffix_same a.partition b.partition h.partition k.partition versions.1)

-- ---- the order of the texts

-- within a source: by start, by end, and then by version and partition as texts
pub identifier_text-order : (a b : Identifier) → IsIdentifier a → IsIdentifier b → a.source ≡ b.source
    → slice_cmp nat_cmp (identifier_text a) (identifier_text b)
    ≡ ordering_then (nat_cmp a.interval.start b.interval.start) (ordering_then (nat_cmp a.interval.end b.interval.end)
    (slice_cmp nat_cmp (a.version ++ partition_suffix a.partition) (b.version ++ partition_suffix b.partition)))
identifier_text-order a b h k same =
    let long = λ (s t : ℕ). length-instant_text s ∙ sym (length-instant_text t) in
    let tail = slice_cmp nat_cmp (a.version ++ partition_suffix a.partition) (b.version ++ partition_suffix b.partition) in
    (λ i. slice_cmp nat_cmp (identifier_text-beyond a i) ((identifier_text-beyond b ∙ ap (λ s. s ++ beyond_source b) (sym same)) i))
    ∙ slice_cmp-front a.source (beyond_source a) (beyond_source b)
    ∙ slice_cmp-append (instant_text a.interval.start) (instant_text b.interval.start) _ _ (long a.interval.start b.interval.start)
    ∙ (λ i. ordering_then (slice_cmp-instant_text a.interval.start b.interval.start (omega (arith, h.interval)) (omega (arith, k.interval)) i)
    (slice_cmp-append (instant_text a.interval.end) (instant_text b.interval.end) (95 ∷ (a.version ++ partition_suffix a.partition)) (95 ∷ (b.version ++ partition_suffix b.partition)) (long a.interval.end b.interval.end) i))
    ∙ ap (λ o. ordering_then (nat_cmp a.interval.start b.interval.start) (ordering_then o tail))
    (slice_cmp-instant_text a.interval.end b.interval.end (omega (arith, h.interval)) (omega (arith, k.interval)))

-- identifiers whose texts tie are the same
pub identifier_text-tie : (a b : Identifier) → IsIdentifier a → IsIdentifier b → slice_cmp nat_cmp (identifier_text a) (identifier_text b) ≡ Equal → a ≡ b
identifier_text-tie a b h k e = identifier_text_injective a b h k (slice_cmp-Equal (identifier_text a) (identifier_text b) e)

first_decides : (o p : Ordering) → o ≢ Equal → ordering_then o p ≡ o
first_decides Less p apart = refl
first_decides Equal p apart = absurd (apart refl)
first_decides Greater p apart = refl

-- sources whose fronts are not alike decide
pub identifier_text-sources : (a b : Identifier) (n : ℕ) (mine theirs : List ℕ) (o : Ordering) → mine ≡ a.source → theirs ≡ b.source
    → n ≡ min (length mine) (length theirs) → o ≡ slice_cmp nat_cmp (take n mine) (take n theirs) → o ≢ Equal
    → o ≡ slice_cmp nat_cmp (identifier_text a) (identifier_text b)
identifier_text-sources a b n mine theirs o e f least answer apart =
    let whole = λ (id : Identifier) (source : List ℕ) (same : source ≡ id.source).
    identifier_text-beyond id ∙ ap (λ l. l ++ beyond_source id) (sym (take-append-drop n source ∙ same)) ∙ append_assoc (take n source) (drop n source) (beyond_source id) in
    let long = length-take-le n mine (omega arith) ∙ sym (length-take-le n theirs (omega arith)) in
    sym (
    (λ i. slice_cmp nat_cmp (whole a mine e i) (whole b theirs f i))
    ∙ slice_cmp-append (take n mine) (take n theirs) (drop n mine ++ beyond_source a) (drop n theirs ++ beyond_source b) long
    ∙ ap (λ p. ordering_then p (slice_cmp nat_cmp (drop n mine ++ beyond_source a) (drop n theirs ++ beyond_source b))) (sym answer)
    ∙ first_decides o (slice_cmp nat_cmp (drop n mine ++ beyond_source a) (drop n theirs ++ beyond_source b)) apart
    )

-- for the attribute `using`
pub ruleset text_facts = (IsUtf8-identifier_text, length-identifier_text)

pub ruleset order_facts = (identifier_text-order)
