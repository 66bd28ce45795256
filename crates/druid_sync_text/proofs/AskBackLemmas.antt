-- An ask that was written is read back.
use Rattle.std.proofs.Common.{◌≡◌, ◌≢◌, ◌⊎◌, inl, ◌<◌, ◌≤◌, ◌^◌, ℕ, arith, true, ◌==◌, not, List, [], ◌∷◌, ◌++◌, All, codes, length, decimal, append_assoc, length-append, Some, Result, Ok, Err, IfOk, refl, sym, subst, ap, ◌∙◌, le-leb}
use Rattle.std.specs.List.{list_all}
use Rattle.std.specs.Str.Parse.{AllDigits}
use Rattle.std.proofs.lemmas.Bool.Decides.{nat_tests}
use Rattle.std.proofs.lemmas.Fmt.{decimal_is_IsNumeral}
use Rattle.std.proofs.lemmas.Str.Parse.{digit_from_value}
use Rattle.std.proofs.lemmas.List.Elements.{All-nil, All-cons, All-append}
use Rattle.std.proofs.lemmas.Bool.{and_parts}
use Rattle.form_urlencoded.specs.Form.{split_once, split_pair, raw_pairs}
use Rattle.form_urlencoded.proofs.FormLemmas.{raw_pairs-nil, raw_pairs_first, split_once_before_at, split_once_after_at, split_once_before_none, split_once_after_none}
use Rattle.druid_base.proofs.NumberLemmas.{number_at-found}
use Rattle.druid_segment_descriptor.specs.Mark.{Point, IsWord}
use Rattle.druid_segment_descriptor.specs.declared.change.Ask.{Ask}
use Rattle.druid_segment_descriptor.specs.declared.change.Ask.TheVariants.{Whole, Since, Page}
use Rattle.druid_sync_text.specs.Asks.{query_text, parameters_of, IsOfIncarnation, mark_of, page_of, page_at, page_query, ask_at, ask_of}

-- ---- bytes that separate nothing

-- the test of it
free_of : (s : ℕ) (bytes : List ℕ) → list_all (λ b. not (b == s)) bytes ≡ true → All (λ b. b ≢ s) bytes
free_of s [] free = All-nil (λ b. b ≢ s)
free_of s (b ∷ bytes) free =
    let both = and_parts (not (b == s)) (list_all (λ x. not (x == s)) bytes) free in
    All-cons (λ x. x ≢ s) b bytes (λ same. absurd (grind (arith, nat_tests, same, both.0))) (free_of s bytes both.1)

-- digits are neither `&` nor `=`
digits_free : (s : ℕ) (ds : List ℕ) → (s < 48) ⊎ (57 < s) → AllDigits 10 ds → All (λ b. b ≢ s) ds
digits_free s [] out all = All-nil (λ b. b ≢ s)
digits_free s (d ∷ ds) out all =
    let range = digit_from_value d all.0 in
    All-cons (λ x. x ≢ s) d ds (λ same. omega (arith, range.0, range.1, same, out)) (digits_free s ds out all.1)

-- ---- the two parameters

named : (name digits : List ℕ) → All (λ b. b ≢ 61) name → split_pair (name ++ 61 ∷ digits) ≡ (name, digits)
named name digits free = rw (split_once_before_at 61 name digits free, split_once_after_at 61 name digits free) refl

two_pairs : (first last one two : List ℕ) → All (λ b. b ≢ 61) first → All (λ b. b ≢ 61) last → All (λ b. b ≢ 38) (first ++ 61 ∷ one) → All (λ b. b ≢ 38) (last ++ 61 ∷ two)
    → raw_pairs ((first ++ 61 ∷ one) ++ 38 ∷ (last ++ 61 ∷ two)) ≡ (first, one) ∷ (last, two) ∷ []
two_pairs first last one two a b c d =
    let before = split_once_before_at 38 (first ++ 61 ∷ one) (last ++ 61 ∷ two) c in
    let after = split_once_after_at 38 (first ++ 61 ∷ one) (last ++ 61 ∷ two) c in
    let rest = split_once_before_none 38 (last ++ 61 ∷ two) d in
    let nothing = split_once_after_none 38 (last ++ 61 ∷ two) d in
    let some : 0 < length ((split_once 38 ((first ++ 61 ∷ one) ++ 38 ∷ (last ++ 61 ∷ two))).0) = rw before (omega (arith, length-append first (61 ∷ one))) in
    let more : 0 < length ((split_once 38 (last ++ 61 ∷ two)).0) = rw rest (omega (arith, length-append last (61 ∷ two))) in
    raw_pairs_first ((first ++ 61 ∷ one) ++ 38 ∷ (last ++ 61 ∷ two)) some
    ∙ rw (before, after) (ap (λ p. p ∷ raw_pairs (last ++ 61 ∷ two)) (named first one a))
    ∙ ap (λ ps. (first, one) ∷ ps) (raw_pairs_first (last ++ 61 ∷ two) more ∙ rw (rest, nothing) (rw (raw_pairs-nil) (ap (λ p. p ∷ []) (named last two b))))

asked_pairs : (m : Point) → IsWord m → raw_pairs (query_text m) ≡ (codes "counter", decimal m.count) ∷ (codes "hash", decimal m.incarnation) ∷ []
asked_pairs m word =
    let one = decimal m.count in
    let two = decimal m.incarnation in
    let ones = (decimal_is_IsNumeral m.count word.count).0.1 in
    let twos = (decimal_is_IsNumeral m.incarnation word.incarnation).0.1 in
    ap raw_pairs (sym (append_assoc (codes "counter=") one (codes "&hash=" ++ two)))
    ∙ two_pairs (codes "counter") (codes "hash") one two (free_of 61 (codes "counter") refl) (free_of 61 (codes "hash") refl)
    (All-append (λ b. b ≢ 38) (codes "counter=") one (free_of 38 (codes "counter=") refl) (digits_free 38 one (inl (omega arith)) ones))
    (All-append (λ b. b ≢ 38) (codes "hash=") two (free_of 38 (codes "hash=") refl) (digits_free 38 two (inl (omega arith)) twos))

mark_back : (m : Point) → IsWord m → 1 ≤ m.incarnation → mark_of (decimal m.count) (decimal m.incarnation) ≡ Some m
unfolding mark_of
mark_back m word some =
    let count = number_at-found (decimal m.count) m.count word.count refl in
    let incarnation = number_at-found (decimal m.incarnation) m.incarnation word.incarnation refl in
    let first = le-leb 1 m.incarnation some in
    rw (count, incarnation) (rw first refl)

-- an ask after a mark is read as that
pub ask_back : (m : Point) → IsWord m → 1 ≤ m.incarnation → ask_at (query_text m) ≡ Some (Since m)
unfolding ask_of
ask_back m word some = rw (asked_pairs m word) (rw (mark_back m word some) refl)

-- ---- the three parameters of a page

small_word : (page : ℕ) → page ≤ 65_535 → page < 2 ^ 64
small_word page low = omega (arith, low)

three_pairs : (first next last one two three : List ℕ) → All (λ b. b ≢ 61) first → All (λ b. b ≢ 61) next → All (λ b. b ≢ 61) last
    → All (λ b. b ≢ 38) (first ++ 61 ∷ one) → All (λ b. b ≢ 38) (next ++ 61 ∷ two) → All (λ b. b ≢ 38) (last ++ 61 ∷ three)
    → raw_pairs ((first ++ 61 ∷ one) ++ 38 ∷ ((next ++ 61 ∷ two) ++ 38 ∷ (last ++ 61 ∷ three))) ≡ (first, one) ∷ (next, two) ∷ (last, three) ∷ []
three_pairs first next last one two three a b c d e f =
    let others = (next ++ 61 ∷ two) ++ 38 ∷ (last ++ 61 ∷ three) in
    let before = split_once_before_at 38 (first ++ 61 ∷ one) others d in
    let after = split_once_after_at 38 (first ++ 61 ∷ one) others d in
    let some : 0 < length ((split_once 38 ((first ++ 61 ∷ one) ++ 38 ∷ others)).0) = rw before (omega (arith, length-append first (61 ∷ one))) in
    raw_pairs_first ((first ++ 61 ∷ one) ++ 38 ∷ others) some
    ∙ rw (before, after) (ap (λ p. p ∷ raw_pairs others) (named first one a))
    ∙ ap (λ ps. (first, one) ∷ ps) (two_pairs next last two three b c e f)

paged_pairs : (m : Point) (page : ℕ) → IsWord m → page < 2 ^ 64
    → raw_pairs (page_query m page) ≡ (codes "counter", decimal m.count) ∷ (codes "hash", decimal m.incarnation) ∷ (codes "page", decimal page) ∷ []
paged_pairs m page word small =
    let one = decimal m.count in
    let two = decimal m.incarnation in
    let three = decimal page in
    let ones = (decimal_is_IsNumeral m.count word.count).0.1 in
    let twos = (decimal_is_IsNumeral m.incarnation word.incarnation).0.1 in
    let threes = (decimal_is_IsNumeral page small).0.1 in
    ap raw_pairs (sym (append_assoc (codes "counter=") one (codes "&hash=" ++ (two ++ (codes "&page=" ++ three)))))
    ∙ ap (λ (rest : List ℕ). raw_pairs ((codes "counter=" ++ one) ++ 38 ∷ rest)) (sym (append_assoc (codes "hash=") two (codes "&page=" ++ three)))
    ∙ three_pairs (codes "counter") (codes "hash") (codes "page") one two three (free_of 61 (codes "counter") refl) (free_of 61 (codes "hash") refl) (free_of 61 (codes "page") refl)
    (All-append (λ b. b ≢ 38) (codes "counter=") one (free_of 38 (codes "counter=") refl) (digits_free 38 one (inl (omega arith)) ones))
    (All-append (λ b. b ≢ 38) (codes "hash=") two (free_of 38 (codes "hash=") refl) (digits_free 38 two (inl (omega arith)) twos))
    (All-append (λ b. b ≢ 38) (codes "page=") three (free_of 38 (codes "page=") refl) (digits_free 38 three (inl (omega arith)) threes))

number_back : (page : ℕ) → page ≤ 65_535 → page_of (decimal page) ≡ Some page
unfolding page_of
number_back page low =
    let read = number_at-found (decimal page) page (small_word page low) refl in
    let few = le-leb page 65_535 low in
    rw read (rw few refl)

page_at-decimal : (m : Point) (page : ℕ) → IsWord m → 1 ≤ m.incarnation → page ≤ 65_535 → page_at (decimal m.count) (decimal m.incarnation) (decimal page) ≡ Some (Page m page)
unfolding page_at
page_at-decimal m page word some low = rw (mark_back m word some, number_back page low) refl

-- an ask for a page is read as that
pub page_back : (m : Point) (page : ℕ) → IsWord m → 1 ≤ m.incarnation → page ≤ 65_535 → ask_at (page_query m page) ≡ Some (Page m page)
unfolding ask_of
page_back m page word some low = rw (paged_pairs m page word (small_word page low)) (page_at-decimal m page word some low)

-- no parameters ask for the whole
pub whole_back : ask_at [] ≡ Some Whole
unfolding ask_of
whole_back = rw raw_pairs-nil refl

-- what holds anyway holds where a call succeeds
any_ok : {A E : Type 0} (r : Result A E) (P : Type 0) → P → IfOk r (λ _. P)
any_ok (Ok x) P holds = holds
any_ok (Err e) P holds = tt

pub whole_target : {A E : Type 0} (r : Result A E) (ask : Ask) → ask ≡ Whole → IfOk r (λ _. IsOfIncarnation ask → ask_at (parameters_of ask) ≡ Some ask)
whole_target r ask is =
    any_ok r (IsOfIncarnation ask → ask_at (parameters_of ask) ≡ Some ask) (subst (λ a. IsOfIncarnation a → ask_at (parameters_of a) ≡ Some a) (sym is) (λ _. whole_back))

pub since_target : {A E : Type 0} (r : Result A E) (ask : Ask) (m : Point) → ask ≡ Since m → IsWord m → IfOk r (λ _. IsOfIncarnation ask → ask_at (parameters_of ask) ≡ Some ask)
since_target r ask m is word =
    any_ok r (IsOfIncarnation ask → ask_at (parameters_of ask) ≡ Some ask) (subst (λ a. IsOfIncarnation a → ask_at (parameters_of a) ≡ Some a) (sym is) (ask_back m word))

pub page_target : {A E : Type 0} (r : Result A E) (ask : Ask) (m : Point) (page : ℕ) → ask ≡ Page m page → IsWord m → page ≤ 65_535
    → IfOk r (λ _. IsOfIncarnation ask → ask_at (parameters_of ask) ≡ Some ask)
page_target r ask m page is word low =
    any_ok r (IsOfIncarnation ask → ask_at (parameters_of ask) ≡ Some ask)
    (subst (λ a. IsOfIncarnation a → ask_at (parameters_of a) ≡ Some a) (sym is) (λ some. page_back m page word some low))
