-- Texts by number that are put in order: marks, places, and the codes by them.
use Rattle.std.proofs.Common.{◌≡◌, ◌∙◌, ◌↔◌, ◌⊎◌, ℕ, zero, suc, ◌+◌, ◌-◌, ◌<◌, ◌≤◌, List, [], ◌∷◌, ◌++◌, length, map, take, drop, set, get_or, slice_get, Bool, true, false, bytes_eq, Option, Some, None, All, Contains, Ordering, Less, Equal, Greater, string_bytes, string_cmp, nat_cmp, is_some, ap, sym, refl, subst, arith, true≢false, ⊎_elim, inl, inr, append_assoc, length-set, get_or-set_same, get_or-set_other}
use Rattle.std.specs.List.{AllByRecursion}
use Rattle.std.specs.Option.{option_map}
use Rattle.std.specs.Ordering.{is_lt, ordering_then, ordering_reverse}
use Rattle.std.specs.Cmp.{nat_cmp_total, on_total, then_total}
use Rattle.std.specs.List.Sorted.{IsStrictlySortedBy, IsPermutation, IsSorted}
use Rattle.std.proofs.lemmas.Bool.{cases_eq}
use Rattle.std.proofs.lemmas.Cmp.{nat_list_cmp_total}
use Rattle.std.proofs.lemmas.List.{take_more, drop_more, map_more, length-map, length-take-le, length_push, get_or-map, get_or_at, set_at}
use Rattle.std.proofs.lemmas.List.Elements.{All-nil, All-cons, All-head, All-tail, All-push, All-contains, All-map, Contains-push, Contains-push_cases, Contains-append_left, Contains-get_or}
use Rattle.std.proofs.lemmas.List.Sorted.{ranks_by, sorted_far, All-permutation, Contains-permutation}
use Rattle.std.proofs.lemmas.Option.{slice_get_within, slice_get-get_or, slice_get-map, get_or_from_slice_get, same_Some}
use Rattle.std.proofs.lemmas.Slice.Eq.{bytes_eq-Decides}
use Rattle.druid_segment_id.proofs.OrderLemmas.{slice_cmp-Equal}
use Rattle.druid_base.proofs.MemberLemmas.{Contains-map, Contains-map_back}
use Rattle.druid_segment_rows.specs.Columns.{IsDictionary, value_at}
use Rattle.druid_segment_rows.specs.Numbering.{Entry, texts_in, AreNumbered, code_by_rank, with_mark, AreMarked, AreRising, HavePlaces}
use Rattle.druid_segment_rows.proofs.ColumnLemmas.{text_cmp}
use Rattle.druid_segment_rows.proofs.NumberingLemmas.{last_number, value_front}

-- ---- marks

pub length_with_mark : (ranks : List ℕ) (code : ℕ) → length (with_mark ranks code) ≡ length ranks
length_with_mark ranks zero = refl
length_with_mark ranks (suc k) = length-set ranks k 1

-- a mark stays
mark_stays : (ranks : List ℕ) (code number : ℕ) → number < length ranks → 0 < get_or ranks number 0 → 0 < get_or (with_mark ranks code) number 0
mark_stays ranks zero number h m = m
mark_stays ranks (suc k) number h m =
    ⊎_elim (λ (same : k ≡ number). subst (λ v. 0 < v) (sym (get_or-set_same ranks number 1 0 h) ∙ ap (λ n. get_or (set ranks n 1) number 0) (sym same)) (omega arith)) (λ (apart : k ≡ number → ⊥). subst (λ v. 0 < v) (sym (get_or-set_other ranks k number 1 0 (λ e. apart (sym e)))) m) (cases_eq k number)

mark_made : (ranks : List ℕ) (code number : ℕ) → number < length ranks → code ≡ suc number → 0 < get_or (with_mark ranks code) number 0
mark_made ranks code number h same =
    let here : 0 < get_or (with_mark ranks (suc number)) number 0 = subst (λ v. 0 < v) (sym (get_or-set_same ranks number 1 0 h)) (omega arith) in
    subst (λ c. 0 < get_or (with_mark ranks c) number 0) (sym same) here

mark_from : (ranks : List ℕ) (code number : ℕ) → 0 < get_or (with_mark ranks code) number 0 → (0 < get_or ranks number 0) ⊎ (code ≡ suc number)
mark_from ranks zero number m = inl m
mark_from ranks (suc k) number m =
    ⊎_elim (λ (same : k ≡ number). inr (ap suc same)) (λ (apart : k ≡ number → ⊥). inl (subst (λ v. 0 < v) (get_or-set_other ranks k number 1 0 (λ e. apart (sym e))) m)) (cases_eq k number)

pub marked_more : (codes ranks : List ℕ) (i code : ℕ) → i < length codes → code ≡ get_or codes i code → AreMarked (take i codes) ranks → AreMarked (take (i + 1) codes) (with_mark ranks code)
marked_more codes ranks i code lt is all number h =
    let front = take i codes in
    let within : number < length ranks = omega (arith, h, length_with_mark ranks code) in
    let next : take (i + 1) codes ≡ front ++ code ∷ [] = take_more codes i code lt ∙ ap (λ c. front ++ c ∷ []) (sym is) in
    subst (λ cs. 0 < get_or (with_mark ranks code) number 0 ↔ Contains cs (suc number)) (sym next) (λ m. ⊎_elim (λ old. Contains-append_left front (code ∷ []) (suc number) ((all number within).0 old)) (λ same. subst (Contains (front ++ code ∷ [])) same (Contains-push front code)) (mark_from ranks code number m), λ there. ⊎_elim (λ old. mark_stays ranks code number within ((all number within).1 old)) (λ same. mark_made ranks code number within same) (Contains-push_cases front code (suc number) there))

-- ---- a list written from its front

-- the next element, after those that are done
pub set_next : {X : Type 0} (xs done rest : List X) (x y : X) (i : ℕ) → length done ≡ i → xs ≡ done ++ x ∷ rest → set xs i y ≡ done ++ y ∷ [] ++ rest
set_next xs done rest x y i long is =
    ap (λ zs. set zs i y) is ∙ set_at done x rest y i long ∙ sym (append_assoc done (y ∷ []) rest)

pub mapped_next : {X : Type 0} (f : X → X) (xs now : List X) (i : ℕ) (y d : X) → i < length xs → now ≡ map f (take i xs) ++ drop i xs → y ≡ f (get_or now i d) → set now i y ≡ map f (take (i + 1) xs) ++ drop (i + 1) xs
mapped_next f xs now i y d lt is at =
    let done = map f (take i xs) in
    let x = get_or xs i d in
    let rest = drop (i + 1) xs in
    let long : length done ≡ i = length-map (take i xs) f ∙ length-take-le i xs (omega (arith, lt)) in
    let split : now ≡ done ++ x ∷ rest = is ∙ ap (λ zs. done ++ zs) (drop_more xs i d lt) in
    let here : y ≡ f x = at ∙ ap (λ zs. f (get_or zs i d)) split ∙ ap f (get_or_at done x rest d i long) in
    set_next now done rest x y i long split ∙ ap (λ z. done ++ z ∷ [] ++ rest) here ∙ ap (λ zs. zs ++ rest) (sym (map_more f xs i d lt))

-- ---- values of codes

pub contains_value : (values : List (List ℕ)) (n : ℕ) (text : List ℕ) → value_at values n ≡ Some text → Contains values text
contains_value values zero text e = absurd (true≢false (ap is_some (sym e)))
contains_value values (suc k) text e = (k, slice_get_within values k text e, get_or_from_slice_get values k text text e)

maps_agree : {A B C : Type 0} (f : B → C) (g : A → B) (h : A → C) (xs : List A) → All (λ x. f (g x) ≡ h x) xs → map f (map g xs) ≡ map h xs
maps_agree f g h [] all = refl
maps_agree f g h (x ∷ xs) all =
    let here = All-head (λ x. f (g x) ≡ h x) x xs all in
    let rest = maps_agree f g h xs (All-tail (λ x. f (g x) ≡ h x) x xs all) in
    λ i. here i ∷ rest i

-- the entry at a place
at_place : (es : List Entry) (k : ℕ) → k < length es → (e : Entry) × (get_or es k e ≡ e)
at_place [] k lt = absurd (omega arith)
at_place (e ∷ es) zero lt = (e, refl)
at_place (e ∷ es) (suc k) lt = at_place es k (omega (arith, lt))

above_zero : (values : List (List ℕ)) (text : List ℕ) → value_at values (length values) ≡ Some text → 0 < length values
above_zero [] text e = absurd (true≢false (ap is_some (sym e)))
above_zero (x ∷ xs) text e = omega arith

true_or_false : (b : Bool) → (b ≡ true) ⊎ (b ≡ false)
true_or_false true = inl refl
true_or_false false = inr refl

text_or_not : (value : Option (List ℕ)) (text : List ℕ) → (value ≡ Some text) ⊎ (value ≡ Some text → ⊥)
text_or_not None text = inr (λ same. absurd (true≢false (ap is_some (sym same))))
text_or_not (Some other) text =
    ⊎_elim (λ (same : bytes_eq other text ≡ true). inl (ap Some ((bytes_eq-Decides other text).0 same))) (λ (apart : bytes_eq other text ≡ false). inr (λ same. absurd (true≢false (sym ((bytes_eq-Decides other text).1 (same_Some other text same)) ∙ apart)))) (true_or_false (bytes_eq other text))

-- whether the last of the values is that text
pub last_or_not : (values : List (List ℕ)) (text : List ℕ) → (value_at values (length values) ≡ Some text) ⊎ (value_at values (length values) ≡ Some text → ⊥)
last_or_not values text = text_or_not (value_at values (length values)) text

none_apart : IsStrictlySortedBy text_cmp []
unfolding IsStrictlySortedBy
none_apart = tt

-- ---- order

rec_without : (P : List ℕ → Type 0) (xs ys : List (List ℕ)) (y : List ℕ) → AllByRecursion P (xs ++ y ∷ ys) → AllByRecursion P (xs ++ ys)
rec_without P [] ys y h = h.1
rec_without P (x ∷ xs) ys y h = (h.0, rec_without P xs ys y h.1)

rec_push : (P : List ℕ → Type 0) (xs : List (List ℕ)) (y : List ℕ) → AllByRecursion P xs → P y → AllByRecursion P (xs ++ y ∷ [])
rec_push P [] y h p = (p, tt)
rec_push P (x ∷ xs) y h p = (h.0, rec_push P xs y h.1 p)

rec_last : (P : List ℕ → Type 0) (xs : List (List ℕ)) (y : List ℕ) → AllByRecursion P (xs ++ y ∷ []) → P y
rec_last P [] y h = h.0
rec_last P (x ∷ xs) y h = rec_last P xs y h.1

rec_from : (P : List ℕ → Type 0) (xs : List (List ℕ)) → All P xs → AllByRecursion P xs
rec_from P [] h = tt
rec_from P (x ∷ xs) h = (All-head P x xs h, rec_from P xs (All-tail P x xs h))

rising_without : (xs ys : List (List ℕ)) (y : List ℕ) → AreRising (xs ++ y ∷ ys) → AreRising (xs ++ ys)
rising_without [] ys y h = h.1
rising_without (x ∷ xs) ys y h = (rec_without (λ z. text_cmp z x ≡ Less → ⊥) xs ys y h.0, rising_without xs ys y h.1)

rising_from : (xs : List (List ℕ)) → ((i j : ℕ) (d : List ℕ) → i ≤ j → j < length xs → text_cmp (get_or xs j d) (get_or xs i d) ≡ Less → ⊥) → AreRising xs
rising_from [] h = tt
rising_from (x ∷ xs) h =
    (rec_from (λ z. text_cmp z x ≡ Less → ⊥) xs (λ j d lt. h 0 (suc j) d (omega arith) (omega (arith, lt))), rising_from xs (λ i j d le lt. h (suc i) (suc j) d (omega (arith, le)) (omega (arith, lt))))

-- what is no lower and another is above
less_from : (x y : List ℕ) → (text_cmp y x ≡ Less → ⊥) → (x ≡ y → ⊥) → text_cmp x y ≡ Less
less_from x y back apart =
    elim (text_cmp x y) as (λ o. text_cmp x y ≡ o → text_cmp x y ≡ Less) [
      | Less ↦ λ less. less
      | Equal ↦ λ tie. absurd (apart (slice_cmp-Equal x y tie))
      | Greater ↦ λ more. absurd (back (nat_list_cmp_total.antisymm y x ∙ ap ordering_reverse more))
    ] refl

-- a text that is not the last goes after those that it is not below
apart_pushed : (values : List (List ℕ)) (text : List ℕ) (rest : List (List ℕ)) → IsStrictlySortedBy text_cmp values → AreRising (values ++ text ∷ rest) → (value_at values (length values) ≡ Some text → ⊥) → IsStrictlySortedBy text_cmp (values ++ text ∷ [])
unfolding IsStrictlySortedBy
apart_pushed [] text rest sorted rising other = (tt, tt)
apart_pushed (x ∷ []) text rest sorted rising other = ((less_from x text rising.0.0 (λ same. other (ap Some same)), tt), (tt, tt))
apart_pushed (x ∷ y ∷ values) text rest sorted rising other =
    let more = apart_pushed (y ∷ values) text rest sorted.1 rising.1 other in
    let above : text_cmp y text ≡ Less = rec_last (λ z. text_cmp y z ≡ Less) values text more.0 in
    (rec_push (λ z. text_cmp x z ≡ Less) (y ∷ values) text sorted.0 (nat_list_cmp_total.trans x y text sorted.0.0 above), more)

abbrev pub entry_cmp : Entry → Entry → Ordering
entry_cmp x y = ordering_then (string_cmp x.0 y.0) (nat_cmp x.1 y.1)

texts_rising : (es : List Entry) → IsSorted entry_cmp es → AreRising (texts_in es)
texts_rising es sorted =
    let total = then_total (on_total (λ (e : Entry). string_bytes e.0) nat_list_cmp_total) (on_total (λ (e : Entry). e.1) nat_cmp_total) in
    rising_from (texts_in es) (λ i j d le lt less.
    let inside : j < length es = omega (arith, lt, length-map es (λ (e : Entry). string_bytes e.0)) in
    let e = at_place es j inside in
    let far = sorted_far (λ x y. is_lt (entry_cmp x y)) (ranks_by total (λ (e : Entry). e)) es sorted i j e.0 le inside in
    let below : i < length es = omega (arith, le, inside) in
    let text : (k : ℕ) → k < length es → get_or (texts_in es) k d ≡ string_bytes (get_or es k e.0).0 = λ k lt. get_or-map (λ (e : Entry). string_bytes e.0) es k e.0 d lt in
    let less' : string_cmp (get_or es j e.0).0 (get_or es i e.0).0 ≡ Less = (λ n. text_cmp (sym (text j inside) n) (sym (text i below) n)) ∙ less in
    absurd (true≢false (ap (λ o. is_lt (ordering_then o (nat_cmp (get_or es j e.0).1 (get_or es i e.0).1))) (sym less') ∙ far)))

-- ---- one more entry

abbrev IsOneOf : List (List ℕ) → Entry → Type 0
IsOneOf texts entry = (1 ≤ entry.1) × (entry.1 ≤ length texts) × (value_at texts entry.1 ≡ Some (string_bytes entry.0))

module _ (texts : List (List ℕ)) (codes : List ℕ) (e : Entry) (left : List Entry) (values : List (List ℕ)) (ranks : List ℕ) (h : HavePlaces texts codes (e ∷ left) values ranks) where
  one : IsOneOf texts e
  one = All-head (IsOneOf texts) e left h.numbers

  within : e.1 - 1 < length ranks
  within = omega (arith, one.0, one.1, h.long)

  from_one : e.1 ≡ suc (e.1 - 1)
  from_one = omega (arith, one.0)

  pub placed_unused : get_or ranks (e.1 - 1) 0 ≡ 0 → HavePlaces texts codes left values ranks
  placed_unused none = record {
    rising = rising_without values (texts_in left) (string_bytes e.0) h.rising;
    apart = h.apart;
    occur = h.occur;
    long = h.long;
    numbers = All-tail (IsOneOf texts) e left h.numbers;
    marks = h.marks;
    places = λ code low there others. h.places code low there (All-cons (λ entry. entry.1 ≡ code → ⊥) e left (λ same.
        let mark = (h.marks (e.1 - 1) within).1 (subst (Contains codes) (sym same ∙ from_one) there) in
        absurd (omega (arith, mark, none))) others);
  }

  marked_again : (rank : ℕ) → 0 < get_or ranks (e.1 - 1) 0 → 0 < rank → AreMarked codes (set ranks (e.1 - 1) rank)
  marked_again rank some high place lt =
      let inside : place < length ranks = omega (arith, lt, length-set ranks (e.1 - 1) rank) in
      let mark = h.marks place inside in
      ⊎_elim (λ (same : e.1 - 1 ≡ place).
      let now : get_or (set ranks (e.1 - 1) rank) place 0 ≡ rank = ap (λ n. get_or (set ranks n rank) place 0) same ∙ get_or-set_same ranks place rank 0 inside in
      (λ m. mark.0 (subst (λ n. 0 < get_or ranks n 0) same some), λ there. subst (λ r. 0 < r) (sym now) high)) (λ (other : e.1 - 1 ≡ place → ⊥).
      let kept : get_or (set ranks (e.1 - 1) rank) place 0 ≡ get_or ranks place 0 = get_or-set_other ranks (e.1 - 1) place rank 0 (λ e. other (sym e)) in
      (λ m. mark.0 (subst (λ r. 0 < r) kept m), λ there. subst (λ r. 0 < r) (sym kept) (mark.1 there))) (cases_eq (e.1 - 1) place)

  -- the text is among these values, which go on as those before
  placed_at : (more : List (List ℕ)) (rank : ℕ) → 0 < get_or ranks (e.1 - 1) 0 → 0 < rank → length values ≤ length more → ((n : ℕ) → n ≤ length values → value_at more n ≡ value_at values n) → rank ≤ length more → value_at more rank ≡ Some (string_bytes e.0)
      → AreRising (more ++ texts_in left) → IsStrictlySortedBy text_cmp more → All (λ text. Contains (map (value_at texts) codes) (Some text)) more → HavePlaces texts codes left more (set ranks (e.1 - 1) rank)
  placed_at more rank some high longer front bound here rising apart occur = record {
    rising = rising;
    apart = apart;
    occur = occur;
    long = length-set ranks (e.1 - 1) rank ∙ h.long;
    numbers = All-tail (IsOneOf texts) e left h.numbers;
    marks = marked_again rank some high;
    places = λ code low there others. ⊎_elim (λ (same : e.1 ≡ code).
        let now : get_or (set ranks (e.1 - 1) rank) (code - 1) 0 ≡ rank = ap (λ c. get_or (set ranks (e.1 - 1) rank) (c - 1) 0) (sym same) ∙ get_or-set_same ranks (e.1 - 1) rank 0 within in
        (omega (arith, now, bound), ap (value_at more) now ∙ here ∙ sym one.2 ∙ ap (value_at texts) same)) (λ (other : e.1 ≡ code → ⊥).
        let old = h.places code low there (All-cons (λ entry. entry.1 ≡ code → ⊥) e left other others) in
        let now : get_or (set ranks (e.1 - 1) rank) (code - 1) 0 ≡ get_or ranks (code - 1) 0 = get_or-set_other ranks (e.1 - 1) (code - 1) rank 0 (λ same. other (omega (arith, same, low, one.0))) in
        (omega (arith, now, old.0, longer), ap (value_at more) now ∙ front (get_or ranks (code - 1) 0) old.0 ∙ old.1)) (cases_eq e.1 code);
  }

  pub placed_again : 0 < get_or ranks (e.1 - 1) 0 → value_at values (length values) ≡ Some (string_bytes e.0) → HavePlaces texts codes left values (set ranks (e.1 - 1) (length values))
  placed_again some last =
      placed_at values (length values) some (above_zero values (string_bytes e.0) last) (omega arith) (λ n le. refl) (omega arith) last (rising_without values (texts_in left) (string_bytes e.0) h.rising) h.apart h.occur

  pub placed_new : 0 < get_or ranks (e.1 - 1) 0 → (value_at values (length values) ≡ Some (string_bytes e.0) → ⊥) → HavePlaces texts codes left (values ++ string_bytes e.0 ∷ []) (set ranks (e.1 - 1) (suc (length values)))
  placed_new some other =
      let text = string_bytes e.0 in
      let more = values ++ text ∷ [] in
      let there = subst (Contains codes) (sym from_one) ((h.marks (e.1 - 1) within).0 some) in
      placed_at more (suc (length values)) some (omega arith) (omega (arith, length_push values text)) (λ n le. value_front values (text ∷ []) n le) (omega (arith, length_push values text)) (last_number values text) (subst AreRising (sym (append_assoc values (text ∷ []) (texts_in left))) h.rising) (apart_pushed values text (texts_in left) h.apart h.rising other) (All-push (λ t. Contains (map (value_at texts) codes) (Some t)) values text h.occur (subst (Contains (map (value_at texts) codes)) one.2 (Contains-map_back (value_at texts) codes e.1 there)))

pub zero_or : (n : ℕ) → (n ≡ 0) ⊎ (0 < n)
zero_or zero = inl refl
zero_or (suc n) = inr (omega arith)

-- ---- all entries

-- the entry of a number
entry_of : (es : List Entry) (code : ℕ) → AreNumbered es → 1 ≤ code → code ≤ length es → (e : Entry) × Contains es e × (e.1 ≡ code)
entry_of es code numbered low high =
    let inside : code - 1 < length es = omega (arith, low, high) in
    let at = at_place es (code - 1) inside in
    let number = ap (λ (x : Entry). x.1) (sym at.1) ∙ numbered (code - 1) at.0 inside in
    (at.0, (code - 1, inside, at.1), omega (arith, number, low))

text_at : (es : List Entry) (i : ℕ) (d : Entry) → i < length es → value_at (texts_in es) (suc i) ≡ Some (string_bytes (get_or es i d).0)
text_at es i d lt = slice_get-map (λ (e : Entry). string_bytes e.0) es i ∙ ap (option_map (λ (e : Entry). string_bytes e.0)) (slice_get-get_or es i d lt)

-- none is placed at first
pub placed_first : (es sorted : List Entry) (codes ranks : List ℕ) → AreNumbered es → IsPermutation es sorted → IsSorted entry_cmp sorted → All (λ code. code ≤ length (texts_in es)) codes → length ranks ≡ length es → AreMarked codes ranks → HavePlaces (texts_in es) codes sorted [] ranks
placed_first es sorted codes ranks numbered same order bounded long marks =
    let f = λ (e : Entry). string_bytes e.0 in
    record {
      rising = texts_rising sorted order;
      apart = none_apart;
      occur = All-nil (λ t. Contains (map (value_at (texts_in es)) codes) (Some t));
      long = long ∙ sym (length-map es f);
      numbers = All-permutation (IsOneOf (texts_in es)) es sorted same (λ i d lt.
          let number = numbered i d lt in
          let inside : i < length (texts_in es) = omega (arith, lt, length-map es f) in
          (omega (arith, number), omega (arith, number, inside), ap (value_at (texts_in es)) number ∙ text_at es i d lt));
      marks = marks;
      places = λ code low there none.
          let high : code ≤ length (texts_in es) = All-contains (λ c. c ≤ length (texts_in es)) codes code bounded there in
          let e = entry_of es code numbered low (omega (arith, high, length-map es f)) in
          let p = Contains-permutation es sorted e.0 same e.1 in
          absurd (none p.0 e.0 p.1 (ap (λ (x : Entry). x.1) p.2 ∙ e.2));
    }

module _ (texts : List (List ℕ)) (codes : List ℕ) (values : List (List ℕ)) (ranks : List ℕ) (h : HavePlaces texts codes [] values ranks) where
  code_placed : (code : ℕ) → Contains codes code → (code_by_rank ranks code ≤ length values) × (value_at values (code_by_rank ranks code) ≡ value_at texts code)
  code_placed zero there = (omega arith, refl)
  code_placed (suc k) there =
      let p = h.places (suc k) (omega arith) there (All-nil (λ (entry : Entry). entry.1 ≡ suc k → ⊥)) in
      let same : suc k - 1 ≡ k = omega arith in
      subst (λ j. (get_or ranks j 0 ≤ length values) × (value_at values (get_or ranks j 0) ≡ slice_get texts k)) same p

  pub dictionary_placed : IsDictionary (map (value_at texts) codes) values
  dictionary_placed = record {
    rising = h.apart;
    occur = λ text. (
      λ there. All-contains (λ t. Contains (map (value_at texts) codes) (Some t)) values text h.occur there,
      λ there.
          let p = Contains-map (value_at texts) codes (Some text) there in
          contains_value values (code_by_rank ranks p.0) text ((code_placed p.0 p.1).1 ∙ p.2),
    );
  }

  pub stand_placed : map (value_at values) (map (code_by_rank ranks) codes) ≡ map (value_at texts) codes
  stand_placed =
      maps_agree (value_at values) (code_by_rank ranks) (value_at texts) codes (λ i d lt. (code_placed (get_or codes i d) (Contains-get_or codes i d lt)).1)

  pub bounded_placed : All (λ code. code ≤ length values) (map (code_by_rank ranks) codes)
  bounded_placed = All-map (λ code. code ≤ length values) (code_by_rank ranks) codes (λ i d lt. (code_placed (get_or codes i d) (Contains-get_or codes i d lt)).0)
