-- The skyline of the chunks that a sweep has passed.
use Rattle.std.proofs.Common.{◌≡◌, ◌+◌, ◌-◌, ◌<◌, ◌≤◌, ◌⊎◌, ◌++◌, ℕ, zero, suc, nat_lt, nat_cmp, List, [], ◌∷◌, length, get_or, take, drop, map, Option, Some, None, MatchOption, refl, sym, ap, ◌∙◌, subst, inl, inr, arith, Bor}
use Rattle.std.specs.List.{Contains, AllWithin}
use Rattle.std.specs.List.Sorted.{IsPermutation, IsNonDecreasingBy, IsPartitionedBy}
use Rattle.std.specs.Ordering.{is_le}
use Rattle.std.proofs.lemmas.Bool.{cases_lt, lt-ltb, ltb-true}
use Rattle.std.proofs.lemmas.List.{map-append, length-map, get_or-map, take-map, drop-map, take-append-drop, take-append-le, drop-append-le, take-take, take_at, take_more, take_all, drop_all, length-append, length-take-le, get_or-take, get_or-drop, length-take, length-drop}
use Rattle.std.proofs.lemmas.List.Elements.{Contains-get_or, Contains-push, Contains-push_cases, Contains-append_left, Contains-append_right, Contains-append_cases}
use Rattle.std.proofs.lemmas.List.Sorted.{Contains-permutation, IsNonDecreasingBy-drop}
use Rattle.druid_base.proofs.MemberLemmas.{Contains-nil, Contains-cons, Contains-later, Contains-map, Contains-map_back}
use Rattle.druid_base.proofs.OrderLemmas.{is_le-from}
use Rattle.druid_time.proofs.ExtentLemmas.{at_most}
use Rattle.druid_segment_id.specs.Group.{Group, Outranks}
use Rattle.druid_segment_id.proofs.GroupLemmas.{Outranks-cases, Outranks-onward, Outranks-one_way}
use Rattle.druid_timeline.specs.Candidates.{IsCandidateOf, IsBestOf}
use Rattle.druid_timeline.specs.Skyline.{StartInOrder, EndLater, StandsAfter, IsSkyline, IsCovered, IsTop, IsSkylineOf}
use Rattle.druid_timeline.proofs.SweepLemmas.{SeenBetween, drop_next}

-- ---- borrowed items

abbrev pub borrowed : List (Bor Group) → List Group
borrowed items = map (λ (c : Bor Group). c.now) items

pub borrowed_push : (items : List (Bor Group)) (item : Bor Group) → borrowed (items ++ item ∷ []) ≡ borrowed items ++ item.now ∷ []
borrowed_push items item = map-append (λ (c : Bor Group). c.now) items (item ∷ [])

pub borrowed_within : (items : List (Bor Group)) (place : ℕ) → place < length items → place < length (borrowed items)
borrowed_within items place l = subst (λ (n : ℕ). place < n) (sym (length-map items (λ (c : Bor Group). c.now))) l

pub borrowed_at : (items : List (Bor Group)) (place : ℕ) (item : Bor Group) → place < length items → item ≡ get_or items place item → item.now ≡ get_or (borrowed items) place item.now
borrowed_at items place item l at = ap (λ (c : Bor Group). c.now) at ∙ sym (get_or-map (λ (c : Bor Group). c.now) items place item item.now l)

-- a list in another order has the same chunks
pub borrowed_moved : (xs ys : List (Bor Group)) → IsPermutation xs ys → (g : Group) → Contains (borrowed xs) g → Contains (borrowed ys) g
borrowed_moved xs ys moved g there =
    let found = Contains-map (λ (c : Bor Group). c.now) xs g there in
    subst (Contains (borrowed ys)) found.2 (Contains-map_back (λ (c : Bor Group). c.now) ys found.0 (Contains-permutation xs ys found.0 moved found.1))

pub borrowed_order : (xs : List (Bor Group)) → IsNonDecreasingBy (λ (c : Bor Group). c.now.interval.start) xs → StartInOrder (borrowed xs)
borrowed_order [] up i j d le l = absurd (omega (arith, l))
borrowed_order (x ∷ xs) up i j d le l =
    let below : j < length (x ∷ xs) = subst (λ (n : ℕ). j < n) (length-map (x ∷ xs) (λ (c : Bor Group). c.now)) l in
    let at_i = get_or-map (λ (c : Bor Group). c.now) (x ∷ xs) i x d (omega (arith, le, below)) in
    let at_j = get_or-map (λ (c : Bor Group). c.now) (x ∷ xs) j x d below in
    let rises = up i j x le below in
    let start_i = ap (λ (g : Group). g.interval.start) at_i in
    let start_j = ap (λ (g : Group). g.interval.start) at_j in
    omega (arith, rises, start_i, start_j)

pub length-borrowed : (items : List (Bor Group)) → length (borrowed items) ≡ length items
length-borrowed items = length-map items (λ (c : Bor Group). c.now)

-- ---- places

within_take : {X : Type 0} (P : X → Type 0) (xs : List X) (i : ℕ) → i ≤ length xs → AllWithin P xs 0 i → (x : X) → Contains (take i xs) x → P x
within_take P xs i le all x (k, l, at) =
    let below : k < i = omega (arith, l, length-take i xs, le) in
    subst P (sym (get_or-take i xs k x below) ∙ at) (all k x (omega arith) below)

within_drop : {X : Type 0} (P : X → Type 0) (xs : List X) (i : ℕ) → AllWithin P xs i (length xs) → (x : X) → Contains (drop i xs) x → P x
within_drop P xs i all x (k, l, at) =
    subst P (sym (get_or-drop i xs k x) ∙ at) (all (i + k) x (omega arith) (omega (arith, l, length-drop i xs)))

pub taken_borrowed : (P : Group → Type 0) (xs : List (Bor Group)) (i : ℕ) → i ≤ length xs → AllWithin (λ (c : Bor Group). P c.now) xs 0 i → (g : Group) → Contains (take i (borrowed xs)) g → P g
taken_borrowed P xs i le all g there =
    let found = Contains-map (λ (c : Bor Group). c.now) (take i xs) g (subst (λ (ys : List Group). Contains ys g) (take-map (λ (c : Bor Group). c.now) i xs) there) in
    subst P found.2 (within_take (λ (c : Bor Group). P c.now) xs i le all found.0 found.1)

pub left_borrowed : (P : Group → Type 0) (xs : List (Bor Group)) (i : ℕ) → AllWithin (λ (c : Bor Group). P c.now) xs i (length xs) → (g : Group) → Contains (drop i (borrowed xs)) g → P g
left_borrowed P xs i all g there =
    let found = Contains-map (λ (c : Bor Group). c.now) (drop i xs) g (subst (λ (ys : List Group). Contains ys g) (drop-map (λ (c : Bor Group). c.now) i xs) there) in
    subst P found.2 (within_drop (λ (c : Bor Group). P c.now) xs i all found.0 found.1)

in_take : (xs : List Group) (i k : ℕ) (g : Group) → k < i → k < length xs → get_or xs k g ≡ g → Contains (take i xs) g
in_take xs i k g below l at = (k, omega (arith, below, l, length-take i xs), get_or-take i xs k g below ∙ at)

in_drop : (xs : List Group) (i k : ℕ) (g : Group) → i ≤ k → k < length xs → get_or xs k g ≡ g → Contains (drop i xs) g
in_drop xs i k g from l at =
    let e : i + (k - i) ≡ k = omega (arith, from) in
    (k - i, omega (arith, from, l, length-drop i xs), get_or-drop i xs (k - i) g ∙ ap (λ (j : ℕ). get_or xs j g) e ∙ at)

pub of_take : (xs : List Group) (i : ℕ) (g : Group) → Contains (take i xs) g → Contains xs g
of_take xs i g there = subst (λ (ys : List Group). Contains ys g) (take-append-drop i xs) (Contains-append_left (take i xs) (drop i xs) g there)

of_drop : (xs : List Group) (i : ℕ) (g : Group) → Contains (drop i xs) g → Contains xs g
of_drop xs i g there = subst (λ (ys : List Group). Contains ys g) (take-append-drop i xs) (Contains-append_right (take i xs) (drop i xs) g there)

pub parts_at : (xs : List Group) (i : ℕ) (g : Group) → Contains xs g → Contains (take i xs) g ⊎ Contains (drop i xs) g
parts_at xs i g there = Contains-append_cases (take i xs) (drop i xs) g (subst (λ (ys : List Group). Contains ys g) (sym (take-append-drop i xs)) there)

-- what stands from a place on stands from an earlier one on
drop_later : (xs : List Group) (i j : ℕ) (g : Group) → i ≤ j → Contains (drop j xs) g → Contains (drop i xs) g
drop_later xs i j g le (k, l, at) =
    let e = get_or-drop j xs k g in
    in_drop xs i (j + k) g (omega (arith, le)) (omega (arith, l, length-drop j xs)) (sym e ∙ at)

-- ---- skylines

IsSkyline-append : (xs ys : List Group) → IsSkyline xs → IsSkyline ys → ((a b : Group) → Contains xs a → Contains ys b → StandsAfter a b) → IsSkyline (xs ++ ys)
IsSkyline-append [] ys hx hy cross = hy
IsSkyline-append (x ∷ xs) ys hx hy cross = (
  λ b there. elim (Contains-append_cases xs ys b there) [
    | inl here ↦ hx.0 b here
    | inr later ↦ cross x b (0, omega arith, refl) later
  ],
  IsSkyline-append xs ys hx.1 hy (λ a b ha hb. cross a b (Contains-later x xs a ha) hb),
)

IsSkyline-left : (xs ys : List Group) → IsSkyline (xs ++ ys) → IsSkyline xs
IsSkyline-left [] ys h = tt
IsSkyline-left (x ∷ xs) ys h = (λ b there. h.0 b (Contains-append_left xs ys b there), IsSkyline-left xs ys h.1)

IsSkyline-right : (xs ys : List Group) → IsSkyline (xs ++ ys) → IsSkyline ys
IsSkyline-right [] ys h = h
IsSkyline-right (x ∷ xs) ys h = IsSkyline-right xs ys h.1

IsSkyline-across : (xs ys : List Group) → IsSkyline (xs ++ ys) → (a b : Group) → Contains xs a → Contains ys b → StandsAfter a b
IsSkyline-across [] ys h a b there later = absurd (Contains-nil a there)
IsSkyline-across (x ∷ xs) ys h a b there later = elim (Contains-cons x xs a there) [
  | inl same ↦ subst (λ (y : Group). StandsAfter y b) same (h.0 b (Contains-append_right xs ys b later))
  | inr more ↦ IsSkyline-across xs ys h.1 a b more later
]

pub IsSkyline-take : (sky : List Group) (i : ℕ) → IsSkyline sky → IsSkyline (take i sky)
IsSkyline-take sky i h = IsSkyline-left (take i sky) (drop i sky) (subst IsSkyline (sym (take-append-drop i sky)) h)

IsSkyline-drop : (sky : List Group) (i : ℕ) → IsSkyline sky → IsSkyline (drop i sky)
IsSkyline-drop sky i h = IsSkyline-right (take i sky) (drop i sky) (subst IsSkyline (sym (take-append-drop i sky)) h)

across_at : (sky : List Group) (i : ℕ) → IsSkyline sky → (a b : Group) → Contains (take i sky) a → Contains (drop i sky) b → StandsAfter a b
across_at sky i h = IsSkyline-across (take i sky) (drop i sky) (subst IsSkyline (sym (take-append-drop i sky)) h)

-- the last before a place has the greatest rank of those, and none of them ends before it
last_before : (sky : List Group) (place : ℕ) (b : Group) → IsSkyline sky → 0 < place → place ≤ length sky → b ≡ get_or sky (place - 1) b → Contains (take place sky) b × ((g : Group) → Contains (take place sky) g → (g ≡ b) ⊎ StandsAfter g b)
last_before sky place b h pos le at = (
  subst (λ (xs : List Group). Contains xs b) (sym e) (Contains-push (take (place - 1) sky) b),
  λ g there. elim (Contains-push_cases (take (place - 1) sky) b g (subst (λ (xs : List Group). Contains xs g) e there)) [
    | inl before ↦ inr (IsSkyline-across (take (place - 1) sky) (b ∷ []) (subst IsSkyline e (IsSkyline-take sky place h)) g b before (0, omega arith, refl))
    | inr same ↦ inl (sym same)
  ],
) where
  e : take place sky ≡ take (place - 1) sky ++ b ∷ []
  e =
      let k : place ≡ place - 1 + 1 = omega (arith, pos) in
      let l : place - 1 < length sky = omega (arith, pos, le) in
      ap (λ (j : ℕ). take j sky) k ∙ take_more sky (place - 1) b l ∙ ap (λ (x : Group). take (place - 1) sky ++ x ∷ []) (sym at)

-- where a chunk outranks the last before a place, it outranks all of those
pub beats_all : (sky : List Group) (place : ℕ) (b key : Group) → IsSkyline sky → 0 < place → place ≤ length sky → b ≡ get_or sky (place - 1) b → Outranks key b → (g : Group) → Contains (take place sky) g → Outranks key g
beats_all sky place b key h pos le at above g there = elim ((last_before sky place b h pos le at).1 g there) [
  | inl same ↦ subst (Outranks key) (sym same) above
  | inr lower ↦ Outranks-onward key b g above lower.0
]

-- where it does not, the last is as good
pub beaten_by_last : (sky : List Group) (place : ℕ) (b key : Group) → IsSkyline sky → 0 < place → place ≤ length sky → b ≡ get_or sky (place - 1) b → (Outranks key b → ⊥) → (g : Group) × Contains (take place sky) g × ((key ≡ g) ⊎ Outranks g key)
beaten_by_last sky place b key h pos le at not = (
  b,
  (last_before sky place b h pos le at).0,
  elim (Outranks-cases key b) [
    | inl above ↦ absurd (not above)
    | inr (inl same) ↦ inl same
    | inr (inr below) ↦ inr below
  ],
)

-- the last of all is the best
pub IsTop-last : (sky : List Group) (b : Group) → IsSkyline sky → 0 < length sky → b ≡ get_or sky (length sky - 1) b → IsTop sky b
IsTop-last sky b h pos at =
    let last = last_before sky (length sky) b h pos (omega arith) at in
    let whole : take (length sky) sky ≡ sky = take_all (length sky) sky (omega arith) in record {
      there = subst (λ (xs : List Group). Contains xs b) whole last.0;
      rank = λ g there. elim (last.1 g (subst (λ (xs : List Group). Contains xs g) (sym whole) there)) [
        | inl same ↦ inl same
        | inr lower ↦ inr lower.0
      ];
      end = λ g there. elim (last.1 g (subst (λ (xs : List Group). Contains xs g) (sym whole) there)) [
        | inl same ↦ let e = ap (λ (x : Group). x.interval.end) same in omega (arith, e)
        | inr lower ↦ lower.1
      ];
    }

-- those after one that a chunk does not outrank are not outranked by it either
pub none_after : (sky : List Group) (to : ℕ) (b key : Group) → IsSkyline sky → to < length sky → b ≡ get_or sky to b → (Outranks key b → ⊥) → (g : Group) → Contains (drop to sky) g → Outranks key g → ⊥
none_after sky to b key h l at not g there above =
    let next = drop_next sky to b l at in
    let order = subst IsSkyline next (IsSkyline-drop sky to h) in
    elim (Contains-cons b (drop (to + 1) sky) g (subst (λ (xs : List Group). Contains xs g) next there)) [
      | inl same ↦ not (subst (Outranks key) (sym same) above)
      | inr later ↦ not (Outranks-onward key g b above (order.0 g later).0)
    ]

-- ---- ends fall towards the back

ends_fall : (xs : List (Bor Group)) → IsSkyline (borrowed xs) → (i j : ℕ) (d : Bor Group) → i ≤ j → j < length xs → (get_or xs j d).now.interval.end ≤ (get_or xs i d).now.interval.end
ends_fall [] h i j d le l = absurd (omega (arith, l))
ends_fall (x ∷ xs) h zero zero d le l = omega arith
ends_fall (x ∷ xs) h zero (suc j) d le l = (h.0 (get_or xs j d).now (Contains-map_back (λ (c : Bor Group). c.now) xs (get_or xs j d) (Contains-get_or xs j d (omega (arith, l))))).1
ends_fall (x ∷ xs) h (suc i) zero d le l = absurd (omega (arith, le))
ends_fall (x ∷ xs) h (suc i) (suc j) d le l = ends_fall xs h.1 i j d (omega (arith, le)) (omega (arith, l))

pub parted_to : (xs : List (Bor Group)) (t : ℕ) → IsSkyline (borrowed xs) → IsPartitionedBy (λ (c : Bor Group). is_le (nat_cmp t c.now.interval.end)) xs
parted_to xs t h i j d low below e =
    let fall = ends_fall xs h i j d low below in
    let to = at_most t (get_or xs j d).now.interval.end e in
    is_le-from t (get_or xs i d).now.interval.end (omega (arith, fall, to))

pub parted_past : (xs : List (Bor Group)) (t : ℕ) → IsSkyline (borrowed xs) → IsPartitionedBy (λ (c : Bor Group). nat_lt t c.now.interval.end) xs
parted_past xs t h i j d low below e =
    let fall = ends_fall xs h i j d low below in
    let past = ltb-true t (get_or xs j d).now.interval.end e in
    lt-ltb t (get_or xs i d).now.interval.end (omega (arith, fall, past))

-- ---- a chunk that is taken in

-- a chunk takes the place of those that it covers: those before end no sooner, those after outrank it
pub record IsTakenIn (sky : List Group) (place to : ℕ) (key : Group) : Type 0 where
  pub order : IsSkyline sky
  pub within : place ≤ to
  pub longer : (g : Group) → Contains (take place sky) g → key.interval.end ≤ g.interval.end
  pub beats : (g : Group) → Contains (take place sky) g → Outranks key g
  pub shorter : (g : Group) → Contains (drop place sky) g → g.interval.end < key.interval.end
  pub beaten : AllWithin (Outranks key) sky place to
  pub rest : (g : Group) → Contains (drop to sky) g → Outranks key g → ⊥

abbrev pub replaced : List Group → ℕ → ℕ → Group → List Group
replaced sky place to key = take place sky ++ key ∷ drop to sky

-- by what is said of equal lists
pub taken_in : (sky one two three : List (Bor Group)) (place to end : ℕ) (key : Group) → one ≡ sky → two ≡ sky → three ≡ sky → end ≡ key.interval.end → IsSkyline (borrowed sky) → place ≤ to
    → ((g : Group) → Contains (take place (borrowed one)) g → end ≤ g.interval.end) → ((g : Group) → Contains (drop place (borrowed one)) g → g.interval.end < end)
    → ((g : Group) → Contains (take place (borrowed two)) g → Outranks key g)
    → AllWithin (Outranks key) (borrowed three) place to → ((g : Group) → Contains (drop to (borrowed three)) g → Outranks key g → ⊥) → IsTakenIn (borrowed sky) place to key
taken_in sky one two three place to end key e f h is order within longer shorter beats beaten rest = record {
  order = order;
  within = within;
  longer = λ g there. let l = longer g (subst (λ (xs : List (Bor Group)). Contains (take place (borrowed xs)) g) (sym e) there) in omega (arith, l, is);
  beats = λ g there. beats g (subst (λ (xs : List (Bor Group)). Contains (take place (borrowed xs)) g) (sym f) there);
  shorter = λ g there. let l = shorter g (subst (λ (xs : List (Bor Group)). Contains (drop place (borrowed xs)) g) (sym e) there) in omega (arith, l, is);
  beaten = subst (λ (xs : List (Bor Group)). AllWithin (Outranks key) (borrowed xs) place to) h beaten;
  rest = λ g there. rest g (subst (λ (xs : List (Bor Group)). Contains (drop to (borrowed xs)) g) (sym h) there);
}

-- how many there are then
pub length-replaced : (sky : List Group) (place to : ℕ) (key : Group) → place ≤ to → to ≤ length sky → length (replaced sky place to key) ≡ place + suc (length sky - to)
length-replaced sky place to key order le =
    let both = length-append (take place sky) (key ∷ drop to sky) in
    let front = length-take-le place sky (omega (arith, order, le)) in
    let back = length-drop to sky in
    omega (arith, both, front, back)

pub replaced_order : (sky : List Group) (place to : ℕ) (key : Group) → IsTakenIn sky place to key → IsSkyline (replaced sky place to key)
replaced_order sky place to key h =
    IsSkyline-append (take place sky) (key ∷ drop to sky) (IsSkyline-take sky place h.order) (λ b there. lower b there, IsSkyline-drop sky to h.order) (λ a b ha hb. by_place a b ha (Contains-cons key (drop to sky) b hb)) where
      lower : (b : Group) → Contains (drop to sky) b → StandsAfter key b
      lower b there =
          let short = h.shorter b (drop_later sky place to b h.within there) in (
            elim (Outranks-cases key b) [
              | inl above ↦ absurd (h.rest b there above)
              | inr (inl same) ↦ let e = ap (λ (x : Group). x.interval.end) same in absurd (omega (arith, e, short))
              | inr (inr below) ↦ below
            ],
            omega (arith, short),
          )

      by_place : (a b : Group) → Contains (take place sky) a → (key ≡ b) ⊎ Contains (drop to sky) b → StandsAfter a b
      by_place a b ha (inl same) = subst (StandsAfter a) same (h.beats a ha, h.longer a ha)
      by_place a b ha (inr later) = across_at sky place h.order a b ha (drop_later sky place to b h.within later)

pub replaced_among : (sky : List Group) (place to : ℕ) (key g : Group) → Contains (replaced sky place to key) g → Contains sky g ⊎ (g ≡ key)
replaced_among sky place to key g there = elim (Contains-append_cases (take place sky) (key ∷ drop to sky) g there) [
  | inl before ↦ inl (of_take sky place g before)
  | inr after ↦ elim (Contains-cons key (drop to sky) g after) [
    | inl same ↦ inr (sym same)
    | inr later ↦ inl (of_drop sky to g later)
  ]
]

key_there : (sky : List Group) (place to : ℕ) (key : Group) → Contains (replaced sky place to key) key
key_there sky place to key = Contains-append_right (take place sky) (key ∷ drop to sky) key (0, omega arith, refl)

pub replaced_covers : (sky : List Group) (place to : ℕ) (key : Group) → IsCovered (replaced sky place to key) key
replaced_covers sky place to key = (key, key_there sky place to key, inl refl, omega arith)

pub replaced_keeps : (sky : List Group) (place to : ℕ) (key : Group) → IsTakenIn sky place to key → (g : Group) → IsCovered sky g → IsCovered (replaced sky place to key) g
replaced_keeps sky place to key h g (s, (k, l, at), rank, end) = elim (cases_lt k place) [
  | inl early ↦ (s, Contains-append_left (take place sky) (key ∷ drop to sky) s (in_take sky place k s early l at), rank, end)
  | inr from ↦ elim (cases_lt k to) [
    | inl mid ↦
        let above : Outranks key s = subst (Outranks key) at (h.beaten k s from mid) in
        let short = h.shorter s (in_drop sky place k s from l at) in
        (key, key_there sky place to key, inr (over above rank), omega (arith, short, end))
    | inr late ↦ (s, Contains-append_right (take place sky) (key ∷ drop to sky) s (Contains-later key (drop to sky) s (in_drop sky to k s late l at)), rank, end)
  ]
] where
  over : Outranks key s → (g ≡ s) ⊎ Outranks s g → Outranks key g
  over above (inl same) = subst (Outranks key) (sym same) above
  over above (inr below) = Outranks-onward key s g above below

-- a list of which a part is taken out, and one put in
pub length-taken_out : (xs : List (Bor Group)) (from to : ℕ) → from ≤ to → to ≤ length xs → length (take from xs ++ drop to xs) ≡ length xs - (to - from)
length-taken_out xs from to order le =
    let both = length-append (take from xs) (drop to xs) in
    let one = length-take from xs in
    let two = length-drop to xs in
    omega (arith, both, one, two, order, le)

drop_front : {X : Type 0} (xs ys : List X) (n : ℕ) → length xs ≡ n → drop n (xs ++ ys) ≡ ys
drop_front {X} xs ys n l = drop-append-le n xs ys (omega (arith, l)) ∙ ap (λ (zs : List X). zs ++ ys) (drop_all n xs (omega (arith, l)))

-- one more of them is taken out
pub one_out : (old now next : List (Bor Group)) (end to : ℕ) → 0 < end → end ≤ to → to ≤ length old → now ≡ take end old ++ drop to old → next ≡ take (end - 1) now ++ drop (suc (end - 1)) now → next ≡ take (end - 1) old ++ drop to old
one_out old now next end to pos order le items out =
    let l : length (take end old) ≡ end = length-take-le end old (omega (arith, order, le)) in
    let e : suc (end - 1) ≡ end = omega (arith, pos) in
    let front : take (end - 1) now ≡ take (end - 1) old = ap (take (end - 1)) items ∙ take-append-le (end - 1) (take end old) (drop to old) (omega (arith, l)) ∙ take-take (end - 1) end old (omega arith) in
    let back : drop (suc (end - 1)) now ≡ drop to old = ap (λ (n : ℕ). drop n now) e ∙ ap (drop end) items ∙ drop_front (take end old) (drop to old) end l in
    out ∙ ap (λ (xs : List (Bor Group)). xs ++ drop (suc (end - 1)) now) front ∙ ap (λ (xs : List (Bor Group)). take (end - 1) old ++ xs) back

pub borrowed_replaced : (old mid new : List (Bor Group)) (from to : ℕ) (key : Bor Group) → from ≤ to → to ≤ length old → mid ≡ take from old ++ drop to old → new ≡ take from mid ++ key ∷ drop from mid → borrowed new ≡ replaced (borrowed old) from to key.now
borrowed_replaced old mid new from to key order le out in' =
    let l : length (take from old) ≡ from = length-take-le from old (omega (arith, order, le)) in
    let front : take from mid ≡ take from old = ap (take from) out ∙ take_at (take from old) (drop to old) from l in
    let back : drop from mid ≡ drop to old = ap (drop from) out ∙ drop_front (take from old) (drop to old) from l in
    let items : new ≡ take from old ++ key ∷ drop to old = in' ∙ ap (λ (xs : List (Bor Group)). xs ++ key ∷ drop from mid) front ∙ ap (λ (xs : List (Bor Group)). take from old ++ key ∷ xs) back in
    ap borrowed items
    ∙ map-append (λ (c : Bor Group). c.now) (take from old) (key ∷ drop to old)
    ∙ ap (λ (xs : List Group). xs ++ key.now ∷ borrowed (drop to old)) (sym (take-map (λ (c : Bor Group). c.now) from old))
    ∙ ap (λ (xs : List Group). take from (borrowed old) ++ key.now ∷ xs) (sym (drop-map (λ (c : Bor Group). c.now) to old))

-- one that ends no sooner is as good
pub covered_by : (sky : List Group) (place : ℕ) (key : Group) → ((g : Group) → Contains (take place sky) g → key.interval.end ≤ g.interval.end) → (g : Group) × Contains (take place sky) g × ((key ≡ g) ⊎ Outranks g key) → IsCovered sky key
covered_by sky place key longer (g, there, rank) = (g, of_take sky place g there, rank, longer g there)

-- ---- one instant after another

pub IsSkylineOf-start : (chunks sky : List Group) (t : ℕ) → sky ≡ [] → IsSkylineOf chunks (drop 0 chunks) sky t
IsSkylineOf-start chunks sky t none = record {
  among = λ g there. absurd (Contains-nil g (subst (λ (xs : List Group). Contains xs g) none there));
  order = subst IsSkyline (sym none) tt;
  all = λ g there. inl there;
}

pub IsSkylineOf-later : (chunks rest sky : List Group) (t u : ℕ) → IsSkylineOf chunks rest sky t → t ≤ u → IsSkylineOf chunks rest sky u
IsSkylineOf-later chunks rest sky t u h le = record {
  among = λ g there. let a = h.among g there in (a.0, omega (arith, a.1, le));
  order = h.order;
  all = λ g there. elim (h.all g there) [
    | inl left ↦ inl left
    | inr (inl ended) ↦ inr (inl (omega (arith, ended, le)))
    | inr (inr covered) ↦ inr (inr covered)
  ];
}

-- the first of the rest is taken in
pub IsSkylineOf-take : (chunks : List Group) (place t : ℕ) (old new : List Group) (key : Group) → place < length chunks → key ≡ get_or chunks place key → key.interval.start ≤ t
    → IsSkyline new → ((g : Group) → Contains new g → Contains old g ⊎ (g ≡ key)) → IsCovered new key → ((g : Group) → IsCovered old g → IsCovered new g)
    → IsSkylineOf chunks (drop place chunks) old t → IsSkylineOf chunks (drop (place + 1) chunks) new t
IsSkylineOf-take chunks place t old new key l at started order among covered kept h = record {
  among = λ g there. elim (among g there) [
    | inl before ↦ h.among g before
    | inr same ↦ subst (λ (x : Group). Contains chunks x × (x.interval.start ≤ t)) (sym same) ((place, l, sym at), started)
  ];
  order = order;
  all = λ g there. elim (h.all g there) [
    | inl left ↦ elim (Contains-cons key (drop (place + 1) chunks) g (subst (λ (xs : List Group). Contains xs g) (drop_next chunks place key l at) left)) [
      | inl same ↦ inr (inr (subst (IsCovered new) same covered))
      | inr later ↦ inl later
    ]
    | inr (inl ended) ↦ inr (inl ended)
    | inr (inr before) ↦ inr (inr (kept g before))
  ];
}

-- those that have ended are let go of
pub IsSkylineOf-kept : (chunks rest old new : List Group) (t : ℕ) → IsSkyline new → ((g : Group) → Contains new g → Contains old g) → ((g : Group) → Contains old g → Contains new g ⊎ (g.interval.end ≤ t))
    → IsSkylineOf chunks rest old t → IsSkylineOf chunks rest new t
IsSkylineOf-kept chunks rest old new t order among gone h = record {
  among = λ g there. h.among g (among g there);
  order = order;
  all = λ g there. elim (h.all g there) [
    | inl left ↦ inl left
    | inr (inl ended) ↦ inr (inl ended)
    | inr (inr covered) ↦ elim (gone covered.0 covered.1) [
      | inl stays ↦ inr (inr (covered.0, stays, covered.2, covered.3))
      | inr ended ↦ inr (inl (let end = covered.3 in omega (arith, ended, end)))
    ]
  ];
}

beyond_first : (first : Group) (later : List Group) (t : ℕ) → StartInOrder (first ∷ later) → t ≤ first.interval.start → (e : Group) → Contains (first ∷ later) e → t ≤ e.interval.start
beyond_first first later t order below e (i, l, at) =
    let up : first.interval.start ≤ (get_or (first ∷ later) i e).interval.start = order 0 i e (omega arith) l in
    let same : (get_or (first ∷ later) i e).interval.start ≡ e.interval.start = ap (λ (x : Group). x.interval.start) at in
    omega (arith, up, same, below)

-- where the first of the rest does not start before an instant, none of them does
pub start_from : (chunks : List Group) (place t : ℕ) (first : Group) → StartInOrder chunks → place < length chunks → first ≡ get_or chunks place first → t ≤ first.interval.start → (g : Group) → Contains (drop place chunks) g → t ≤ g.interval.start
start_from chunks place t first order l at below g there =
    let e = drop_next chunks place first l at in
    beyond_first first (drop (place + 1) chunks) t (subst StartInOrder e (IsNonDecreasingBy-drop (λ (x : Group). x.interval.start) place chunks order)) below g (subst (λ (xs : List Group). Contains xs g) e there)

-- the first of the rest is one of them
pub first_left : (chunks : List Group) (place : ℕ) (first : Group) → place < length chunks → first ≡ get_or chunks place first → Contains (drop place chunks) first
first_left chunks place first l at = subst (λ (xs : List Group). Contains xs first) (sym (drop_next chunks place first l at)) (0, omega arith, refl)

-- ---- the best between two instants

IsBestOf-one : (cs : List Group) (t : ℕ) (g h : Group) → IsBestOf cs t g → IsBestOf cs t h → g ≡ h
IsBestOf-one cs t g h bg bh =
    elim (bg.greatest h bh.candidate) [
      | inl same ↦ sym same
      | inr above ↦ elim (bh.greatest g bg.candidate) [
        | inl same ↦ same
        | inr below ↦ absurd (Outranks-one_way g h above below)
      ]
    ]

-- of a skyline, or none where it is empty
abbrev pub IsBestIn : List Group → Option Group → Type 0
IsBestIn sky best = MatchOption best (sky ≡ []) (IsTop sky)

pub best_onward : (sky : List Group) (best : Option Group) (t : ℕ) → IsBestIn sky best → EndLater sky t → MatchOption best (Unit {0}) (λ b. t < b.interval.end)
best_onward sky None t top later = tt
best_onward sky (Some b) t top later = later b top.there

-- a candidate between the two instants is covered
covered_between : (chunks rest sky : List Group) (from to t : ℕ) (g : Group) → IsSkylineOf chunks rest sky from → ((h : Group) → Contains rest h → to ≤ h.interval.start) → from ≤ t → t < to → IsCandidateOf chunks t g → IsCovered sky g
covered_between chunks rest sky from to t g h beyond low high (there, has) =
    let began : g.interval.start ≤ t = has.0 in
    let stops : t < g.interval.end = has.1 in
    elim (h.all g there) [
      | inl left ↦ let later = beyond g left in absurd (omega (arith, later, began, high))
      | inr (inl ended) ↦ absurd (omega (arith, ended, stops, low))
      | inr (inr covered) ↦ covered
    ]

top_best : (chunks rest sky : List Group) (b : Group) (from to t : ℕ) → IsSkylineOf chunks rest sky from → ((h : Group) → Contains rest h → to ≤ h.interval.start) → IsTop sky b → to ≤ b.interval.end → from ≤ t → t < to → IsBestOf chunks t b
top_best chunks rest sky b from to t h beyond top ends low high = record {
  candidate =
      let own = h.among b top.there in
      let start = own.1 in
      (own.0, (omega (arith, start, low), omega (arith, ends, high)));
  greatest = λ other c. by_cover other (covered_between chunks rest sky from to t other h beyond low high c);
} where
  by_cover : (other : Group) → IsCovered sky other → (other ≡ b) ⊎ Outranks b other
  by_cover other (s, there, rank, end) = join (top.rank s there) rank where
    join : (s ≡ b) ⊎ Outranks b s → (other ≡ s) ⊎ Outranks s other → (other ≡ b) ⊎ Outranks b other
    join (inl e) (inl f) = inl (f ∙ e)
    join (inl e) (inr below) = inr (subst (λ (x : Group). Outranks x other) e below)
    join (inr above) (inl f) = inr (subst (Outranks b) (sym f) above)
    join (inr above) (inr below) = inr (Outranks-onward b s other above below)

-- between two instants the best of the skyline is seen
pub seen_between : (chunks rest sky : List Group) (best : Option Group) (from to : ℕ) → IsSkylineOf chunks rest sky from → ((h : Group) → Contains rest h → to ≤ h.interval.start) → IsBestIn sky best → MatchOption best (Unit {0}) (λ b. to ≤ b.interval.end)
    → SeenBetween (IsBestOf chunks) from to (λ g. MatchOption best ⊥ (λ b. b ≡ g))
seen_between chunks rest sky None from to h beyond none ends t low high g = (
  λ is_best.
      let covered = covered_between chunks rest sky from to t g h beyond low high is_best.candidate in
      Contains-nil covered.0 (subst (λ (xs : List Group). Contains xs covered.0) none covered.1),
  λ f. absurd f,
)
seen_between chunks rest sky (Some b) from to h beyond top ends t low high g =
    let own = top_best chunks rest sky b from to t h beyond top ends low high in (
      λ is_best. IsBestOf-one chunks t b g own is_best,
      λ same. subst (IsBestOf chunks t) same own,
    )
