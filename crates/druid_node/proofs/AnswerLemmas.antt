-- What pieces tell, halved and one by one, and which of them are missing.
use Rattle.std.proofs.Common.{◌≡◌, ◌<◌, ◌≤◌, ℕ, zero, suc, List, [], ◌∷◌, ◌++◌, All, map, slice_get, Some, None, length, get_or, take, drop, refl, sym, ap, ◌∙◌, subst, arith, append-nil, append_assoc}
use Rattle.std.proofs.lemmas.List.Elements.{All-head, All-tail}
use Rattle.std.proofs.lemmas.List.{take-append-drop}
use Rattle.std.proofs.lemmas.List.Concat.{flat_map-append}
use Rattle.druid_segment_rows.specs.Segment.{Segment}
use Rattle.druid_query.specs.Query.{Query}
use Rattle.druid_query.specs.Asked.{Asked}
use Rattle.druid_partial.specs.Groups.{Group, IsResult}
use Rattle.druid_partial.specs.Partials.{kinds_of}
use Rattle.druid_node.specs.Answers.{missing}
use Rattle.druid_partial_scan.specs.Once.{segment_named, counted_in, counted_of, counted_groups}
use Rattle.druid_partial_scan.specs.Rows.{counted_by}
use Rattle.druid_partial_scan.specs.SliceGroups.{Slice, slice_groups}
use Rattle.druid_node.specs.Placed.{Placed, counted_at}
use Rattle.std.specs.List.{flat_map}

-- ---- pieces by the places of their segments

-- the segments of the first i pieces that were asked for are looked up
abbrev pub PlacedSoFar : List Segment → List Placed → List Asked → ℕ → Type 0
PlacedSoFar held placed asked i = (query : Query) → flat_map (counted_at query held) placed ++ counted_groups query held (drop i asked) ≡ counted_groups query held asked

counted_next : (query : Query) (held : List Segment) (asked : List Asked) (i : ℕ) (a : Asked) → i < length asked → a ≡ get_or asked i a
    → counted_groups query held (drop i asked) ≡ counted_of query held a ++ counted_groups query held (drop (suc i) asked)
counted_next query held [] i a below here = absurd (omega arith)
counted_next query held (x ∷ asked) zero a below here = ap (λ y. counted_of query held y ++ counted_groups query held asked) (sym here)
counted_next query held (x ∷ asked) (suc i) a below here = counted_next query held asked i a (omega arith) here

pub placed_next : (held : List Segment) (placed : List Placed) (asked : List Asked) (i place : ℕ) (a : Asked) → i < length asked → a ≡ get_or asked i a
    → slice_get held place ≡ segment_named a.0 held → PlacedSoFar held placed asked i → PlacedSoFar held (placed ++ (place, a.1) ∷ []) asked (suc i)
placed_next held placed asked i place a below here found before query =
    let mine : counted_at query held (place, a.1) ≡ counted_of query held a = ap (counted_in query a.1) found in
    let rest = counted_groups query held (drop (suc i) asked) in
    ap (λ rows. rows ++ rest) (flat_map-append (counted_at query held) placed ((place, a.1) ∷ []))
    ∙ append_assoc (flat_map (counted_at query held) placed) (counted_at query held (place, a.1) ++ []) rest
    ∙ ap (λ rows. flat_map (counted_at query held) placed ++ (rows ++ rest)) (append-nil (counted_at query held (place, a.1)) ∙ mine)
    ∙ ap (λ rows. flat_map (counted_at query held) placed ++ rows) (sym (counted_next query held asked i a below here))
    ∙ before query

pub passed_next : (held : List Segment) (placed : List Placed) (asked : List Asked) (i : ℕ) (a : Asked) → i < length asked → a ≡ get_or asked i a
    → segment_named a.0 held ≡ None → PlacedSoFar held placed asked i → PlacedSoFar held placed asked (suc i)
passed_next held placed asked i a below here none before query =
    let mine : [] ≡ counted_of query held a = ap (counted_in query a.1) (sym none) in
    ap (λ rows. flat_map (counted_at query held) placed ++ (rows ++ counted_groups query held (drop (suc i) asked))) mine
    ∙ ap (λ rows. flat_map (counted_at query held) placed ++ rows) (sym (counted_next query held asked i a below here))
    ∙ before query

pub placed_all : (held : List Segment) (placed : List Placed) (asked : List Asked) (i : ℕ) → length asked ≤ i → PlacedSoFar held placed asked i
    → (query : Query) → flat_map (counted_at query held) placed ≡ counted_groups query held asked
placed_all held placed asked i end before query =
    sym (append-nil (flat_map (counted_at query held) placed)) ∙ ap (λ left. flat_map (counted_at query held) placed ++ counted_groups query held left) (sym (nothing_left asked i end)) ∙ before query
  where
    nothing_left : (asked : List Asked) (i : ℕ) → length asked ≤ i → drop i asked ≡ []
    nothing_left [] zero h = refl
    nothing_left [] (suc i) h = refl
    nothing_left (x ∷ asked) zero h = absurd (omega arith)
    nothing_left (x ∷ asked) (suc i) h = nothing_left asked i (omega arith)

-- pieces of one segment tell what their intervals tell of it
pub one_place : (query : Query) (held : List Segment) (place : ℕ) (s : Segment) (pieces : List Placed) → slice_get held place ≡ Some s → All (λ (p : Placed). p.0 ≡ place) pieces
    → flat_map (counted_by query s) (map (λ (p : Placed). p.1) pieces) ≡ flat_map (counted_at query held) pieces
one_place query held place s [] here one = refl
one_place query held place s (p ∷ pieces) here one =
    let first : counted_by query s p.1 ≡ counted_at query held p = ap (counted_in query p.1) (sym here ∙ ap (slice_get held) (sym (All-head (λ (q : Placed). q.0 ≡ place) p pieces one))) in
    (λ i. first i ++ one_place query held place s pieces here (All-tail (λ (q : Placed). q.0 ≡ place) p pieces one) i)

-- one slice more
pub slices_next : (held : List Segment) (slices more : List Slice) (s : Slice) (front back rest pieces : List Placed) (n : ℕ) → front ≡ take n rest → back ≡ drop n rest
    → ((query : Query) → slice_groups query s ≡ flat_map (counted_at query held) front) → more ≡ slices ++ s ∷ []
    → ((query : Query) → flat_map (slice_groups query) slices ++ flat_map (counted_at query held) rest ≡ flat_map (counted_at query held) pieces)
    → (query : Query) → flat_map (slice_groups query) more ++ flat_map (counted_at query held) back ≡ flat_map (counted_at query held) pieces
slices_next held slices more s front back rest pieces n f b reports m before query =
    let reported = flat_map (slice_groups query) slices in
    let tail = flat_map (counted_at query held) back in
    ap (λ l. l ++ tail) (ap (flat_map (slice_groups query)) m ∙ flat_map-append (slice_groups query) slices (s ∷ []) ∙ ap (λ l. reported ++ l) (append-nil (slice_groups query s) ∙ reports query))
    ∙ append_assoc reported (flat_map (counted_at query held) front) tail
    ∙ ap (λ l. reported ++ l) (sym (flat_map-append (counted_at query held) front back) ∙ ap (flat_map (counted_at query held)) ((λ i. f i ++ b i) ∙ take-append-drop n rest))
    ∙ before query

-- a result of slices of pieces is one of what was asked for
pub slices_result : (held : List Segment) (query : Query) (asked : List Asked) (placed read : List Placed) (slices : List Slice) (groups : List Group)
    → ((query : Query) (groups : List Group) → IsResult (kinds_of query) (flat_map (counted_at query held) placed) groups → IsResult (kinds_of query) (counted_groups query held asked) groups)
    → read ≡ placed → ((query : Query) → flat_map (slice_groups query) slices ≡ flat_map (counted_at query held) read)
    → IsResult (kinds_of query) (flat_map (slice_groups query) slices) groups → IsResult (kinds_of query) (counted_groups query held asked) groups
slices_result held query asked placed read slices groups counted is reported result =
    counted query groups (subst (λ (rows : List Group). IsResult (kinds_of query) rows groups) (reported query ∙ ap (flat_map (counted_at query held)) is) result)

-- the result of slices that a list of them is read as
pub read_result : (held : List Segment) (query : Query) (asked : List Asked) (slices read : List Slice) (groups : List Group)
    → ((query : Query) (groups : List Group) → IsResult (kinds_of query) (flat_map (slice_groups query) slices) groups → IsResult (kinds_of query) (counted_groups query held asked) groups)
    → read ≡ slices → IsResult (kinds_of query) (flat_map (slice_groups query) read) groups → IsResult (kinds_of query) (counted_groups query held asked) groups
read_result held query asked slices read groups counted is result =
    counted query groups (subst (λ (all : List Slice). IsResult (kinds_of query) (flat_map (slice_groups query) all) groups) is result)

-- ---- missing pieces

abbrev pub MissedSoFar : List Segment → List Asked → List Asked → ℕ → Type 0
MissedSoFar held pieces asked i = pieces ++ missing held (drop i asked) ≡ missing held asked
