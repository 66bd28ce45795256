-- What a result over segments tells: instants, and numbers of 64 bits.
use Rattle.std.proofs.Common.{◌≡◌, ℕ, zero, suc, ◌<◌, ℤ, true, ◌&&◌, nat_le, nat_lt, List, [], ◌∷◌, get_or, map, All, Option, Some, None, option_and_then, refl, sym, subst, arith}
use Rattle.std.specs.Prelude.{FitsSigned, Contains, filter, slice_index_or, unwrap_or}
use Rattle.std.specs.Int.{w64}
use Rattle.std.specs.Ordering.{is_eq}
use Rattle.std.proofs.lemmas.Int.{SFits-int_wrap}
use Rattle.std.proofs.lemmas.Bool.{and_parts, ltb-true}
use Rattle.std.proofs.lemmas.List.Elements.{All-nil, All-cons, All-head, All-tail, All-contains, All-from_get_or, All-map}
use Rattle.std.proofs.lemmas.Option.{slice_get-get_or}
use Rattle.druid_time.specs.Extent.{Extent, IsExtent}
use Rattle.druid_time.specs.Instant.{IsInstant}
use Rattle.druid_time.specs.Granularity.{bucket_at}
use Rattle.druid_time.specs.declared.granularity.Granularity.{Granularity}
use Rattle.druid_time.specs.declared.granularity.Granularity.TheVariants as granularity
use Rattle.druid_base.proofs.MemberLemmas.{Contains-nil, Contains-later, Contains-map, Contains-flat_map}
use Rattle.druid_timeline.proofs.HoldingLemmas.{from_filter}
use Rattle.druid_segment_rows.specs.Rows.{Schema, Row, HasWords}
use Rattle.druid_filter.specs.Filters.{value_in}
use Rattle.druid_segment_rows.specs.Segment.{Segment, HaveWords}
use Rattle.druid_query.specs.Query.{Query, Aggregator}
use Rattle.druid_query.specs.Read.{IsQuery}
use Rattle.druid_query.specs.Asked.{Asked}
use Rattle.druid_query.specs.declared.aggregator.AggregatorKind.{AggregatorKind}
use Rattle.druid_query.specs.declared.aggregator.AggregatorKind.TheVariants.{Count, LongSum, LongMin, LongMax}
use Rattle.druid_query.proofs.AskedLemmas.{all_of_each}
use Rattle.druid_query_text.proofs.QueryBackLemmas.{query_sound}
use Rattle.druid_partial.specs.Groups.{Key, Group, AreWords, key_cmp, known, column, number_at, IsReported, IsAggregate, IsGroupOf, IsResult}
use Rattle.druid_partial.specs.Partials.{earliest, kinds_of}
use Rattle.druid_partial_scan.specs.Rows.{number_in, taken, row_group, passes_if, is_asked}
use Rattle.druid_partial_scan.specs.Once.{segment_named, counted_in, counted_of, counted_groups}
use Rattle.druid_partial.proofs.MergedLemmas.{IsWord}
use Rattle.druid_partial_scan.proofs.SourceLemmas.{number_word, one_word}
use Rattle.druid_partial_text.specs.Written.{IsHeld}
use Rattle.druid_node.proofs.HeldLemmas.{found_each}

abbrev Fits : ℤ → Type 0
Fits z = FitsSigned w64 z

-- ---- what one row tells

field_word : (fields : Schema) (row : Row) (field : Option (List ℕ)) → AreWords row.metrics → IsWord (option_and_then (number_in fields.metrics row.metrics) field)
field_word fields row None words = tt
field_word fields row (Some name) words = number_word fields.metrics row.metrics name words

taken_words : (fields : Schema) (row : Row) (all : List Aggregator) → AreWords row.metrics → AreWords (map (taken fields row) all)
taken_words fields row [] words = All-nil IsWord
taken_words fields row (a ∷ all) words =
    All-cons IsWord (taken fields row a) (map (taken fields row) all) (one_word a.kind _ (field_word fields row a.field words)) (taken_words fields row all words)

earliest_instant : (all : List Extent) → ((e : Extent) → Contains all e → IsExtent e) → IsInstant (earliest all)
earliest_instant [] each = omega arith
earliest_instant (e ∷ []) each = let one = each e (0, omega arith, refl) in omega (arith, one.0, one.1)
earliest_instant (e ∷ f ∷ more) each =
    let one = each e (0, omega arith, refl) in
    omega (arith, one.0, one.1, earliest_instant (f ∷ more) (λ g there. each g (Contains-later e (f ∷ more) g there)))

bucket_instant : (g : Granularity) (t first : ℕ) → IsInstant t → IsInstant first → IsInstant (unwrap_or (bucket_at g t) first)
bucket_instant granularity.All t first h k = k
bucket_instant granularity.Second t first h k = omega arith
bucket_instant granularity.Minute t first h k = omega arith
bucket_instant granularity.Hour t first h k = omega arith
bucket_instant granularity.Day t first h k = omega arith

-- the time of a row that is asked for is an instant
asked_instant : (query : Query) (piece : Extent) (fields : Schema) (row : Row) → IsExtent piece → is_asked query piece fields row ≡ true → IsInstant row.time
asked_instant query piece fields row valid asked =
    let within = (and_parts (nat_le piece.start row.time && nat_lt row.time piece.end) (passes_if (value_in fields.dimensions row.dimensions) query.filter) asked).0 in
    let before : row.time < piece.end = ltb-true row.time piece.end (and_parts (nat_le piece.start row.time) (nat_lt row.time piece.end) within).1 in
    omega (arith, before, valid.1)

row_held : (query : Query) (piece : Extent) (s : Segment) (row : Row) → IsQuery query → IsExtent piece → HaveWords s → Contains s.rows row → is_asked query piece s.fields row ≡ true
    → IsHeld (row_group query s.fields row)
row_held query piece s row is valid words there asked = record {
  bucket = bucket_instant query.granularity row.time (earliest query.intervals) (asked_instant query piece s.fields row valid asked)
      (earliest_instant query.intervals (query_sound query is).times.each);
  words = taken_words s.fields row query.aggregations (All-contains HasWords s.rows row words there);
}

-- ---- what all pieces tell

counted_held : (query : Query) (held : List Segment) (asked : List Asked) → IsQuery query → ((a : Asked) → Contains asked a → IsExtent a.1) → All HaveWords held
    → (row : Group) → Contains (counted_groups query held asked) row → IsHeld row
counted_held query held asked is valid words row there =
    let piece = Contains-flat_map (counted_of query held) asked row there in
    of_found piece.0 (segment_named piece.0.0 held) refl (valid piece.0 piece.1) piece.2
  where
    of_found : (a : Asked) (o : Option Segment) → segment_named a.0 held ≡ o → IsExtent a.1 → Contains (counted_in query a.1 o) row → IsHeld row
    of_found a None e piece there = absurd (Contains-nil row there)
    of_found a (Some s) e piece there =
        let counted_row = Contains-map (row_group query s.fields) _ row there in
        let passed = from_filter (is_asked query a.1 s.fields) s.rows counted_row.0 counted_row.1 in
        subst IsHeld counted_row.2 (row_held query a.1 s counted_row.0 is piece (found_each HaveWords held a.0 s words e) passed.0 passed.1)

-- ---- aggregates

known_fit : (numbers : List (Option ℤ)) → AreWords numbers → All Fits (known numbers)
known_fit [] words = All-nil Fits
known_fit (None ∷ xs) words = known_fit xs (All-tail IsWord None xs words)
known_fit (Some x ∷ xs) words = All-cons Fits x (known xs) (All-head IsWord (Some x) xs words) (known_fit xs (All-tail IsWord (Some x) xs words))

reported_fits : (kind : AggregatorKind) (xs : List ℤ) (z : ℤ) → All Fits xs → IsReported kind xs z → Fits z
reported_fits Count xs z fit t = subst Fits (sym t) (SFits-int_wrap w64 _)
reported_fits LongSum xs z fit t = subst Fits (sym t) (SFits-int_wrap w64 _)
reported_fits LongMin xs z fit t = All-contains Fits xs z fit t.one
reported_fits LongMax xs z fit t = All-contains Fits xs z fit t.one

aggregate_word : (kind : AggregatorKind) (xs : List ℤ) (reported : Option ℤ) → All Fits xs → IsAggregate kind xs reported → IsWord reported
aggregate_word kind [] reported fit t = subst IsWord (sym t) tt
aggregate_word kind (x ∷ xs) reported fit t = subst IsWord (sym t.1) (reported_fits kind (x ∷ xs) t.0 fit t.2)

word_at : (numbers : List (Option ℤ)) (place : ℕ) → AreWords numbers → IsWord (slice_index_or numbers place None)
word_at [] place words = tt
word_at (x ∷ xs) zero words = All-head IsWord x xs words
word_at (x ∷ xs) (suc place) words = word_at xs place (All-tail IsWord x xs words)

column_words : (key : Key) (place : ℕ) (rows : List Group) → All IsHeld rows → AreWords (column key place rows)
column_words key place rows held =
    let kept = filter (λ (g : Group). is_eq (key_cmp key g.key)) rows in
    All-map IsWord (number_at place) kept
    (all_of_each (λ (g : Group). IsWord (number_at place g)) kept
    (λ g there. word_at g.numbers place (All-contains IsHeld rows g held (from_filter (λ (h : Group). is_eq (key_cmp key h.key)) rows g there).0).words))

group_words : (kinds : List AggregatorKind) (rows : List Group) (g : Group) → All IsHeld rows → IsGroupOf kinds rows g → AreWords g.numbers
group_words kinds rows g held of_rows =
    All-from_get_or IsWord g.numbers None
    (λ place lt.
    let kind = get_or kinds place Count in
    aggregate_word kind (known (column g.key place rows)) (number_at place g) (known_fit (column g.key place rows) (column_words g.key place rows held))
    (of_rows.aggregates place kind (slice_get-get_or kinds place Count (omega (arith, lt, of_rows.one_each)))))

-- what is a result over groups that are held is held
result_held : (kinds : List AggregatorKind) (rows groups : List Group) → All IsHeld rows → IsResult kinds rows groups → All IsHeld groups
result_held kinds rows groups held result =
    all_of_each IsHeld groups
    (λ g there.
    let of_rows = result.each g there in
    record {
      bucket = subst (λ (k : Key). IsInstant k.bucket) of_rows.occurs.2 (All-contains IsHeld rows of_rows.occurs.0 held of_rows.occurs.1).bucket;
      words = group_words kinds rows g held of_rows;
    })

pub groups_held : (query : Query) (held : List Segment) (asked : List Asked) (groups : List Group) → IsQuery query → ((a : Asked) → Contains asked a → IsExtent a.1) → All HaveWords held
    → IsResult (kinds_of query) (counted_groups query held asked) groups → All IsHeld groups
groups_held query held asked groups is valid words result =
    result_held (kinds_of query) (counted_groups query held asked) groups
    (all_of_each IsHeld (counted_groups query held asked) (counted_held query held asked is valid words)) result
