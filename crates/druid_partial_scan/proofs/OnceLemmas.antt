-- Pieces that stand apart tell each row once.
use Rattle.std.proofs.Common.{◌≡◌, ◌||◌, ◌&&◌, Bool, true, false, not, cond, List, [], ◌∷◌, ◌++◌, map, Some, None, refl, sym, ap, ◌∙◌, subst, inl, inr, append_assoc}
use Rattle.std.specs.Bool.{nat_le, nat_lt}
use Rattle.std.specs.Cmp.{first_so, second_so}
use Rattle.std.specs.List.{filter, list_any}
use Rattle.std.proofs.lemmas.Bool.{false≢true, or_cases, leb-true, ltb-true, not-true}
use Rattle.std.proofs.lemmas.List.Elements.{filter_agree}
use Rattle.druid_time.specs.Extent.{Extent, Has}
use Rattle.druid_segment_id.specs.Identifier.{Identifier, same_identifier}
use Rattle.druid_segment_id.specs.IdentifierLaws.{same_identifier-true}
use Rattle.druid_segment_rows.specs.Rows.{Row}
use Rattle.druid_segment_rows.specs.Segment.{Segment}
use Rattle.druid_filter.specs.Filters.{value_in}
use Rattle.druid_query.specs.Query.{Query}
use Rattle.druid_query.specs.Asked.{Asked, do_overlap, stand_apart, StandApart}
use Rattle.druid_query.proofs.AskedLemmas.{overlap_reported, apart_reported}
use Rattle.druid_query.specs.declared.aggregator.AggregatorKind.{AggregatorKind}
use Rattle.druid_partial.specs.Groups.{Group, IsResult}
use Rattle.druid_partial.specs.Partials.{kinds_of}
use Rattle.druid_partial_scan.specs.Rows.{is_asked, row_group, counted_by, passes_if}
use Rattle.druid_partial_scan.specs.Once.{segment_named, HaveOwnSegments, counted_in, counted_of, counted_groups, is_counted, counted_by_some, counted_once}
use Rattle.druid_partial.proofs.GroupLemmas.{Alike, result_alike, alike_append, alike_itself, alike_through, alike_equal, second_first}

-- ---- rows that tell the same

-- rows that pass one of two tests, where none passes both
module _ (kinds : List AggregatorKind) (f : Row → Group) (p q : Row → Bool) where
  either_rows : (rows : List Row) → ((row : Row) → p row ≡ true → q row ≡ true → ⊥)
      → Alike kinds (map f (filter p rows) ++ map f (filter q rows)) (map f (filter (λ row. p row || q row) rows))
  either_rows [] apart = alike_itself kinds []
  either_rows (r ∷ rs) apart = by_tests (either_rows rs apart) (p r) (q r) (apart r) where
    by_tests : Alike kinds (map f (filter p rs) ++ map f (filter q rs)) (map f (filter (λ row. p row || q row) rs)) → (a b : Bool) → (a ≡ true → b ≡ true → ⊥)
        → Alike kinds (map f (cond a (r ∷ filter p rs) (filter p rs)) ++ map f (cond b (r ∷ filter q rs) (filter q rs))) (map f (cond (a || b) (r ∷ filter (λ row. p row || q row) rs) (filter (λ row. p row || q row) rs)))
    by_tests rest true true none = absurd (none refl refl)
    by_tests rest true false none =
        alike_append kinds (f r ∷ []) (f r ∷ []) (map f (filter p rs) ++ map f (filter q rs)) (map f (filter (λ row. p row || q row) rs)) (alike_itself kinds (f r ∷ [])) rest
    by_tests rest false true none =
        alike_through kinds (map f (filter p rs) ++ (f r ∷ map f (filter q rs))) (f r ∷ (map f (filter p rs) ++ map f (filter q rs))) (f r ∷ map f (filter (λ row. p row || q row) rs))
        (second_first kinds (map f (filter p rs)) (f r ∷ []) (map f (filter q rs)))
        (alike_append kinds (f r ∷ []) (f r ∷ []) (map f (filter p rs) ++ map f (filter q rs)) (map f (filter (λ row. p row || q row) rs)) (alike_itself kinds (f r ∷ [])) rest)
    by_tests rest false false none = rest

-- ---- one piece more

-- a row of a segment is not asked for by a piece and by others that stand apart from it
clash : (query : Query) (a : Asked) (s : Segment) (row : Row) (more : List Asked) → list_any (do_overlap a) more ≡ false → same_identifier a.0 s.descriptor.id ≡ true
    → is_asked query a.1 s.fields row ≡ true → is_counted query more s row ≡ true → ⊥
clash query a s row [] none here asked some = false≢true some
clash query a s row (b ∷ more) none here asked some =
    elim (or_cases (same_identifier b.0 s.descriptor.id && is_asked query b.1 s.fields row) (is_counted query more s row) some) [
      | inl first ↦
          let same : a.0 ≡ b.0 = same_identifier-true a.0 s.descriptor.id here ∙ sym (same_identifier-true b.0 s.descriptor.id (first_so _ _ first)) in
          let mine = lies_in a.1 asked in
          let other = lies_in b.1 (second_so _ _ first) in
          let level = overlap_reported a b (same, (row.time, mine, other)) in
          false≢true (sym none ∙ ap (λ t. t || list_any (do_overlap a) more) level)
      | inr later ↦ clash query a s row more (none_later (do_overlap a b) none) here asked later
    ]
  where
    lies_in : (e : Extent) → is_asked query e s.fields row ≡ true → Has e row.time
    lies_in e h =
        let both = first_so (nat_le e.start row.time && nat_lt row.time e.end) (passes_if (value_in s.fields.dimensions row.dimensions) query.filter) h in
        (leb-true e.start row.time (first_so (nat_le e.start row.time) (nat_lt row.time e.end) both), ltb-true row.time e.end (second_so (nat_le e.start row.time) (nat_lt row.time e.end) both))

    none_later : (t : Bool) → (t || list_any (do_overlap a) more) ≡ false → list_any (do_overlap a) more ≡ false
    none_later true e = absurd (false≢true (sym e))
    none_later false e = e

rows_same : (query : Query) (s : Segment) (p q : Row → Bool) → ((row : Row) → p row ≡ q row) → map (row_group query s.fields) (filter p s.rows) ≡ map (row_group query s.fields) (filter q s.rows)
rows_same query s p q agree = ap (λ rows. map (row_group query s.fields) rows) (filter_agree p q agree s.rows)

-- a piece of another segment
other_segment : (query : Query) (a : Asked) (more : List Asked) (s : Segment) → same_identifier a.0 s.descriptor.id ≡ false → counted_by_some query more s ≡ counted_by_some query (a ∷ more) s
other_segment query a more s apart =
    rows_same query s (is_counted query more s) (is_counted query (a ∷ more) s) (λ row. sym (ap (λ b. (b && is_asked query a.1 s.fields row) || is_counted query more s row) apart))

not_held : (query : Query) (a : Asked) (more : List Asked) (segments : List Segment) → segment_named a.0 segments ≡ None → counted_once query more segments ≡ counted_once query (a ∷ more) segments
not_held query a more [] none = refl
not_held query a more (s ∷ rest) none = by_test (not_held query a more rest) (same_identifier a.0 s.descriptor.id) refl none where
  by_test : (segment_named a.0 rest ≡ None → counted_once query more rest ≡ counted_once query (a ∷ more) rest) → (b : Bool) → same_identifier a.0 s.descriptor.id ≡ b → cond b (Some s) (segment_named a.0 rest) ≡ None
      → counted_once query more (s ∷ rest) ≡ counted_once query (a ∷ more) (s ∷ rest)
  by_test later true e found = absurd (cc)
  by_test later false e found = λ i. other_segment query a more s e i ++ later found i

one_more : (query : Query) (a : Asked) (more : List Asked) (segments : List Segment) → HaveOwnSegments segments → list_any (do_overlap a) more ≡ false
    → Alike (kinds_of query) (counted_of query segments a ++ counted_once query more segments) (counted_once query (a ∷ more) segments)
one_more query a more [] own none = alike_itself (kinds_of query) []
one_more query a more (s ∷ rest) own none = by_test (one_more query a more rest own.1 none) (same_identifier a.0 s.descriptor.id) refl where
  by_test : Alike (kinds_of query) (counted_of query rest a ++ counted_once query more rest) (counted_once query (a ∷ more) rest) → (b : Bool) → same_identifier a.0 s.descriptor.id ≡ b
      → Alike (kinds_of query) (counted_of query (s ∷ rest) a ++ counted_once query more (s ∷ rest)) (counted_once query (a ∷ more) (s ∷ rest))
  by_test later true e =
      let kinds = kinds_of query in
      let x = counted_by_some query more s in
      let y = counted_once query more rest in
      let front : counted_of query (s ∷ rest) a ≡ counted_by query s a.1 = ap (λ t. counted_in query a.1 (cond t (Some s) (segment_named a.0 rest))) e in
      let gone : segment_named a.0 rest ≡ None = subst (λ (k : Identifier). segment_named k rest ≡ None) (sym (same_identifier-true a.0 s.descriptor.id e)) own.0 in
      let either = either_rows kinds (row_group query s.fields) (is_asked query a.1 s.fields) (is_counted query more s) s.rows (λ row asked some. clash query a s row more none e asked some) in
      let same = rows_same query s (λ row. is_asked query a.1 s.fields row || is_counted query more s row) (is_counted query (a ∷ more) s) (λ row. sym (ap (λ b. (b && is_asked query a.1 s.fields row) || is_counted query more s row) e)) in
      let rows = subst (Alike kinds (counted_by query s a.1 ++ x)) same either in
      alike_through kinds (counted_of query (s ∷ rest) a ++ (x ++ y)) ((counted_by query s a.1 ++ x) ++ y) (counted_by_some query (a ∷ more) s ++ counted_once query (a ∷ more) rest)
      (alike_equal kinds (counted_of query (s ∷ rest) a ++ (x ++ y)) ((counted_by query s a.1 ++ x) ++ y) ((λ i. front i ++ (x ++ y)) ∙ sym (append_assoc (counted_by query s a.1) x y)))
      (alike_append kinds (counted_by query s a.1 ++ x) (counted_by_some query (a ∷ more) s) y (counted_once query (a ∷ more) rest) rows (alike_equal kinds y (counted_once query (a ∷ more) rest) (not_held query a more rest gone)))
  by_test later false e =
      let kinds = kinds_of query in
      let x = counted_by_some query more s in
      let y = counted_once query more rest in
      let t = counted_of query rest a in
      let front : counted_of query (s ∷ rest) a ≡ t = ap (λ b. counted_in query a.1 (cond b (Some s) (segment_named a.0 rest))) e in
      alike_through kinds (counted_of query (s ∷ rest) a ++ (x ++ y)) (x ++ (t ++ y)) (counted_by_some query (a ∷ more) s ++ counted_once query (a ∷ more) rest)
      (alike_through kinds (counted_of query (s ∷ rest) a ++ (x ++ y)) (t ++ (x ++ y)) (x ++ (t ++ y)) (alike_equal kinds (counted_of query (s ∷ rest) a ++ (x ++ y)) (t ++ (x ++ y)) (λ i. front i ++ (x ++ y))) (second_first kinds t x y))
      (alike_append kinds x (counted_by_some query (a ∷ more) s) (t ++ y) (counted_once query (a ∷ more) rest) (alike_equal kinds x (counted_by_some query (a ∷ more) s) (other_segment query a more s e)) later)

none_pass : (rows : List Row) → filter (λ row. false) rows ≡ []
none_pass [] = refl
none_pass (r ∷ rs) = none_pass rs

nothing_counted : (query : Query) (segments : List Segment) → [] ≡ counted_once query [] segments
nothing_counted query [] = refl
nothing_counted query (s ∷ rest) = nothing_counted query rest ∙ (λ i. map (row_group query s.fields) (sym (none_pass s.rows) i) ++ counted_once query [] rest)

pub counted_alike : (query : Query) (segments : List Segment) (asked : List Asked) → HaveOwnSegments segments → stand_apart asked ≡ true → Alike (kinds_of query) (counted_groups query segments asked) (counted_once query asked segments)
counted_alike query segments [] own apart = alike_equal (kinds_of query) [] (counted_once query [] segments) (nothing_counted query segments)
counted_alike query segments (a ∷ more) own apart =
    let kinds = kinds_of query in
    alike_through kinds (counted_of query segments a ++ counted_groups query segments more) (counted_of query segments a ++ counted_once query more segments) (counted_once query (a ∷ more) segments)
    (alike_append kinds (counted_of query segments a) (counted_of query segments a) (counted_groups query segments more) (counted_once query more segments) (alike_itself kinds (counted_of query segments a))
    (counted_alike query segments more own (second_so (not (list_any (do_overlap a) more)) (stand_apart more) apart)))
    (one_more query a more segments own (not-true (list_any (do_overlap a) more) (first_so (not (list_any (do_overlap a) more)) (stand_apart more) apart)))

pub rows_once : (query : Query) (segments : List Segment) (asked : List Asked) (groups : List Group) → HaveOwnSegments segments → StandApart asked
    → IsResult (kinds_of query) (counted_groups query segments asked) groups → IsResult (kinds_of query) (counted_once query asked segments) groups
rows_once query segments asked groups own apart result =
    result_alike (kinds_of query) (counted_groups query segments asked) (counted_once query asked segments) groups (counted_alike query segments asked own (apart_reported asked apart)) result
