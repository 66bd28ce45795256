-- Numbers by their sources.
use Rattle.std.proofs.Common.{◌≡◌, ◌∙◌, ℕ, suc, ap, ◌+◌, ◌<◌, ℤ, List, [], ◌∷◌, ◌++◌, length, map, get_or, take, Option, Some, None, Bool, true, false, refl, sym, subst, rules}
use Rattle.std.specs.Prelude.{All, FitsSigned, option_and_then, pos, if◌then◌else◌}
use Rattle.std.specs.Str.{bytes_eq}
use Rattle.std.specs.Int.{w64}
use Rattle.std.proofs.lemmas.List.{take_more, length-map}
use Rattle.std.proofs.lemmas.List.Elements.{All-nil, All-cons, All-get_or, All-head, All-tail}
use Rattle.druid_segment_rows.specs.Rows.{no_row, HasWords}
use Rattle.druid_segment_rows.specs.Segment.{Segment, HaveWords, row_at}
use Rattle.druid_query.specs.Query.{Query, Aggregator}
use Rattle.druid_query.specs.declared.aggregator.AggregatorKind.{AggregatorKind}
use Rattle.druid_query.specs.declared.aggregator.AggregatorKind.TheVariants.{Count, LongSum, LongMin, LongMax}
use Rattle.druid_partial.specs.Partials.{kinds_of}
use Rattle.druid_partial_scan.specs.declared.code_filter.CodeFilter.{CodeFilter}
use Rattle.druid_partial_scan.specs.declared.field_sources.NumberSource.{NumberSource}
use Rattle.druid_partial_scan.specs.declared.cells.NumberColumn.{NumberColumn}
use Rattle.druid_partial.specs.Groups.{AreWords}
use Rattle.druid_partial_scan.specs.Rows.{number_in, one_or, taken, row_group}
use Rattle.druid_partial_scan.specs.Places.{places_of, sources_of, source_number, source_of}
use Rattle.druid_partial_scan.specs.Cells.{Column, HasCode, IsColumn, AreColumns, HasNumber, number_from}
use Rattle.druid_partial_scan.specs.Scans.{Scan, IsScan, AreFrom, AreNumbers, counted_at}
use Rattle.druid_partial.proofs.MergedLemmas.{IsWord}
use Rattle.druid_partial_scan.proofs.RadixLemmas.{columns_have, columns_more}
use Rattle.druid_partial_scan.proofs.PlaceLemmas.{numbers_counted}

numbers_push : (segment : Segment) (ss : List NumberSource) (ns : List NumberColumn) (s : NumberSource) (n : NumberColumn) → AreNumbers segment ss ns → AreFrom segment s n → AreNumbers segment (ss ++ s ∷ []) (ns ++ n ∷ [])
numbers_push segment [] [] s n are one = (one, tt)
numbers_push segment [] (m ∷ ns) s n are one = absurd are
numbers_push segment (r ∷ ss) [] s n are one = absurd are
numbers_push segment (r ∷ ss) (m ∷ ns) s n are one = (are.0, numbers_push segment ss ns s n are.1 one)

pub numbers_more : (segment : Segment) (ss : List NumberSource) (i : ℕ) (d : NumberSource) (ns more : List NumberColumn) (n : NumberColumn) → i < length ss → AreNumbers segment (take i ss) ns → AreFrom segment (get_or ss i d) n → more ≡ ns ++ n ∷ [] → AreNumbers segment (take (i + 1) ss) more
numbers_more segment ss i d ns more n h are one e =
    let P : List NumberSource → Type 0 = λ l. AreNumbers segment l more in
    let Q : List NumberColumn → Type 0 = λ l. AreNumbers segment (take i ss ++ get_or ss i d ∷ []) l in
    subst P (sym (take_more ss i d h)) (subst Q (sym e) (numbers_push segment (take i ss) ns (get_or ss i d) n are one))

pub columns_next : (segment : Segment) (ps : List (Option ℕ)) (i : ℕ) (d : Option ℕ) (cs more : List Column) (c : Column) → i < length ps → AreColumns segment (take i ps) cs → IsColumn segment (get_or ps i d) c → more ≡ cs ++ c ∷ [] → AreColumns segment (take (i + 1) ps) more
columns_next segment ps i d cs more c h are one e =
    let P : List (Option ℕ) → Type 0 = λ l. AreColumns segment l more in
    let Q : List Column → Type 0 = λ l. AreColumns segment (take i ps ++ get_or ps i d ∷ []) l in
    subst P (sym (take_more ps i d h)) (subst Q (sym e) (columns_more segment (take i ps) cs (get_or ps i d) c are one))

-- each row has its numbers
pub numbers_have : (segment : Segment) (ss : List NumberSource) (ns : List NumberColumn) (row : ℕ) → AreNumbers segment ss ns → row < length segment.rows → All (HasNumber row) ns
numbers_have segment [] [] row are h = All-nil (HasNumber row)
numbers_have segment [] (n ∷ ns) row are h = absurd are
numbers_have segment (s ∷ ss) [] row are h = absurd are
numbers_have segment (s ∷ ss) (n ∷ ns) row are h = All-cons (HasNumber row) n ns (are.0.has row h) (numbers_have segment ss ns row are.1 h)

numbers_are : (segment : Segment) (ss : List NumberSource) (ns : List NumberColumn) (row : ℕ) → AreNumbers segment ss ns → row < length segment.rows → map (number_from row) ns ≡ map (source_number (row_at segment row)) ss
numbers_are segment [] [] row are h = refl
numbers_are segment [] (n ∷ ns) row are h = absurd are
numbers_are segment (s ∷ ss) [] row are h = absurd are
numbers_are segment (s ∷ ss) (n ∷ ns) row are h = let head = are.0.same row h in let rest = numbers_are segment ss ns row are.1 h in cc

-- they are what the row tells
pub row_numbers_are : (query : Query) (segment : Segment) (ns : List NumberColumn) (row : ℕ) → AreNumbers segment (sources_of query segment.fields) ns → row < length segment.rows → map (number_from row) ns ≡ (row_group query segment.fields (row_at segment row)).numbers
row_numbers_are query segment ns row are h = numbers_are segment (sources_of query segment.fields) ns row are h ∙ numbers_counted query segment.fields (row_at segment row)

-- ---- words

either_word : (b : Bool) (x y : Option ℤ) → IsWord x → IsWord y → IsWord (if b then x else y)
either_word true x y v w = v
either_word false x y v w = w

pub number_word : (names : List (List ℕ)) (xs : List (Option ℤ)) (name : List ℕ) → AreWords xs → IsWord (number_in names xs name)
number_word [] xs name w = tt
number_word (n ∷ names) [] name w = tt
number_word (n ∷ names) (x ∷ xs) name w =
    either_word (bytes_eq n name) x (number_in names xs name) (All-head IsWord x xs w) (number_word names xs name (All-tail IsWord x xs w))

field_word : (names : List (List ℕ)) (xs : List (Option ℤ)) (field : Option (List ℕ)) → AreWords xs → IsWord (option_and_then (number_in names xs) field)
field_word names xs None w = tt
field_word names xs (Some name) w = number_word names xs name w

pub one_word : (kind : AggregatorKind) (x : Option ℤ) → IsWord x → IsWord (one_or kind x)
one_word Count x w = fits_one
  where
    fits_one : FitsSigned w64 (pos 1)
    fits_one = search rules
one_word LongSum x w = w
one_word LongMin x w = w
one_word LongMax x w = w

-- what a row tells is of 64 bits
pub row_words : (query : Query) (segment : Segment) (row : ℕ) → HaveWords segment → row < length segment.rows → AreWords (row_group query segment.fields (row_at segment row)).numbers
row_words query segment row words h = each query.aggregations
  where
    kept : AreWords (row_at segment row).metrics
    kept = All-get_or HasWords segment.rows row no_row h words

    each : (as' : List Aggregator) → AreWords (map (taken segment.fields (row_at segment row)) as')
    each [] = All-nil IsWord
    each (a ∷ more) = All-cons IsWord _ _ (one_word a.kind _ (field_word segment.fields.metrics (row_at segment row).metrics a.field kept)) (each more)

pub numbers_long : (query : Query) (segment : Segment) (ns : List NumberColumn) → AreNumbers segment (sources_of query segment.fields) ns → length ns ≡ length query.aggregations
numbers_long query segment ns are = each (sources_of query segment.fields) ns are ∙ length-map query.aggregations (source_of segment.fields)
  where
    each : (ss : List NumberSource) (ms : List NumberColumn) → AreNumbers segment ss ms → length ms ≡ length ss
    each [] [] a = refl
    each [] (m ∷ ms) a = absurd a
    each (x ∷ ss) [] a = absurd a
    each (x ∷ ss) (m ∷ ms) a = ap suc (each ss ms a.1)

-- ---- a row of a scan

-- by where the scan looks
pub record IsRow (scan : Scan) (row : ℕ) (columns : List Column) (numbers : List NumberColumn) (kinds : List AggregatorKind) : Type 0 where
  pub same : columns ≡ scan.columns
  pub places : AreColumns scan.segment (places_of scan.query scan.segment.fields) scan.columns
  pub codes : All (HasCode row) columns
  pub has : All (HasNumber row) numbers
  pub wide : length numbers ≡ length scan.query.aggregations
  pub taken_are : map (number_from row) numbers ≡ (counted_at scan row).numbers
  pub words : AreWords (counted_at scan row).numbers
  pub kinds_are : kinds ≡ kinds_of scan.query

pub row_of : {query : Query} {segment : Segment} {times : List ℕ} {first : ℕ} {places : List (Option ℕ)} {columns : List Column} {numbers : List NumberColumn} {kinds : List AggregatorKind} {code_filter : Option CodeFilter} (scan : Scan) (row : ℕ) → IsScan query segment times first places columns numbers kinds code_filter → record { query = query; segment = segment; columns = columns } ≡ scan → row < length scan.segment.rows → IsRow scan row columns numbers kinds
row_of {query = query} {segment = segment} {columns = columns} {numbers = numbers} {kinds = kinds} scan row is e =
    let P : Scan → Type 0 = λ p. row < length p.segment.rows → IsRow p row columns numbers kinds in
    subst P e (λ h. record {
      same = refl;
      places = is.columns_are;
      codes = columns_have segment _ columns row is.columns_are h;
      has = numbers_have segment _ numbers row is.numbers_are h;
      wide = numbers_long query segment numbers is.numbers_are;
      taken_are = row_numbers_are query segment numbers row is.numbers_are h;
      words = row_words query segment row is.words h;
      kinds_are = is.kinds_are;
    })
