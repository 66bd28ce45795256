-- Tests on codes are filters on values.
use Rattle.std.proofs.Common.{◌≡◌, ◌∙◌, ℕ, ◌<◌, ◌≤◌, List, length, get_or, Bool, true, false, Option, Some, None, refl, sym, ap, Vec, Bor, String, Global, string_bytes, option_map}
use Rattle.std.specs.Prelude.{slice_index_or, not}
use Rattle.std.specs.Option.{is_some}
use Rattle.std.specs.List.{list_any}
use Rattle.druid_filter.specs.Filters.{same_value}
use Rattle.druid_segment_rows.specs.Segment.{Segment, row_at}
use Rattle.druid_segment_rows.specs.Columns.{column, value_at, AreCodes}
use Rattle.druid_partial_scan.specs.declared.code_filter.CodeFilter.{Same, Is, Among}
use Rattle.druid_partial_scan.specs.Places.{at_place, place_in}
use Rattle.druid_partial_scan.specs.CodeFilters.{code_is, code_among, found_is, holds, value_of, IsCodeOf}
use Rattle.druid_partial_scan.proofs.PlaceLemmas.{value_is}
use Rattle.druid_partial_scan.proofs.CodeFilterLemmas.{holds_same, holds_is, holds_among}
use Rattle.druid_partial_scan.proofs.RankLemmas.{row_code, row_value, row_bounded}

value_none : (segment : Segment) (row : ℕ) (name : List ℕ) → place_in segment.fields.dimensions name ≡ None → value_of segment row name ≡ None
value_none segment row name e = value_is segment.fields.dimensions (row_at segment row).dimensions name ∙ ap (at_place (row_at segment row).dimensions) e

value_some : (segment : Segment) (row place : ℕ) (name : List ℕ) → place_in segment.fields.dimensions name ≡ Some place → value_of segment row name ≡ slice_index_or (row_at segment row).dimensions place None
value_some segment row place name e = value_is segment.fields.dimensions (row_at segment row).dimensions name ∙ ap (at_place (row_at segment row).dimensions) e

-- a dimension that is not there is null
pub null_is : (segment : Segment) (row : ℕ) (name : List ℕ) (answer : Bool) (wanted : Option (List ℕ)) → place_in segment.fields.dimensions name ≡ None → answer ≡ same_value None wanted → holds (Same answer) row ≡ same_value (value_of segment row name) wanted
null_is segment row name answer wanted e a = holds_same answer row ∙ a ∙ ap (λ v. same_value v wanted) (sym (value_none segment row name e))

pub null_among : (segment : Segment) (row : ℕ) (name : List ℕ) (answer : Bool) (wanted : List (Option (List ℕ))) → place_in segment.fields.dimensions name ≡ None → answer ≡ list_any (same_value None) wanted → holds (Same answer) row ≡ list_any (same_value (value_of segment row name)) wanted
null_among segment row name answer wanted e a = holds_same answer row ∙ a ∙ ap (λ v. list_any (same_value v) wanted) (sym (value_none segment row name e))

-- what a row's code says of its value
found_says : (segment : Segment) (row place : ℕ) (name : List ℕ) (ts : List (List ℕ)) (codes : List ℕ) (wanted : Option (List ℕ)) (found : Option ℕ) → row < length segment.rows → place_in segment.fields.dimensions name ≡ Some place → AreCodes ts (column place segment.rows) codes → IsCodeOf ts wanted found → found_is found (get_or codes row 0) ≡ same_value (value_of segment row name) wanted
found_says segment row place name ts codes wanted found h e are of =
    sym (of (get_or codes row 0) (row_bounded segment place row ts codes are h))
    ∙ ap (λ v. same_value v wanted) (row_value segment place row ts codes are h ∙ sym (value_some segment row place name e))

pub code_says : (segment : Segment) (row place : ℕ) (name : List ℕ) (ts : List (List ℕ)) (codes : Bor (List ℕ)) (wanted : Option (List ℕ)) (code : ℕ) → row < length segment.rows → place_in segment.fields.dimensions name ≡ Some place → AreCodes ts (column place segment.rows) codes.now → IsCodeOf ts wanted (Some code) → holds (Is codes code) row ≡ same_value (value_of segment row name) wanted
code_says segment row place name ts codes wanted code h e are of =
    holds_is codes code row ∙ ap (λ o. code_is o code) (row_code segment place row ts codes.now are h)
    ∙ found_says segment row place name ts codes.now wanted (Some code) h e are of

pub no_code_says : (segment : Segment) (row place : ℕ) (name : List ℕ) (ts : List (List ℕ)) (codes : List ℕ) (wanted : Option (List ℕ)) → row < length segment.rows → place_in segment.fields.dimensions name ≡ Some place → AreCodes ts (column place segment.rows) codes → IsCodeOf ts wanted None → holds (Same false) row ≡ same_value (value_of segment row name) wanted
no_code_says segment row place name ts codes wanted h e are of =
    holds_same false row ∙ found_says segment row place name ts codes wanted None h e are of

pub marks_say : (segment : Segment) (row place : ℕ) (name : List ℕ) (ts : List (List ℕ)) (codes : Bor (List ℕ)) (wanted : List (Option (List ℕ))) (marks : Vec Bool Global) → row < length segment.rows → place_in segment.fields.dimensions name ≡ Some place → AreCodes ts (column place segment.rows) codes.now → ((code : ℕ) → code ≤ length ts → slice_index_or marks.items code false ≡ list_any (same_value (value_at ts code)) wanted) → holds (Among codes marks) row ≡ list_any (same_value (value_of segment row name)) wanted
marks_say segment row place name ts codes wanted marks h e are of =
    holds_among codes marks row ∙ ap (λ o. code_among o marks.items) (row_code segment place row ts codes.now are h)
    ∙ of (get_or codes.now row 0) (row_bounded segment place row ts codes.now are h)
    ∙ ap (λ v. list_any (same_value v) wanted) (row_value segment place row ts codes.now are h ∙ sym (value_some segment row place name e))

-- null is the same as a value that is none
pub none_same : (wanted : Option (String Global)) (answer : Bool) → is_some wanted ≡ not answer → answer ≡ same_value None (option_map string_bytes wanted)
none_same None true e = refl
none_same None false e = absurd (cc)
none_same (Some text) true e = absurd (cc)
none_same (Some text) false e = refl
