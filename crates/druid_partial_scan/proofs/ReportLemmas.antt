-- What rows tell, one after another.
use Rattle.std.proofs.Common.{◌≡◌, ◌∙◌, ℕ, zero, suc, ◌+◌, ◌<◌, ℤ, List, [], ◌∷◌, ◌++◌, length, map, Bool, true, false, cond, Option, Some, None, refl, sym, ap, subst, arith}
use Rattle.std.specs.Prelude.{Contains, slice_get, slice_index_or, IsSome, unwrap_or}
use Rattle.std.proofs.lemmas.List.{map-append, append-nil, length-map}
use Rattle.std.proofs.lemmas.List.Elements.{All-nil, All-cons, All-contains, filter_more}
use Rattle.druid_time.specs.Extent.{Extent}
use Rattle.druid_time.specs.Granularity.{bucket_at}
use Rattle.druid_time.specs.declared.granularity.Granularity.{Granularity}
use Rattle.druid_time.specs.declared.granularity.Granularity.TheVariants as granularity
use Rattle.druid_segment_rows.specs.Rows.{Schema, Row, no_row}
use Rattle.druid_segment_rows.specs.Segment.{Segment, row_at}
use Rattle.druid_query.specs.Query.{Query, Aggregator}
use Rattle.druid_query.specs.declared.aggregator.AggregatorKind.{AggregatorKind}
use Rattle.druid_query.specs.declared.aggregator.AggregatorKind.TheVariants.{Count, LongSum, LongMin, LongMax}
use Rattle.druid_partial.specs.Groups.{Group, AreWords, IsResult}
use Rattle.druid_partial.specs.Joined.{merged}
use Rattle.druid_partial.specs.Partials.{earliest, kinds_of, HasNumbers, IsGroupFor}
use Rattle.druid_partial_scan.specs.Rows.{one_or, taken, row_group, is_asked}
use Rattle.druid_partial_scan.specs.Scans.{AreCounted, counted_upto}
use Rattle.druid_partial.proofs.OrderLemmas.{no_rows}
use Rattle.druid_base.proofs.MemberLemmas.{Contains-nil}
use Rattle.druid_partial.proofs.GroupLemmas.{merge_of_results, result_swap, in_order_more}
use Rattle.druid_partial.proofs.MergedLemmas.{settled, merged_is_merge}
use Rattle.druid_partial.proofs.JoinLemmas.{merged_each, has_joined, group_for, kinds_length}

-- the bucket of a bucket's label is that bucket
bucket_again : (g : Granularity) (t e : ℕ) → unwrap_or (bucket_at g (unwrap_or (bucket_at g t) e)) e ≡ unwrap_or (bucket_at g t) e
bucket_again granularity.All t e = refl
bucket_again granularity.Second t e = omega arith
bucket_again granularity.Minute t e = omega arith
bucket_again granularity.Hour t e = omega arith
bucket_again granularity.Day t e = omega arith

count_counted : (fields : Schema) (row : Row) (as' : List Aggregator) (place : ℕ) → slice_get (map (λ a. a.kind) as') place ≡ Some Count → IsSome (slice_index_or (map (taken fields row) as') place None)
count_counted fields row [] place k = absurd (cc)
count_counted fields row (a ∷ more) zero k = one_counted a.kind _ k
  where
    one_counted : (kind : AggregatorKind) (n : Option ℤ) → Some kind ≡ Some Count → IsSome (one_or kind n)
    one_counted Count n k = refl
    one_counted LongSum n k = absurd (cc)
    one_counted LongMin n k = absurd (cc)
    one_counted LongMax n k = absurd (cc)
count_counted fields row (a ∷ more) (suc place) k = count_counted fields row more place k

pub row_for : (query : Query) (fields : Schema) (row : Row) → IsGroupFor query (row_group query fields row)
row_for query fields row = record {
  bucket = bucket_again query.granularity row.time (earliest query.intervals);
  values = length-map query.dimensions _;
  numbers = length-map query.aggregations _;
  counted = λ place k. count_counted fields row query.aggregations place k;
}

pub row_numbers : (query : Query) (fields : Schema) (row : Row) → AreWords (row_group query fields row).numbers → HasNumbers (kinds_of query) (row_group query fields row)
row_numbers query fields row w = record {
  one_each = length-map query.aggregations (taken fields row) ∙ sym (kinds_length query);
  words = w;
}

-- one group more
pub counted_and : (query : Query) (rows groups more : List Group) (g : Group) → AreCounted query rows groups → HasNumbers (kinds_of query) g → IsGroupFor query g → more ≡ merged (kinds_of query) (g ∷ []) groups → AreCounted query (rows ++ g ∷ []) more
counted_and query rows groups more g t n f e =
    let kinds = kinds_of query in
    let P : List Group → Type 0 = λ gs. AreCounted query (rows ++ g ∷ []) gs in
    subst P (sym e) (record {
      result = result_swap kinds (g ∷ []) rows (merged kinds (g ∷ []) groups)
          (merge_of_results kinds (g ∷ []) rows (g ∷ []) groups (merged kinds (g ∷ []) groups) (alone_settled kinds g n) t.result
          (merged_is_merge kinds (g ∷ []) groups (alone_settled kinds g n).ordered (alone_kept kinds g n) t.result.ordered
          (λ h c. All-contains (HasNumbers kinds) groups h t.numbers c)));
      numbers = merged_each kinds (HasNumbers kinds) (has_joined kinds) (g ∷ []) groups (All-cons (HasNumbers kinds) g [] n (All-nil (HasNumbers kinds))) t.numbers;
      each = merged_each kinds (IsGroupFor query) (group_for query) (g ∷ []) groups (All-cons (IsGroupFor query) g [] f (All-nil (IsGroupFor query))) t.each;
    })
  where
    alone_kept : (kinds : List AggregatorKind) (g : Group) → HasNumbers kinds g → (h : Group) → Contains (g ∷ []) h → HasNumbers kinds h
    alone_kept kinds g n h c = All-contains (HasNumbers kinds) (g ∷ []) h (All-cons (HasNumbers kinds) g [] n (All-nil (HasNumbers kinds))) c

    alone_settled : (kinds : List AggregatorKind) (g : Group) → HasNumbers kinds g → IsResult kinds (g ∷ []) (g ∷ [])
    alone_settled kinds g n =
        settled kinds (g ∷ []) (in_order_more g [] (λ h c. absurd (Contains-nil h c)) (no_rows kinds [] refl).ordered)
        (λ h c. All-contains (HasNumbers kinds) (g ∷ []) h (All-cons (HasNumbers kinds) g [] n (All-nil (HasNumbers kinds))) c)

pub upto_more : (query : Query) (segment : Segment) (interval : Extent) (i : ℕ) (b : Bool) → i < length segment.rows → is_asked query interval segment.fields (row_at segment i) ≡ b → counted_upto query segment interval (i + 1) ≡ counted_upto query segment interval i ++ cond b (row_group query segment.fields (row_at segment i) ∷ []) []
upto_more query segment interval i b h e =
    ap (map (row_group query segment.fields)) (filter_more (is_asked query interval segment.fields) segment.rows i no_row h)
    ∙ map-append (row_group query segment.fields) _ _
    ∙ ap (λ l. counted_upto query segment interval i ++ l) (one_if (is_asked query interval segment.fields (row_at segment i)) b e)
  where
    one_if : (a b : Bool) → a ≡ b → map (row_group query segment.fields) (cond a (row_at segment i ∷ []) []) ≡ cond b (row_group query segment.fields (row_at segment i) ∷ []) []
    one_if true true e = refl
    one_if true false e = absurd (cc)
    one_if false true e = absurd (cc)
    one_if false false e = refl

-- a row that is asked for
pub counted_asked : (query : Query) (segment : Segment) (interval : Extent) (i : ℕ) (groups more : List Group) → i < length segment.rows → is_asked query interval segment.fields (row_at segment i) ≡ true → AreWords (row_group query segment.fields (row_at segment i)).numbers → more ≡ merged (kinds_of query) (row_group query segment.fields (row_at segment i) ∷ []) groups → AreCounted query (counted_upto query segment interval i) groups → AreCounted query (counted_upto query segment interval (i + 1)) more
counted_asked query segment interval i groups more h asked w e t =
    let row = row_at segment i in
    let P : List Group → Type 0 = λ rows. AreCounted query rows more in
    subst P (sym (upto_more query segment interval i true h asked))
    (counted_and query (counted_upto query segment interval i) groups more (row_group query segment.fields row) t (row_numbers query segment.fields row w) (row_for query segment.fields row) e)

-- another row
pub counted_passed : (query : Query) (segment : Segment) (interval : Extent) (i : ℕ) (groups : List Group) → i < length segment.rows → is_asked query interval segment.fields (row_at segment i) ≡ false → AreCounted query (counted_upto query segment interval i) groups → AreCounted query (counted_upto query segment interval (i + 1)) groups
counted_passed query segment interval i groups h asked t =
    let P : List Group → Type 0 = λ rows. AreCounted query rows groups in
    subst P (sym (upto_more query segment interval i false h asked ∙ append-nil _)) t
