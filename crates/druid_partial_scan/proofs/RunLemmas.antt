-- Rows of one bucket after each other.
use Rattle.std.proofs.Common.{◌≡◌, ◌∙◌, ◌≢◌, ℕ, zero, suc, ◌+◌, ◌<◌, ◌≤◌, List, [], ◌∷◌, ◌++◌, length, map, get_or, Bool, true, false, cond, refl, sym, ap, subst, arith, ⊎_elim, ◌⊎◌, inl, inr}
use Rattle.std.specs.Prelude.{filter, ◌&&◌, nat_le, nat_lt, ◌-◌}
use Rattle.std.specs.Cmp.Lexicographic.{slice_cmp}
use Rattle.std.proofs.lemmas.Bool.Decides.{nat_tests}
use Rattle.std.proofs.lemmas.Cmp.{ranked, by_ranked}
use Rattle.std.proofs.lemmas.List.{append-nil, take_all}
use Rattle.std.proofs.lemmas.List.Elements.{All-nil}
use Rattle.std.specs.List.Sorted.{IsNonDecreasing}
use Rattle.std.specs.Ordering.{nat_cmp, ordering_then}
use Rattle.std.specs.declared.cmp.Ordering.TheVariants.{Less}
use Rattle.std.proofs.lemmas.List.{get_or-map, length-map}
use Rattle.druid_base.proofs.OrderLemmas.{nat_cmp-lt}
use Rattle.druid_time.specs.Extent.{Extent, Has}
use Rattle.druid_time.specs.Granularity.{bucket_at as time_bucket}
use Rattle.druid_time.specs.declared.granularity.Granularity.{Granularity}
use Rattle.druid_time.specs.declared.granularity.Granularity.TheVariants as granularity
use Rattle.druid_segment_rows.specs.Rows.{Row, no_row}
use Rattle.druid_segment_rows.specs.Segment.{Segment, row_at}
use Rattle.druid_query.specs.Query.{Query}
use Rattle.druid_partial.specs.Groups.{Key, Group, Occurs, value_cmp, key_cmp}
use Rattle.druid_partial.specs.Partials.{bucket_of, kinds_of, HasNumbers, IsGroupFor}
use Rattle.druid_partial_scan.specs.Rows.{is_asked, passes_if, row_group, counted_by}
use Rattle.druid_filter.specs.Filters.{value_in}
use Rattle.std.specs.List.{flat_map}
use Rattle.druid_partial_scan.specs.Scans.{Scan, counted_at, bucket_at, AreCounted, AreUpto, counted_upto, ComeBefore, HaveBucket, BucketsRise, AreApart}
use Rattle.std.specs.Prelude.{unwrap_or}
use Rattle.std.proofs.lemmas.Bool.{false_from_ne_true}
use Rattle.druid_partial.proofs.OrderLemmas.{no_rows}
use Rattle.druid_partial.proofs.GroupLemmas.{occurs_both, occurs_cases, no_occurrence}
use Rattle.druid_partial_scan.proofs.ReportLemmas.{upto_more}

later_bucket : (g : Granularity) (s t e : ℕ) → s ≤ t → unwrap_or (time_bucket g s) e ≤ unwrap_or (time_bucket g t) e
later_bucket granularity.All s t e h = omega arith
later_bucket granularity.Second s t e h = omega (arith, h)
later_bucket granularity.Minute s t e h = omega (arith, h)
later_bucket granularity.Hour s t e h = omega (arith, h)
later_bucket granularity.Day s t e h = omega (arith, h)

-- where instants rise, so do buckets
pub rising_buckets : (query : Query) (segment : Segment) → IsNonDecreasing (map (λ (row : Row). row.time) segment.rows) → (i j : ℕ) → i ≤ j → j < length segment.rows → bucket_of query (row_at segment i).time ≤ bucket_of query (row_at segment j).time
rising_buckets query segment rise i j h k =
    let wide : length (map (λ (row : Row). row.time) segment.rows) ≡ length segment.rows = length-map segment.rows (λ (row : Row). row.time) in
    let mine : get_or (map (λ (row : Row). row.time) segment.rows) i 0 ≡ (row_at segment i).time = get_or-map (λ (row : Row). row.time) segment.rows i no_row 0 (omega (arith, h, k)) in
    let theirs : get_or (map (λ (row : Row). row.time) segment.rows) j 0 ≡ (row_at segment j).time = get_or-map (λ (row : Row). row.time) segment.rows j no_row 0 k in
    let up = rise i j 0 h (omega (arith, k, wide)) in
    later_bucket query.granularity (row_at segment i).time (row_at segment j).time _ (omega (arith, mine, theirs, up))

-- ---- rows that are not asked for

both_true : (a b c : Bool) → (a && b && c) ≡ true → (a ≡ true) × (b ≡ true)
both_true true true c e = (refl, refl)
both_true true false c e = absurd (cc)
both_true false true c e = absurd (cc)
both_true false false c e = absurd (cc)

pub asked_has : (query : Query) (interval : Extent) (segment : Segment) (row : ℕ) → is_asked query interval segment.fields (row_at segment row) ≡ true → Has interval (row_at segment row).time
asked_has query interval segment row e =
    let t = (row_at segment row).time in
    let both = both_true (nat_le interval.start t) (nat_lt t interval.end) _ e in
    let low = both.0 in let high = both.1 in
    (grind (arith, nat_tests, low), grind (arith, nat_tests, high))

-- the rows that lie in the interval stand there
abbrev pub StandIn : Scan → Extent → ℕ → ℕ → Type 0
StandIn scan interval start end = (place : ℕ) → place < length scan.segment.rows → Has interval (row_at scan.segment place).time → (start ≤ place) × (place < end)

outside : (scan : Scan) (interval : Extent) (start end row : ℕ) → StandIn scan interval start end → row < length scan.segment.rows → (row < start) ⊎ (end ≤ row) → is_asked scan.query interval scan.segment.fields (row_at scan.segment row) ≡ false
outside scan interval start end row all h side = false_from_ne_true _ (λ e.
    let there = all row h (asked_has scan.query interval scan.segment row e) in
    let low = there.0 in let high = there.1 in
    ⊎_elim (λ l. absurd (omega (arith, l, low))) (λ g. absurd (omega (arith, g, high))) side)

upto_skip : (scan : Scan) (interval : Extent) (i k : ℕ) → i + k ≤ length scan.segment.rows → ((row : ℕ) → i ≤ row → row < i + k → is_asked scan.query interval scan.segment.fields (row_at scan.segment row) ≡ false) → counted_upto scan.query scan.segment interval (i + k) ≡ counted_upto scan.query scan.segment interval i
upto_skip scan interval i zero h none = let e : i + 0 ≡ i = omega arith in ap (counted_upto scan.query scan.segment interval) e
upto_skip scan interval i (suc k) h none =
    let e : i + suc k ≡ (i + k) + 1 = omega arith in
    ap (counted_upto scan.query scan.segment interval) e
    ∙ upto_more scan.query scan.segment interval (i + k) false (omega (arith, h)) (none (i + k) (omega arith) (omega arith))
    ∙ append-nil _
    ∙ upto_skip scan interval i k (omega (arith, h)) (λ row low high. none row low (omega (arith, high)))

skip_to : (scan : Scan) (interval : Extent) (i m : ℕ) → i ≤ m → m ≤ length scan.segment.rows → ((row : ℕ) → i ≤ row → row < m → is_asked scan.query interval scan.segment.fields (row_at scan.segment row) ≡ false) → counted_upto scan.query scan.segment interval m ≡ counted_upto scan.query scan.segment interval i
skip_to scan interval i m h k none =
    let e : m ≡ i + (m - i) = omega (arith, h) in
    ap (counted_upto scan.query scan.segment interval) e
    ∙ upto_skip scan interval i (m - i) (omega (arith, h, k)) (λ row low high. none row low (omega (arith, high, h)))

pub nothing_before : (scan : Scan) (interval : Extent) (start end : ℕ) → StandIn scan interval start end → start ≤ length scan.segment.rows → counted_upto scan.query scan.segment interval start ≡ []
nothing_before scan interval start end all h =
    skip_to scan interval 0 start (omega arith) h (λ row low high. outside scan interval start end row all (omega (arith, high, h)) (inl high))

pub whole_upto : (scan : Scan) (interval : Extent) (start end : ℕ) → StandIn scan interval start end → end ≤ length scan.segment.rows → counted_by scan.query scan.segment interval ≡ counted_upto scan.query scan.segment interval end
whole_upto scan interval start end all h =
    ap (λ rows. map (row_group scan.query scan.segment.fields) (filter (is_asked scan.query interval scan.segment.fields) rows)) (sym (take_all (length scan.segment.rows) scan.segment.rows (omega arith)))
    ∙ skip_to scan interval end (length scan.segment.rows) h (omega arith) (λ row low high. outside scan interval start end row all high (inr low))

-- before the first place there is nothing
pub upto_start : (scan : Scan) (interval : Extent) (start end : ℕ) (groups : List Group) → StandIn scan interval start end → start ≤ length scan.segment.rows → groups ≡ [] → AreUpto scan interval start groups
upto_start scan interval start end groups all h none =
    let e = nothing_before scan interval start end all h in
    let P : List Group → Type 0 = λ rows. AreCounted scan.query rows groups in
    let Q : List Group → Type 0 = λ gs. AreCounted scan.query [] gs in
    subst P (sym e) (subst Q (sym none) (record {
      result = no_rows (kinds_of scan.query) [] refl;
      numbers = All-nil (HasNumbers (kinds_of scan.query));
      each = All-nil (IsGroupFor scan.query);
    }))

-- and after the last nothing more
pub upto_end : (scan : Scan) (interval : Extent) (start end at : ℕ) (groups : List Group) → StandIn scan interval start end → at ≡ end → end ≤ length scan.segment.rows → AreUpto scan interval at groups → AreCounted scan.query (counted_by scan.query scan.segment interval) groups
upto_end scan interval start end at groups all last h upto =
    let e = whole_upto scan interval start end all h in
    let P : List Group → Type 0 = λ rows. AreCounted scan.query rows groups in
    let Q : ℕ → Type 0 = λ i. AreUpto scan interval i groups in
    subst P (sym e) (subst Q last upto)

-- ---- runs

-- a key that rows tell is that of one that was asked for
pub record IsOfRow (scan : Scan) (interval : Extent) (i : ℕ) (key : Key) : Type 0 where
  pub row : ℕ
  pub below : row < i
  pub asked : is_asked scan.query interval scan.segment.fields (row_at scan.segment row) ≡ true
  pub key_is : (counted_at scan row).key ≡ key

occurs_upto : (scan : Scan) (interval : Extent) (i : ℕ) (key : Key) → i ≤ length scan.segment.rows → Occurs key (counted_upto scan.query scan.segment interval i) → IsOfRow scan interval i key
occurs_upto scan interval zero key h o = absurd (no_occurrence key o)
occurs_upto scan interval (suc i) key h o =
    let next : suc i ≡ i + 1 = omega arith in
    let b = is_asked scan.query interval scan.segment.fields (row_at scan.segment i) in
    let P : List Group → Type 0 = Occurs key in
    ⊎_elim
    (λ early. let k = occurs_upto scan interval i key (omega (arith, h)) early in record { row = k.row; below = let m = k.below in omega (arith, m); asked = k.asked; key_is = k.key_is })
    (λ here. last b refl here)
    (occurs_both (counted_upto scan.query scan.segment interval i) (cond b (counted_at scan i ∷ []) []) key
    (subst P (ap (counted_upto scan.query scan.segment interval) next ∙ upto_more scan.query scan.segment interval i b (omega (arith, h)) refl) o))
  where
    last : (b : Bool) → is_asked scan.query interval scan.segment.fields (row_at scan.segment i) ≡ b → Occurs key (cond b (counted_at scan i ∷ []) []) → IsOfRow scan interval (suc i) key
    last true e here = record {
      row = i;
      below = omega arith;
      asked = e;
      key_is = ⊎_elim (λ k. k) (λ none. absurd (no_occurrence key none)) (occurs_cases (counted_at scan i) [] key here);
    }
    last false e here = absurd (no_occurrence key here)

bucket_less : (a b : Key) → a.bucket < b.bucket → key_cmp a b ≡ Less
bucket_less a b h = ap (λ o. ordering_then o (slice_cmp value_cmp a.values b.values)) (nat_cmp-lt a.bucket b.bucket h)

-- the groups so far come before the rows of later buckets
pub come_before : (scan : Scan) (interval : Extent) (start at end to : ℕ) (groups : List Group) → StandIn scan interval start end → at ≤ end → to ≤ end → end ≤ length scan.segment.rows → AreApart scan start at end → AreUpto scan interval at groups → ComeBefore scan groups at to
come_before scan interval start at end to groups all p q h apart upto row low high g c =
    let o = occurs_upto scan interval at g.key (omega (arith, p, h)) ((upto.result.each g c).occurs) in
    let below = o.below in
    let from = (all o.row (omega (arith, below, p, h)) (asked_has scan.query interval scan.segment o.row o.asked)).0 in
    let P : Key → Type 0 = λ k. key_cmp k (counted_at scan row).key ≡ Less in
    subst P o.key_is (bucket_less (counted_at scan o.row).key (counted_at scan row).key (apart o.row row from below low (omega (arith, high, q))))

-- at the first place
pub apart_start : (scan : Scan) (start end : ℕ) → AreApart scan start start end
apart_start scan start end i j low high at below = absurd (omega (arith, low, high))

-- after one run more
pub apart_next : (scan : Scan) (start at to end : ℕ) → BucketsRise scan → end ≤ length scan.segment.rows → at < to → HaveBucket scan (bucket_at scan at) at to → (to < end → bucket_at scan to ≢ bucket_at scan at) → AreApart scan start at end → AreApart scan start to end
apart_next scan start at to end rise h after same next apart i j low high from below =
    ⊎_elim (λ l. apart i j low l (omega (arith, after, from)) below) (λ g. later g) (side i at)
  where
    side : (i at : ℕ) → (i < at) ⊎ (at ≤ i)
    side i at = by_ranked (i < at) (i ≡ at) (at < i) (nat_cmp i at) (ranked i at (nat_cmp i at) refl) (λ o l. inl l) (λ o e. inr (omega (arith, e))) (λ o g. inr (omega (arith, g)))

    later : at ≤ i → bucket_at scan i < bucket_at scan j
    later g =
        let mine : bucket_at scan i ≡ bucket_at scan at = same i g high in
        let apart_at : bucket_at scan to ≢ bucket_at scan at = next (omega (arith, from, below)) in
        let up : bucket_at scan at ≤ bucket_at scan to = rise at to (omega (arith, after)) (omega (arith, from, below, h)) in
        let further : bucket_at scan to ≤ bucket_at scan j = rise to j from (omega (arith, below, h)) in
        omega (arith, mine, apart_at, up, further)

-- where buckets rise, rows between two of one bucket have it
pub same_between : (scan : Scan) (bucket from low : ℕ) → BucketsRise scan → low < length scan.segment.rows → bucket_at scan from ≡ bucket → bucket_at scan low ≡ bucket → (row : ℕ) → from ≤ row → row ≤ low → bucket_at scan row ≡ bucket
same_between scan bucket from low rise h first last row p q =
    let up : bucket_at scan from ≤ bucket_at scan row = rise from row p (omega (arith, q, h)) in
    let down : bucket_at scan row ≤ bucket_at scan low = rise row low q h in
    omega (arith, first, last, up, down)

-- up to the place after the last of them
pub run_same : (scan : Scan) (bucket from to end : ℕ) → BucketsRise scan → from < to → to ≤ end → end ≤ length scan.segment.rows → bucket_at scan from ≡ bucket → ((row : ℕ) → row + 1 ≡ to → bucket_at scan row ≡ bucket) → HaveBucket scan bucket from to
run_same scan bucket from zero end rise p q h first last row low high = absurd (omega (arith, p))
run_same scan bucket from (suc to) end rise p q h first last row low high =
    same_between scan bucket from to rise (omega (arith, q, h)) first (last to (omega arith)) row low (omega (arith, high))

-- ---- where no row passes

and_no : (a b : Bool) → b ≡ false → (a && b) ≡ false
and_no true b e = e
and_no false b e = refl

pub none_counted : (scan : Scan) → ((row : ℕ) → row < length scan.segment.rows → passes_if (value_in scan.segment.fields.dimensions (row_at scan.segment row).dimensions) scan.query.filter ≡ false) → (pieces : List Extent) → flat_map (counted_by scan.query scan.segment) pieces ≡ []
none_counted scan none [] = refl
none_counted scan none (interval ∷ pieces) =
    let rows = scan.segment.rows in
    let asked : (row : ℕ) → row < length rows → is_asked scan.query interval scan.segment.fields (row_at scan.segment row) ≡ false = λ row h.
    and_no (nat_le interval.start (row_at scan.segment row).time && nat_lt (row_at scan.segment row).time interval.end) _ (none row h) in
    let one : counted_by scan.query scan.segment interval ≡ [] =
    ap (λ l. map (row_group scan.query scan.segment.fields) (filter (is_asked scan.query interval scan.segment.fields) l)) (sym (take_all (length rows) rows (omega arith)))
    ∙ skip_to scan interval 0 (length rows) (omega arith) (omega arith) (λ row low high. asked row high) in
    ap (λ l. l ++ flat_map (counted_by scan.query scan.segment) pieces) one ∙ none_counted scan none pieces
