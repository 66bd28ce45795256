-- What honest nodes answered, gathered, is what the visible rows tell.
use Rattle.std.proofs.Common.{◌≡◌, ◌||◌, ◌&&◌, ℕ, suc, arith, Bool, true, false, not, cond, List, [], ◌∷◌, ◌++◌, get_or, map, filter, Some, Result, Ok, refl, sym, ap, ◌∙◌, subst, inl, inr, ◌⊎◌}
use Rattle.std.specs.Bool.{nat_le, nat_lt}
use Rattle.std.specs.Cmp.{first_so, second_so, IsTotalOrder}
use Rattle.std.proofs.lemmas.Cmp.{tied_itself, then_total, on_total, nat_cmp_total}
use Rattle.std.specs.List.{AllByRecursion, Contains, list_any, slice_get}
use Rattle.std.specs.List.Sorted.{IsStrictlySortedBy}
use Rattle.std.specs.Prelude.{◌↔◌, ⊤}
use Rattle.std.specs.declared.cmp.Ordering.TheVariants.{Less, Equal}
use Rattle.std.proofs.lemmas.Bool.{cases_Bool, false≢true, or_cases, leb-true, ltb-true, le-leb, lt-ltb, not-true, false_from_ne_true, and_from, or_right}
use Rattle.std.proofs.lemmas.List.Elements.{Contains-get_or, Contains-append_left, Contains-append_right, Contains-append_cases, filter_agree}
use Rattle.std.proofs.lemmas.List.Concat.{flat_map-append}
use Rattle.std.proofs.lemmas.List.Folds.{list_any_none}
use Rattle.std.proofs.lemmas.Option.{slice_get-get_or}
use Rattle.std.proofs.lemmas.Map.Keys.{sorted_head, sorted_tail}
use Rattle.druid_base.proofs.OrderLemmas.{bool_same}
use Rattle.druid_time.specs.Extent.{Extent, Has}
use Rattle.druid_segment_id.specs.Group.{Group as Chunk, group_of, same_group}
use Rattle.druid_segment_id.specs.Identifier.{Identifier, same_identifier}
use Rattle.druid_segment_id.specs.IdentifierLaws.{same_identifier-true, same_identifier-equiv}
use Rattle.druid_base.proofs.MemberLemmas.{Contains-cons, Contains-later, Contains-nil, Contains-map_back}
use Rattle.druid_timeline.specs.Holding.{Held, held_of, members_of}
use Rattle.druid_timeline.specs.Visible.{IsVisible}
use Rattle.druid_timeline.specs.Pieces.{Shown, AreRuns, Shows}
use Rattle.druid_timeline.proofs.HoldingLemmas.{in_filter, from_filter, IsVisible-same}
use Rattle.druid_timeline_chunks.proofs.ChunkLemmas.{same_group-same}
use Rattle.druid_segment_rows.specs.Rows.{Row}
use Rattle.druid_filter.specs.Filters.{value_in}
use Rattle.druid_segment_rows.specs.Segment.{Segment}
use Rattle.druid_inventory.specs.Entry.{Entry}
use Rattle.druid_inventory.specs.Sources.{IsHoldingOf}
use Rattle.druid_query.specs.Query.{Query}
use Rattle.druid_query.specs.Asked.{Asked, Overlap, do_overlap, stand_apart}
use Rattle.druid_query.specs.AskedOrder.{same_asked, same_asked-equiv}
use Rattle.druid_query.proofs.AskedLemmas.{overlap_seen}
use Rattle.druid_partial.specs.Groups.{Group as Reported, IsResult}
use Rattle.druid_partial.specs.Partials.{kinds_of}
use Rattle.druid_partial_scan.specs.Rows.{is_asked, passes_if, row_group}
use Rattle.druid_partial_scan.specs.Once.{counted_groups, counted_of, counted_once, is_counted}
use Rattle.druid_partial_text.specs.Answers.{missing_at}
use Rattle.druid_query.specs.PieceOrder.{same_asked-true}
use Rattle.serde_json.specs.Read.{read}
use Rattle.druid_http_wire.specs.Messages.{IsResponse}
use Rattle.druid_http_wire.proofs.OnceLemmas.{one_response}
use Rattle.druid_partial.proofs.GroupLemmas.{Alike, result_alike, result_is_alike, alike_append, alike_through, alike_equal}
use Rattle.druid_partial_scan.proofs.OnceLemmas.{counted_alike}
use Rattle.druid_broker_scatter.specs.Plan.{Pair, asked_of, place_cmp, IsWanted, IsPlanOf}
use Rattle.druid_broker_scatter.specs.Gathered.{Exchange, Answers, Gives, AllReport, AtOnePlace, IsGathered}
use Rattle.druid_broker_scatter.specs.Exact.{without, IsHonest, AreServed, Sees, counts, counted_visible}
use Rattle.druid_broker_scatter.proofs.LawLemmas.{shows_there, one_run}

-- ---- tests over pieces

pub any_found : (p : Asked → Bool) (xs : List Asked) → list_any p xs ≡ true → (a : Asked) × Contains xs a × (p a ≡ true)
any_found p [] h = absurd (false≢true h)
any_found p (x ∷ xs) h =
    elim (or_cases (p x) (list_any p xs) h) [
      | inl here ↦ (x, (0, omega arith, refl), here)
      | inr later ↦ let f = any_found p xs later in (f.0, Contains-later x xs f.0 f.1, f.2)
    ]

pub any_counted : (p : Asked → Bool) (xs : List Asked) (a : Asked) → Contains xs a → p a ≡ true → list_any p xs ≡ true
any_counted p [] a there h = absurd (Contains-nil a there)
any_counted p (x ∷ xs) a there h =
    elim (Contains-cons x xs a there) [
      | inl same ↦ ap (λ b. b || list_any p xs) (ap p same ∙ h)
      | inr later ↦ ap (λ b. p x || b) (any_counted p xs a later h) ∙ or_right (p x) true refl
    ]

-- ---- pieces that stand apart

-- none overlaps one after it
abbrev AllApart : List Asked → Type 0
AllApart [] = ⊤
AllApart (a ∷ more) = ((b : Asked) → Contains more b → Overlap a b → ⊥) × AllApart more

apart_tested : (xs : List Asked) → AllApart xs → stand_apart xs ≡ true
apart_tested [] all = refl
apart_tested (x ∷ xs) all =
    ap (λ b. not b && stand_apart xs)
    (list_any_none (do_overlap x) xs (λ k a l. false_from_ne_true (do_overlap x (get_or xs k a)) (λ h. all.0 (get_or xs k a) (Contains-get_or xs k a l) (overlap_seen x (get_or xs k a) h))))
    ∙ apart_tested xs all.1

apart_append : (xs ys : List Asked) → AllApart xs → AllApart ys → ((a b : Asked) → Contains xs a → Contains ys b → Overlap a b → ⊥) → AllApart (xs ++ ys)
apart_append [] ys hx hy cross = hy
apart_append (x ∷ xs) ys hx hy cross =
    ((λ b there o. by b (Contains-append_cases xs ys b there) o), apart_append xs ys hx.1 hy (λ a b in_xs in_ys o. cross a b (Contains-later x xs a in_xs) in_ys o)) where
      by : (b : Asked) → Contains xs b ⊎ Contains ys b → Overlap x b → ⊥
      by b (inl in_xs) o = hx.0 b in_xs o
      by b (inr in_ys) o = cross x b (0, omega arith, refl) in_ys o

apart_filter : (p : Asked → Bool) (xs : List Asked) → AllApart xs → AllApart (filter p xs)
apart_filter p [] all = tt
apart_filter p (x ∷ xs) all = by (p x) (apart_filter p xs all.1) where
  by : (b : Bool) → AllApart (filter p xs) → AllApart (cond b (x ∷ filter p xs) (filter p xs))
  by true rest = ((λ b there o. all.0 b (from_filter p xs b there).0 o), rest)
  by false rest = rest

below : (x : Asked) (ys : List Asked) → AllByRecursion (λ y. place_cmp x y ≡ Less) ys → (b : Asked) → Contains ys b → place_cmp x b ≡ Less
below x [] all b there = absurd (Contains-nil b there)
below x (y ∷ ys) all b there = by (Contains-cons y ys b there) (below x ys all.1 b) where
  by : (y ≡ b) ⊎ Contains ys b → (Contains ys b → place_cmp x b ≡ Less) → place_cmp x b ≡ Less
  by (inl same) rest = subst (λ (z : Asked). place_cmp x z ≡ Less) same all.0
  by (inr later) rest = rest later

place_total : IsTotalOrder place_cmp
place_total = then_total (on_total (λ (a : Asked). a.1.start) nat_cmp_total) (on_total (λ (a : Asked). a.0.partition) nat_cmp_total)

place_itself : (x : Asked) → place_cmp x x ≡ Equal
place_itself x = tied_itself place_total x

less_apart : (x b : Asked) → place_cmp x b ≡ Less → x ≡ b → ⊥
less_apart x b less same = let e : Equal ≡ Less = sym (place_itself x) ∙ subst (λ (z : Asked). place_cmp x z ≡ Less) (sym same) less in absurd (cc)

-- pieces that overlap only themselves, in order
apart_sorted : (xs : List Asked) → IsStrictlySortedBy place_cmp xs → ((a b : Asked) → Contains xs a → Contains xs b → Overlap a b → a ≡ b) → AllApart xs
apart_sorted [] sorted one = tt
apart_sorted (x ∷ xs) sorted one = (
  (λ b there o. less_apart x b (below x xs (sorted_head place_cmp x xs sorted) b there) (one x b (0, omega arith, refl) (Contains-later x xs b there) o)),
  apart_sorted xs (sorted_tail place_cmp x xs sorted) (λ a b in_a in_b o. one a b (Contains-later x xs a in_a) (Contains-later x xs b in_b) o),
)

-- ---- the pieces that were given

abbrev pub pieces_given : (query : Query) (es : List Exchange) (rows : List Reported) → AllReport query es rows → List Asked
pieces_given query [] rows report = []
pieces_given query (e ∷ more) rows (inl t) = without t.0 e.asked ++ pieces_given query more t.2 t.4
pieces_given query (e ∷ more) rows (inr t) = pieces_given query more rows t.1

given_alike : (query : Query) (segments : List Segment) (es : List Exchange) (rows : List Reported) (report : AllReport query es rows)
    → ((e : Exchange) → Contains es e → IsHonest query segments e) → Alike (kinds_of query) rows (counted_groups query segments (pieces_given query es rows report))
given_alike query segments [] rows report honest = alike_equal (kinds_of query) rows [] report
given_alike query segments (e ∷ more) rows (inl t) honest =
    let kinds = kinds_of query in
    let front = without t.0 e.asked in
    let back = pieces_given query more t.2 t.4 in
    let first = result_is_alike kinds (counted_groups query segments front) t.1 (honest e (0, omega arith, refl) t.0 t.1 t.3) in
    let later = given_alike query segments more t.2 t.4 (λ x there. honest x (Contains-later e more x there)) in
    alike_through kinds rows (t.1 ++ t.2) (counted_groups query segments (front ++ back)) (alike_equal kinds rows (t.1 ++ t.2) t.5)
    (alike_through kinds (t.1 ++ t.2) (counted_groups query segments front ++ counted_groups query segments back) (counted_groups query segments (front ++ back))
    (alike_append kinds t.1 (counted_groups query segments front) t.2 (counted_groups query segments back) first later)
    (alike_equal kinds (counted_groups query segments front ++ counted_groups query segments back) (counted_groups query segments (front ++ back)) (sym (flat_map-append (counted_of query segments) front back))))
given_alike query segments (e ∷ more) rows (inr t) honest = given_alike query segments more rows t.1 (λ x there. honest x (Contains-later e more x there))

-- an exchange has one answer
answers_once : (query : Query) (e : Exchange) (m n : List Asked) (g h : List Reported) → Answers query e m g → Answers query e n h → m ≡ n
answers_once query e m n g h a b =
    let bytes : a.bytes ≡ b.bytes = same_Ok (sym a.came ∙ b.came) in
    let body : a.body ≡ b.body = (one_response b.bytes 200 200 a.body b.body a.rest b.rest (subst (λ (x : List ℕ). IsResponse x 200 a.body a.rest) bytes a.response) b.response).1 in
    let json : a.json ≡ b.json = same_Some (sym a.reads.1 ∙ ap read body ∙ b.reads.1) in
    same_Some (sym a.reported.missed ∙ ap (missing_at query.source) json ∙ b.reported.missed)
  where
    same_Ok : {A E : Type 0} {x y : A} → Path (Result A E) (Ok x) (Ok y) → x ≡ y
    same_Ok e = cc

    same_Some : {A : Type 0} {x y : A} → Some x ≡ Some y → x ≡ y
    same_Some e = cc

itself : (a : Asked) → same_asked a a ≡ true
itself a = same_asked-equiv.refl a

not_listed : (a : Asked) (missing : List Asked) → not (list_any (same_asked a) missing) ≡ true → Contains missing a → ⊥
not_listed a missing free there = false≢true (sym (not-true _ free) ∙ any_counted (same_asked a) missing a there (itself a))

free : (a : Asked) (missing : List Asked) → (Contains missing a → ⊥) → not (list_any (same_asked a) missing) ≡ true
free a missing absent =
    ap not (false_from_ne_true (list_any (same_asked a) missing) (λ h. let f = any_found (same_asked a) missing h in absent (subst (Contains missing) (sym (same_asked-true a f.0 f.2)) f.1)))

-- each of them was given by an exchange
in_given : (query : Query) (es : List Exchange) (rows : List Reported) (report : AllReport query es rows) (a : Asked) → Contains (pieces_given query es rows report) a
    → (e : Exchange) × Contains es e × Gives query e a
in_given query [] rows report a there = absurd (Contains-nil a there)
in_given query (e ∷ more) rows (inl t) a there =
    elim (Contains-append_cases (without t.0 e.asked) (pieces_given query more t.2 t.4) a there) [
      | inl front ↦
          let kept = from_filter (λ (x : Asked). not (list_any (same_asked x) t.0)) e.asked a front in
          (e, (0, omega arith, refl), (kept.0, t.0, t.1, t.3, not_listed a t.0 kept.1))
      | inr later ↦ let f = in_given query more t.2 t.4 a later in (f.0, Contains-later e more f.0 f.1, f.2)
    ]
in_given query (e ∷ more) rows (inr t) a there = let f = in_given query more rows t.1 a there in (f.0, Contains-later e more f.0 f.1, f.2)

-- what an exchange gave is among them
to_given : (query : Query) (es : List Exchange) (rows : List Reported) (report : AllReport query es rows) (e : Exchange) (a : Asked) → Contains es e → Gives query e a
    → Contains (pieces_given query es rows report) a
to_given query [] rows report e a there gives = absurd (Contains-nil e there)
to_given query (x ∷ more) rows (inl t) e a there gives =
    elim (Contains-cons x more e there) [
      | inl same ↦
          let mine : Gives query x a = subst (λ (y : Exchange). Gives query y a) (sym same) gives in
          let lists : mine.1 ≡ t.0 = answers_once query x mine.1 t.0 mine.2 t.1 mine.3 t.3 in
          let absent : Contains t.0 a → ⊥ = subst (λ (m : List Asked). Contains m a → ⊥) lists mine.4 in
          Contains-append_left (without t.0 x.asked) (pieces_given query more t.2 t.4) a (in_filter (λ (y : Asked). not (list_any (same_asked y) t.0)) x.asked a mine.0 (free a t.0 absent))
      | inr later ↦ Contains-append_right (without t.0 x.asked) (pieces_given query more t.2 t.4) a (to_given query more t.2 t.4 e a later gives)
    ]
to_given query (x ∷ more) rows (inr t) e a there gives =
    elim (Contains-cons x more e there) [
      | inl same ↦ let mine : Gives query x a = subst (λ (y : Exchange). Gives query y a) (sym same) gives in absurd (t.0.no_answer mine.1 mine.2 mine.3)
      | inr later ↦ to_given query more rows t.1 e a later gives
    ]

-- ---- no piece is given twice

at_place : (es : List Exchange) (e : Exchange) → Contains es e → (k : ℕ) × (slice_get es k ≡ Some e)
at_place es e there = (there.0, slice_get-get_or es there.0 e there.1 ∙ ap (λ x. Some x) there.2)

later_places : (e : Exchange) (more : List Exchange) (P : Exchange → Exchange → Type 0) → AtOnePlace (e ∷ more) P → AtOnePlace more P
later_places e more P once i j x y at_i at_j h = let same = once (suc i) (suc j) x y at_i at_j h in omega (arith, same)

given_apart : (query : Query) (es : List Exchange) (rows : List Reported) (report : AllReport query es rows)
    → ((e : Exchange) → Contains es e → IsStrictlySortedBy place_cmp e.asked)
    → ((e f : Exchange) (a b : Asked) → Contains es e → Contains es f → Contains e.asked a → Contains f.asked b → Overlap a b → a ≡ b)
    → ((a : Asked) → AtOnePlace es (λ x y. Gives query x a × Gives query y a))
    → AllApart (pieces_given query es rows report)
given_apart query [] rows report sorted one once = tt
given_apart query (e ∷ more) rows (inl t) sorted one once =
    apart_append (without t.0 e.asked) (pieces_given query more t.2 t.4)
    (apart_filter (λ (x : Asked). not (list_any (same_asked x) t.0)) e.asked (apart_sorted e.asked (sorted e (0, omega arith, refl)) (λ a b. one e e a b (0, omega arith, refl) (0, omega arith, refl))))
    (given_apart query more t.2 t.4 (λ x there. sorted x (Contains-later e more x there))
    (λ x y a b in_x in_y. one x y a b (Contains-later e more x in_x) (Contains-later e more y in_y))
    (λ a. later_places e more (λ x y. Gives query x a × Gives query y a) (once a)))
    (λ a b front later o. cross a b front (in_given query more t.2 t.4 b later) o) where
      cross : (a b : Asked) → Contains (without t.0 e.asked) a → ((f : Exchange) × Contains more f × Gives query f b) → Overlap a b → ⊥
      cross a b front found o =
          let kept = from_filter (λ (x : Asked). not (list_any (same_asked x) t.0)) e.asked a front in
          let mine : Gives query e a = (kept.0, t.0, t.1, t.3, not_listed a t.0 kept.1) in
          let same : a ≡ b = one e found.0 a b (0, omega arith, refl) (Contains-later e more found.0 found.1) kept.0 found.2.0 o in
          let other : Gives query found.0 a = subst (λ (x : Asked). Gives query found.0 x) (sym same) found.2 in
          let at = at_place more found.0 found.1 in
          let places = once a 0 (suc at.0) e found.0 refl at.1 (mine, other) in
          absurd (omega (arith, places))
given_apart query (e ∷ more) rows (inr t) sorted one once =
    given_apart query more rows t.1 (λ x there. sorted x (Contains-later e more x there))
    (λ x y a b in_x in_y. one x y a b (Contains-later e more x in_x) (Contains-later e more y in_y))
    (λ a. later_places e more (λ x y. Gives query x a × Gives query y a) (once a))

-- ---- pieces of a plan

piece_of : (pieces : List Shown) (t : ℕ) (g : Chunk) → Shows pieces t g → (s : Shown) × Contains pieces s × (s.group ≡ g) × Has s.interval t
piece_of [] t g shows = absurd shows
piece_of (p ∷ ps) t g (inl here) = (p, (0, omega arith, refl), here.0, here.1)
piece_of (p ∷ ps) t g (inr later) = let f = piece_of ps t g later in (f.0, Contains-later p ps f.0 f.1, f.2, f.3)

-- two pieces of a plan that overlap are one
wanted_one : (source : List ℕ) (held : List Held) (pieces : List Shown) → AreRuns pieces → (a b : Asked) → IsWanted source held pieces a → IsWanted source held pieces b → Overlap a b → a ≡ b
wanted_one source held pieces runs a b wa wb o =
    let x : Shown = record { interval = a.1; group = group_of a.0 } in
    let y : Shown = record { interval = b.1; group = group_of b.0 } in
    let same : x ≡ y = one_run pieces runs x y o.1.0 wa.shown wb.shown o.1.1 o.1.2 in
    λ i. (o.0 i, (same i).interval)

-- ---- what is visible

-- a row that a piece asks for lies in it, and passes the filter
asked_parts : (query : Query) (e : Extent) (s : Segment) (row : Row) → is_asked query e s.fields row ≡ true
    → Has e row.time × (passes_if (value_in s.fields.dimensions row.dimensions) query.filter ≡ true)
asked_parts query e s row h =
    let both = first_so (nat_le e.start row.time && nat_lt row.time e.end) (passes_if (value_in s.fields.dimensions row.dimensions) query.filter) h in (
      (leb-true e.start row.time (first_so (nat_le e.start row.time) (nat_lt row.time e.end) both), ltb-true row.time e.end (second_so (nat_le e.start row.time) (nat_lt row.time e.end) both)),
      second_so (nat_le e.start row.time && nat_lt row.time e.end) (passes_if (value_in s.fields.dimensions row.dimensions) query.filter) h,
    )

asked_whole : (query : Query) (e : Extent) (s : Segment) (row : Row) → Has e row.time → passes_if (value_in s.fields.dimensions row.dimensions) query.filter ≡ true
    → is_asked query e s.fields row ≡ true
asked_whole query e s row has passes =
    ap (λ b. b && passes_if (value_in s.fields.dimensions row.dimensions) query.filter)
    (ap (λ b. b && nat_lt row.time e.end) (le-leb e.start row.time has.0) ∙ lt-ltb row.time e.end has.1)
    ∙ passes

abbrev passes_row : Query → Segment → Row → Bool
passes_row query s row = passes_if (value_in s.fields.dimensions row.dimensions) query.filter

-- a row is counted by some of these pieces
reported_found : (query : Query) (xs : List Asked) (s : Segment) (row : Row) → is_counted query xs s row ≡ true
    → (a : Asked) × Contains xs a × (a.0 ≡ s.descriptor.id) × (is_asked query a.1 s.fields row ≡ true)
reported_found query xs s row h =
    let f = any_found (λ a. same_identifier a.0 s.descriptor.id && is_asked query a.1 s.fields row) xs h in
    (f.0, f.1, same_identifier-true f.0.0 s.descriptor.id (first_so _ _ f.2), second_so _ _ f.2)

reported_seen : (query : Query) (xs : List Asked) (s : Segment) (row : Row) (a : Asked) → Contains xs a → a.0 ≡ s.descriptor.id → is_asked query a.1 s.fields row ≡ true
    → is_counted query xs s row ≡ true
reported_seen query xs s row a there same asked =
    any_counted (λ x. same_identifier x.0 s.descriptor.id && is_asked query x.1 s.fields row) xs a there
    (and_from (same_identifier a.0 s.descriptor.id) (is_asked query a.1 s.fields row) (ap (λ (x : Identifier). same_identifier x s.descriptor.id) same ∙ same_identifier-equiv.refl s.descriptor.id) asked)

module _ (order : List ℕ → List ℕ) (inventory : List Entry) (query : Query) (pairs : List Pair) (exchanges : List Exchange) (missing : List Asked) (groups : List Reported)
    (segments : List Segment) (held : List Held) (sees : Segment → Row → Bool)
    (plan : IsPlanOf inventory query pairs) (gathered : IsGathered order query pairs exchanges missing groups) (served : AreServed inventory query.source segments)
    (holding : IsHoldingOf inventory query.source held) (seen : Sees query held segments sees) where
  wanted : (a : Asked) → Contains (asked_of pairs) a → IsWanted query.source plan.held plan.pieces a
  wanted a there = (plan.paired.all a).0 there

  one : (a b : Asked) → Contains (asked_of pairs) a → Contains (asked_of pairs) b → Overlap a b → a ≡ b
  one a b in_a in_b o = wanted_one query.source plan.held plan.pieces plan.visible.runs a b (wanted a in_a) (wanted b in_b) o

  planned : (e : Exchange) (a : Asked) → Contains exchanges e → Contains e.asked a → Contains (asked_of pairs) a
  planned e a there asks =
      let p = gathered.asked.planned e a there asks in
      subst (Contains (asked_of pairs)) p.3 (Contains-map_back (λ (x : Pair). x.asked) pairs p.0 p.2)

  same_held : (x : Held) → Contains held x ↔ Contains plan.held x
  same_held x = ((λ h. (plan.holding x).1 ((holding x).0 h)), (λ h. (holding x).1 ((plan.holding x).0 h)))

  abbrev given : List Asked
  given = pieces_given query exchanges gathered.rows gathered.reported

  given_planned : (a : Asked) → Contains given a → Contains (asked_of pairs) a
  given_planned a there = let f = in_given query exchanges gathered.rows gathered.reported a there in planned f.0 a f.1 f.2.0

  given_not_missing : (a : Asked) → Contains given a → Contains missing a → ⊥
  given_not_missing a there lost = let f = in_given query exchanges gathered.rows gathered.reported a there in ((gathered.missing_is a).0 lost).1 f.0 f.1 f.2

  -- a piece of the plan was given, or is missing
  given_or_missing : (a : Asked) → Contains (asked_of pairs) a → Contains given a ⊎ Contains missing a
  given_or_missing a there =
      elim (cases_Bool (list_any (same_asked a) given)) [
        | inl here ↦ let f = any_found (same_asked a) given here in inl (subst (Contains given) (sym (same_asked-true a f.0 f.2)) f.1)
        | inr none ↦
            inr ((gathered.missing_is a).1 (
              there,
              (λ e in_e gives.
                  false≢true (sym none ∙ any_counted (same_asked a) given a (to_given query exchanges gathered.rows gathered.reported e a in_e gives) (itself a))),
            ))
      ]

  -- where a piece of the plan has the time of a row, its segment's chunk is visible there
  seen_by : (a : Asked) (s : Segment) (row : Row) → Contains segments s → Contains (asked_of pairs) a → a.0 ≡ s.descriptor.id → Has a.1 row.time → sees s row ≡ true
  seen_by a s row in_s there same has =
      let w = wanted a there in
      let x : Shown = record { interval = a.1; group = group_of a.0 } in
      let shows = (plan.visible.shows row.time (group_of a.0)).0 (shows_there plan.pieces x row.time w.shown has) in
      let visible = IsVisible-same plan.held held row.time (group_of a.0) same_held shows.1 in
      (seen s row in_s).1 (subst (λ (id : Identifier). IsVisible held row.time (group_of id)) same visible, shows.0)

  -- where the chunk of a segment is visible at the time of a row, a piece of the plan has it
  piece_at : (s : Segment) (row : Row) → Contains segments s → sees s row ≡ true → (a : Asked) × Contains (asked_of pairs) a × (a.0 ≡ s.descriptor.id) × Has a.1 row.time
  piece_at s row in_s h =
      let v = (seen s row in_s).0 h in
      let id = s.descriptor.id in
      let visible = IsVisible-same held plan.held row.time (group_of id) (λ x. ((same_held x).1, (same_held x).0)) v.0 in
      let p = piece_of plan.pieces row.time (group_of id) ((plan.visible.shows row.time (group_of id)).1 (v.1, visible)) in
      let by = served.each s in_s in
      let x : Held = held_of by.0 by.1 in
      let there : Contains plan.held x = (plan.holding x).1 (by.0, by.1, by.2, ap (λ (i : Identifier). i.source) by.3 ∙ by.4, refl) in
      let chunk : group_of by.1.id ≡ group_of id = ap group_of by.3 in
      let member : Contains (members_of plan.held (group_of id)) x.member =
      Contains-map_back (λ (m : Held). m.member) (filter (λ m. same_group m.group (group_of id)) plan.held) x
      (in_filter (λ m. same_group m.group (group_of id)) plan.held x there (same_group-same x.group (group_of id) chunk)) in
      let a : Asked = (id, p.0.interval) in (
        a,
        (plan.paired.all a).1 (record {
          of_source = by.4;
          shown = subst (Contains plan.pieces) (λ i. record { interval = p.0.interval; group = p.2 i }) p.1;
          served = (x.member, member, ap (λ (i : Identifier). i.partition) by.3, ap not by.5);
        }),
        refl,
        p.3,
      )

  no_miss : (s : Segment) (row : Row) (a : Asked) → Contains given a → a.0 ≡ s.descriptor.id → Has a.1 row.time → is_counted query missing s row ≡ true → ⊥
  no_miss s row a there same has h =
      let m = reported_found query missing s row h in
      let parts = asked_parts query m.0.1 s row m.3 in
      let in_plan = ((gathered.missing_is m.0).0 m.1).0 in
      let equal : a ≡ m.0 = one a m.0 (given_planned a there) in_plan (same ∙ sym m.2, (row.time, has, parts.0)) in
      given_not_missing a there (subst (Contains missing) (sym equal) m.1)

  counted_to : (s : Segment) → Contains segments s → (row : Row) → is_counted query given s row ≡ true → counts query sees missing s row ≡ true
  counted_to s in_s row h =
      let f = reported_found query given s row h in
      let parts = asked_parts query f.0.1 s row f.3 in
      and_from (sees s row && passes_row query s row) (not (is_counted query missing s row))
      (and_from (sees s row) (passes_row query s row) (seen_by f.0 s row in_s (given_planned f.0 f.1) f.2 parts.0) parts.1)
      (ap not (false_from_ne_true (is_counted query missing s row) (no_miss s row f.0 f.1 f.2 parts.0)))

  counted_back : (s : Segment) → Contains segments s → (row : Row) → counts query sees missing s row ≡ true → is_counted query given s row ≡ true
  counted_back s in_s row h =
      let front = first_so (sees s row && passes_row query s row) (not (is_counted query missing s row)) h in
      let p = piece_at s row in_s (first_so (sees s row) (passes_row query s row) front) in
      let asked = asked_whole query p.0.1 s row p.3 (second_so (sees s row) (passes_row query s row) front) in
      elim (given_or_missing p.0 p.1) [
        | inl here ↦ reported_seen query given s row p.0 here p.2 asked
        | inr lost ↦
            absurd (false≢true (sym (not-true (is_counted query missing s row) (second_so (sees s row && passes_row query s row) (not (is_counted query missing s row)) h))
            ∙ reported_seen query missing s row p.0 lost p.2 asked))
      ]

  counted : (s : Segment) → Contains segments s → (row : Row) → is_counted query given s row ≡ counts query sees missing s row
  counted s in_s row = bool_same (is_counted query given s row) (counts query sees missing s row) (counted_to s in_s row) (counted_back s in_s row)

  once_visible : (ss : List Segment) → ((s : Segment) → Contains ss s → Contains segments s) → counted_once query given ss ≡ counted_visible query sees missing ss
  once_visible [] among = refl
  once_visible (s ∷ more) among =
      λ i. map (row_group query s.fields) (filter_agree (is_counted query given s) (counts query sees missing s) (counted s (among s (0, omega arith, refl))) s.rows i)
      ++ once_visible more (λ x there. among x (Contains-later s more x there)) i

  pub exact : ((e : Exchange) → Contains exchanges e → IsHonest query segments e) → IsResult (kinds_of query) (counted_visible query sees missing segments) groups
  exact honest =
      let kinds = kinds_of query in
      let apart = apart_tested given (given_apart query exchanges gathered.rows gathered.reported gathered.asked.in_order
      (λ e f a b in_e in_f in_a in_b. one a b (planned e a in_e in_a) (planned f b in_f in_b)) gathered.given_once) in
      let reported_each = result_alike kinds gathered.rows (counted_groups query segments given) groups (given_alike query segments exchanges gathered.rows gathered.reported honest) gathered.merged in
      let once = result_alike kinds (counted_groups query segments given) (counted_once query given segments) groups (counted_alike query segments given served.own apart) reported_each in
      subst (λ (rows : List Reported). IsResult kinds rows groups) (once_visible segments (λ s there. there)) once
