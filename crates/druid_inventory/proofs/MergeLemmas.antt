-- A set with what goes out of it and what comes into it.
use Rattle.std.proofs.Common.{◌≡◌, ◌⊎◌, ◌↔◌, ◌+◌, ◌-◌, ◌<◌, ◌≤◌, ◌++◌, ℕ, suc, IsTrue, List, [], ◌∷◌, length, get_or, take, drop, Some, refl, sym, ap, ◌∙◌, subst, inl, inr, arith}
use Rattle.std.specs.List.{Contains, remove}
use Rattle.std.specs.Ordering.{nat_cmp}
use Rattle.std.specs.Cmp.Lexicographic.{slice_cmp}
use Rattle.std.specs.declared.cmp.Ordering.TheVariants.{Less}
use Rattle.std.proofs.lemmas.Bool.{cases_order}
use Rattle.std.proofs.lemmas.List.{append-nil, append_assoc, get_or_default, get_or-append-add, get_or_append_left, get_or-append_right, get_or-take, get_or-drop, take_rest, length-take, length-append, length-take-le, length-drop, take_all, take_at, take_more, take-take, drop_all, drop_at, drop_more, take-append-drop}
use Rattle.std.proofs.lemmas.List.Edits.{remove-append_right, insert-append_left}
use Rattle.std.proofs.lemmas.List.Elements.{Contains-append_left, Contains-append_right, Contains-append_cases, Contains-push, Contains-push_cases}
use Rattle.std.proofs.Math.Seq.{drop-cons}
use Rattle.druid_base.proofs.MemberLemmas.{Contains-cons, Contains-later, Contains-nil}
use Rattle.druid_sync_pages.proofs.OrderLemmas.{sorted_append, sorted_back}
use Rattle.druid_segment_id.specs.Identifier.{Identifier, identifier_text}
use Rattle.druid_segment_descriptor.specs.Described.{Described}
use Rattle.druid_segment_descriptor.specs.Reply.{IsBefore, AreSorted}
use Rattle.druid_segment_descriptor.specs.Replay.{IsSegmentSet, StandsAt, BelongsAt, is_strict, replay_from, with_segment, without_segment}
use Rattle.druid_segment_descriptor.specs.declared.change.Change.{Change}
use Rattle.druid_segment_descriptor.specs.declared.change.Change.TheVariants.{Load, Drop}
use Rattle.druid_segment_descriptor.proofs.PlaceLemmas.{inserted, removed}
use Rattle.druid_segment_descriptor.proofs.ReplayLemmas.{after-set, are_sorted, before_trans, in_order, replay_from-set, sorted-one_list, strict_drop, with_segment-in_order, Contains-with_segment, Contains-without_segment}
use Rattle.druid_segment_descriptor.proofs.SortedLemmas.{not_before_itself}
use Rattle.druid_inventory.specs.Judged.{segment_of, NoneOfFrom, IsLastOf, AreLast}
use Rattle.druid_inventory.specs.Merged.{exchanged, NoneIs, IsLoaded}
use Rattle.druid_inventory.proofs.ReplayedLemmas.{belongs_absent, holder-loaded, holder-dropped, one_holder, untouched}
use Rattle.druid_inventory.proofs.TimelineLemmas.{same_or_not}

-- ---- two parts that change places

pub parts_exchanged : (a b c d zs : List Described) (from middle to : ℕ) → zs ≡ a ++ (b ++ (c ++ d)) → from ≡ length a → middle ≡ length a + length b
    → to ≡ length a + length b + length c → exchanged zs from middle to ≡ a ++ (c ++ (b ++ d))
parts_exchanged a b c d zs from middle to e at half end =
    (λ i. front i ++ ((second i ++ first i) ++ last i)) ∙ ap (λ (ws : List Described). a ++ ws) (append_assoc c b d) where
      front : take from zs ≡ a
      front = ap (take from) e ∙ take_at a (b ++ (c ++ d)) from (sym at)

      rest : drop from zs ≡ (b ++ c) ++ d
      rest = ap (drop from) e ∙ drop_at a (b ++ (c ++ d)) from (sym at) ∙ sym (append_assoc b c d)

      long : length (b ++ c) ≡ to - from
      long = omega (arith, length-append b c, at, half, end)

      wide : length b ≡ middle - from
      wide = omega (arith, at, half)

      sub : take (to - from) (drop from zs) ≡ b ++ c
      sub = ap (take (to - from)) rest ∙ take_at (b ++ c) d (to - from) long

      last : drop (to - from) (drop from zs) ≡ d
      last = ap (drop (to - from)) rest ∙ drop_at (b ++ c) d (to - from) long

      second : drop (middle - from) (take (to - from) (drop from zs)) ≡ c
      second = ap (drop (middle - from)) sub ∙ drop_at b c (middle - from) wide

      first : take (middle - from) (take (to - from) (drop from zs)) ≡ b
      first = ap (take (middle - from)) sub ∙ take_at b c (middle - from) wide

-- ---- identifiers

abbrev text : Described → List ℕ
text d = identifier_text d.id

-- before one segment is before another of its text
before_text : (x y z : Described) → IsBefore x y → text y ≡ text z → IsBefore x z
before_text x y z before same = subst (λ (t : List ℕ). Before (text x) t) same before where
  Before : List ℕ → List ℕ → Type 0
  Before a b = slice_cmp nat_cmp a b ≡ Less

-- a segment is before those that one of its text is before
text_before : (x y z : Described) → text x ≡ text y → IsBefore x z → IsBefore y z
text_before x y z same before = subst (λ (t : List ℕ). Before t (text z)) same before where
  Before : List ℕ → List ℕ → Type 0
  Before a b = slice_cmp nat_cmp a b ≡ Less

none_more : (segments : List Described) (i : ℕ) (d : Described) (id : Identifier) → i < length segments
    → NoneIs (take (i + 1) segments) id ↔ (NoneIs (take i segments) id × (text (get_or segments i d) ≡ identifier_text id → ⊥))
none_more segments i d id l = (
  λ none. (
    λ x there. none x (subst (λ (ds : List Described). Contains ds x) (sym more) (Contains-append_left (take i segments) (get_or segments i d ∷ []) x there)),
    λ same. none (get_or segments i d) (subst (λ (ds : List Described). Contains ds (get_or segments i d)) (sym more) (Contains-push (take i segments) (get_or segments i d))) same,
  ),
  λ h x there. elim (Contains-push_cases (take i segments) (get_or segments i d) x (subst (λ (ds : List Described). Contains ds x) more there)) [
    | inl before ↦ h.0 x before
    | inr e ↦ λ same. h.1 (ap text e ∙ same)
  ],
) where
  more : take (i + 1) segments ≡ take i segments ++ get_or segments i d ∷ []
  more = take_more segments i d l

-- ---- what goes

-- of the identifiers of the first i segments those of the set have gathered after those that stay
pub record TakenTo (s items segments : List Described) (i kept gone : ℕ) : Type 0 where
  pub K : List Described
  pub H : List Described
  pub R : List Described
  pub items_are : items ≡ K ++ (H ++ R)
  pub kept_is : kept ≡ length K
  pub gone_is : gone ≡ length H
  pub set : IsSegmentSet (K ++ R)
  pub members : (x : Described) → Contains (K ++ R) x ↔ (Contains s x × NoneIs (take i segments) x.id)
  pub before : (x : Described) (k : ℕ) (d : Described) → Contains K x → i ≤ k → k < length segments → IsBefore x (get_or segments k d)

pub taken_none : (s segments : List Described) → IsSegmentSet s → TakenTo s s segments 0 0 0
taken_none s segments h = record {
  K = [];
  H = [];
  R = s;
  items_are = refl;
  kept_is = refl;
  gone_is = refl;
  set = h;
  members = λ x. (λ c. (c, λ d none. absurd (Contains-nil d none)), λ both. both.0);
  before = λ x k d none. absurd (Contains-nil x none);
}

pub taken_within : (s items segments : List Described) (i kept gone : ℕ) → TakenTo s items segments i kept gone → kept + gone ≤ length items
taken_within s items segments i kept gone h =
    omega (arith, ap length h.items_are, length-append h.K (h.H ++ h.R), length-append h.H h.R, h.kept_is, h.gone_is)

pub taken_rest : (s items segments : List Described) (i kept gone n : ℕ) → n ≡ kept + gone → (h : TakenTo s items segments i kept gone) → drop n items ≡ h.R
taken_rest s items segments i kept gone n e h =
    ap (drop n) (h.items_are ∙ sym (append_assoc h.K h.H h.R))
    ∙ drop_at (h.K ++ h.H) h.R n (omega (arith, length-append h.K h.H, h.kept_is, h.gone_is, e))

pub taken_slice : (s items z segments : List Described) (i kept gone : ℕ) → z ≡ items → (h : TakenTo s items segments i kept gone)
    → take (length z - (kept + gone)) (drop (kept + gone) z) ≡ h.R
taken_slice s items z segments i kept gone e h =
    take_rest z (kept + gone) ∙ ap (drop (kept + gone)) e ∙ taken_rest s items segments i kept gone (kept + gone) refl h

pub taken_same : (s a b segments : List Described) (i k l g m : ℕ) → b ≡ a → l ≡ k → m ≡ g → TakenTo s a segments i k g → TakenTo s b segments i l m
taken_same s a b segments i k l g m e f n h =
    subst (λ (ds : List Described). TakenTo s ds segments i l m) (sym e)
    (subst (λ (x : ℕ). TakenTo s a segments i x m) (sym f) (subst (λ (x : ℕ). TakenTo s a segments i k x) (sym n) h))

-- the segment at a place has the identifier of the change there
pub of_change : (cs : List Change) (last : List ℕ) (segments : List Described) (i : ℕ) (c : Change) (id : Identifier) → AreLast cs last segments → i < length last
    → c ≡ get_or cs (get_or last i 0) c → id ≡ (segment_of c).id → text (get_or segments i (segment_of c)) ≡ identifier_text id
of_change cs last segments i c id l m is named =
    ap identifier_text (sym (ap (λ (x : Change). (segment_of x).id) is ∙ (l.each i (segment_of c) m).here c) ∙ sym named)

pub taken_sorted : (s items segments : List Described) (i kept gone : ℕ) → (h : TakenTo s items segments i kept gone) → AreSorted h.R
taken_sorted s items segments i kept gone h = sorted_back h.K h.R h.set.sorted

-- of the next identifier there is none
pub taken_absent : (s items segments : List Described) (i kept gone : ℕ) (id : Identifier) (d : Described) (p : ℕ) → (h : TakenTo s items segments i kept gone)
    → i < length segments → text (get_or segments i d) ≡ identifier_text id → BelongsAt h.R id p → TakenTo s items segments (i + 1) kept gone
taken_absent s items segments i kept gone id d p h l same at = record {
  K = h.K;
  H = h.H;
  R = h.R;
  items_are = h.items_are;
  kept_is = h.kept_is;
  gone_is = h.gone_is;
  set = h.set;
  members = λ x. (
    λ c. (((h.members x).0 c).0, (none_more segments i d x.id l).1 (((h.members x).0 c).1, λ e. nobody x c (sym e ∙ same))),
    λ both. (h.members x).1 (both.0, ((none_more segments i d x.id l).0 both.1).0),
  );
  before = λ x k y there m. h.before x k y there (omega arith);
} where
  nobody : (x : Described) → Contains (h.K ++ h.R) x → text x ≡ identifier_text id → ⊥
  nobody x c e = elim (Contains-append_cases h.K h.R x c) [
    | inl front ↦ not_before_itself x (get_or segments i d) (h.before x i d front (omega arith) l) (e ∙ sym same)
    | inr back ↦ belongs_absent h.R id p at x back e
  ]

-- and where there is one, it goes
pub taken_found : (s items now segments : List Described) (i kept gone : ℕ) (id : Identifier) (d : Described) (p : ℕ) → (h : TakenTo s items segments i kept gone)
    → AreSorted segments → i < length segments → text (get_or segments i d) ≡ identifier_text id → StandsAt h.R id p
    → now ≡ exchanged items kept (kept + gone) (kept + gone + p) → TakenTo s now segments (i + 1) (kept + p) (gone + 1)
taken_found s items now segments i kept gone id d p h rising l same at made = record {
  K = h.K ++ B;
  H = h.H ++ g ∷ [];
  R = R';
  items_are = made ∙ moved ∙ grouped;
  kept_is = omega (arith, length-append h.K B, length-take-le p h.R (omega (arith, at.within)), h.kept_is);
  gone_is = omega (arith, length-append h.H (g ∷ []), h.gone_is);
  set = subst IsSegmentSet (sym is) (after-set (h.K ++ h.R) (Drop g) h.set strict refl);
  members = λ x. (
    λ c.
        let left = (Contains-without_segment (h.K ++ h.R) g x).0 (subst (λ (ds : List Described). Contains ds x) is c) in
        let was = (h.members x).0 left.1 in
        (was.0, (none_more segments i d x.id l).1 (was.1, λ e. left.0 (one_holder (h.K ++ h.R) h.set.sorted x g left.1 there (sym e ∙ same ∙ sym of_id)))),
    λ both.
        let none = (none_more segments i d x.id l).0 both.1 in
        subst (λ (ds : List Described). Contains ds x) (sym is)
        ((Contains-without_segment (h.K ++ h.R) g x).1 (λ e. none.1 (same ∙ sym of_id ∙ sym (ap text e)), (h.members x).1 (both.0, none.0))),
  );
  before = λ x k y c m n. elim (Contains-append_cases h.K B x c) [
    | inl front ↦ h.before x k y front (omega arith) n
    | inr back ↦ before_trans x (get_or segments i y) (get_or segments k y) (next x y back) (in_order segments rising i k y (omega arith) n)
  ];
} where
  g : Described
  g = get_or h.R p d

  B : List Described
  B = take p h.R

  R' : List Described
  R' = drop (suc p) h.R

  split : h.R ≡ B ++ (g ∷ R')
  split = sym (take-append-drop p h.R) ∙ ap (λ (ds : List Described). B ++ ds) (drop-cons h.R p d at.within)

  moved : exchanged items kept (kept + gone) (kept + gone + p) ≡ h.K ++ (B ++ (h.H ++ (g ∷ R')))
  moved =
      parts_exchanged h.K h.H B (g ∷ R') items kept (kept + gone) (kept + gone + p)
      (h.items_are ∙ ap (λ (ds : List Described). h.K ++ (h.H ++ ds)) split) h.kept_is (omega (arith, h.kept_is, h.gone_is))
      (omega (arith, h.kept_is, h.gone_is, length-take-le p h.R (omega (arith, at.within))))

  grouped : h.K ++ (B ++ (h.H ++ (g ∷ R'))) ≡ (h.K ++ B) ++ ((h.H ++ g ∷ []) ++ R')
  grouped = sym (append_assoc h.K B (h.H ++ (g ∷ R'))) ∙ ap (λ (ds : List Described). (h.K ++ B) ++ ds) (sym (append_assoc h.H (g ∷ []) R'))

  of_id : text g ≡ identifier_text id
  of_id = ap identifier_text (at.here d)

  there : Contains (h.K ++ h.R) g
  there = Contains-append_right h.K h.R g (p, at.within, get_or_default h.R p g d at.within)

  strict : IsTrue (is_strict (h.K ++ h.R) (Drop g))
  strict = (strict_drop (h.K ++ h.R) g).1 there

  stands : StandsAt (h.K ++ h.R) g.id (length h.K + p)
  stands = record {
    within = omega (arith, length-append h.K h.R, at.within);
    here = λ x. ap (λ (y : Described). y.id) (get_or-append-add h.K h.R p x ∙ get_or_default h.R p x d at.within);
  }

  is : (h.K ++ B) ++ R' ≡ without_segment g (h.K ++ h.R)
  is =
      let e : length h.K + p - length h.K ≡ p = omega arith in
      append_assoc h.K B R' ∙ ap (λ (n : ℕ). h.K ++ remove h.R n) (sym e)
      ∙ sym (remove-append_right h.K h.R (length h.K) (length h.K + p) refl (omega arith))
      ∙ removed (h.K ++ h.R) g (length h.K + p) h.set.sorted strict stands

  next : (x y : Described) → Contains B x → IsBefore x (get_or segments i y)
  next x y (j, m, e) =
      let long = length-take-le p h.R (omega (arith, at.within)) in
      let here : get_or h.R j d ≡ x = get_or_default h.R j d x (omega (arith, at.within)) ∙ sym (get_or-take p h.R j x (omega arith)) ∙ e in
      let before : IsBefore (get_or h.R j d) g = in_order h.R (sorted_back h.K h.R h.set.sorted) j p d (omega arith) at.within in
      before_text x g (get_or segments i y) (subst (λ (z : Described). IsBefore z g) here before)
      (of_id ∙ sym same ∙ ap text (get_or_default segments i d y l))

-- at the end, those that went are cut off
pub taken_end : (s items now segments : List Described) (i kept gone count n : ℕ) → (h : TakenTo s items segments i kept gone) → count ≡ length items
    → now ≡ exchanged items kept (kept + gone) count → n ≡ kept + (count - kept - gone) → take n now ≡ h.K ++ h.R
taken_end s items now segments i kept gone count n h all made cut =
    let long : length items ≡ length h.K + length h.H + length h.R = omega (arith, ap length h.items_are, length-append h.K (h.H ++ h.R), length-append h.H h.R) in
    let moved : now ≡ h.K ++ (h.R ++ (h.H ++ [])) =
    made ∙ parts_exchanged h.K h.H h.R [] items kept (kept + gone) count (h.items_are ∙ ap (λ (ds : List Described). h.K ++ (h.H ++ ds)) (sym (append-nil h.R)))
    h.kept_is (omega (arith, h.kept_is, h.gone_is)) (omega (arith, all, long)) in
    ap (take n) (moved ∙ sym (append_assoc h.K h.R (h.H ++ [])))
    ∙ take_at (h.K ++ h.R) (h.H ++ []) n (omega (arith, length-append h.K h.R, h.kept_is, h.gone_is, all, long, cut))

pub taken_all : (s segments : List Described) (i : ℕ) (x : Described) (w : List Described) → i ≡ length segments
    → Contains w x ↔ (Contains s x × NoneIs (take i segments) x.id) → Contains w x ↔ (Contains s x × NoneIs segments x.id)
taken_all s segments i x w e h =
    subst (λ (ds : List Described). Contains w x ↔ (Contains s x × NoneIs ds x.id)) (take_all i segments (omega (arith, e))) h

-- ---- what comes

-- the last loads are in their places, and the first so many stand between
pub record PutTo (s items loads : List Described) (end left : ℕ) : Type 0 where
  pub S : List Described
  pub inside : end ≤ length s
  pub within : left ≤ length loads
  pub items_are : items ≡ take end s ++ (take left loads ++ S)
  pub sorted : AreSorted (take end s ++ S)
  pub members : (x : Described) → Contains (take end s ++ S) x ↔ (Contains s x ⊎ Contains (drop left loads) x)
  pub after : (x y : Described) → Contains S x → Contains (take left loads) y → IsBefore y x

pub put_none : (s items loads : List Described) (end left : ℕ) → IsSegmentSet s → end ≡ length s → left ≡ length loads → items ≡ s ++ loads → PutTo s items loads end left
put_none s items loads end left h at all is = record {
  S = [];
  inside = omega (arith, at);
  within = omega (arith, all);
  items_are = is ∙ sym (λ i. front i ++ rest i);
  sorted = subst AreSorted (sym whole) h.sorted;
  members = λ x. (
    λ c. inl (subst (λ (ds : List Described). Contains ds x) whole c),
    λ e. elim e [
      | inl c ↦ subst (λ (ds : List Described). Contains ds x) (sym whole) c
      | inr none ↦ absurd (Contains-nil x (subst (λ (ds : List Described). Contains ds x) (drop_all left loads (omega (arith, all))) none))
    ],
  );
  after = λ x y none. absurd (Contains-nil x none);
} where
  front : take end s ≡ s
  front = take_all end s (omega (arith, at))

  rest : take left loads ++ [] ≡ loads
  rest = append-nil (take left loads) ∙ take_all left loads (omega (arith, all))

  whole : take end s ++ [] ≡ s
  whole = append-nil (take end s) ∙ front

-- the load that comes next stands at the end of those that stand between
pub put_read : (s items loads : List Described) (end left : ℕ) (x : Described) → (h : PutTo s items loads end left) → 0 < left
    → get_or items (end + left - 1) x ≡ get_or loads (left - 1) x
put_read s items loads end left x h some =
    let long = length-take-le end s h.inside in
    let wide = length-take-le left loads h.within in
    let e : end + left - 1 ≡ length (take end s) + (left - 1) = omega (arith, long) in
    (λ i. get_or (h.items_are i) (e i) x)
    ∙ get_or-append-add (take end s) (take left loads ++ h.S) (left - 1) x
    ∙ get_or_append_left (take left loads) h.S x (left - 1) (omega (arith, wide))
    ∙ get_or-take left loads (left - 1) x (omega arith)

pub put_within : (s items loads : List Described) (end left : ℕ) → PutTo s items loads end left → end + left ≤ length items
put_within s items loads end left h =
    omega (
      arith,
      ap length h.items_are,
      length-append (take end s) (take left loads ++ h.S),
      length-append (take left loads) h.S,
      length-take-le end s h.inside,
      length-take-le left loads h.within,
    )

pub put_front : (s items loads : List Described) (end left : ℕ) → (h : PutTo s items loads end left) → take end items ≡ take end s
put_front s items loads end left h =
    ap (take end) h.items_are ∙ take_at (take end s) (take left loads ++ h.S) end (length-take-le end s h.inside)

sorted_take : (s : List Described) (n : ℕ) → AreSorted s → AreSorted (take n s)
sorted_take s n h k d l =
    let m = length-take n s in
    subst (λ (z : Described). IsBefore z (get_or (take n s) (k + 1) d)) (sym (get_or-take n s k d (omega arith)))
    (subst (λ (z : Described). IsBefore (get_or s k d) z) (sym (get_or-take n s (k + 1) d (omega arith))) (h k d (omega arith)))

-- what has not moved yet, as a slice has it
pub put_slice : (s items z loads : List Described) (end left : ℕ) → z ≡ items → PutTo s items loads end left → take end z ≡ take end s
put_slice s items z loads end left e h = ap (take end) e ∙ put_front s items loads end left h

pub put_sorted : (s items z loads : List Described) (end left : ℕ) → z ≡ items → AreSorted s → PutTo s items loads end left → AreSorted (take end z)
put_sorted s items z loads end left e sorted h = subst AreSorted (sym (put_slice s items z loads end left e h)) (sorted_take s end sorted)

-- at the end all are in their places
pub put_end : (s items loads : List Described) (end left : ℕ) (x : Described) → (h : PutTo s items loads end left) → left ≡ 0
    → Contains items x ↔ (Contains s x ⊎ Contains loads x)
put_end s items loads end left x h none =
    let e : items ≡ take end s ++ h.S = h.items_are ∙ ap (λ (n : ℕ). take end s ++ (take n loads ++ h.S)) none in
    let whole : drop left loads ≡ loads = ap (λ (n : ℕ). drop n loads) none in
    subst (λ (ds : List Described). Contains ds x ↔ (Contains s x ⊎ Contains loads x)) (sym e)
    (subst (λ (ds : List Described). Contains (take end s ++ h.S) x ↔ (Contains s x ⊎ Contains ds x)) whole (h.members x))

-- a load is not there yet
pub put_apart : (s loads : List Described) (end k n : ℕ) (l : Described) → ((x y : Described) → Contains s x → Contains loads y → text x ≡ text y → ⊥)
    → n < length loads → l ≡ get_or loads n l → StandsAt (take end s) l.id k → ⊥
put_apart s loads end k n l apart m is at =
    let y = get_or (take end s) k l in
    let front : Contains (take end s) y = (k, at.within, get_or_default (take end s) k y l at.within) in
    let there : Contains s y = subst (λ (ds : List Described). Contains ds y) (take-append-drop end s) (Contains-append_left (take end s) (drop end s) y front) in
    apart y l there (n, m, sym is) (ap identifier_text (at.here l))

-- one load more is put in its place
pub put_more : (s items now loads : List Described) (end left place : ℕ) (l : Described) → (h : PutTo s items loads end left) → AreSorted loads
    → 0 < left → l ≡ get_or loads (left - 1) l → BelongsAt (take end s) l.id place
    → now ≡ exchanged items place end (end + left) → PutTo s now loads place (left - 1)
put_more s items now loads end left place l h rising some is at made = record {
  S = l ∷ (drop place F ++ h.S);
  inside = omega (arith, at.within, long, h.inside);
  within = omega (arith, h.within);
  items_are = made ∙ moved ∙ grouped;
  sorted = subst AreSorted (sym whole)
      (are_sorted (with_segment l (F ++ h.S)) (with_segment-in_order l (F ++ h.S) (in_order (F ++ h.S) h.sorted)
      (λ k x m. belongs_absent (F ++ h.S) l.id place belongs (get_or (F ++ h.S) k x) (k, m, get_or_default (F ++ h.S) k (get_or (F ++ h.S) k x) x m))));
  members = λ x. (
    λ c. elim ((Contains-with_segment (F ++ h.S) l x).0 (subst (λ (ds : List Described). Contains ds x) whole c)) [
      | inl e ↦ inr (subst (λ (ds : List Described). Contains ds x) (sym next) (0, omega arith, sym e))
      | inr before ↦ elim ((h.members x).0 before) [
        | inl old ↦ inl old
        | inr new ↦ inr (subst (λ (ds : List Described). Contains ds x) (sym next) (Contains-later l (drop left loads) x new))
      ]
    ],
    λ e. subst (λ (ds : List Described). Contains ds x) (sym whole) ((Contains-with_segment (F ++ h.S) l x).1 (elim e [
      | inl old ↦ inr ((h.members x).1 (inl old))
      | inr new ↦ elim (Contains-cons l (drop left loads) x (subst (λ (ds : List Described). Contains ds x) next new)) [
        | inl here ↦ inl (sym here)
        | inr later ↦ inr ((h.members x).1 (inr later))
      ]
    ])),
  );
  after = λ x y c front. elim (Contains-cons l (drop place F ++ h.S) x c) [
    | inl here ↦ subst (IsBefore y) here (before_l y front)
    | inr later ↦ elim (Contains-append_cases (drop place F) h.S x later) [
      | inl moved ↦ before_trans y l x (before_l y front) (beyond x moved)
      | inr old ↦ h.after x y old (subst (λ (ds : List Described). Contains ds y) (sym last) (Contains-append_left (take (left - 1) loads) (l ∷ []) y front))
    ]
  ];
} where
  F : List Described
  F = take end s

  long : length F ≡ end
  long = length-take-le end s h.inside

  wide : length (take left loads) ≡ left
  wide = length-take-le left loads h.within

  one : (left - 1) + 1 ≡ left
  one = omega arith

  last : take left loads ≡ take (left - 1) loads ++ l ∷ []
  last =
      ap (λ (n : ℕ). take n loads) (sym one) ∙ take_more loads (left - 1) l (omega (arith, h.within))
      ∙ ap (λ (z : Described). take (left - 1) loads ++ z ∷ []) (sym is)

  first : get_or loads (left - 1) l ≡ l
  first = sym is

  next : drop (left - 1) loads ≡ l ∷ drop left loads
  next =
      drop_more loads (left - 1) l (omega (arith, h.within))
      ∙ (λ i. first i ∷ drop (one i) loads)

  halves : length (take place F) + length (drop place F) ≡ end
  halves = omega (arith, ap length (take-append-drop place F), length-append (take place F) (drop place F), long)

  moved : exchanged items place end (end + left) ≡ take place F ++ (take left loads ++ (drop place F ++ h.S))
  moved =
      parts_exchanged (take place F) (drop place F) (take left loads) h.S items place end (end + left)
      (h.items_are ∙ ap (λ (ds : List Described). ds ++ (take left loads ++ h.S)) (sym (take-append-drop place F)) ∙ append_assoc (take place F) (drop place F) (take left loads ++ h.S))
      (sym (length-take-le place F at.within)) (sym halves) (omega (arith, halves, wide))

  grouped : take place F ++ (take left loads ++ (drop place F ++ h.S)) ≡ take place s ++ (take (left - 1) loads ++ (l ∷ (drop place F ++ h.S)))
  grouped =
      (λ i. take-take place end s (omega (arith, at.within, long)) i ++ (last i ++ (drop place F ++ h.S)))
      ∙ ap (λ (ds : List Described). take place s ++ ds) (append_assoc (take (left - 1) loads) (l ∷ []) (drop place F ++ h.S))

  own : Contains (take left loads) l
  own = subst (λ (ds : List Described). Contains ds l) (sym last) (Contains-push (take (left - 1) loads) l)

  belongs : BelongsAt (F ++ h.S) l.id place
  belongs = record {
    within = omega (arith, at.within, length-append F h.S);
    below = λ k x m. subst (λ (z : Described). IsBefore z l) (sym (get_or_append_left F h.S x k (omega (arith, at.within)))) (at.below k x m);
    above = λ k x m n. elim (cases_order k (length F)) [
      | inl level ↦ in_back k x (omega arith) n
      | inr (inl front) ↦ subst (IsBefore l) (sym (get_or_append_left F h.S x k front)) (at.above k x m front)
      | inr (inr back) ↦ in_back k x (omega arith) n
    ];
  } where
    in_back : (k : ℕ) (x : Described) → length F ≤ k → k < length (F ++ h.S) → IsBefore l (get_or (F ++ h.S) k x)
    in_back k x m n =
        let total = length-append F h.S in
        let is : get_or (F ++ h.S) k x ≡ get_or h.S (k - length F) x = get_or-append_right F h.S (length F) k x refl m in
        let y = get_or h.S (k - length F) x in
        subst (IsBefore l) (sym is)
        (h.after y l (k - length F, omega arith, get_or_default h.S (k - length F) y x (omega arith)) own)

  whole : take place s ++ (l ∷ (drop place F ++ h.S)) ≡ with_segment l (F ++ h.S)
  whole =
      ap (λ (ds : List Described). ds ++ (l ∷ (drop place F ++ h.S))) (sym (take-take place end s (omega (arith, at.within, long))))
      ∙ sym (append_assoc (take place F) (l ∷ drop place F) h.S)
      ∙ sym (insert-append_left F h.S place l at.within)
      ∙ inserted (F ++ h.S) l place belongs

  before_l : (y : Described) → Contains (take (left - 1) loads) y → IsBefore y l
  before_l y (j, m, e) =
      let size = length-take-le (left - 1) loads (omega (arith, h.within)) in
      let here : get_or loads j l ≡ y = get_or_default loads j l y (omega (arith, h.within)) ∙ sym (get_or-take (left - 1) loads j y (omega arith)) ∙ e in
      let before : IsBefore (get_or loads j l) (get_or loads (left - 1) l) = in_order loads rising j (left - 1) l (omega arith) (omega (arith, h.within)) in
      subst (λ (z : Described). IsBefore y z) (sym is) (subst (λ (z : Described). IsBefore z (get_or loads (left - 1) l)) here before)

  beyond : (x : Described) → Contains (drop place F) x → IsBefore l x
  beyond x (j, m, e) =
      let size = length-drop place F in
      subst (IsBefore l) (sym (get_or-drop place F j x) ∙ e) (at.above (place + j) x (omega arith) (omega (arith, size)))

-- ---- what the set is then

identifier_cases : (segments : List Described) (id : Identifier) → ((d : Described) × Contains segments d × (text d ≡ identifier_text id)) ⊎ NoneIs segments id
identifier_cases [] id = inr (λ d none. absurd (Contains-nil d none))
identifier_cases (x ∷ xs) id = elim (same_or_not (text x) (identifier_text id)) [
  | inl same ↦ inl (x, (0, omega arith, refl), same)
  | inr apart ↦ elim (identifier_cases xs id) [
    | inl found ↦ inl (found.0, Contains-later x xs found.0 found.1, found.2)
    | inr none ↦ inr (λ d c. elim (Contains-cons x xs d c) [
      | inl here ↦ λ same. apart (ap text here ∙ same)
      | inr later ↦ none d later
    ])
  ]
]

kind_of : (s t : List Described) (cs : List Change) (id : Identifier) (p : ℕ) (c : Change) → IsSegmentSet s → replay_from s cs ≡ Some t → IsLastOf cs id p → get_or cs p c ≡ c
    → (x : Described) → text x ≡ identifier_text id → Contains t x ↔ (c ≡ Load x)
kind_of s t cs id p (Load y) h e r here x same =
    let one : text y ≡ identifier_text id = ap identifier_text (ap (λ (c : Change). (segment_of c).id) (sym here) ∙ r.here (Load y)) in
    let n : p + 1 ≡ suc p = omega arith in
    let held = holder-loaded s t cs id p (Load y) y h e r.within (sym here) refl (subst (λ (m : ℕ). NoneOfFrom cs id m) n r.beyond) one in (
      λ there. ap (λ (z : Described). Load z) (one_holder t (replay_from-set s t cs h e).sorted y x held.0 there (one ∙ sym same)),
      λ is. subst (Contains t) (ap segment_of is) held.0,
    )
kind_of s t cs id p (Drop y) h e r here x same =
    let one : text y ≡ identifier_text id = ap identifier_text (ap (λ (c : Change). (segment_of c).id) (sym here) ∙ r.here (Drop y)) in
    let n : p + 1 ≡ suc p = omega arith in
    let none = holder-dropped s t cs id p (Drop y) y h e r.within (sym here) refl (subst (λ (m : ℕ). NoneOfFrom cs id m) n r.beyond) one in
    (λ there. absurd (none x there same), λ is. absurd (cc))

-- after the changes the set has what they load last, and what none of them is of
pub replayed_members : (s t : List Described) (cs : List Change) (last : List ℕ) (segments : List Described) → IsSegmentSet s → replay_from s cs ≡ Some t → AreLast cs last segments
    → (x : Described) → Contains t x ↔ ((Contains s x × NoneIs segments x.id) ⊎ IsLoaded cs last x)
replayed_members s t cs last segments h e l x = (
  λ there. elim (identifier_cases segments x.id) [
    | inl (d, (k, m, at), same) ↦
        let long = l.long in
        let r = l.each k d (omega arith) in
        let of_x : IsLastOf cs d.id (get_or last k 0) = subst (λ (i : Identifier). IsLastOf cs i (get_or last k 0)) (ap (λ (z : Described). z.id) at) r in
        let p = get_or last k 0 in
        let c = get_or cs p (Load d) in
        let here : get_or cs p c ≡ c = get_or_default cs p c (Load d) of_x.within in
        let loads = (kind_of s t cs d.id p c h e of_x here x (sym same)).0 there in
        inr (k, omega arith, λ z. get_or_default cs p z (Load d) of_x.within ∙ loads)
    | inr none ↦ inl (((untouched s t cs x.id h e (l.all x.id none) x refl).0 there), none)
  ],
  λ cases. elim cases [
    | inl both ↦ (untouched s t cs x.id h e (l.all x.id both.1) x refl).1 both.0
    | inr (k, m, loads) ↦
        let r = l.each k x m in
        let p = get_or last k 0 in
        let same : x.id ≡ (get_or segments k x).id = ap (λ (c : Change). (segment_of c).id) (sym (loads (Load x))) ∙ r.here (Load x) in
        (kind_of s t cs (get_or segments k x).id p (Load x) h e r (loads (Load x)) x (ap identifier_text same)).1 refl
  ],
)

-- a set with what it had of other identifiers and what is loaded last is the set after the changes
pub merged : (s t left set loads : List Described) (cs : List Change) (last : List ℕ) (segments : List Described) → IsSegmentSet s → replay_from s cs ≡ Some t → AreLast cs last segments
    → ((x : Described) → Contains left x ↔ (Contains s x × NoneIs segments x.id)) → ((x : Described) → Contains loads x ↔ IsLoaded cs last x)
    → AreSorted set → ((x : Described) → Contains set x ↔ (Contains left x ⊎ Contains loads x)) → Some t ≡ Some set
merged s t left set loads cs last segments h e l is_left is_loaded sorted is =
    ap (λ (ds : List Described). Some ds) (sorted-one_list t set (replay_from-set s t cs h e).sorted sorted (λ x. (
      λ there. elim ((replayed_members s t cs last segments h e l x).0 there) [
        | inl old ↦ (is x).1 (inl ((is_left x).1 old))
        | inr new ↦ (is x).1 (inr ((is_loaded x).1 new))
      ],
      λ there. (replayed_members s t cs last segments h e l x).1 (elim ((is x).0 there) [
        | inl old ↦ inl ((is_left x).0 old)
        | inr new ↦ inr ((is_loaded x).0 new)
      ]),
    )))

-- what is loaded is of no identifier that is left
pub left_apart : (s left loads : List Described) (cs : List Change) (last : List ℕ) (segments : List Described) → AreLast cs last segments
    → ((x : Described) → Contains left x ↔ (Contains s x × NoneIs segments x.id)) → ((x : Described) → Contains loads x ↔ IsLoaded cs last x)
    → (x y : Described) → Contains left x → Contains loads y → text x ≡ text y → ⊥
left_apart s left loads cs last segments l is_left is_loaded x y there loaded same =
    let at = (is_loaded y).0 loaded in
    let r = l.each at.0 y at.1 in
    let long = l.long in
    let d = get_or segments at.0 y in
    let of_y : y.id ≡ d.id = ap (λ (c : Change). (segment_of c).id) (sym (at.2 (Load y))) ∙ r.here (Load y) in
    ((is_left x).0 there).1 d (at.0, omega arith, get_or_default segments at.0 d y (omega arith)) (ap identifier_text (sym of_y) ∙ sym same)

-- ---- what is loaded

-- a change at one of the first places loads the segment
abbrev pub IsLoadedTo : List Change → List ℕ → ℕ → Described → Type 0
IsLoadedTo cs last i x = (k : ℕ) × (k < i) × ((c : Change) → get_or cs (get_or last k 0) c ≡ Load x)

-- of the changes at the first i places the loads, which rise, and come before all later segments
pub record LoadedTo (cs : List Change) (last : List ℕ) (segments loads : List Described) (i : ℕ) : Type 0 where
  pub sorted : AreSorted loads
  pub members : (x : Described) → Contains loads x ↔ IsLoadedTo cs last i x
  pub before : (x : Described) (k : ℕ) (d : Described) → Contains loads x → i ≤ k → k < length segments → IsBefore x (get_or segments k d)

pub loaded_none : (cs : List Change) (last : List ℕ) (segments loads : List Described) → loads ≡ [] → LoadedTo cs last segments loads 0
loaded_none cs last segments loads empty = record {
  sorted = subst AreSorted (sym empty) (λ k d l. absurd (omega arith));
  members = λ x. (λ c. absurd (Contains-nil x (subst (λ (ds : List Described). Contains ds x) empty c)), λ e. absurd (omega (arith, e.1)));
  before = λ x k d c. absurd (Contains-nil x (subst (λ (ds : List Described). Contains ds x) empty c));
}

-- one that loads comes after those before it
pub loaded_more : (cs : List Change) (last : List ℕ) (segments loads now : List Described) (i : ℕ) (c : Change) (d : Described) → AreLast cs last segments → LoadedTo cs last segments loads i
    → i < length last → c ≡ get_or cs (get_or last i 0) c → c ≡ Load d → now ≡ loads ++ d ∷ [] → LoadedTo cs last segments now (i + 1)
loaded_more cs last segments loads now i c d l h within here is made = record {
  sorted = subst AreSorted (sym made) (sorted_append loads (d ∷ []) h.sorted (λ k x m. absurd (omega arith)) (λ _ n x end. last_before n x end));
  members = λ x. (
    λ there. elim (Contains-push_cases loads d x (subst (λ (ds : List Described). Contains ds x) made there)) [
      | inl old ↦ let e = (h.members x).0 old in (e.0, omega (arith, e.1), e.2)
      | inr new ↦ (i, omega arith, λ z. get_or_default cs (get_or last i 0) z c r.within ∙ sym here ∙ is ∙ ap (λ (y : Described). Load y) new)
    ],
    λ e. subst (λ (ds : List Described). Contains ds x) (sym made) (elim (cases_order e.0 i) [
      | inl level ↦
          let loads_x : get_or cs (get_or last i 0) c ≡ Load x = ap (λ (k : ℕ). get_or cs (get_or last k 0) c) (sym level) ∙ e.2 c in
          let same : d ≡ x = ap segment_of (sym is ∙ here ∙ loads_x) in
          subst (Contains (loads ++ d ∷ [])) same (Contains-push loads d)
      | inr (inl below) ↦ Contains-append_left loads (d ∷ []) x ((h.members x).1 (e.0, below, e.2))
      | inr (inr above) ↦ absurd (omega (arith, e.1))
    ]),
  );
  before = λ x k y there m n. elim (Contains-push_cases loads d x (subst (λ (ds : List Described). Contains ds x) made there)) [
    | inl old ↦ h.before x k y old (omega arith) n
    | inr new ↦ subst (λ (z : Described). IsBefore z (get_or segments k y)) new
        (text_before (get_or segments i y) d (get_or segments k y) (sym (of_id y)) (in_order segments l.sorted i k y (omega arith) n))
  ];
} where
  r : IsLastOf cs (get_or segments i d).id (get_or last i 0)
  r = l.each i d within

  inside : i < length segments
  inside = let long = l.long in omega arith

  of_id : (y : Described) → text d ≡ text (get_or segments i y)
  of_id y = ap identifier_text (ap (λ (z : Change). (segment_of z).id) (sym is ∙ here) ∙ r.here c) ∙ ap text (get_or_default segments i d y inside)

  last_before : (n : ℕ) (x : Described) → n + 1 ≡ length loads → IsBefore (get_or loads n x) d
  last_before n x end =
      let y = get_or loads n x in
      before_text y (get_or segments i d) d (h.before y i d (n, omega (arith, end), get_or_default loads n y x (omega (arith, end))) (omega arith) inside) (sym (of_id d))

-- and one that drops leaves them
pub loaded_kept : (cs : List Change) (last : List ℕ) (segments loads : List Described) (i : ℕ) (c : Change) → LoadedTo cs last segments loads i
    → c ≡ get_or cs (get_or last i 0) c → ((d : Described) → c ≡ Load d → ⊥) → LoadedTo cs last segments loads (i + 1)
loaded_kept cs last segments loads i c h here other = record {
  sorted = h.sorted;
  members = λ x. (
    λ there. let e = (h.members x).0 there in (e.0, omega (arith, e.1), e.2),
    λ e. elim (cases_order e.0 i) [
      | inl level ↦ absurd (other x (here ∙ ap (λ (k : ℕ). get_or cs (get_or last k 0) c) (sym level) ∙ e.2 c))
      | inr (inl below) ↦ (h.members x).1 (e.0, below, e.2)
      | inr (inr above) ↦ absurd (omega (arith, e.1))
    ],
  );
  before = λ x k d there m n. h.before x k d there (omega arith) n;
}
