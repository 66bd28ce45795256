-- Timelines over what nodes serve, and one segment more.
use Rattle.std.proofs.Common.{◌≡◌, ◌<◌, ◌⊎◌, ℕ, zero, suc, List, [], ◌∷◌, length, get_or, Option, Some, None, IfSome, IsSome, option_map, Bor, map, Bool, bytes_eq, true, false, refl, sym, ap, ◌∙◌, subst, inl, inr, arith}
use Rattle.std.specs.Prelude.{◌↔◌, Contains, ⊤}
use Rattle.std.specs.Bool.{Decides}
use Rattle.std.specs.Option.{option_copied}
use Rattle.std.specs.List.{slice_get}
use Rattle.std.specs.BTreeMap.{BTreeMap, UpdatesBy, is_at, keys}
use Rattle.std.proofs.lemmas.Cmp.{nat_list_cmp_total}
use Rattle.std.proofs.lemmas.Map.Lookups.{exact_bytes}
use Rattle.std.proofs.lemmas.Map.Views.{btree_map_contains_key_iff}
use Rattle.std.specs.Map.{lookup}
use Rattle.std.specs.Ordering.{nat_cmp, is_eq}
use Rattle.std.specs.declared.cmp.Ordering.{Ordering}
use Rattle.std.specs.declared.cmp.Ordering.TheVariants.{Less, Equal, Greater}
use Rattle.std.specs.Cmp.Lexicographic.{slice_cmp, bytes_decides}
use Rattle.std.proofs.lemmas.Option.{same_Some, none-some, slice_get-map, slice_get_read, MatchOption-at_some}
use Rattle.std.proofs.lemmas.Bool.{false≢true}
use Rattle.druid_segment_id.specs.Identifier.{Identifier}
use Rattle.druid_segment_id.specs.Group.{group_of}
use Rattle.druid_segment_id.proofs.OrderLemmas.{slice_cmp-Equal}
use Rattle.druid_segment_descriptor.specs.Described.{Described}
use Rattle.druid_base.proofs.MemberLemmas.{Contains-nil}
use Rattle.druid_timeline.specs.Holding.{Held, Serving, held_of, IsHeld, AddsHeld}
use Rattle.druid_inventory.specs.Entry.{Entry, fresh}
use Rattle.druid_inventory.specs.Sources.{Serves, HasSource, IsHoldingOf}
use Rattle.druid_inventory.specs.Timelines.{kept, IsHeldOf, IsTimelineOf, IsKept, AreTimelines, AreTimelinesOf, held_by, TakesSegment, AddsSegment, IsInventory}

-- ---- one segment more

-- what is served, and one segment more
abbrev pub WithSegment : (ℕ → Described → Type 0) → ℕ → Described → ℕ → Described → Type 0
WithSegment served node d i x = served i x ⊎ ((i ≡ node) × (x ≡ d))

nothing_held : (x : Held) → Contains [] x → ⊥
nothing_held x h = absurd (omega (arith, h.1))

-- a source's holding, kept or empty
pub held_of_kept : (served : ℕ → Described → Type 0) (source : List ℕ) (o : Option Serving) → IsKept served source o → IsHeldOf served source (held_by o)
held_of_kept served source None h x = (λ c. absurd (nothing_held x c), λ e. absurd (h e.0 e.1 e.2 e.3))
held_of_kept served source (Some t) h x = h.held x

-- at the source of the segment
pub held_more : (served : ℕ → Described → Type 0) (old new : List Held) (node : ℕ) (d : Described)
    → IsHeldOf served d.id.source old → AddsHeld old new (held_of node d) → IsHeldOf (WithSegment served node d) d.id.source new
held_more served old new node d h adds x = (
  λ c. elim ((adds x).0 c) [
    | inl e ↦ (node, d, inr (refl, refl), refl, e)
    | inr more ↦
        let was = (h x).0 more in
        (was.0, was.1, inl was.2, was.3, was.4)
  ],
  λ e. elim e.2 [
    | inl s ↦ (adds x).1 (inr ((h x).1 (e.0, e.1, s, e.3, e.4)))
    | inr new ↦ (adds x).1 (inl (e.4 ∙ (λ k. held_of (new.0 k) (new.1 k))))
  ],
)

-- at another source
pub held_more_there : (served : ℕ → Described → Type 0) (source : List ℕ) (held : List Held) (node : ℕ) (d : Described)
    → (source ≡ d.id.source → ⊥) → IsHeldOf served source held → IsHeldOf (WithSegment served node d) source held
held_more_there served source held node d apart h x = (
  λ c. let was = (h x).0 c in (was.0, was.1, inl was.2, was.3, was.4),
  λ e. elim e.2 [
    | inl s ↦ (h x).1 (e.0, e.1, s, e.3, e.4)
    | inr new ↦ absurd (apart (sym e.3 ∙ ap (λ (z : Described). z.id.source) new.1))
  ],
)

kept_here : (served : ℕ → Described → Type 0) (o : Option Serving) (t : Serving) (node : ℕ) (d : Described)
    → IsKept served d.id.source o → t.source ≡ d.id.source → AddsHeld (held_by o) t.held (held_of node d)
    → IsTimelineOf (WithSegment served node d) d.id.source t
kept_here served o t node d old source adds = record {
  of_source = source;
  some = (node, d, inr (refl, refl), refl);
  held = held_more served (held_by o) t.held node d (held_of_kept served d.id.source o old) adds;
}

pub kept_there : (served : ℕ → Described → Type 0) (source : List ℕ) (o : Option Serving) (node : ℕ) (d : Described)
    → (source ≡ d.id.source → ⊥) → IsKept served source o → IsKept (WithSegment served node d) source o
kept_there served source None node d apart h =
    λ i y s e. elim s [
      | inl was ↦ h i y was e
      | inr new ↦ absurd (apart (sym e ∙ ap (λ (z : Described). z.id.source) new.1))
    ]
kept_there served source (Some t) node d apart h = record {
  of_source = h.of_source;
  some = (h.some.0, h.some.1, inl h.some.2, h.some.3);
  held = held_more_there served source t.held node d apart h.held;
}

decided : (b : Bool) (P : Type 0) → Decides b P → P ⊎ (P → ⊥)
decided true P d = inl (d.0 refl)
decided false P d = inr (λ p. false≢true (d.1 p))

-- a text is another, or not
pub same_or_not : (s t : List ℕ) → (s ≡ t) ⊎ (s ≡ t → ⊥)
same_or_not s t = decided (bytes_eq s t) (s ≡ t) (bytes_decides s t)

-- with the segment added, the timelines are those of all and the segment
pub AreTimelines-more : (served : ℕ → Described → Type 0) (m n : BTreeMap (List ℕ) Serving) (node : ℕ) (d : Described)
    → AreTimelines served m → AddsSegment m n node d → AreTimelines (WithSegment served node d) n
AreTimelines-more served m n node d old adds = record {
  each = λ source. elim (same_or_not source d.id.source) [
    | inl e ↦
        let here : IsKept (WithSegment served node d) d.id.source (kept n d.id.source) =
        rw adds.here.1 (kept_here served (kept m d.id.source) adds.here.0 node d (old.each d.id.source) adds.here.2 adds.here.3) in
        subst (λ (s : List ℕ). IsKept (WithSegment served node d) s (kept n s)) (sym e) here
    | inr apart ↦ rw (adds.others source apart) (kept_there served source (kept m source) node d apart (old.each source))
  ];
}

pub held_alike : (P Q : ℕ → Described → Type 0) (source : List ℕ) (held : List Held)
    → ((i : ℕ) (y : Described) → P i y ↔ Q i y) → IsHeldOf P source held → IsHeldOf Q source held
held_alike P Q source held alike h x = (
  λ c. let was = (h x).0 c in (was.0, was.1, (alike was.0 was.1).0 was.2, was.3, was.4),
  λ e. (h x).1 (e.0, e.1, (alike e.0 e.1).1 e.2, e.3, e.4),
)

pub kept_alike : (P Q : ℕ → Described → Type 0) (source : List ℕ) (o : Option Serving)
    → ((i : ℕ) (y : Described) → P i y ↔ Q i y) → IsKept P source o → IsKept Q source o
kept_alike P Q source None alike h = λ i y s e. h i y ((alike i y).1 s) e
kept_alike P Q source (Some t) alike h = record {
  of_source = h.of_source;
  some = (h.some.0, h.some.1, (alike h.some.0 h.some.1).0 h.some.2, h.some.3);
  held = held_alike P Q source t.held alike h.held;
}

-- timelines of what is served, said otherwise
pub AreTimelines-alike : (P Q : ℕ → Described → Type 0) (m : BTreeMap (List ℕ) Serving)
    → ((i : ℕ) (y : Described) → P i y ↔ Q i y) → AreTimelines P m → AreTimelines Q m
AreTimelines-alike P Q m alike old = record { each = λ source. kept_alike P Q source (kept m source) alike (old.each source) }

pub identifier_same : (a b : Identifier) → a.source ≡ b.source → group_of a ≡ group_of b → a.partition ≡ b.partition → a ≡ b
identifier_same a b source group partition i =
    record { source = source i; interval = (group i).interval; version = (group i).version; partition = partition i }

-- where the node serves no segment of that identifier, none is held
pub not_held : (served : ℕ → Described → Type 0) (held : List Held) (node : ℕ) (d : Described)
    → IsHeldOf served d.id.source held → ((y : Described) → served node y → y.id ≡ d.id → ⊥) → IsHeld held node d.id → ⊥
not_held served held node d h fresh there =
    let was = (h there.0).0 there.1 in
    let here : was.0 ≡ node = ap (λ (x : Held). x.member.node) (sym was.4) ∙ there.4 in
    let group : group_of was.1.id ≡ group_of d.id = ap (λ (x : Held). x.group) (sym was.4) ∙ there.2 in
    let partition : was.1.id.partition ≡ d.id.partition = ap (λ (x : Held). x.member.partition) (sym was.4) ∙ there.3 in
    fresh was.1 (subst (λ (i : ℕ). served i was.1) here was.2) (identifier_same was.1.id d.id was.3 group partition)

takes_kept : (served : ℕ → Described → Type 0) (o : Option Serving) (node : ℕ) (d : Described)
    → IsKept served d.id.source o → ((y : Described) → served node y → y.id ≡ d.id → ⊥) → IfSome o (TakesSegment d.id.source node d)
takes_kept served None node d h fresh = tt
takes_kept served (Some t) node d h fresh = record { of_source = h.of_source; new = not_held served t.held node d h.held fresh }

-- where the node serves no segment of that identifier, the timeline of its source takes it
pub takes_segment : (served : ℕ → Described → Type 0) (m : BTreeMap (List ℕ) Serving) (node : ℕ) (d : Described)
    → AreTimelines served m → ((y : Described) → served node y → y.id ≡ d.id → ⊥)
    → IfSome (kept m d.id.source) (TakesSegment d.id.source node d)
takes_segment served m node d h fresh = takes_kept served (kept m d.id.source) node d (h.each d.id.source) fresh

pub not_tied : (o : Ordering) → (o ≡ Equal → ⊥) → is_eq o ≡ false
not_tied Less h = refl
not_tied Equal h = absurd (h refl)
not_tied Greater h = refl

written : (m n : BTreeMap (List ℕ) Serving) (source : List ℕ) (t : Serving) (node : ℕ) (d : Described)
    → source ≡ d.id.source → UpdatesBy (slice_cmp nat_cmp) (slice_cmp nat_cmp source) m n (Some t)
    → t.source ≡ d.id.source → AddsHeld (held_by (kept m d.id.source)) t.held (held_of node d) → AddsSegment m n node d
written m n source t node d same writes of_source adds = record {
  here = (t, subst (λ (s : List ℕ). kept n s ≡ Some t) same writes.1, of_source, adds);
  others = λ s apart. writes.2 s (not_tied (slice_cmp nat_cmp source s) (λ e. apart (sym (slice_cmp-Equal source s e) ∙ same)));
}

-- a timeline that was there grows
pub AddsSegment-grown : (m n : BTreeMap (List ℕ) Serving) (source : List ℕ) (before t : Serving) (node : ℕ) (d : Described)
    → source ≡ d.id.source → Some before ≡ kept m source → IfSome (kept m d.id.source) (TakesSegment d.id.source node d)
    → UpdatesBy (slice_cmp nat_cmp) (slice_cmp nat_cmp source) m n (Some t)
    → t.source ≡ before.source → AddsHeld before.held t.held (held_of node d) → AddsSegment m n node d
AddsSegment-grown m n source before t node d same found takes writes stays adds =
    let e : kept m d.id.source ≡ Some before = subst (λ (s : List ℕ). kept m s ≡ Some before) same (sym found) in
    let took = MatchOption-at_some ⊤ (TakesSegment d.id.source node d) before e takes in
    written m n source t node d same writes (stays ∙ took.of_source)
    (subst (λ (o : Option Serving). AddsHeld (held_by o) t.held (held_of node d)) (sym e) adds)

-- the first segment of a source begins its timeline
pub AddsSegment-begun : (m n : BTreeMap (List ℕ) Serving) (source key name : List ℕ) (begun t : Serving) (node : ℕ) (d : Described)
    → source ≡ d.id.source → None ≡ kept m source → key ≡ source → name ≡ source → begun ≡ record { source = name; held = [] }
    → UpdatesBy (slice_cmp nat_cmp) (slice_cmp nat_cmp key) m n (Some t)
    → t.source ≡ begun.source → AddsHeld begun.held t.held (held_of node d) → AddsSegment m n node d
AddsSegment-begun m n source key name begun t node d same absent at called new writes stays adds =
    let e : kept m d.id.source ≡ None = subst (λ (s : List ℕ). kept m s ≡ None) same (sym absent) in
    let none : begun.held ≡ [] = ap (λ (b : Serving). b.held) new in
    let of_source : t.source ≡ d.id.source = stays ∙ ap (λ (b : Serving). b.source) new ∙ called ∙ same in
    written m n key t node d (at ∙ same) writes of_source
    (subst (λ (o : Option Serving). AddsHeld (held_by o) t.held (held_of node d)) (sym e)
    (subst (λ (xs : List Held). AddsHeld xs t.held (held_of node d)) none adds))

-- what a pointer of the list points to
pub found_beyond : {A B : Type 0} (f : A → B) (xs : List A) (i : ℕ) (x : A) → i < length xs → x ≡ get_or xs i x → slice_get (map f xs) i ≡ Some (f x)
found_beyond f xs i x l e = slice_get-map f xs i ∙ ap (option_map f) (slice_get_read xs (length xs) i x refl l e)

-- ---- what an inventory answers

-- the same entries and the same timelines
pub IsInventory-same : (entries others : List Entry) (m n : BTreeMap (List ℕ) Serving) → others ≡ entries → n ≡ m → IsInventory entries m → IsInventory others n
IsInventory-same entries others m n e f h = subst (λ (es : List Entry). IsInventory es n) (sym e) (subst (IsInventory entries) (sym f) h)

pub kept_some : (entries : List Entry) (source : List ℕ) (o : Option Serving) → IsKept (Serves entries) source o → IsSome o ↔ HasSource entries source
kept_some entries source None h = (λ e. absurd (false≢true e), λ has. absurd (h has.0 has.1 has.2 has.3))
kept_some entries source (Some t) h = (λ _. h.some, λ _. refl)

-- a timeline is found exactly where a node serves a segment of the source
pub found_some : (entries : List Entry) (source : List ℕ) (m : BTreeMap (List ℕ) Serving) (r : Option (Bor Serving))
    → option_copied r ≡ kept m source → AreTimelinesOf entries m → IsSome r ↔ HasSource entries source
found_some entries source m None e h = kept_some entries source None (subst (IsKept (Serves entries) source) (sym e) (h.each source))
found_some entries source m (Some x) e h = kept_some entries source (Some x.now) (subst (IsKept (Serves entries) source) (sym e) (h.each source))

-- what is found has the holding of the source
pub found_held : (entries : List Entry) (source : List ℕ) (m : BTreeMap (List ℕ) Serving) (r : Option (Bor Serving))
    → option_copied r ≡ kept m source → AreTimelinesOf entries m → IfSome r (λ timeline. IsHoldingOf entries source timeline.now.held)
found_held entries source m None e h = tt
found_held entries source m (Some x) e h =
    let is : IsTimelineOf (Serves entries) source x.now = subst (IsKept (Serves entries) source) (sym e) (h.each source) in
    is.held

-- the keys of the timelines are the sources of which a segment is served
pub key_served : (entries : List Entry) (m : BTreeMap (List ℕ) Serving) → AreTimelinesOf entries m → (source : List ℕ) → Contains (keys m) source ↔ HasSource entries source
key_served entries m over source =
    let found = btree_map_contains_key_iff nat_list_cmp_total exact_bytes m source in
    let served = kept_some entries source (kept m source) (over.each source) in
    (λ there. served.0 (found.1 there), λ has. found.0 (served.1 has))

-- ---- nodes that were never synced

serves_none : (names : List (List ℕ)) (node : ℕ) (d : Described) → Serves (map fresh names) node d → ⊥
serves_none [] node d h = none-some h.0 h.1
serves_none (n ∷ names) zero d h =
    let nothing : h.0.set ≡ [] = ap (λ (e : Entry). e.set) (sym (same_Some (fresh n) h.0 h.1)) in
    Contains-nil d (subst (λ (s : List Described). Contains s d) nothing h.2)
serves_none (n ∷ names) (suc node) d h = serves_none names node d h

-- an empty map has all their timelines, which are none
pub AreTimelinesOf-fresh : (names : List (List ℕ)) (entries : List Entry) (timelines : BTreeMap (List ℕ) Serving)
    → entries ≡ map fresh names → timelines.entries ≡ [] → AreTimelinesOf entries timelines
AreTimelinesOf-fresh names entries timelines are empty = record {
  each = λ source.
      let none : kept timelines source ≡ None = ap (lookup (is_at (slice_cmp nat_cmp source))) empty in
      rw none (λ node d there _. serves_none names node d (subst (λ (es : List Entry). Serves es node d) are there));
}
