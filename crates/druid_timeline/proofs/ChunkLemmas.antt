-- What is held, kept by chunk.
use Rattle.std.proofs.Common.{◌≡◌, ◌⊎◌, ◌↔◌, ◌++◌, ℕ, Bool, true, false, List, [], ◌∷◌, map, filter, Result, Ok, Err, refl, sym, ap, ◌∙◌, subst, inl, inr, arith}
use Rattle.std.specs.Bool.{IsTrue}
use Rattle.std.specs.List.{Contains, All, IsDistinct}
use Rattle.std.specs.Map.{keys_of}
use Rattle.std.specs.Result.{OnOk}
use Rattle.std.proofs.lemmas.List.Elements.{filter-append, All-head}
use Rattle.std.proofs.lemmas.Map.Keys.{IsDistinct-tail}
use Rattle.druid_segment_id.specs.Identifier.{Identifier}
use Rattle.druid_segment_id.specs.Group.{Group, group_of, same_group}
use Rattle.druid_timeline_members.specs.Members.{Member, IsComplete, HasMember, HoldsPlace, ServesPlace, Adds, RemovesPlace, RemovesOne, SameMembers}
use Rattle.druid_base.proofs.MemberLemmas.{Contains-nil, Contains-later, Contains-map, Contains-map_back, Contains-flat_map, Contains-flat_map_back}
use Rattle.druid_timeline_chunks.specs.Chunks.{Chunk, AreChunks, members_at, IsCompleteOf}
use Rattle.druid_timeline_chunks.proofs.ChunkLemmas.{same_group-same, same_group-other, cases_group, at_head, at_tail, head_alone, members_at-found, members_at-entry}
use Rattle.druid_timeline.specs.Holding.{Held, members_of, HoldsNothing, IsHeld, HasRows, IsPlaceOf, IsCompleteIn, AddsHeld, RemovesHeld, RemovesOneHeld, SameHeld}
use Rattle.druid_timeline.specs.Chunks.{held_at, held_in}

-- ---- what is held, and what the chunks have

in_chunk : (cs : List Chunk) → AreChunks cs → (x : Held) → Contains (held_in cs) x → Contains (members_at cs x.group) x.member
in_chunk cs are x there =
    let entry = Contains-flat_map (λ (e : Chunk). map (held_at e.0) e.1) cs x there in
    let one = Contains-map (held_at entry.0.0) entry.0.1 x entry.2 in
    let found = members_at-found cs are.once entry.0.0 entry.0.1 entry.1 in
    let here = subst (λ (ms : List Member). Contains ms one.0) (sym found) one.1 in
    subst (λ (y : Held). Contains (members_at cs y.group) y.member) one.2 here

of_chunk : (cs : List Chunk) → (x : Held) → Contains (members_at cs x.group) x.member → Contains (held_in cs) x
of_chunk cs x there =
    Contains-flat_map_back (λ (e : Chunk). map (held_at e.0) e.1) cs (x.group, members_at cs x.group) x (members_at-entry cs x.group x.member there) (Contains-map_back (held_at x.group) (members_at cs x.group) x.member there)

-- a node serves a segment where its chunk has the place
pub IsHeld-chunk : (cs : List Chunk) → AreChunks cs → (node : ℕ) (id : Identifier) → IsHeld (held_in cs) node id ↔ HoldsPlace (members_at cs (group_of id)) id.partition node
IsHeld-chunk cs are node id = (forth, back) where
  forth : IsHeld (held_in cs) node id → HoldsPlace (members_at cs (group_of id)) id.partition node
  forth (x, there, group, partition, at) =
      (x.member, subst (λ (g : Group). Contains (members_at cs g) x.member) group (in_chunk cs are x there), partition, at)

  back : HoldsPlace (members_at cs (group_of id)) id.partition node → IsHeld (held_in cs) node id
  back (x, there, partition, at) = let h : Held = held_at (group_of id) x in (h, of_chunk cs h there, refl, partition, at)

-- the same of a node that has its rows
pub HasRows-chunk : (cs : List Chunk) → AreChunks cs → (node : ℕ) (id : Identifier) → HasRows (held_in cs) node id ↔ ServesPlace (members_at cs (group_of id)) id.partition node
HasRows-chunk cs are node id = (forth, back) where
  forth : HasRows (held_in cs) node id → ServesPlace (members_at cs (group_of id)) id.partition node
  forth (x, there, group, partition, at, serves) =
      (x.member, subst (λ (g : Group). Contains (members_at cs g) x.member) group (in_chunk cs are x there), partition, at, serves)

  back : ServesPlace (members_at cs (group_of id)) id.partition node → HasRows (held_in cs) node id
  back (x, there, partition, at, serves) =
      let h : Held = held_at (group_of id) x in (h, of_chunk cs h there, refl, partition, at, serves)

-- an answer about the place is one about the segment
pub holds_held : (cs : List Chunk) → AreChunks cs → (node : ℕ) (id other : Identifier) (b : Bool) → other ≡ id → IsTrue b ↔ HoldsPlace (members_at cs (group_of other)) other.partition node → IsTrue b ↔ IsHeld (held_in cs) node id
holds_held cs are node id other b same reported =
    let at = subst (λ (i : Identifier). IsTrue b ↔ HoldsPlace (members_at cs (group_of i)) i.partition node) same reported in
    let held = IsHeld-chunk cs are node id in
    (λ e. held.1 (at.0 e), λ h. at.1 (held.0 h))

-- ---- a change of one chunk

abbrev pub KeepsChunks : List Chunk → List Chunk → Group → Type 0
KeepsChunks old new g = (q : Group) → (q ≡ g → ⊥) → members_at new q ≡ members_at old q

held_same : (x : Held) (g : Group) (m : Member) → x.group ≡ g → x.member ≡ m → x ≡ held_at g m
held_same x g m e f i = record { group = e i; member = f i }

pub AddsHeld-chunk : (old new : List Chunk) (g : Group) (one : Member) → AreChunks old → AreChunks new → KeepsChunks old new g
    → Adds (members_at old g) (members_at new g) one → AddsHeld (held_in old) (held_in new) (held_at g one)
AddsHeld-chunk old new g one are now kept added x = (λ there. forth (in_chunk new now x there), λ either. of_chunk new x (back either)) where
  forth : Contains (members_at new x.group) x.member → (x ≡ held_at g one) ⊎ Contains (held_in old) x
  forth there = elim (cases_group x.group g) [
    | inl here ↦
        elim ((added x.member).0 (subst (λ (q : Group). Contains (members_at new q) x.member) here there)) [
          | inl same ↦ inl (held_same x g one here same)
          | inr before ↦ inr (of_chunk old x (subst (λ (q : Group). Contains (members_at old q) x.member) (sym here) before))
        ]
    | inr other ↦ inr (of_chunk old x (subst (λ (ms : List Member). Contains ms x.member) (kept x.group other) there))
  ]

  from_old : Contains (members_at old x.group) x.member → Contains (members_at new x.group) x.member
  from_old there = elim (cases_group x.group g) [
    | inl here ↦
        subst (λ (q : Group). Contains (members_at new q) x.member) (sym here)
        ((added x.member).1 (inr (subst (λ (q : Group). Contains (members_at old q) x.member) here there)))
    | inr other ↦ subst (λ (ms : List Member). Contains ms x.member) (sym (kept x.group other)) there
  ]

  back : (x ≡ held_at g one) ⊎ Contains (held_in old) x → Contains (members_at new x.group) x.member
  back (inl same) = subst (λ (y : Held). Contains (members_at new y.group) y.member) (sym same) ((added one).1 (inl refl))
  back (inr there) = from_old (in_chunk old are x there)

one_way : (old new : List Chunk) (g : Group) → KeepsChunks old new g
    → SameMembers (members_at old g) (members_at new g) → (x : Held) → Contains (members_at new x.group) x.member → Contains (members_at old x.group) x.member
one_way old new g kept same x there = elim (cases_group x.group g) [
  | inl here ↦
      subst (λ (q : Group). Contains (members_at old q) x.member) (sym here)
      ((same x.member).0 (subst (λ (q : Group). Contains (members_at new q) x.member) here there))
  | inr other ↦ subst (λ (ms : List Member). Contains ms x.member) (kept x.group other) there
]

pub SameHeld-chunk : (old new : List Chunk) (g : Group) → AreChunks old → AreChunks new → KeepsChunks old new g
    → SameMembers (members_at old g) (members_at new g) → SameHeld (held_in old) (held_in new)
SameHeld-chunk old new g are now kept same x = (
  λ there. of_chunk old x (one_way old new g kept same x (in_chunk new now x there)),
  λ there. of_chunk new x (one_way new old g (λ q other. sym (kept q other)) (λ y. ((same y).1, (same y).0)) x (in_chunk old are x there)),
)

-- chunks of the same members hold the same
pub SameHeld-members : (old new : List Chunk) → AreChunks old → AreChunks new → ((g : Group) → members_at new g ≡ members_at old g) → SameHeld (held_in old) (held_in new)
SameHeld-members old new are now same x = (
  λ there. of_chunk old x (subst (λ (ms : List Member). Contains ms x.member) (same x.group) (in_chunk new now x there)),
  λ there. of_chunk new x (subst (λ (ms : List Member). Contains ms x.member) (sym (same x.group)) (in_chunk old are x there)),
)

-- what a node serves of an identifier is taken out where its place is taken out of its chunk
pub RemovesHeld-chunk : (old new : List Chunk) (node : ℕ) (id : Identifier) → AreChunks old → AreChunks new → KeepsChunks old new (group_of id)
    → RemovesPlace (members_at old (group_of id)) (members_at new (group_of id)) id.partition node → RemovesHeld (held_in old) (held_in new) node id
RemovesHeld-chunk old new node id are now kept removes x = (λ there. forth (in_chunk new now x there), λ both. of_chunk new x (back both)) where
  member : List Member → Type 0
  member ms = Contains ms x.member

  forth : Contains (members_at new x.group) x.member → Contains (held_in old) x × (IsPlaceOf node id x → ⊥)
  forth there = elim (cases_group x.group (group_of id)) [
    | inl here ↦
        let was = (removes x.member).0 (subst (λ (q : Group). member (members_at new q)) here there) in
        (of_chunk old x (subst (λ (q : Group). member (members_at old q)) (sym here) was.0), λ place. was.1 (place.1, place.2))
    | inr other ↦
        (of_chunk old x (subst member (kept x.group other) there), λ place. other place.0)
  ]

  back : Contains (held_in old) x × (IsPlaceOf node id x → ⊥) → Contains (members_at new x.group) x.member
  back (there, not) = elim (cases_group x.group (group_of id)) [
    | inl here ↦
        subst (λ (q : Group). member (members_at new q)) (sym here)
        ((removes x.member).1 (subst (λ (q : Group). member (members_at old q)) here (in_chunk old are x there), λ place. not (here, place.0, place.1)))
    | inr other ↦ subst member (sym (kept x.group other)) (in_chunk old are x there)
  ]

pub RemovesOneHeld-chunk : (old new : List Chunk) (node : ℕ) (id : Identifier) → AreChunks old → AreChunks new → KeepsChunks old new (group_of id)
    → RemovesOne (members_at old (group_of id)) (members_at new (group_of id)) id.partition node → RemovesOneHeld (held_in old) (held_in new) node id
RemovesOneHeld-chunk old new node id are now kept (one, place, adds) =
    (held_at (group_of id) one, (refl, place.0, place.1), AddsHeld-chunk new old (group_of id) one now are (λ q other. sym (kept q other)) adds)

-- ---- results

pub on_ok : {T E : Type 0} (r : Result T E) (P Q : Type 0) → (P → Q) → OnOk r P → OnOk r Q
on_ok (Ok x) P Q f p = f p
on_ok (Err e) P Q f p = tt

-- ---- the members of a chunk

picked : (g k : Group) (ms : List Member) → same_group k g ≡ true → map (λ (h : Held). h.member) (filter (λ (h : Held). same_group h.group g) (map (held_at k) ms)) ≡ ms
picked g k [] e = refl
picked g k (x ∷ ms) e = rw e (ap (λ (xs : List Member). x ∷ xs) (picked g k ms e))

passed_by : (g k : Group) (ms : List Member) → same_group k g ≡ false → filter (λ (h : Held). same_group h.group g) (map (held_at k) ms) ≡ []
passed_by g k [] e = refl
passed_by g k (x ∷ ms) e = rw e (passed_by g k ms e)

none_picked : (g : Group) (cs : List Chunk) → ((c : Chunk) → Contains cs c → c.0 ≡ g → ⊥) → members_of (held_in cs) g ≡ []
none_picked g [] none = refl
none_picked g (c ∷ cs) none =
    ap (map (λ (x : Held). x.member)) (filter-append (λ (x : Held). same_group x.group g) (map (held_at c.0) c.1) (held_in cs))
    ∙ rw (passed_by g c.0 c.1 (same_group-other c.0 g (none c (0, omega arith, refl)))) (none_picked g cs (λ d there. none d (Contains-later c cs d there)))

map-append : (xs ys : List Held) → map (λ (x : Held). x.member) (xs ++ ys) ≡ map (λ (x : Held). x.member) xs ++ map (λ (x : Held). x.member) ys
map-append [] ys = refl
map-append (x ∷ xs) ys = ap (λ (zs : List Member). x.member ∷ zs) (map-append xs ys)

append-nil : (xs : List Member) → xs ++ [] ≡ xs
append-nil [] = refl
append-nil (x ∷ xs) = ap (λ (zs : List Member). x ∷ zs) (append-nil xs)

members_of-cons : (g : Group) (c : Chunk) (cs : List Chunk) → members_of (held_in (c ∷ cs)) g ≡ map (λ (h : Held). h.member) (filter (λ (h : Held). same_group h.group g) (map (held_at c.0) c.1)) ++ members_of (held_in cs) g
members_of-cons g c cs =
    ap (map (λ (x : Held). x.member)) (filter-append (λ (x : Held). same_group x.group g) (map (held_at c.0) c.1) (held_in cs)) ∙ map-append _ _

kept_of : (g : Group) (cs : List Chunk) → IsDistinct same_group (keys_of cs) → members_of (held_in cs) g ≡ members_at cs g
kept_of g [] once = refl
kept_of g (c ∷ cs) once =
    by_group (cases_group c.0 g) (kept_of g cs (IsDistinct-tail same_group c.0 (keys_of cs) once)) where
      by_group : (c.0 ≡ g) ⊎ (c.0 ≡ g → ⊥) → members_of (held_in cs) g ≡ members_at cs g → members_of (held_in (c ∷ cs)) g ≡ members_at (c ∷ cs) g
      by_group (inl here) rest =
          let none : members_of (held_in cs) g ≡ [] = none_picked g cs (λ d there same. head_alone c cs once d there (here ∙ sym same)) in
          let own = picked g c.0 c.1 (same_group-same c.0 g here) in
          members_of-cons g c cs ∙ rw (own, none) (append-nil c.1) ∙ sym (at_head c cs g here)
      by_group (inr other) rest =
          let none = passed_by g c.0 c.1 (same_group-other c.0 g other) in
          members_of-cons g c cs ∙ rw none rest ∙ sym (at_tail c cs g other)

-- what is held of a chunk are its members
pub members_of-held_in : (cs : List Chunk) → AreChunks cs → (g : Group) → members_of (held_in cs) g ≡ members_at cs g
members_of-held_in cs are g = kept_of g cs are.once

-- ---- complete chunks

pub IsCompleteIn-at : (cs : List Chunk) → AreChunks cs → (g : Group) → IsCompleteIn (held_in cs) g ↔ IsComplete (members_at cs g)
IsCompleteIn-at cs are g = (subst IsComplete (members_of-held_in cs are g), subst IsComplete (sym (members_of-held_in cs are g)))

pub IsCompleteIn-chunk : (cs : List Chunk) → AreChunks cs → (g : Group) → IsCompleteIn (held_in cs) g ↔ IsCompleteOf cs g
IsCompleteIn-chunk cs are g = (forth, back) where
  forth : IsCompleteIn (held_in cs) g → IsCompleteOf cs g
  forth h =
      let whole = (IsCompleteIn-at cs are g).0 h in
      (members_at cs g, members_at-entry cs g whole.some.0 whole.some.1, whole)

  back : IsCompleteOf cs g → IsCompleteIn (held_in cs) g
  back (ms, there, whole) = (IsCompleteIn-at cs are g).1 (subst IsComplete (sym (members_at-found cs are.once g ms there)) whole)

-- ---- nothing held

pub HoldsNothing-chunks : (cs : List Chunk) → AreChunks cs → (cs ≡ []) ↔ HoldsNothing (held_in cs)
HoldsNothing-chunks cs are = (λ e. subst (λ (ds : List Chunk). HoldsNothing (held_in ds)) (sym e) (λ x there. Contains-nil x there), bare cs are.inhabited) where
  bare : (ds : List Chunk) → All (λ (c : Chunk). HasMember c.1) ds → HoldsNothing (held_in ds) → ds ≡ []
  bare [] each none = refl
  bare (d ∷ ds) each none =
      let m = All-head (λ (c : Chunk). HasMember c.1) d ds each in
      absurd (none (held_at d.0 m.0) (Contains-flat_map_back (λ (c : Chunk). map (held_at c.0) c.1) (d ∷ ds) d (held_at d.0 m.0) (0, omega arith, refl) (Contains-map_back (held_at d.0) d.1 m.0 m.1)))
