-- Members kept by partition, as a set.
use Rattle.std.proofs.Common.{◌≡◌, ◌≤◌, ◌⊎◌, ◌↔◌, ◌++◌, ℕ, Bool, max, List, [], ◌∷◌, length, map, Option, Some, None, IsSome, is_some, Result, Ok, Err, true, false, cond, unwrap_or, refl, sym, ap, ◌∙◌, subst, inl, inr, arith}
use Rattle.std.specs.Bool.{IsTrue}
use Rattle.std.specs.Ordering.{nat_cmp}
use Rattle.std.specs.BTreeMap as tree
use Rattle.std.specs.BTreeMap.{BTreeMap}
use Rattle.std.specs.Cmp.{nat_cmp_total}
use Rattle.std.specs.List.{Contains, zip}
use Rattle.std.specs.Result.{IfOk, IsOkAnd, OnErr}
use Rattle.std.proofs.lemmas.Bool.{cases_eq, false≢true}
use Rattle.std.proofs.lemmas.List.Elements.{Contains-append_cases}
use Rattle.std.proofs.lemmas.Map.Lookups.{exact_unsigned}
use Rattle.std.proofs.lemmas.Map.Views.{btree_map_get_iff}
use Rattle.druid_timeline_members.specs.Members.{Member, core_count, HasMember, HoldsPlace, ServesPlace, HasPartition, Adds, RemovesPlace, RemovesOne, IsAt, AllAt, SameMembers, ServedOnce}
use Rattle.druid_timeline_members.specs.Slots.{Statement, Replica, member_at, members_in, NoneEmpty, IsAlone, Serves}
use Rattle.druid_base.proofs.MemberLemmas.{Contains-nil, Contains-cons, Contains-later, Contains-map, Contains-map_back, Contains-flat_map, Contains-flat_map_back}

abbrev pub Slots : Type 0
Slots = BTreeMap ℕ (List Replica)

-- what a member states
abbrev pub stated_by : Member → Statement
stated_by x = record { core = x.core; serves = x.serves }

-- what is kept of a partition
abbrev pub slot_of : Slots → ℕ → List Replica
slot_of m p = unwrap_or (tree.get nat_cmp m p) []

slot_from : (m : Slots) (p : ℕ) (s : List Replica) (r : Replica) → tree.get nat_cmp m p ≡ Some s → Contains s r → Contains (slot_of m p) r
slot_from m p s r e there = subst (λ (o : Option (List Replica)). Contains (unwrap_or o []) r) (sym e) there

in_slot : (m : Slots) → tree.IsOrdered nat_cmp m → (x : Member) → Contains (members_in m.entries) x → Contains (slot_of m x.partition) (x.node, stated_by x)
in_slot m ordered x there =
    let entry = Contains-flat_map (λ (e : ℕ × List Replica). map (member_at e.0) e.1) m.entries x there in
    let replica = Contains-map (member_at entry.0.0) entry.0.1 x entry.2 in
    let found = (btree_map_get_iff nat_cmp_total exact_unsigned m ordered entry.0.0 entry.0.1).1 entry.1 in
    subst (λ (y : Member). Contains (slot_of m y.partition) (y.node, stated_by y)) replica.2 (slot_from m entry.0.0 entry.0.1 replica.0 found replica.1)

of_slot : (m : Slots) → tree.IsOrdered nat_cmp m → (x : Member) (o : Option (List Replica)) → tree.get nat_cmp m x.partition ≡ o → Contains (unwrap_or o []) (x.node, stated_by x) → Contains (members_in m.entries) x
of_slot m ordered x None e there = absurd (Contains-nil (x.node, stated_by x) there)
of_slot m ordered x (Some s) e there =
    let entry = (btree_map_get_iff nat_cmp_total exact_unsigned m ordered x.partition s).0 e in
    Contains-flat_map_back (λ (e : ℕ × List Replica). map (member_at e.0) e.1) m.entries (x.partition, s) x entry (Contains-map_back (member_at x.partition) s (x.node, stated_by x) there)

member_same : (x : Member) (node partition : ℕ) (stated : Statement) → x.partition ≡ partition → ◌≡◌ {A = Replica} (x.node, stated_by x) (node, stated) → x ≡ member_at partition (node, stated)
member_same x node partition stated e f i =
    record { node = (f i).0; partition = e i; core = (f i).1.core; serves = (f i).1.serves }

-- other partitions are as before
abbrev pub KeepsOthers : Slots → Slots → ℕ → Type 0
KeepsOthers m n p = (q : ℕ) → (q ≡ p → ⊥) → tree.get nat_cmp n q ≡ tree.get nat_cmp m q

kept_slot : (m n : Slots) (p q : ℕ) → KeepsOthers m n p → (q ≡ p → ⊥) → slot_of n q ≡ slot_of m q
kept_slot m n p q kept other = ap (λ (o : Option (List Replica)). unwrap_or o []) (kept q other)

pub Adds-slot : (m n : Slots) (p node : ℕ) (stated : Statement) → tree.IsOrdered nat_cmp m → tree.IsOrdered nat_cmp n → KeepsOthers m n p
    → ((r : Replica) → Contains (slot_of n p) r ↔ ((r ≡ (node, stated)) ⊎ Contains (slot_of m p) r))
    → Adds (members_in m.entries) (members_in n.entries) (member_at p (node, stated))
Adds-slot m n p node stated om on kept added x =
    (λ there. forth (in_slot n on x there), λ either. of_slot n on x (tree.get nat_cmp n x.partition) refl (back either)) where
      forth : Contains (slot_of n x.partition) (x.node, stated_by x) → (x ≡ member_at p (node, stated)) ⊎ Contains (members_in m.entries) x
      forth there = elim (cases_eq x.partition p) [
        | inl here ↦
            elim ((added (x.node, stated_by x)).0 (subst (λ (q : ℕ). Contains (slot_of n q) (x.node, stated_by x)) here there)) [
              | inl same ↦ inl (member_same x node p stated here same)
              | inr before ↦ inr (of_slot m om x (tree.get nat_cmp m x.partition) refl (subst (λ (q : ℕ). Contains (slot_of m q) (x.node, stated_by x)) (sym here) before))
            ]
        | inr other ↦ inr (of_slot m om x (tree.get nat_cmp m x.partition) refl (subst (λ (s : List Replica). Contains s (x.node, stated_by x)) (kept_slot m n p x.partition kept other) there))
      ]

      at_other : (x.partition ≡ p → ⊥) → Contains (slot_of m x.partition) (x.node, stated_by x) → Contains (slot_of n x.partition) (x.node, stated_by x)
      at_other other there = subst (λ (s : List Replica). Contains s (x.node, stated_by x)) (sym (kept_slot m n p x.partition kept other)) there

      at_here : x.partition ≡ p → Contains (slot_of m x.partition) (x.node, stated_by x) → Contains (slot_of n x.partition) (x.node, stated_by x)
      at_here here there =
          subst (λ (q : ℕ). Contains (slot_of n q) (x.node, stated_by x)) (sym here)
          ((added (x.node, stated_by x)).1 (inr (subst (λ (q : ℕ). Contains (slot_of m q) (x.node, stated_by x)) here there)))

      back : (x ≡ member_at p (node, stated)) ⊎ Contains (members_in m.entries) x → Contains (slot_of n x.partition) (x.node, stated_by x)
      back (inl same) =
          subst (λ (y : Member). Contains (slot_of n y.partition) (y.node, stated_by y)) (sym same) ((added (node, stated)).1 (inl refl))
      back (inr there) = elim (cases_eq x.partition p) [
        | inl here ↦ at_here here (in_slot m om x there)
        | inr other ↦ at_other other (in_slot m om x there)
      ]

same_slot : (m n : Slots) (p q : ℕ) → KeepsOthers m n p → slot_of n p ≡ slot_of m p → slot_of n q ≡ slot_of m q
same_slot m n p q kept same = elim (cases_eq q p) [
  | inl here ↦ ap (slot_of n) here ∙ same ∙ ap (slot_of m) (sym here)
  | inr other ↦ kept_slot m n p q kept other
]

pub SameMembers-slot : (m n : Slots) (p : ℕ) → tree.IsOrdered nat_cmp m → tree.IsOrdered nat_cmp n → KeepsOthers m n p → slot_of n p ≡ slot_of m p → SameMembers (members_in m.entries) (members_in n.entries)
SameMembers-slot m n p om on kept same x =
    let e = same_slot m n p x.partition kept same in (
      λ there. of_slot m om x (tree.get nat_cmp m x.partition) refl (subst (λ (s : List Replica). Contains s (x.node, stated_by x)) e (in_slot n on x there)),
      λ there. of_slot n on x (tree.get nat_cmp n x.partition) refl (subst (λ (s : List Replica). Contains s (x.node, stated_by x)) (sym e) (in_slot m om x there)),
    )

-- a node serves a partition where its slot has the node
pub HoldsPlace-slot : (m : Slots) (p n : ℕ) → tree.IsOrdered nat_cmp m → HoldsPlace (members_in m.entries) p n ↔ Contains (map (λ (r : Replica). r.0) (slot_of m p)) n
HoldsPlace-slot m p n om = (forth, back) where
  forth : HoldsPlace (members_in m.entries) p n → Contains (map (λ (r : Replica). r.0) (slot_of m p)) n
  forth (x, there, at_p, at_n) =
      let inside = subst (λ (q : ℕ). Contains (slot_of m q) (x.node, stated_by x)) at_p (in_slot m om x there) in
      subst (λ (k : ℕ). Contains (map (λ (r : Replica). r.0) (slot_of m p)) k) at_n (Contains-map_back (λ (r : Replica). r.0) (slot_of m p) (x.node, stated_by x) inside)

  back : Contains (map (λ (r : Replica). r.0) (slot_of m p)) n → HoldsPlace (members_in m.entries) p n
  back there =
      let replica = Contains-map (λ (r : Replica). r.0) (slot_of m p) n there in
      let x : Member = member_at p replica.0 in
      (x, of_slot m om x (tree.get nat_cmp m p) refl replica.1, refl, replica.2)

-- a node serves a partition where its slot says so
pub ServesPlace-slot : (m : Slots) (p n : ℕ) → tree.IsOrdered nat_cmp m → ServesPlace (members_in m.entries) p n ↔ Serves (slot_of m p) n
ServesPlace-slot m p n om = (
  λ (x, there, at_p, at_n, serves). ((x.node, stated_by x), subst (λ (q : ℕ). Contains (slot_of m q) (x.node, stated_by x)) at_p (in_slot m om x there), at_n, serves),
  λ (r, there, at_n, serves). (member_at p r, of_slot m om (member_at p r) (tree.get nat_cmp m p) refl there, refl, at_n, serves),
)

-- ---- the core count

pub core_count-member : (ms : List Member) (x : Member) → Contains ms x → x.core ≤ core_count ms
core_count-member [] x there = absurd (Contains-nil x there)
core_count-member (m ∷ ms) x there = elim (Contains-cons m ms x there) [
  | inl here ↦ let e = ap (λ (y : Member). y.core) here in omega arith
  | inr later ↦ let l = core_count-member ms x later in omega arith
]

pub core_count-least : (ms : List Member) (c : ℕ) → ((x : Member) → Contains ms x → x.core ≤ c) → core_count ms ≤ c
core_count-least [] c h = omega arith
core_count-least (m ∷ ms) c h =
    let here = h m (0, omega arith, refl) in
    let rest = core_count-least ms c (λ x there. h x (Contains-later m ms x there)) in
    omega arith

pub core_count-adds : (old new : List Member) (m : Member) → Adds old new m → core_count new ≡ max (core_count old) m.core
core_count-adds old new m adds =
    let up = core_count-least new (max (core_count old) m.core) (λ x there. each x ((adds x).0 there)) in
    let low = core_count-least old (core_count new) (λ x there. core_count-member new x ((adds x).1 (inr there))) in
    let own = core_count-member new m ((adds m).1 (inl refl)) in
    omega arith where
      each : (x : Member) → (x ≡ m) ⊎ Contains old x → x.core ≤ max (core_count old) m.core
      each x (inl same) = let e = ap (λ (y : Member). y.core) same in omega arith
      each x (inr there) = let l = core_count-member old x there in omega arith

pub core_count-same : (old new : List Member) → SameMembers old new → core_count new ≡ core_count old
core_count-same old new same =
    let up = core_count-least new (core_count old) (λ x there. core_count-member old x ((same x).0 there)) in
    let low = core_count-least old (core_count new) (λ x there. core_count-member new x ((same x).1 there)) in
    omega arith

pub HasMember-same : (any : Bool) (old new : List Member) → SameMembers old new → IsTrue any ↔ HasMember old → IsTrue any ↔ HasMember new
HasMember-same any old new same h =
    (λ t. let m = h.0 t in (m.0, (same m.0).1 m.1), λ m. h.1 (m.0, (same m.0).0 m.1))

-- ---- no partition is kept without a node

abbrev pub HasOne : List Replica → Type 0
HasOne s = (r : Replica) × Contains s r

one_value : (b : Bool) (w s : List Replica) (o : Option (List Replica)) → cond b (Some w) o ≡ Some s → HasOne w → (o ≡ Some s → HasOne s) → HasOne s
one_value true w s o e here there = subst HasOne (some_same e) here where
  some_same : {A : Type 0} {x y : A} → Some x ≡ Some y → x ≡ y
  some_same e = cc
one_value false w s o e here there = there e

pub NoneEmpty-update : (m n : Slots) (w : List Replica) (at : ℕ → Bool) → ((q : ℕ) → tree.get nat_cmp n q ≡ cond (at q) (Some w) (tree.get nat_cmp m q)) → HasOne w → NoneEmpty m → NoneEmpty n
NoneEmpty-update m n w at updates here before p s e =
    one_value (at p) w s (tree.get nat_cmp m p) (sym (updates p) ∙ e) here (before p s)

pub HasOne-added : {E : Type 0} (result : Result Bool E) (old new : List Replica) (node : ℕ) (stated : Statement)
    → (IsOkAnd result IsTrue → (r : Replica) → Contains new r ↔ ((r ≡ (node, stated)) ⊎ Contains old r))
    → IfOk result (λ added. IsTrue added ⊎ (new ≡ old)) → OnErr result (new ≡ old) → HasOne old → HasOne new
HasOne-added (Ok true) old new node stated added same err one = ((node, stated), (added refl (node, stated)).1 (inl refl))
HasOne-added (Ok false) old new node stated added (inl e) err one = absurd (false≢true e)
HasOne-added (Ok false) old new node stated added (inr e) err one = subst HasOne (sym e) one
HasOne-added (Err x) old new node stated added same err one = subst HasOne (sym err) one

-- a partition is kept exactly where a member has it
pub kept-HasPartition : (m : Slots) (p : ℕ) → tree.IsOrdered nat_cmp m → NoneEmpty m → IsSome (tree.get nat_cmp m p) ↔ HasPartition (members_in m.entries) p
kept-HasPartition m p om none = (forth (tree.get nat_cmp m p) refl, back) where
  forth : (o : Option (List Replica)) → tree.get nat_cmp m p ≡ o → IsSome o → HasPartition (members_in m.entries) p
  forth None e h = absurd (false≢true h)
  forth (Some s) e h =
      let r = none p s e in
      let x : Member = member_at p r.0 in
      (x, of_slot m om x (tree.get nat_cmp m p) refl (slot_from m p s r.0 e r.1), refl)

  some_there : (o : Option (List Replica)) (r : Replica) → Contains (unwrap_or o []) r → IsSome o
  some_there None r there = absurd (Contains-nil r there)
  some_there (Some s) r there = refl

  back : HasPartition (members_in m.entries) p → IsSome (tree.get nat_cmp m p)
  back (x, there, at_p) =
      some_there (tree.get nat_cmp m p) (x.node, stated_by x) (subst (λ (q : ℕ). Contains (slot_of m q) (x.node, stated_by x)) at_p (in_slot m om x there))

-- all nodes of a partition's slot are one where all members of the partition are that node's
pub IsAlone-slot : (m : Slots) (p node : ℕ) (s : List Replica) → tree.IsOrdered nat_cmp m → NoneEmpty m → tree.get nat_cmp m p ≡ Some s → ((r : Replica) → Contains s r → r.0 ≡ node) ↔ IsAlone (members_in m.entries) p node
IsAlone-slot m p node s om none e = (
  λ all. (
    (kept-HasPartition m p om none).0 (subst IsSome (sym e) refl),
    λ x there at. all (x.node, stated_by x) (subst (λ (o : Option (List Replica)). Contains (unwrap_or o []) (x.node, stated_by x)) e
        (subst (λ (q : ℕ). Contains (slot_of m q) (x.node, stated_by x)) at (in_slot m om x there))),
  ),
  λ alone r inside. alone.1 (member_at p r) (of_slot m om (member_at p r) (tree.get nat_cmp m p) refl (slot_from m p s r e inside)) refl,
)

pub IsAlone-none : (m : Slots) (p node : ℕ) → tree.IsOrdered nat_cmp m → NoneEmpty m → tree.get nat_cmp m p ≡ None → IsAlone (members_in m.entries) p node → ⊥
IsAlone-none m p node om none e alone =
    false≢true (sym (ap is_some e) ∙ (kept-HasPartition m p om none).1 alone.0)

-- ---- a member taken out

pub RemovesPlace-slot : (m n : Slots) (p node : ℕ) → tree.IsOrdered nat_cmp m → tree.IsOrdered nat_cmp n → KeepsOthers m n p
    → ((r : Replica) → Contains (slot_of n p) r ↔ (Contains (slot_of m p) r × (r.0 ≡ node → ⊥)))
    → RemovesPlace (members_in m.entries) (members_in n.entries) p node
RemovesPlace-slot m n p node om on kept removed x =
    (λ there. forth (in_slot n on x there), λ both. of_slot n on x (tree.get nat_cmp n x.partition) refl (back both)) where
      slot : List Replica → Type 0
      slot s = Contains s (x.node, stated_by x)

      forth : Contains (slot_of n x.partition) (x.node, stated_by x) → Contains (members_in m.entries) x × (IsAt p node x → ⊥)
      forth there = elim (cases_eq x.partition p) [
        | inl here ↦
            let was = (removed (x.node, stated_by x)).0 (subst (λ (q : ℕ). slot (slot_of n q)) here there) in
            (of_slot m om x (tree.get nat_cmp m x.partition) refl (subst (λ (q : ℕ). slot (slot_of m q)) (sym here) was.0), λ at. was.1 at.1)
        | inr other ↦
            (of_slot m om x (tree.get nat_cmp m x.partition) refl (subst slot (kept_slot m n p x.partition kept other) there), λ at. other at.0)
      ]

      back : Contains (members_in m.entries) x × (IsAt p node x → ⊥) → Contains (slot_of n x.partition) (x.node, stated_by x)
      back (there, not) = elim (cases_eq x.partition p) [
        | inl here ↦
            subst (λ (q : ℕ). slot (slot_of n q)) (sym here)
            ((removed (x.node, stated_by x)).1 (subst (λ (q : ℕ). slot (slot_of m q)) here (in_slot m om x there), λ at. not (here, at)))
        | inr other ↦ subst slot (sym (kept_slot m n p x.partition kept other)) (in_slot m om x there)
      ]

-- where the node does not serve the partition, nothing is taken out
pub RemovesPlace-none : (old new : List Member) (p node : ℕ) → RemovesPlace old new p node → (HoldsPlace old p node → ⊥) → SameMembers old new
RemovesPlace-none old new p node removes none x =
    (λ there. ((removes x).0 there).0, λ there. (removes x).1 (there, λ at. none (x, there, at.0, at.1)))

pub core_count-removes : (old new : List Member) (p node : ℕ) → RemovesPlace old new p node → core_count new ≤ core_count old
core_count-removes old new p node removes =
    core_count-least new (core_count old) (λ x there. core_count-member old x ((removes x).0 there).0)

pub core_count-append : (xs ys : List Member) → core_count (xs ++ ys) ≡ max (core_count xs) (core_count ys)
core_count-append [] ys = omega arith
core_count-append (x ∷ xs) ys = let rest = core_count-append xs ys in omega arith

-- there is a member where a partition is kept
pub HasMember-kept : (m : Slots) → tree.IsOrdered nat_cmp m → NoneEmpty m → (length m.entries ≡ 0 → ⊥) ↔ HasMember (members_in m.entries)
HasMember-kept m om none = (λ some. forth m.entries refl some, λ has empty. back m.entries refl has empty) where
  forth : (es : List (ℕ × List Replica)) → m.entries ≡ es → (length m.entries ≡ 0 → ⊥) → HasMember (members_in m.entries)
  forth [] e some = absurd (some (ap length e))
  forth (c ∷ es) e some =
      let there : Contains m.entries c = subst (λ (xs : List (ℕ × List Replica)). Contains xs c) (sym e) (0, omega arith, refl) in
      let r = none c.0 c.1 ((btree_map_get_iff nat_cmp_total exact_unsigned m om c.0 c.1).1 there) in
      (member_at c.0 r.0, Contains-flat_map_back (λ (e : ℕ × List Replica). map (member_at e.0) e.1) m.entries c (member_at c.0 r.0) there (Contains-map_back (member_at c.0) c.1 r.0 r.1))

  back : (es : List (ℕ × List Replica)) → m.entries ≡ es → HasMember (members_in m.entries) → length m.entries ≡ 0 → ⊥
  back [] e has empty = Contains-nil has.0 (subst (λ (xs : List (ℕ × List Replica)). Contains (members_in xs) has.0) e has.1)
  back (c ∷ es) e has empty = let long = ap length e in omega arith

-- ---- the core counts of one partition

abbrev pub greatest : List Statement → ℕ
greatest [] = 0
greatest (s ∷ ss) = max s.core (greatest ss)

pub core_count-slot : (p : ℕ) (nodes : List ℕ) (stated : List Statement) → length nodes ≡ length stated → core_count (map (member_at p) (zip nodes stated)) ≡ greatest stated
core_count-slot p [] [] e = refl
core_count-slot p [] (s ∷ stated) e = absurd (omega arith)
core_count-slot p (n ∷ nodes) [] e = absurd (omega arith)
core_count-slot p (n ∷ nodes) (s ∷ stated) e =
    ap (λ (k : ℕ). max s.core k) (core_count-slot p nodes stated (omega arith))

-- the greatest count so far and those of the partitions that are left
pub core_count-next : (e : ℕ × List Replica) (rest : List (ℕ × List Replica)) (core own total : ℕ) → own ≡ core_count (map (member_at e.0) e.1) → max core (core_count (members_in (e ∷ rest))) ≡ total → max (max core own) (core_count (members_in rest)) ≡ total
core_count-next e rest core own total at h =
    let both = core_count-append (map (member_at e.0) e.1) (members_in rest) in omega arith

-- ---- a look at all members

-- each member is at the place, or of the partitions that are left
pub record AreAtOrLeft (entries rest : List (ℕ × List Replica)) (p node : ℕ) : Type 0 where
  pub among : (e : ℕ × List Replica) → Contains rest e → Contains entries e
  pub passed : (x : Member) → Contains (members_in entries) x → IsAt p node x ⊎ Contains (members_in rest) x

pub AreAtOrLeft-start : (entries : List (ℕ × List Replica)) (p node : ℕ) → AreAtOrLeft entries entries p node
AreAtOrLeft-start entries p node = record { among = λ e there. there; passed = λ x there. inr there }

pub AreAtOrLeft-next : (entries rest : List (ℕ × List Replica)) (e : ℕ × List Replica) (p node : ℕ) → AreAtOrLeft entries (e ∷ rest) p node → e.0 ≡ p → ((r : Replica) → Contains e.1 r → r.0 ≡ node) → AreAtOrLeft entries rest p node
AreAtOrLeft-next entries rest e p node h at only = record {
  among = λ x there. h.among x (Contains-later e rest x there);
  passed = λ x there. elim (h.passed x there) [
    | inl here ↦ inl here
    | inr left ↦ elim (Contains-append_cases (map (member_at e.0) e.1) (members_in rest) x left) [
      | inl first ↦
          let r = Contains-map (member_at e.0) e.1 x first in
          inl (sym (ap (λ (y : Member). y.partition) r.2) ∙ at, sym (ap (λ (y : Member). y.node) r.2) ∙ only r.0 r.1)
      | inr later ↦ inr later
    ]
  ];
}

pub AreAtOrLeft-end : (entries : List (ℕ × List Replica)) (p node : ℕ) → AreAtOrLeft entries [] p node → AllAt (members_in entries) p node
AreAtOrLeft-end entries p node h x there = elim (h.passed x there) [
  | inl here ↦ here
  | inr left ↦ absurd (Contains-nil x left)
]

-- where all members are at the place, each partition that is kept is that one, and each of its nodes that one
pub AllAt-slot : (m : Slots) (e : ℕ × List Replica) (p node : ℕ) → tree.IsOrdered nat_cmp m → NoneEmpty m → Contains m.entries e → AllAt (members_in m.entries) p node → (e.0 ≡ p) × ((r : Replica) → Contains e.1 r → r.0 ≡ node)
AllAt-slot m e p node om none there all = (
  let r = none e.0 e.1 ((btree_map_get_iff nat_cmp_total exact_unsigned m om e.0 e.1).1 there) in (each r.0 r.1).0,
  λ r inside. (each r inside).1,
) where
  each : (r : Replica) → Contains e.1 r → IsAt p node (member_at e.0 r)
  each r inside =
      all (member_at e.0 r) (Contains-flat_map_back (λ (e : ℕ × List Replica). map (member_at e.0) e.1) m.entries e (member_at e.0 r) there (Contains-map_back (member_at e.0) e.1 r inside))

-- ---- a node serves a partition as one member

pub ServedOnce-slot : (m : Slots) (p : ℕ) → tree.IsOrdered nat_cmp m → ((x y : Replica) → Contains (slot_of m p) x → Contains (slot_of m p) y → x.0 ≡ y.0 → x ≡ y) → ServedOnce (members_in m.entries) p
ServedOnce-slot m p om once x y hx hy px py same =
    let here : (z : Member) → z.partition ≡ p → Contains (members_in m.entries) z → Contains (slot_of m p) (z.node, stated_by z) =
    λ z at there. subst (λ (q : ℕ). Contains (slot_of m q) (z.node, stated_by z)) at (in_slot m om z there) in
    let pair = once (x.node, stated_by x) (y.node, stated_by y) (here x px hx) (here y py hy) same in
    member_same x y.node y.partition (stated_by y) (px ∙ sym py) pair

pub ServedOnce-none : (m : Slots) (p : ℕ) → tree.IsOrdered nat_cmp m → slot_of m p ≡ [] → ServedOnce (members_in m.entries) p
ServedOnce-none m p om none =
    ServedOnce-slot m p om (λ x y hx hy same. absurd (Contains-nil x (subst (λ (s : List Replica). Contains s x) none hx)))

-- the member that goes with one of a partition
pub RemovesOne-slot : (m n : Slots) (p node : ℕ) → tree.IsOrdered nat_cmp m → tree.IsOrdered nat_cmp n → KeepsOthers m n p
    → ((stated : Statement) × ((r : Replica) → Contains (slot_of m p) r ↔ ((r ≡ (node, stated)) ⊎ Contains (slot_of n p) r)))
    → RemovesOne (members_in m.entries) (members_in n.entries) p node
RemovesOne-slot m n p node om on kept one =
    (member_at p (node, one.0), (refl, refl), Adds-slot n m p node one.0 on om (λ q other. sym (kept q other)) one.1)
