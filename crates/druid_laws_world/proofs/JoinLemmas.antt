-- What two inventories are together.
use Rattle.std.proofs.Common.{subst, ◌≡◌, ◌⊎◌, ℕ, suc, Bool, true, false, cond, ◌&&◌, nat_eq, List, [], ◌∷◌, refl, sym, ap, ◌∙◌, inl, inr}
use Rattle.std.specs.Ordering.{is_lt, is_eq, ordering_reverse}
use Rattle.std.specs.declared.cmp.Ordering.{Ordering}
use Rattle.std.specs.declared.cmp.Ordering.TheVariants.{Less, Equal, Greater}
use Rattle.std.proofs.lemmas.Bool.{false≢true, cases_Bool, eqb-true, and_parts}
use Rattle.std.proofs.lemmas.Option.{same_Some}
use Rattle.druid_inventory.proofs.JoinLemmas.{later_each-names}
use Rattle.druid_base.proofs.OrderLemmas.{is_lt-Less}
use Rattle.druid_segment_descriptor.specs.Described.{Described, same_described}
use Rattle.druid_segment_descriptor.specs.Mark.{Point, mark_cmp}
use Rattle.druid_segment_descriptor.specs.Orders.{mark_cmp-total, mark_cmp-ties}
use Rattle.druid_segment_descriptor.proofs.DescribedLemmas.{same_described-decides}
use Rattle.druid_inventory.specs.Entry.{Entry}
use Rattle.druid_inventory.specs.Join.{IsJoin, Conflict, ConflictAt, later, later_each, names_of}
use Rattle.druid_laws_world.specs.World.{Life, IsTrueEntry, IsInventoryOf, eras_of, marks_of, set_at}
use Rattle.druid_laws_world.specs.Run.{AreLaterOf}
use Rattle.druid_laws_world.proofs.ListLemmas.{pairs_get}

-- ---- without a world

later_self : (x : Entry) → later x x ≡ x
later_self x = by_test (is_lt (mark_cmp x.mark x.mark)) where
  by_test : (b : Bool) → cond b x x ≡ x
  by_test true = refl
  by_test false = refl

later_each-self : (a : List Entry) → a ≡ later_each a a
later_each-self [] = refl
later_each-self (x ∷ a) = let first : x ≡ later x x = sym (later_self x) in let rest = later_each-self a in λ i. first i ∷ rest i

pub join_self : (a : List Entry) → IsJoin a a a
join_self a = record {
  same_nodes = refl;
  agree = λ node h. h.4.1 (ap (λ (e : Entry). e.set) (same_Some h.0 h.1 (sym h.2 ∙ h.3)));
  entries = later_each-self a;
}

same_list : (a b : List Described) → (a ≡ b → ⊥) ⊎ (a ≡ b)
same_list [] [] = inr refl
same_list [] (y ∷ b) = inl (λ e. cc)
same_list (x ∷ a) [] = inl (λ e. cc)
same_list (x ∷ a) (y ∷ b) = by (same_described x y) refl (same_list a b) where
  by : (t : Bool) → same_described x y ≡ t → (a ≡ b → ⊥) ⊎ (a ≡ b) → (x ∷ a ≡ y ∷ b → ⊥) ⊎ (x ∷ a ≡ y ∷ b)
  by true e (inr rest) = let first = (same_described-decides x y).0 e in inr (λ i. first i ∷ rest i)
  by true e (inl other) = inl (λ h. other (cc))
  by false e rest = inl (λ h. let first : x ≡ y = cc in false≢true (sym e ∙ (same_described-decides x y).1 first))

-- sets that do not differ are one
agreed : (a b : List Described) → ((a ≡ b → ⊥) → ⊥) → a ≡ b
agreed a b h = elim (same_list a b) [ inl other ↦ absurd (h other) | inr same ↦ same ]

-- ---- the order of marks

is_less : (o : Ordering) → o ≡ Less → is_lt o ≡ true
is_less o e = ap is_lt e

not_less : (x y z : Point) (o : Ordering) → mark_cmp x y ≡ o → is_lt o ≡ false → is_lt (mark_cmp y z) ≡ false → mark_cmp x z ≡ Less → ⊥
not_less x y z Less e no_less other less = false≢true (sym no_less)
not_less x y z Equal e no_less other less = false≢true (sym other ∙ is_less (mark_cmp y z) (sym (mark_cmp-total.congr x y z e) ∙ less))
not_less x y z Greater e no_less other less =
    let back : mark_cmp y x ≡ Less = mark_cmp-total.antisymm y x ∙ ap ordering_reverse e in
    false≢true (sym other ∙ is_less (mark_cmp y z) (mark_cmp-total.trans y x z back less))

later-less : (x y : Entry) → is_lt (mark_cmp x.mark y.mark) ≡ true → later x y ≡ y
later-less x y e = rw e refl

later-not : (x y : Entry) → is_lt (mark_cmp x.mark y.mark) ≡ false → later x y ≡ x
later-not x y e = rw e refl

later_assoc : (x y z : Entry) → later (later x y) z ≡ later x (later y z)
later_assoc x y z = by (is_lt (mark_cmp x.mark y.mark)) (is_lt (mark_cmp y.mark z.mark)) refl refl where
  by : (a b : Bool) → is_lt (mark_cmp x.mark y.mark) ≡ a → is_lt (mark_cmp y.mark z.mark) ≡ b → later (later x y) z ≡ later x (later y z)
  by true true e f =
      let across = mark_cmp-total.trans x.mark y.mark z.mark (is_lt-Less (mark_cmp x.mark y.mark) e) (is_lt-Less (mark_cmp y.mark z.mark) f) in
      let left : later (later x y) z ≡ z = ap (λ v. later v z) (later-less x y e) ∙ later-less y z f in
      let right : later x (later y z) ≡ z = ap (later x) (later-less y z f) ∙ later-less x z (is_less (mark_cmp x.mark z.mark) across) in
      left ∙ sym right
  by true false e f =
      let left : later (later x y) z ≡ y = ap (λ v. later v z) (later-less x y e) ∙ later-not y z f in
      let right : later x (later y z) ≡ y = ap (later x) (later-not y z f) ∙ later-less x y e in
      left ∙ sym right
  by false true e f = ap (λ v. later v z) (later-not x y e) ∙ sym (ap (later x) (later-less y z f))
  by false false e f =
      let across : is_lt (mark_cmp x.mark z.mark) ≡ false = elim (cases_Bool (is_lt (mark_cmp x.mark z.mark))) [
        | inl less ↦ absurd (not_less x.mark y.mark z.mark (mark_cmp x.mark y.mark) refl e f (is_lt-Less (mark_cmp x.mark z.mark) less))
        | inr other ↦ other
      ] in
      let left : later (later x y) z ≡ x = ap (λ v. later v z) (later-not x y e) ∙ later-not x z across in
      let right : later x (later y z) ≡ x = ap (later x) (later-not y z f) ∙ later-not x y e in
      left ∙ sym right

later_each-assoc : (a b c : List Entry) → later_each (later_each a b) c ≡ later_each a (later_each b c)
later_each-assoc [] b c = refl
later_each-assoc (x ∷ a) [] c = refl
later_each-assoc (x ∷ a) (y ∷ b) [] = refl
later_each-assoc (x ∷ a) (y ∷ b) (z ∷ c) =
    let first = later_assoc x y z in
    let rest = later_each-assoc a b c in
    λ i. first i ∷ rest i

pub join_assoc : (a b c ab bc left right : List Entry) → IsJoin a b ab → IsJoin ab c left → IsJoin b c bc → IsJoin a bc right → left ≡ right
join_assoc a b c ab bc left right first l second r =
    l.entries ∙ ap (λ (v : List Entry). later_each v c) first.entries ∙ later_each-assoc a b c ∙ sym (r.entries ∙ ap (later_each a) second.entries)

-- ---- the order of the two

tied : (p q : Point) → mark_cmp p q ≡ Equal → p ≡ q
tied p q e =
    let parts = and_parts (nat_eq p.incarnation q.incarnation) (nat_eq p.count q.count) (mark_cmp-ties p q ∙ ap is_eq e) in
    let incarnations = eqb-true p.incarnation q.incarnation parts.0 in
    let counts = eqb-true p.count q.count parts.1 in
    λ i. record { incarnation = incarnations i; count = counts i }

later_swapped : (x y : Entry) → x.name ≡ y.name → (Conflict x y → ⊥) → later x y ≡ later y x
later_swapped x y name agree = by (mark_cmp x.mark y.mark) refl where
  back : (o : Ordering) → mark_cmp x.mark y.mark ≡ o → mark_cmp y.mark x.mark ≡ ordering_reverse o
  back o e = mark_cmp-total.antisymm y.mark x.mark ∙ ap ordering_reverse e

  by : (o : Ordering) → mark_cmp x.mark y.mark ≡ o → later x y ≡ later y x
  by Less e = later-less x y (ap is_lt e) ∙ sym (later-not y x (ap is_lt (back Less e)))
  by Greater e = later-not x y (ap is_lt e) ∙ sym (later-less y x (ap is_lt (back Greater e)))
  by Equal e =
      let mark = tied x.mark y.mark e in
      let sets = agreed x.set y.set (λ other. agree (mark, other)) in
      let same : x ≡ y = λ i. record { name = name i; mark = mark i; set = sets i } in
      later-not x y (ap is_lt e) ∙ same ∙ sym (later-not y x (ap is_lt (back Equal e)))

later_each-swapped : (a b : List Entry) → names_of a ≡ names_of b → ((node : ℕ) → ConflictAt a b node → ⊥) → later_each a b ≡ later_each b a
later_each-swapped [] [] names agree = refl
later_each-swapped [] (y ∷ b) names agree = refl
later_each-swapped (x ∷ a) [] names agree = refl
later_each-swapped (x ∷ a) (y ∷ b) names agree =
    let name : x.name ≡ y.name = cc in
    let more : names_of a ≡ names_of b = cc in
    let first = later_swapped x y name (λ conflict. agree 0 (x, y, refl, refl, conflict)) in
    let rest = later_each-swapped a b more (λ node h. agree (suc node) h) in
    λ i. first i ∷ rest i

pub join_swapped : (a b joined : List Entry) → IsJoin a b joined → IsJoin b a joined
join_swapped a b joined h = record {
  same_nodes = sym h.same_nodes;
  agree = λ node k. h.agree node (k.1, k.0, k.3, k.2, (sym k.4.0, λ e. k.4.1 (sym e)));
  entries = h.entries ∙ later_each-swapped a b h.same_nodes h.agree;
}

-- ---- in a world

pub never_conflict : (world : List Life) (a b : List Entry) (node : ℕ) → IsInventoryOf world a → IsInventoryOf world b → ConflictAt a b node → ⊥
never_conflict world a b node h k conflict =
    let x = conflict.0 in
    let y = conflict.1 in
    let of_x = pairs_get IsTrueEntry world a node x h conflict.2 in
    let of_y = pairs_get IsTrueEntry world b node y k conflict.3 in
    let lives : of_x.0 ≡ of_y.0 = same_Some of_x.0 of_y.0 (sym of_x.1 ∙ of_y.1) in
    let at : set_at (eras_of of_x.0) x.mark ≡ set_at (eras_of of_y.0) y.mark = λ i. set_at (eras_of (lives i)) (conflict.4.0 i) in
    conflict.4.1 (same_Some x.set y.set (sym of_x.2 ∙ at ∙ of_y.2))

later_true : (life : Life) (x y : Entry) → IsTrueEntry life x → IsTrueEntry life y → IsTrueEntry life (later x y)
later_true life x y h k = by_test (is_lt (mark_cmp x.mark y.mark)) where
  by_test : (b : Bool) → IsTrueEntry life (cond b y x)
  by_test true = k
  by_test false = h

later_each-true : (world : List Life) (a b : List Entry) → IsInventoryOf world a → IsInventoryOf world b → IsInventoryOf world (later_each a b)
later_each-true [] [] b h k = tt
later_each-true [] (x ∷ a) b h k = absurd h
later_each-true (life ∷ world) [] b h k = absurd h
later_each-true (life ∷ world) (x ∷ a) [] h k = absurd k
later_each-true (life ∷ world) (x ∷ a) (y ∷ b) h k = (later_true life x y h.0 k.0, later_each-true world a b h.1 k.1)

later_mark : (x y : Entry) → (later x y).mark ≡ cond (is_lt (mark_cmp x.mark y.mark)) y.mark x.mark
later_mark x y = by_test (is_lt (mark_cmp x.mark y.mark)) where
  by_test : (b : Bool) → (cond b y x).mark ≡ cond b y.mark x.mark
  by_test true = refl
  by_test false = refl

later_marks : (a b : List Entry) → AreLaterOf (marks_of a) (marks_of b) (marks_of (later_each a b))
later_marks [] b = refl
later_marks (x ∷ a) [] = refl
later_marks (x ∷ a) (y ∷ b) = let first = later_mark x y in let rest = later_marks a b in λ i. first i ∷ rest i

pub join_there : (world : List Life) (a b : List Entry) → IsInventoryOf world a → IsInventoryOf world b → names_of a ≡ names_of b
    → (joined : List Entry) × IsJoin a b joined
join_there world a b h k names = (later_each a b, record { same_nodes = names; agree = λ node. never_conflict world a b node h k; entries = refl })

pub joined_true : (world : List Life) (a b joined : List Entry) → IsInventoryOf world a → IsInventoryOf world b → IsJoin a b joined
    → IsInventoryOf world joined × (names_of joined ≡ names_of a) × AreLaterOf (marks_of a) (marks_of b) (marks_of joined)
joined_true world a b joined h k join =
    let P : List Entry → Type 0 = λ c. IsInventoryOf world c × (names_of c ≡ names_of a) × AreLaterOf (marks_of a) (marks_of b) (marks_of c) in
    let together : P (later_each a b) = (later_each-true world a b h k, later_each-names a b join.same_nodes, later_marks a b) in
    subst P (sym join.entries) together
