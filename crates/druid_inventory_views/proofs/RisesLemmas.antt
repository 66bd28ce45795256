-- Marks do not fall.
use Rattle.std.proofs.Common.{subst, ◌≡◌, ◌≢◌, ℕ, zero, suc, true, List, [], ◌∷◌, length, set, Option, Some, None, inl, inr, refl, sym, ap, ◌∙◌, arith}
use Rattle.std.specs.List.{slice_get}
use Rattle.std.specs.Ordering.{is_lt, ordering_reverse}
use Rattle.std.specs.declared.cmp.Ordering.{Ordering}
use Rattle.std.specs.declared.cmp.Ordering.TheVariants.{Less, Equal, Greater}
use Rattle.std.proofs.lemmas.Bool.{false≢true}
use Rattle.std.proofs.lemmas.Option.{same_Some, none-some}
use mathlib.Core.List.{IsPrefix}
use Rattle.druid_base.proofs.OrderLemmas.{is_lt-Less}
use Rattle.druid_segment_descriptor.specs.Mark.{Point, mark_cmp}
use Rattle.druid_segment_descriptor.specs.Orders.{mark_cmp-total}
use Rattle.druid_segment_descriptor.specs.declared.reply.Body.{Body}
use Rattle.druid_inventory.specs.Entry.{Entry}
use Rattle.druid_inventory.proofs.StepLemmas.{Steps-mark}
use Rattle.druid_inventory_views.specs.Floor.{marks_of, IsStaleAt, Rises}
use Rattle.druid_inventory.specs.declared.fault.Outcome.TheVariants.{Moved}
use Rattle.druid_inventory_views.specs.Fold.{Published, stepped, stepped_if, step_by, fold_of}
use Rattle.druid_inventory_views.proofs.FoldLemmas.{stepping, fold_on}

abbrev NoneStale : List Point → List Point → Type 0
NoneStale floor marks = (node : ℕ) → IsStaleAt floor marks node → ⊥

-- ---- one mark

-- no mark is below itself
not_below_itself : (m : Point) (o : Ordering) → mark_cmp m m ≡ o → is_lt o ≡ true → ⊥
not_below_itself m Less e less =
    let turned : mark_cmp m m ≡ Greater = mark_cmp-total.antisymm m m ∙ ap ordering_reverse e in
    false≢true (ap is_lt (sym turned ∙ e))
not_below_itself m Equal e less = false≢true less
not_below_itself m Greater e less = false≢true less

-- of three marks, one that is below the first is below the second or that is below the first
not_below : (found mid at : Point) (o : Ordering) → mark_cmp mid at ≡ o → (is_lt o ≡ true → ⊥) → (is_lt (mark_cmp found mid) ≡ true → ⊥) → is_lt (mark_cmp found at) ≡ true → ⊥
not_below found mid at Less e h g less = h refl
not_below found mid at Equal e h g less =
    let level : mark_cmp at mid ≡ Equal = mark_cmp-total.antisymm at mid ∙ ap ordering_reverse e in
    let turned : mark_cmp at found ≡ Greater = mark_cmp-total.antisymm at found ∙ ap ordering_reverse (is_lt-Less (mark_cmp found at) less) in
    let over : mark_cmp mid found ≡ Greater = mark_cmp-total.congr mid at found e ∙ turned in
    g (ap is_lt (mark_cmp-total.antisymm found mid ∙ ap ordering_reverse over))
not_below found mid at Greater e h g less =
    let back : mark_cmp at mid ≡ Less = mark_cmp-total.antisymm at mid ∙ ap ordering_reverse e in
    g (ap is_lt (mark_cmp-total.trans found at mid (is_lt-Less (mark_cmp found at) less) back))

-- ---- all marks

none_below_itself : (floor : List Point) → NoneStale floor floor
none_below_itself floor node c =
    let same : c.0 ≡ c.1 = same_Some c.0 c.1 (sym c.2 ∙ c.3) in
    not_below_itself c.0 (mark_cmp c.0 c.0) refl (ap (λ m. is_lt (mark_cmp m c.0)) same ∙ c.4)

-- what stays has risen
rises_by : (a b : List Point) → b ≡ a → Rises a b
rises_by a b e = subst (λ x. Rises a x) (sym e) (refl, none_below_itself a)

none_below : (a b c : List Point) → length b ≡ length a → NoneStale a b → NoneStale b c → NoneStale a c
none_below [] b c e f g node s = none-some s.0 s.2
none_below (x ∷ a) [] c e f g node s = absurd (omega arith)
none_below (x ∷ a) (y ∷ b) [] e f g node s = none-some s.1 s.3
none_below (x ∷ a) (y ∷ b) (z ∷ c) e f g zero s =
    let left : x ≡ s.0 = same_Some x s.0 s.2 in
    let right : z ≡ s.1 = same_Some z s.1 s.3 in
    not_below z y x (mark_cmp y x) refl (λ less. f 0 (x, y, refl, refl, less)) (λ less. g 0 (y, z, refl, refl, less))
    ((λ i. is_lt (mark_cmp (right i) (left i))) ∙ s.4)
none_below (x ∷ a) (y ∷ b) (z ∷ c) e f g (suc node) s = none_below a b c (omega arith) (λ n k. f (suc n) k) (λ n k. g (suc n) k) node s

-- what rises twice has risen
rises_on : (a b c : List Point) → Rises a b → Rises b c → Rises a c
rises_on a b c first second = (second.0 ∙ first.0, none_below a b c first.0 first.1 second.1)

-- ---- replies

none_set : (inventory : List Entry) (node : ℕ) (e new : Entry) → slice_get inventory node ≡ Some e → mark_cmp e.mark new.mark ≢ Greater
    → NoneStale (marks_of inventory) (marks_of (set inventory node new))
none_set [] node e new is up i s = none-some s.0 s.2
none_set (x ∷ xs) zero e new is up zero s =
    let left : e.mark ≡ s.0 = ap (λ (y : Entry). y.mark) (sym (same_Some x e is)) ∙ same_Some x.mark s.0 s.2 in
    let right : new.mark ≡ s.1 = same_Some new.mark s.1 s.3 in
    let less : mark_cmp new.mark e.mark ≡ Less = is_lt-Less (mark_cmp new.mark e.mark) ((λ i. is_lt (mark_cmp (right i) (left i))) ∙ s.4) in
    up (mark_cmp-total.antisymm e.mark new.mark ∙ ap ordering_reverse less)
none_set (x ∷ xs) zero e new is up (suc i) s = none_below_itself (marks_of xs) i s
none_set (x ∷ xs) (suc node) e new is up zero s = none_below_itself (marks_of (x ∷ xs)) zero s
none_set (x ∷ xs) (suc node) e new is up (suc i) s = none_set xs node e new is up i s

marks_set : (inventory : List Entry) (node : ℕ) (new : Entry) → length (marks_of (set inventory node new)) ≡ length (marks_of inventory)
marks_set [] node new = refl
marks_set (x ∷ xs) zero new = refl
marks_set (x ∷ xs) (suc node) new = ap suc (marks_set xs node new)

not_above_itself : (m : Point) → mark_cmp m m ≢ Greater
not_above_itself m greater =
    let turned : mark_cmp m m ≡ Less = mark_cmp-total.antisymm m m ∙ ap ordering_reverse greater in
    not_below_itself m (mark_cmp m m) refl (ap is_lt turned)

step_rises : (inventory : List Entry) (pair : ℕ × Body) → Rises (marks_of inventory) (marks_of (step_by inventory pair))
step_rises inventory pair = by (slice_get inventory pair.0) refl
  where
    up : (e : Entry) → mark_cmp e.mark (stepped e pair.1).mark ≢ Greater
    up e = elim (stepping e pair.1) [
      | inl moves ↦ Steps-mark e pair.1 Moved (stepped e pair.1) moves
      | inr same ↦ λ greater. not_above_itself e.mark (ap (λ (x : Entry). mark_cmp e.mark x.mark) (sym same) ∙ greater)
    ]

    by : (o : Option Entry) → slice_get inventory pair.0 ≡ o → Rises (marks_of inventory) (marks_of (stepped_if inventory pair o))
    by None there = rises_by (marks_of inventory) (marks_of inventory) refl
    by (Some e) there = (marks_set inventory pair.0 (stepped e pair.1), none_set inventory pair.0 e (stepped e pair.1) there (up e))

fold_rises : (opening : List Entry) (published : Published) → Rises (marks_of opening) (marks_of (fold_of opening published))
fold_rises opening [] = rises_by (marks_of opening) (marks_of opening) refl
fold_rises opening (pair ∷ published) =
    rises_on (marks_of opening) (marks_of (step_by opening pair)) (marks_of (fold_of (step_by opening pair) published)) (step_rises opening pair) (fold_rises (step_by opening pair) published)

-- the more is published, the later are the marks
pub marks_rise : (opening : List Entry) (published more : Published) → IsPrefix published more → Rises (marks_of (fold_of opening published)) (marks_of (fold_of opening more))
marks_rise opening published more pre =
    let parts : fold_of opening more ≡ fold_of (fold_of opening published) pre.0 = ap (fold_of opening) (sym pre.1) ∙ fold_on opening published pre.0 in
    subst (λ (xs : List Entry). Rises (marks_of (fold_of opening published)) (marks_of xs)) (sym parts) (fold_rises (fold_of opening published) pre.0)
