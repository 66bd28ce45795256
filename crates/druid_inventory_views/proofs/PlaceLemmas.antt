-- Steps that keep the rule of what is shown.
use Rattle.std.proofs.Common.{◌≡◌, ◌≢◌, ℕ, zero, suc, List, [], ◌∷◌, ◌++◌, fold, Result, Ok, Err, IfOk, IfErr, OnOk, OnErr, ◌⊎◌, inl, inr, MatchResult, set, refl, sym, ap, ◌∙◌, subst, ⊎_elim}
use Rattle.std.specs.Arc.{arc_value}
use Rattle.std.proofs.lemmas.Bool.{false≢true}
use mathlib.Core.Option.{some, some-injective, some-ne-none}
use lib.ListN.{get_elem?}
use Rattle.left_right.specs.Register.{Admits, TurnsAt, Forks, Merges}
use Rattle.atomic_table.proofs.Lists.{at_set, at_snoc}
use Rattle.logbook.specs.Pages.{Book}
use Rattle.logbook.specs.declared.tokens.Seen.{Seen}
use Rattle.druid_segment_descriptor.specs.declared.reply.Body.{Body}
use Rattle.druid_inventory.specs.Entry.{Entry}
use Rattle.druid_inventory_views.specs.Fold.{Published, fold_of}
use Rattle.druid_inventory_views.specs.declared.book.Counted.{Counted}
use Rattle.druid_inventory_views.specs.declared.rule.Known.{Known}
use Rattle.druid_inventory_views.specs.declared.shown.Shown.{Shown}
use Rattle.druid_inventory_views.specs.Places.{known, unnamed, IsOf, AllOf, Follows, Names}

-- what an operation sets
abbrev pub State : Type 0
State = List Entry × Seen (ℕ × Body) ℕ Counted

abbrev pub state_of : Shown → State
state_of s = (arc_value s.inventory, s.seen)

-- ---- places

unnamed_of : (b : Book) (opening : List Entry) → IsOf b opening unnamed
unnamed_of b opening h = absurd (false≢true h)

set_of : (b : Book) (opening : List Entry) (views : List Known) (seat : ℕ) (w : Known) → AllOf b opening views → IsOf b opening w → AllOf b opening (set views seat w)
set_of b opening views seat w h own j u e = ⊎_elim (λ (t : (j ≡ seat) × (w ≡ u)). subst (IsOf b opening) t.1 own) (λ (t : (j ≢ seat) × (get_elem? views j ≡ some u)). h j u t.1) (at_set views seat j w u e)

snoc_of : (b : Book) (opening : List Entry) (views : List Known) (w : Known) → AllOf b opening views → IsOf b opening w → AllOf b opening (views ++ w ∷ [])
snoc_of b opening views w h own seat v at = ⊎_elim (h seat v) (λ (e : w ≡ v). subst (IsOf b opening) e own) (at_snoc views w v seat at)

abbrev book_of : Known → Book
book_of k = record { number = k.number; log_name = k.log_name; cells_name = k.cells_name }

-- ---- steps

pub admits : Admits Follows unnamed
admits x views h = (h.0, h.1, snoc_of x.seen.book h.0 views unnamed h.2 (unnamed_of x.seen.book h.0))

-- what is shown may change to what is the fold of its list from each opening that the place may know
looks : (seat : ℕ) (v : Known) (x y : Shown)
    → ((opening : List Entry) → IsOf x.seen.book opening v → (arc_value x.inventory ≡ fold_of opening x.seen.log) → (y.seen.book ≡ x.seen.book) × (arc_value y.inventory ≡ fold_of opening y.seen.log))
    → TurnsAt Follows seat v x y (λ v x y w. Names v y w)
looks seat v x y goes views h at =
    let named = known y.seen.book h.0 in
    let own : IsOf x.seen.book h.0 v = h.2 seat v at in
    let on = goes h.0 own h.1 in
    let all : AllOf y.seen.book h.0 views = subst (λ b. AllOf b h.0 views) (sym on.0) h.2 in (
      named,
      (h.0, on.1, set_of y.seen.book h.0 views seat named all (λ n. refl)),
      (h.0, on.1, refl, subst (λ b. IsOf b h.0 v) (sym on.0) own),
    )

fold_same : (opening : List Entry) (x y : Shown) → state_of y ≡ state_of x → (arc_value x.inventory ≡ fold_of opening x.seen.log) → (arc_value y.inventory ≡ fold_of opening y.seen.log)
fold_same opening x y e f =
    subst (λ (now : List Entry). (now ≡ fold_of opening y.seen.log)) (sym (ap (λ (s : State). s.0) e))
    (subst (λ (log : Published). (arc_value x.inventory ≡ fold_of opening log)) (sym (ap (λ (s : State). s.1.log) e)) f)

-- what is shown stays
pub stays : (seat : ℕ) (v : Known) (x y : Shown) → state_of y ≡ state_of x → TurnsAt Follows seat v x y (λ v x y w. Names v y w)
stays seat v x y e = looks seat v x y (λ opening own f. (ap (λ (s : State). s.1.book) e, fold_same opening x y e f))

-- a named place shows another fold from its opening, with a list of its own
pub shows : (b : Book) (opening : List Entry) (seat : ℕ) (v : Known) (x y other : Shown) → v ≡ known b opening → state_of y ≡ state_of other
    → other.seen.book ≡ b → (arc_value other.inventory ≡ fold_of opening other.seen.log) → TurnsAt Follows seat v x y (λ v x y w. Names v y w)
shows b opening seat v x y other is e book folds = looks seat v x y (λ o own f.
    let same : known x.seen.book o ≡ known b opening = sym (own (ap (λ (k : Known). k.named) is)) ∙ is in (
      ap (λ (s : State). s.1.book) e ∙ book ∙ sym (ap book_of same),
      subst (λ (k : List Entry). (arc_value y.inventory ≡ fold_of k y.seen.log)) (sym (ap (λ (k : Known). k.opening) same)) (fold_same opening other y e folds),
    ))

pub forks : (seat : ℕ) (v : Known) → Forks Follows seat v v v
forks seat v x views h at =
    let own : IsOf x.seen.book h.0 v = h.2 seat v at in
    (h.0, h.1, snoc_of x.seen.book h.0 (set views seat v) v (set_of x.seen.book h.0 views seat v h.2 own) own)

pub merges : (seat : ℕ) (v : Known) (other : ℕ) (w : Known) → Merges Follows seat v other w w unnamed
merges seat v other w x views h at apart there =
    let own : IsOf x.seen.book h.0 w = ⊎_elim (λ (t : (other ≡ seat) × (w ≡ w)). absurd (apart t.0)) (λ (t : (other ≢ seat) × (get_elem? views other ≡ some w)). h.2 other w t.1) (at_set views seat other w w there) in
    (h.0, h.1, set_of x.seen.book h.0 (set views seat w) other unnamed (set_of x.seen.book h.0 views seat w h.2 own) (unnamed_of x.seen.book h.0))

-- ---- what a look tells

-- a named place stays as it is
pub names_same : (b : Book) (opening : List Entry) (v : Known) (s : Shown) (w : Known) → v ≡ known b opening → Names v s w → w ≡ v
names_same b opening v s w is h = h.2 ∙ sym (h.3 (ap (λ (k : Known). k.named) is))

-- with nothing published, the opening is what is shown
pub names_first : (b : Book) (opening : List Entry) (v : Known) (s : Shown) (w : Known) → s.seen.book ≡ b → s.seen.log ≡ [] → arc_value s.inventory ≡ opening → Names v s w → w ≡ known b opening
names_first b opening v s w book log inventory h =
    let first : arc_value s.inventory ≡ h.0 = subst (λ (l : Published). (arc_value s.inventory ≡ fold_of h.0 l)) log h.1 in
    h.2 ∙ (λ i. known (book i) ((sym first ∙ inventory) i))

-- ---- operations

set_last : (f : State → Shown → State) → ((s : State) (x : Shown) → f s x ≡ state_of x) → (s : State) (xs : List Shown) (op : Shown) → fold f s (xs ++ op ∷ []) ≡ state_of op
set_last f p s [] op = p s op
set_last f p s (x ∷ xs) op = set_last f p (f s x) xs op

-- an operation sets what is shown, whatever was pending before it
pub sets : (f : State → Shown → State) → ((s : State) (x : Shown) → f s x ≡ state_of x) → (s : State) (xs pending : List Shown) (op : Shown) (t : State)
    → pending ≡ xs ++ op ∷ [] → t ≡ fold f s pending → t ≡ state_of op
sets f p s xs pending op t e is = is ∙ (ap (fold f s) e ∙ set_last f p s xs op)

pub alike : (s t : Shown) → (arc_value s.inventory ≡ arc_value t.inventory) × (s.seen ≡ t.seen) → state_of s ≡ state_of t
alike s t e i = (e.0 i, e.1 i)

pub either_way : {A B Q : Type 0} (r : Result A B) (P : A → Type 0) (R : B → Type 0) → MatchResult r P R → ((a : A) → P a → Q) → ((b : B) → R b → Q) → Q
either_way (Ok a) P R m f h = f a m
either_way (Err b) P R m f h = h b m

pub if_ok_so : {A B : Type 0} (r : Result A B) (P Q : A → Type 0) (R : B → Type 0) → MatchResult r P R → ((a : A) → P a → Q a) → IfOk r Q
if_ok_so (Ok a) P Q R m f = f a m
if_ok_so (Err e) P Q R m f = tt

pub ok_or_err : {A B P Q R : Type 0} (r : Result A B) → OnOk r P → OnErr r Q → (Q → R) → P ⊎ R
ok_or_err (Ok a) p q f = inl p
ok_or_err (Err b) p q f = inr (f q)

pub if_err_so : {A B : Type 0} (r : Result A B) (P : A → Type 0) (R Q : B → Type 0) → MatchResult r P R → ((b : B) → R b → Q b) → IfErr r Q
if_err_so (Ok a) P R Q m f = tt
if_err_so (Err e) P R Q m f = f e m

pub if_ok_both : {A B : Type 0} (r : Result A B) (P P' Q : A → Type 0) (R R' : B → Type 0) → MatchResult r P R → MatchResult r P' R' → ((a : A) → P a → P' a → Q a) → IfOk r Q
if_ok_both (Ok a) P P' Q R R' m m' f = f a m m'
if_ok_both (Err e) P P' Q R R' m m' f = tt

one_of : (b : Book) (opening : List Entry) → AllOf b opening (unnamed ∷ [])
one_of b opening zero v e = subst (IsOf b opening) (some-injective unnamed v e) (unnamed_of b opening)
one_of b opening (suc j) v e = absurd (some-ne-none v (sym e))

-- with nothing published, the rule holds
pub opens : (s : Shown) (opening : List Entry) → s.seen.log ≡ [] → arc_value s.inventory ≡ opening → Follows s (unnamed ∷ [])
opens s opening log is = (
  opening,
  subst (λ (l : Published). (arc_value s.inventory ≡ fold_of opening l)) (sym log) is,
  one_of s.seen.book opening,
)
