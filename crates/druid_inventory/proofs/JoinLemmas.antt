-- Joins: equal entries, the later of two, and where nothing is later.
use Rattle.std.proofs.Common.{◌≡◌, ◌≢◌, ◌⊎◌, ◌↔◌, ◌+◌, ◌<◌, ◌≤◌, ℕ, zero, suc, Bool, true, false, List, [], ◌∷◌, length, get_or, map, set, Option, Some, None, Result, Ok, Err, refl, sym, ap, ◌∙◌, subst, inl, inr, arith, if◌then◌else◌}
use Rattle.std.specs.Bool.{Decides}
use Rattle.std.specs.Cmp.{first_so, second_so, unsigned_Decides}
use Rattle.std.specs.Cmp.Lexicographic.{pointwise}
use Rattle.std.specs.List.{slice_get}
use Rattle.std.specs.Str.{bytes_eq}
use Rattle.std.specs.Ordering.{is_lt, is_eq, ordering_reverse}
use Rattle.std.specs.Result.{IfOk, IfErr}
use Rattle.std.specs.declared.cmp.Ordering.{Ordering}
use Rattle.std.specs.declared.cmp.Ordering.TheVariants.{Less, Equal, Greater}
use Rattle.std.proofs.lemmas.Bool.{false≢true, cases_order}
use Rattle.std.proofs.lemmas.List.{length-map}
use Rattle.std.proofs.lemmas.Option.{same_Some, none-some}
use Rattle.std.proofs.lemmas.Slice.Eq.{bytes_eq-Decides, slice_eq-Decides}
use Rattle.druid_base.proofs.ListLemmas.{set-found}
use Rattle.druid_segment_descriptor.specs.Described.{same_described}
use Rattle.druid_segment_descriptor.specs.Mark.{Point, same_mark, mark_cmp}
use Rattle.druid_segment_descriptor.specs.Orders.{mark_cmp-total, mark_cmp-ties, same_mark-equiv}
use Rattle.druid_segment_descriptor.proofs.DescribedLemmas.{same_sets}
use Rattle.druid_inventory.specs.Entry.{Entry}
use Rattle.druid_inventory.specs.Equality.{same_entry, same_entries, same_entry-equiv}
use Rattle.druid_inventory.specs.Join.{names_of, later, later_each, Conflict, ConflictAt, IsJoin, RefusesJoin, ReportsJoin}
use Rattle.druid_inventory.specs.Judged.{NoneLater}
use Rattle.druid_inventory.proofs.TimelineLemmas.{found_beyond}
use Rattle.druid_inventory.specs.declared.fault.JoinFault.{JoinFault}
use Rattle.druid_inventory.specs.declared.fault.JoinFault.TheVariants as faults

-- ---- equal entries

same_mark-true : (a b : Point) → same_mark a b ≡ true → a ≡ b
same_mark-true a b e i = record {
  incarnation = (unsigned_Decides a.incarnation b.incarnation).0 (first_so _ _ e) i;
  count = (unsigned_Decides a.count b.count).0 (second_so _ _ e) i;
}

entry_same : (a b : Entry) → a.name ≡ b.name → a.mark ≡ b.mark → a.set ≡ b.set → a ≡ b
entry_same a b name mark set i = record { name = name i; mark = mark i; set = set i }

-- the test tells the same
pub same_entry-decides : (a b : Entry) → Decides (same_entry a b) (a ≡ b)
same_entry-decides a b = (
  λ e.
      let front = first_so _ _ e in
      entry_same a b ((bytes_eq-Decides a.name b.name).0 (first_so _ _ front)) (same_mark-true a.mark b.mark (second_so _ _ front))
      ((same_sets a.set b.set).0 (second_so _ _ e)),
  λ e. subst (λ (x : Entry). same_entry a x ≡ true) e (same_entry-equiv.refl a),
)

pub same_entries-decides : (a b : List Entry) → Decides (same_entries a b) (a ≡ b)
same_entries-decides a b = slice_eq-Decides same_entry-decides a b (same_entries a b) refl

-- for the attribute `using`
pub ruleset equality_facts = (same_entry-decides, same_sets)

-- ---- the same nodes

pub names_at : (a b : List Entry) (k : ℕ) (x y : Entry) → names_of a ≡ names_of b → slice_get a k ≡ Some x → slice_get b k ≡ Some y → x.name ≡ y.name
names_at [] b k x y e f g = absurd (none-some x f)
names_at (v ∷ a) [] k x y e f g = absurd (none-some y g)
names_at (v ∷ a) (w ∷ b) zero x y e f g =
    let first : v.name ≡ w.name = cc in
    sym (ap (λ (z : Entry). z.name) (same_Some v x f)) ∙ first ∙ ap (λ (z : Entry). z.name) (same_Some w y g)
names_at (v ∷ a) (w ∷ b) (suc k) x y e f g = let rest : names_of a ≡ names_of b = cc in names_at a b k x y rest f g

pub names_long : (a b : List Entry) → names_of a ≡ names_of b → length a ≡ length b
names_long a b e = sym (length-map a (λ (x : Entry). x.name)) ∙ ap (λ (names : List (List ℕ)). length names) e ∙ length-map b (λ (x : Entry). x.name)

-- the first nodes have the same names
abbrev pub SameNamesTo : List Entry → List Entry → ℕ → Type 0
SameNamesTo a b n = (k : ℕ) (x y : Entry) → k < n → slice_get a k ≡ Some x → slice_get b k ≡ Some y → x.name ≡ y.name

pub names_same : (a b : List Entry) (n : ℕ) → length a ≡ n → length b ≡ n → SameNamesTo a b n → names_of a ≡ names_of b
names_same [] [] n e f h = refl
names_same [] (y ∷ b) n e f h = absurd (omega arith)
names_same (x ∷ a) [] n e f h = absurd (omega arith)
names_same (x ∷ a) (y ∷ b) zero e f h = absurd (omega arith)
names_same (x ∷ a) (y ∷ b) (suc n) e f h =
    let first = h 0 x y (omega arith) refl refl in
    let rest = names_same a b n (omega arith) (omega arith) (λ k v w l p q. h (suc k) v w (omega arith) p q) in
    (λ i. first i ∷ rest i)

pub names_more : (a b : List Entry) (n : ℕ) (x y : Entry) → SameNamesTo a b n → slice_get a n ≡ Some x → slice_get b n ≡ Some y → x.name ≡ y.name
    → SameNamesTo a b (n + 1)
names_more a b n x y h f g e k v w l p q = elim (cases_order k n) [
  | inl at ↦
      let left : v ≡ x = same_Some v x (sym p ∙ ap (slice_get a) at ∙ f) in
      let right : w ≡ y = same_Some w y (sym q ∙ ap (slice_get b) at ∙ g) in
      ap (λ (z : Entry). z.name) left ∙ e ∙ sym (ap (λ (z : Entry). z.name) right)
  | inr (inl before) ↦ h k v w before p q
  | inr (inr beyond) ↦ absurd (omega arith)
]

-- another name at a place
pub names_apart : (a b : List Entry) (k : ℕ) (x y : Entry) → slice_get a k ≡ Some x → slice_get b k ≡ Some y → x.name ≢ y.name → names_of a ≢ names_of b
names_apart a b k x y f g apart e = apart (names_at a b k x y e f g)

-- ---- conflicts

-- none of the first nodes conflicts
abbrev pub AgreeTo : List Entry → List Entry → ℕ → Type 0
AgreeTo a b n = (k : ℕ) → k < n → ConflictAt a b k → ⊥

pub agree_more : (a b : List Entry) (n : ℕ) (x y : Entry) → AgreeTo a b n → slice_get a n ≡ Some x → slice_get b n ≡ Some y → (Conflict x y → ⊥) → AgreeTo a b (n + 1)
agree_more a b n x y h f g apart k l c = elim (cases_order k n) [
  | inl at ↦
      let left : c.0 ≡ x = same_Some c.0 x (sym c.2 ∙ ap (slice_get a) at ∙ f) in
      let right : c.1 ≡ y = same_Some c.1 y (sym c.3 ∙ ap (slice_get b) at ∙ g) in
      apart (subst (λ (z : Entry). Conflict z y) left (subst (λ (z : Entry). Conflict c.0 z) right c.4))
  | inr (inl before) ↦ h k before c
  | inr (inr beyond) ↦ absurd (omega arith)
]

within : (a : List Entry) (k : ℕ) (x : Entry) → slice_get a k ≡ Some x → k < length a
within [] k x e = absurd (none-some x e)
within (y ∷ a) zero x e = omega arith
within (y ∷ a) (suc k) x e = let l = within a k x e in omega arith

-- and so none does
pub agree_all : (a b : List Entry) (n : ℕ) → length a ≡ n → AgreeTo a b n → (node : ℕ) → ConflictAt a b node → ⊥
agree_all a b n e h node c = let l = within a node c.0 c.2 in h node (omega arith) c

-- ---- nothing later

-- of the first nodes, none is later in the second
abbrev pub NoneLaterTo : List Entry → List Entry → ℕ → Type 0
NoneLaterTo a b n =
    (k : ℕ) (x y : Entry) → k < n → slice_get a k ≡ Some x → slice_get b k ≡ Some y → is_lt (mark_cmp x.mark y.mark) ≡ false

-- where nothing is later, the first counts
pub none_later-left : (a b : List Entry) → length a ≡ length b → NoneLater a b → later_each a b ≡ a
none_later-left [] b e h = refl
none_later-left (x ∷ a) [] e h = absurd (omega arith)
none_later-left (x ∷ a) (y ∷ b) e h =
    let first : later x y ≡ x = ap (λ (t : Bool). if t then y else x) (h 0 x y refl refl) in
    let rest = none_later-left a b (omega arith) (λ k v w p q. h (suc k) v w p q) in
    (λ i. first i ∷ rest i)

level_marks : (a b : Point) → is_lt (mark_cmp a b) ≡ false → is_lt (mark_cmp b a) ≡ false → a ≡ b
level_marks a b e f = by (mark_cmp a b) refl where
  by : (o : Ordering) → mark_cmp a b ≡ o → a ≡ b
  by Less is = absurd (false≢true (sym e ∙ ap is_lt is))
  by Equal is = same_mark-true a b (mark_cmp-ties a b ∙ ap is_eq is)
  by Greater is =
      let turned : mark_cmp b a ≡ Less = mark_cmp-total.antisymm b a ∙ ap ordering_reverse is in
      absurd (false≢true (sym f ∙ ap is_lt turned))

agreed : (x y : Entry) → x.name ≡ y.name → x.mark ≡ y.mark → (Conflict x y → ⊥) → x ≡ y
agreed x y name mark apart = by (pointwise same_described x.set y.set) refl where
  by : (t : Bool) → pointwise same_described x.set y.set ≡ t → x ≡ y
  by true e = entry_same x y name mark ((same_sets x.set y.set).0 e)
  by false e = absurd (apart (mark, λ same. false≢true (sym e ∙ (same_sets x.set y.set).1 same)))

later-right : (x y : Entry) → x.name ≡ y.name → is_lt (mark_cmp y.mark x.mark) ≡ false → (Conflict x y → ⊥) → later x y ≡ y
later-right x y name e apart = by (is_lt (mark_cmp x.mark y.mark)) refl where
  by : (t : Bool) → is_lt (mark_cmp x.mark y.mark) ≡ t → later x y ≡ y
  by true is = ap (λ (t : Bool). if t then y else x) is
  by false is = ap (λ (t : Bool). if t then y else x) is ∙ agreed x y name (level_marks x.mark y.mark is e) apart

-- where nothing of the first is later, and they agree, the second counts
pub none_later-right : (a b : List Entry) → names_of a ≡ names_of b → NoneLater b a → ((node : ℕ) → ConflictAt a b node → ⊥) → later_each a b ≡ b
none_later-right [] [] e h apart = refl
none_later-right [] (y ∷ b) e h apart = let l = names_long [] (y ∷ b) e in absurd (omega arith)
none_later-right (x ∷ a) [] e h apart = let l = names_long (x ∷ a) [] e in absurd (omega arith)
none_later-right (x ∷ a) (y ∷ b) e h apart =
    let first = later-right x y (names_at (x ∷ a) (y ∷ b) 0 x y e refl refl) (h 0 y x refl refl) (λ c. apart 0 (x, y, refl, refl, c)) in
    let names : names_of a ≡ names_of b = cc in
    let rest = none_later-right a b names (λ k v w p q. h (suc k) v w p q) (λ k c. apart (suc k) (c.0, c.1, c.2, c.3, c.4)) in
    (λ i. first i ∷ rest i)

-- together they are of the nodes of both
pub later_each-names : (a b : List Entry) → names_of a ≡ names_of b → names_of (later_each a b) ≡ names_of a
later_each-names [] b e = refl
later_each-names (x ∷ a) [] e = let l = names_long (x ∷ a) [] e in absurd (omega arith)
later_each-names (x ∷ a) (y ∷ b) e =
    let first : (later x y).name ≡ x.name = by (is_lt (mark_cmp x.mark y.mark)) in
    let names : names_of a ≡ names_of b = cc in
    let rest = later_each-names a b names in
    (λ i. first i ∷ rest i)
  where
    by : (t : Bool) → (if t then y else x).name ≡ x.name
    by true = sym (names_at (x ∷ a) (y ∷ b) 0 x y e refl refl)
    by false = refl

-- an entry is replaced by one of its node
pub names-set : (inventory : List Entry) (node : ℕ) (e new : Entry) → slice_get inventory node ≡ Some e → new.name ≡ e.name → names_of (set inventory node new) ≡ names_of inventory
names-set [] node e new is same = refl
names-set (x ∷ xs) zero e new is same = ap (λ n. n ∷ names_of xs) (same ∙ ap (λ (y : Entry). y.name) (sym (same_Some x e is)))
names-set (x ∷ xs) (suc node) e new is same = ap (λ ns. x.name ∷ ns) (names-set xs node e new is same)

-- inventories of the same nodes are as long
pub fewer_names : (opening found : List Entry) (count : ℕ) → names_of found ≡ names_of opening → length found ≤ count → length opening ≤ count
fewer_names opening found count are few =
    omega (arith, ap length are, length-map found (λ (e : Entry). e.name), length-map opening (λ (e : Entry). e.name), few)

-- ---- one entry after another

-- the later entries of the first n nodes, and after them those of the first list
abbrev pub later_first : ℕ → List Entry → List Entry → List Entry
later_first zero a b = a
later_first (suc n) [] b = []
later_first (suc n) (x ∷ a) [] = x ∷ a
later_first (suc n) (x ∷ a) (y ∷ b) = later x y ∷ later_first n a b

later_first-at : (n : ℕ) (a b : List Entry) → slice_get (later_first n a b) n ≡ slice_get a n
later_first-at zero a b = refl
later_first-at (suc n) [] b = refl
later_first-at (suc n) (x ∷ a) [] = refl
later_first-at (suc n) (x ∷ a) (y ∷ b) = later_first-at n a b

later_first-set : (n : ℕ) (a b : List Entry) (x y : Entry) → slice_get a n ≡ Some x → slice_get b n ≡ Some y
    → set (later_first n a b) n (later x y) ≡ later_first (suc n) a b
later_first-set n [] b x y f g = absurd (none-some x f)
later_first-set n (v ∷ a) [] x y f g = absurd (none-some y g)
later_first-set zero (v ∷ a) (w ∷ b) x y f g =
    let left : x ≡ v = sym (same_Some v x f) in
    let right : y ≡ w = sym (same_Some w y g) in
    (λ i. later (left i) (right i) ∷ a)
later_first-set (suc n) (v ∷ a) (w ∷ b) x y f g = ap (λ (es : List Entry). later v w ∷ es) (later_first-set n a b x y f g)

-- the next node
pub later_first-more : (n m : ℕ) (a b now : List Entry) (e y : Entry) → m ≡ suc n → slice_get (later_first n a b) n ≡ Some e → slice_get b n ≡ Some y
    → now ≡ set (later_first n a b) n (later e y) → now ≡ later_first m a b
later_first-more n m a b now e y is f g made =
    made ∙ later_first-set n a b e y (sym (later_first-at n a b) ∙ f) g ∙ ap (λ (k : ℕ). later_first k a b) (sym is)

pub later_first-all : (n : ℕ) (a b : List Entry) → length a ≡ n → length b ≡ n → later_first n a b ≡ later_each a b
later_first-all zero [] b e f = refl
later_first-all zero (x ∷ a) b e f = absurd (omega arith)
later_first-all (suc n) [] b e f = absurd (omega arith)
later_first-all (suc n) (x ∷ a) [] e f = absurd (omega arith)
later_first-all (suc n) (x ∷ a) (y ∷ b) e f = ap (λ (es : List Entry). later x y ∷ es) (later_first-all n a b (omega arith) (omega arith))

pub later_read : {X : Type 0} (f : X → Entry) (xs : List X) (i : ℕ) (x : X) → i < length xs → x ≡ get_or xs i x → slice_get (map f xs) i ≡ Some (f x)
later_read f xs i x l e = found_beyond f xs i x l e

-- an entry that is not after stays
pub not_older : (es : List Entry) (n : ℕ) (x y : Entry) → slice_get es n ≡ Some x → is_lt (mark_cmp x.mark y.mark) ≡ false
    → (e : Entry) × (slice_get es n ≡ Some e) × (es ≡ set es n (later e y))
not_older es n x y f e = (x, f, sym (ap (set es n) (ap (λ (t : Bool). if t then y else x) e) ∙ set-found es n x f))

-- and one that is older is replaced
pub beyond : (es now : List Entry) (n : ℕ) (x y z : Entry) → slice_get es n ≡ Some x → is_lt (mark_cmp x.mark y.mark) ≡ true → now ≡ set es n z → z ≡ y
    → (e : Entry) × (slice_get es n ≡ Some e) × (now ≡ set es n (later e y))
beyond es now n x y z f e made is = (x, f, made ∙ ap (set es n) (is ∙ sym (ap (λ (t : Bool). if t then y else x) e)))

-- ---- what an answer tells

-- of lists that are the inventories'
pub none_later-of : (es fs a b : List Entry) → es ≡ a → fs ≡ b → NoneLater es fs → NoneLater a b
none_later-of es fs a b e f none =
    subst (λ (x : List Entry). NoneLater x b) e (subst (λ (y : List Entry). NoneLater es y) f none)

pub agreeing : (es fs a b : List Entry) → es ≡ a → fs ≡ b → ((node : ℕ) → ConflictAt es fs node → ⊥) → (node : ℕ) → ConflictAt a b node → ⊥
agreeing es fs a b e f agree =
    subst (λ (x : List Entry). (node : ℕ) → ConflictAt x b node → ⊥) e (subst (λ (y : List Entry). (node : ℕ) → ConflictAt es y node → ⊥) f agree)

pub refused_at : (es fs a b : List Entry) (node : ℕ) → es ≡ a → fs ≡ b → names_of es ≡ names_of fs
    → ConflictAt es fs node × ((i : ℕ) → i < node → ConflictAt es fs i → ⊥) → RefusesJoin a b (faults.Conflict node)
refused_at es fs a b node e f names h =
    subst (λ (x : List Entry). RefusesJoin x b (faults.Conflict node)) e
    (subst (λ (y : List Entry). RefusesJoin es y (faults.Conflict node)) f (names, h.0, h.1))

pub joined_so : (es fs a b joined : List Entry) → es ≡ a → fs ≡ b → names_of es ≡ names_of fs → ((node : ℕ) → ConflictAt es fs node → ⊥)
    → joined ≡ later_each a b → IsJoin a b joined
joined_so es fs a b joined e f names agree made = record {
  same_nodes = sym (ap names_of e) ∙ names ∙ ap names_of f;
  agree = agreeing es fs a b e f agree;
  entries = made;
}

pub refused_or_joined : (a b joined : List Entry) (f : JoinFault) → RefusesJoin a b f → IsJoin a b joined → ⊥
refused_or_joined a b joined faults.OtherNodes h j = h j.same_nodes
refused_or_joined a b joined (faults.Conflict node) h j = j.agree node h.1
refused_or_joined a b joined faults.Memory h j = absurd h

pub one_refusal : (a b : List Entry) (f g : JoinFault) → RefusesJoin a b f → RefusesJoin a b g → f ≡ g
one_refusal a b faults.OtherNodes faults.OtherNodes h k = refl
one_refusal a b faults.OtherNodes (faults.Conflict node) h k = absurd (h k.0)
one_refusal a b (faults.Conflict node) faults.OtherNodes h k = absurd (k h.0)
one_refusal a b (faults.Conflict node) (faults.Conflict other) h k = elim (cases_order node other) [
  | inl e ↦ ap (λ (n : ℕ). faults.Conflict n) e
  | inr (inl before) ↦ absurd (k.2 node before h.1)
  | inr (inr beyond) ↦ absurd (h.2 other beyond k.1)
]
one_refusal a b faults.Memory g h k = absurd h
one_refusal a b f faults.Memory h k = absurd k

abbrev pub SomeJoin : List Entry → List Entry → Type 0
SomeJoin a b = (joined : List Entry) × IsJoin a b joined

what_reports : (a b : List Entry) (f : JoinFault) → ReportsJoin a b f → RefusesJoin a b f ⊎ SomeJoin a b
what_reports a b faults.OtherNodes h = inl h
what_reports a b (faults.Conflict node) h = inl h
what_reports a b faults.Memory h = inr h

-- two inventories are not joined exactly where the answer says so
pub join_refused : {X : Type 0} (r : Result X JoinFault) (a b : List Entry) → IfOk r (λ _. SomeJoin a b) → IfErr r (ReportsJoin a b)
    → (f : JoinFault) → f ≢ faults.Memory → (r ≡ Err f) ↔ RefusesJoin a b f
join_refused (Ok x) a b ok reported f other = (λ e. absurd (cc), λ h. absurd (refused_or_joined a b ok.0 f h ok.1))
join_refused {X} (Err g) a b ok reported f other = (
  λ e. elim (what_reports a b g reported) [
    | inl h ↦ let same : g ≡ f = cc in subst (RefusesJoin a b) same h
    | inr j ↦ memory_alone g f reported j (cc) other
  ],
  λ h. elim (what_reports a b g reported) [
    | inl k ↦ let same = one_refusal a b g f k h in (λ i. Err (same i))
    | inr j ↦ absurd (refused_or_joined a b j.0 f h j.1)
  ],
) where
  memory_alone : (g f : JoinFault) → ReportsJoin a b g → SomeJoin a b → g ≡ f → f ≢ faults.Memory → RefusesJoin a b f
  memory_alone faults.OtherNodes f h j e other = subst (RefusesJoin a b) e h
  memory_alone (faults.Conflict node) f h j e other = subst (RefusesJoin a b) e h
  memory_alone faults.Memory f h j e other = absurd (other (sym e))

-- ---- a join, or a refusal

abbrev LeastConflict : List Entry → List Entry → Type 0
LeastConflict a b = (node : ℕ) × ConflictAt a b node × ((i : ℕ) → i < node → ConflictAt a b i → ⊥)

conflict_decided : (x y : Entry) → Conflict x y ⊎ (Conflict x y → ⊥)
conflict_decided x y = by (same_mark x.mark y.mark) refl (pointwise same_described x.set y.set) refl where
  by : (s : Bool) → same_mark x.mark y.mark ≡ s → (t : Bool) → pointwise same_described x.set y.set ≡ t → Conflict x y ⊎ (Conflict x y → ⊥)
  by false e t f = inr (λ c. false≢true (sym e ∙ subst (λ (p : Point). same_mark x.mark p ≡ true) c.0 (same_mark-equiv.refl x.mark)))
  by true e true f = inr (λ c. c.1 ((same_sets x.set y.set).0 f))
  by true e false f = inl (same_mark-true x.mark y.mark e, λ same. false≢true (sym f ∙ (same_sets x.set y.set).1 same))

no_conflict : (a b : List Entry) → AgreeTo a b 0
no_conflict a b k l c = absurd (omega arith)

least_conflict : (a b : List Entry) (n : ℕ) → AgreeTo a b n ⊎ LeastConflict a b
least_conflict a b zero = inl (no_conflict a b)
least_conflict a b (suc n) = by (least_conflict a b n) (slice_get a n) refl (slice_get b n) refl where
  next : AgreeTo a b n → (ConflictAt a b n → ⊥) → AgreeTo a b (suc n)
  next h none k l c = elim (cases_order k n) [
    | inl at ↦ none (subst (ConflictAt a b) at c)
    | inr (inl before) ↦ h k before c
    | inr (inr beyond) ↦ absurd (omega arith)
  ]

  by : AgreeTo a b n ⊎ LeastConflict a b → (o : Option Entry) → slice_get a n ≡ o → (p : Option Entry) → slice_get b n ≡ p
      → AgreeTo a b (suc n) ⊎ LeastConflict a b
  by (inr found) o e p f = inr found
  by (inl h) None e p f = inl (next h (λ c. none-some c.0 (sym e ∙ c.2)))
  by (inl h) (Some x) e None f = inl (next h (λ c. none-some c.1 (sym f ∙ c.3)))
  by (inl h) (Some x) e (Some y) f = elim (conflict_decided x y) [
    | inl c ↦ inr (n, (x, y, e, f, c), h)
    | inr none ↦ inl (next h (λ c.
        let left : c.0 ≡ x = same_Some c.0 x (sym c.2 ∙ e) in
        let right : c.1 ≡ y = same_Some c.1 y (sym c.3 ∙ f) in
        none (subst (λ (z : Entry). Conflict z y) left (subst (λ (z : Entry). Conflict c.0 z) right c.4))))
  ]

same_names-decides : (a b : List Entry) → Decides (pointwise bytes_eq (names_of a) (names_of b)) (names_of a ≡ names_of b)
same_names-decides a b = slice_eq-Decides bytes_eq-Decides (names_of a) (names_of b) _ refl

pub join_some : (a b : List Entry) → SomeJoin a b ⊎ ((f : JoinFault) × RefusesJoin a b f)
join_some a b = by (pointwise bytes_eq (names_of a) (names_of b)) refl (least_conflict a b (length a)) where
  by : (t : Bool) → pointwise bytes_eq (names_of a) (names_of b) ≡ t → AgreeTo a b (length a) ⊎ LeastConflict a b
      → SomeJoin a b ⊎ ((f : JoinFault) × RefusesJoin a b f)
  by false e found = inr (faults.OtherNodes, λ same. false≢true (sym e ∙ (same_names-decides a b).1 same))
  by true e (inr found) = inr (faults.Conflict found.0, ((same_names-decides a b).0 e, found.1, found.2))
  by true e (inl h) =
      inl (later_each a b, record { same_nodes = (same_names-decides a b).0 e; agree = agree_all a b (length a) refl h; entries = refl })
