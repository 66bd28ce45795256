-- What a round asks the nodes for, piece after piece.
use Rattle.std.proofs.Common.{◌≡◌, ◌∙◌, ℕ, zero, suc, ◌<◌, Bool, true, false, cond, List, [], ◌∷◌, ◌++◌, length, map, take, drop, ◌==◌, Option, Some, None, option_map, unwrap_or, Vec, Contains, refl, sym, ap, subst, arith}
use Rattle.std.specs.Global.{Global}
use Rattle.std.specs.List.Sorted.{IsStrictlyIncreasing}
use Rattle.std.specs.BTreeMap as tree
use Rattle.std.specs.Cmp.{nat_cmp_total, unsigned_ties}
use Rattle.std.specs.Ordering.{nat_cmp}
use Rattle.std.proofs.lemmas.Bool.{false≢true}
use Rattle.std.proofs.lemmas.Bool.Decides.{Decides-eqb}
use Rattle.std.proofs.lemmas.List.{append-nil, map_push, take_all, drop_all}
use Rattle.std.proofs.lemmas.Option.{same_Some}
use Rattle.std.proofs.lemmas.Map.Keys.{IsStrictlyIncreasing-from_sorted}
use Rattle.std.proofs.lemmas.Map.Lookups.{exact_unsigned}
use Rattle.std.proofs.lemmas.Map.Views.{btree_map_get_iff}
use Rattle.druid_base.proofs.ListLemmas.{Contains-here}
use Rattle.druid_base.proofs.MemberLemmas.{Contains-map, Contains-map_back, Contains-nil}
use Rattle.druid_query.specs.Asked.{Asked}
use Rattle.druid_broker_scatter.specs.Slices.{Slices, NoneEmpty, slices_of}
use Rattle.druid_broker_scatter.specs.Pending.{PendingSlice, Ask, IsRound, wanted_of}
use Rattle.druid_broker_scatter.proofs.AskedLemmas.{wanted_back}

-- ---- the first piece of a node

get_after : (old mid new : Slices) (node : ℕ) (v : Vec Asked Global) → mid ≡ old → tree.Updates nat_cmp mid new node (Some v) → (n : ℕ) → tree.get nat_cmp new n ≡ cond (node == n) (Some v) (tree.get nat_cmp old n)
get_after old mid new node v same h n =
    h.0 n ∙ ap (λ (b : Bool). cond b (Some v) (tree.get nat_cmp mid n)) (sym (unsigned_ties node n)) ∙ ap (λ (m : Slices). cond (node == n) (Some v) (tree.get nat_cmp m n)) same

pub first_slice : (old mid new : Slices) (node : ℕ) (v : Vec Asked Global) (a : Asked) → mid ≡ old → tree.get nat_cmp old node ≡ None → tree.Updates nat_cmp mid new node (Some v) → v.items ≡ a ∷ []
    → (n : ℕ) → slices_of new n ≡ slices_of old n ++ cond (node == n) (a ∷ []) []
first_slice old mid new node v a same none h items n =
    ap (λ (o : Option (Vec Asked Global)). unwrap_or (option_map (λ v. v.items) o) []) (get_after old mid new node v same h n) ∙ by (node == n) refl
  where
    by : (b : Bool) → (node == n) ≡ b → unwrap_or (option_map (λ (v : Vec Asked Global). v.items) (cond b (Some v) (tree.get nat_cmp old n))) [] ≡ slices_of old n ++ cond b (a ∷ []) []
    by true e =
        let absent : tree.get nat_cmp old n ≡ None = subst (λ (k : ℕ). tree.get nat_cmp old k ≡ None) ((Decides-eqb node n).0 e) none in
        items ∙ ap (λ (o : Option (Vec Asked Global)). unwrap_or (option_map (λ v. v.items) o) [] ++ a ∷ []) (sym absent)
    by false e = sym (append-nil (slices_of old n))

pub first_some : (old mid new : Slices) (node : ℕ) (v : Vec Asked Global) (a : Asked) → mid ≡ old → tree.Updates nat_cmp mid new node (Some v) → v.items ≡ a ∷ [] → NoneEmpty old → NoneEmpty new
first_some old mid new node v a same h items some n w e = by (node == n) (sym (get_after old mid new node v same h n) ∙ e)
  where
    by : (b : Bool) → cond b (Some v) (tree.get nat_cmp old n) ≡ Some w → 0 < length w.items
    by true is = let one = ap length (sym (ap (λ (x : Vec Asked Global). x.items) (same_Some v w is)) ∙ items) in omega (arith, one)
    by false is = some n w is

-- ---- of all nodes

nodes_are : (es : List (ℕ × Vec Asked Global)) → map (λ (ask : Ask). ask.0) (map (λ e. (e.0, e.1.items)) es) ≡ map (λ e. e.0) es
nodes_are [] = refl
nodes_are (e ∷ es) = λ i. e.0 ∷ nodes_are es i

some_in : {A : Type 0} (xs : List A) → 0 < length xs → (a : A) × Contains xs a
some_in [] some = absurd (omega arith)
some_in (x ∷ xs) some = (x, Contains-here x xs)

-- an entry has what its node is asked for
entry_is : (round : ℕ) (waits : List PendingSlice) (slices : Slices) → tree.IsOrdered nat_cmp slices → ((n : ℕ) → slices_of slices n ≡ wanted_of round waits n) → NoneEmpty slices
    → (n : ℕ) (v : Vec Asked Global) → Contains slices.entries (n, v) → (v.items ≡ wanted_of round waits n) × (a : Asked) × Contains v.items a
entry_is round waits slices ordered wanted some n v c =
    let there = (btree_map_get_iff nat_cmp_total exact_unsigned slices ordered n v).1 c in
    let one = some_in v.items (some n v there) in
    (sym (ap (λ (o : Option (Vec Asked Global)). unwrap_or (option_map (λ v. v.items) o) []) there) ∙ wanted n, one.0, one.1)

-- and each that is asked for something has one
has_entry : (slices : Slices) → tree.IsOrdered nat_cmp slices → (n : ℕ) (a : Asked) → Contains (slices_of slices n) a → (v : Vec Asked Global) × Contains slices.entries (n, v)
has_entry slices ordered n a c = at (tree.get nat_cmp slices n) refl c
  where
    at : (o : Option (Vec Asked Global)) → tree.get nat_cmp slices n ≡ o → Contains (unwrap_or (option_map (λ v. v.items) o) []) a → (v : Vec Asked Global) × Contains slices.entries (n, v)
    at None e c = absurd (Contains-nil a c)
    at (Some v) e c = (v, (btree_map_get_iff nat_cmp_total exact_unsigned slices ordered n v).0 e)

-- the asks of what each node is asked for
pub is_round : (round : ℕ) (waits : List PendingSlice) (slices : Slices) (asks : List Ask) → tree.IsOrdered nat_cmp slices → ((n : ℕ) → slices_of slices n ≡ wanted_of round waits n) → NoneEmpty slices
    → asks ≡ map (λ e. (e.0, e.1.items)) slices.entries → IsRound round waits asks
is_round round waits slices asks ordered wanted some is = rw is (record {
  rising = subst IsStrictlyIncreasing (sym (nodes_are slices.entries)) (IsStrictlyIncreasing-from_sorted (tree.keys slices) ordered);
  each = λ ask c.
      let e = Contains-map (λ (e : ℕ × Vec Asked Global). (e.0, e.1.items)) slices.entries ask c in
      subst (λ (ask : Ask). (ask.1 ≡ wanted_of round waits ask.0) × (a : Asked) × Contains ask.1 a) e.2 (entry_is round waits slices ordered wanted some e.0.0 e.0.1 e.1);
  all = λ w node c at.
      let e = has_entry slices ordered node w.asked (subst (λ (xs : List Asked). Contains xs w.asked) (sym (wanted node)) (wanted_back round node waits w c at)) in
      Contains-map_back (λ (ask : Ask). ask.0) (map (λ e. (e.0, e.1.items)) slices.entries) (node, e.0.items) (Contains-map_back (λ (e : ℕ × Vec Asked Global). (e.0, e.1.items)) slices.entries (node, e.0) e.1);
})

-- an exchange more, and the entry that it is for
pub asks_more : {X : Type 0} (g : X → Ask) (old new : List X) (x : X) (done : List (ℕ × Vec Asked Global)) (n : ℕ) (v : Vec Asked Global) → new ≡ old ++ x ∷ [] → (g x).0 ≡ n → (g x).1 ≡ v.items
    → map g old ≡ map (λ e. (e.0, e.1.items)) done → map g new ≡ map (λ e. (e.0, e.1.items)) (done ++ (n, v) ∷ [])
asks_more g old new x done n v e node asked so_far =
    let asks : ℕ × Vec Asked Global → Ask = λ e. (e.0, e.1.items) in
    ap (map g) e ∙ map_push g old x ∙ (λ i. so_far i ++ (node i, asked i) ∷ []) ∙ sym (map_push asks done (n, v))

-- all entries were gone through
pub asks_all : (asks : List Ask) (done all : List (ℕ × Vec Asked Global)) → map (λ e. e) done ≡ all → asks ≡ map (λ e. (e.0, e.1.items)) done → asks ≡ map (λ e. (e.0, e.1.items)) all
asks_all asks done all e so_far = so_far ∙ itself done ∙ ap (map {B = Ask} (λ (e : ℕ × Vec Asked Global). (e.0, e.1.items))) e
  where
    itself : (es : List (ℕ × Vec Asked Global)) → map {B = Ask} (λ (e : ℕ × Vec Asked Global). (e.0, e.1.items)) es ≡ map {B = Ask} (λ (e : ℕ × Vec Asked Global). (e.0, e.1.items)) (map (λ (e : ℕ × Vec Asked Global). e) es)
    itself [] = refl
    itself (e ∷ es) = λ i. (e.0, e.1.items) ∷ itself es i

-- ---- counts

pub is_zero : (n : ℕ) (b : Bool) → b ≡ (n == 0) → b ≡ true → n ≡ 0
is_zero n b e t = (Decides-eqb n 0).0 (sym e ∙ t)

pub is_more : (n : ℕ) (b : Bool) → b ≡ (n == 0) → b ≡ false → 0 < n
is_more zero true e f = absurd (false≢true (sym f))
is_more zero false e f = absurd (false≢true (e ∙ (Decides-eqb 0 0).1 refl))
is_more (suc n) b e f = omega arith

-- a list that was written in place, through what lends a vector's elements
pub written_all : {V : Type 0} (n : ℕ) (old new : List V) → length old ≡ n → length new ≡ length old → take n (new ++ drop (length new) old) ≡ new
written_all n old new long same =
    ap (λ (xs : List _). take n (new ++ xs)) (drop_all (length new) old (omega arith)) ∙ ap (take n) (append-nil new) ∙ take_all n new (omega arith)
