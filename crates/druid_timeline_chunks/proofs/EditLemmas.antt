-- A chunk put in, taken out, or written over.
use Rattle.std.proofs.Common.{◌≡◌, ◌<◌, ◌⊎◌, ℕ, zero, suc, false, cond, List, [], ◌∷◌, length, get_or, set, Result, Ok, Err, refl, sym, ap, ◌∙◌, subst, inl, inr, arith}
use Rattle.std.specs.List.{Contains, IsDistinct, AllByRecursion, insert, remove}
use Rattle.std.specs.Map.{keys_of}
use Rattle.std.specs.Result.{IsOk, IfOk, OnOk, OnErr}
use Rattle.std.proofs.lemmas.Bool.{cases_eq}
use Rattle.std.proofs.lemmas.List.Elements.{All-cons, All-tail, All-set}
use Rattle.std.proofs.lemmas.List.Sorted.{All-permutation, IsPermutation-insert, IsPermutation-remove, IsPermutation-map}
use Rattle.std.proofs.lemmas.Map.Keys.{IsDistinct-cons, IsDistinct-tail, IsDistinct-IsPermutation}
use Rattle.druid_segment_id.specs.Group.{Group, same_group}
use Rattle.druid_base.proofs.MemberLemmas.{Contains-nil, Contains-cons, Contains-later, Contains-insert}
use Rattle.druid_timeline_members.specs.Members.{Member, HasMember, HoldsPlace, IsAt, AllAt, Adds, RemovesPlace, RemovesOne, SameMembers, ServedOnce}
use Rattle.druid_timeline_chunks.specs.Chunks.{Chunk, AreChunks, members_at, HasNoChunk}
use Rattle.druid_timeline_chunks.proofs.ChunkLemmas.{at_tail, head_alone, members_at-none, members_at-of, same_group-equiv, same_group-other}

abbrev key : Chunk → Group
key c = c.0

abbrev peopled : Chunk → Type 0
peopled c = HasMember c.1

-- ---- the members at other groups

pub insert-other : (cs : List Chunk) (i : ℕ) (c : Chunk) (q : Group) → (c.0 ≡ q → ⊥) → members_at (insert cs i c) q ≡ members_at cs q
insert-other cs zero c q other = at_tail c cs q other
insert-other [] (suc i) c q other = at_tail c [] q other
insert-other (d ∷ cs) (suc i) c q other =
    ap (λ (ms : List Member). cond (same_group d.0 q) d.1 ms) (insert-other cs i c q other)

pub remove-other : (cs : List Chunk) (i : ℕ) (c : Chunk) (q : Group) → i < length cs → get_or cs i c ≡ c → (c.0 ≡ q → ⊥) → members_at (remove cs i) q ≡ members_at cs q
remove-other [] i c q within here other = absurd (omega arith)
remove-other (d ∷ cs) zero c q within here other =
    sym (at_tail d cs q (λ same. other (ap key (sym here) ∙ same)))
remove-other (d ∷ cs) (suc i) c q within here other =
    ap (λ (ms : List Member). cond (same_group d.0 q) d.1 ms) (remove-other cs i c q (omega arith) here other)

pub set-other : (cs : List Chunk) (i : ℕ) (c new : Chunk) (q : Group) → i < length cs → get_or cs i c ≡ c → new.0 ≡ c.0 → (c.0 ≡ q → ⊥) → members_at (set cs i new) q ≡ members_at cs q
set-other [] i c new q within here keeps other = absurd (omega arith)
set-other (d ∷ cs) zero c new q within here keeps other =
    at_tail new cs q (λ same. other (sym keeps ∙ same)) ∙ sym (at_tail d cs q (λ same. other (ap key (sym here) ∙ same)))
set-other (d ∷ cs) (suc i) c new q within here keeps other =
    ap (λ (ms : List Member). cond (same_group d.0 q) d.1 ms) (set-other cs i c new q (omega arith) here keeps other)

-- ---- each group once, and with members

none_of : (cs : List Chunk) (g : Group) → HasNoChunk cs g → AllByRecursion (λ (q : Group). same_group g q ≡ false) (keys_of cs)
none_of [] g none = tt
none_of (c ∷ cs) g none =
    (same_group-other g c.0 (λ same. none c (0, omega arith, refl) (sym same)), none_of cs g (λ d there. none d (Contains-later c cs d there)))

pub AreChunks-insert : (cs : List Chunk) (i : ℕ) (c : Chunk) → AreChunks cs → HasNoChunk cs c.0 → HasMember c.1 → AreChunks (insert cs i c)
AreChunks-insert cs i c are none some =
    let moved = IsPermutation-insert cs i c in
    record {
      once = IsDistinct-IsPermutation same_group same_group-equiv.symm (keys_of (c ∷ cs)) (keys_of (insert cs i c)) (IsPermutation-map key (c ∷ cs) (insert cs i c) moved) (IsDistinct-cons same_group c.0 (keys_of cs) (none_of cs c.0 none) are.once);
      inhabited = All-permutation peopled (c ∷ cs) (insert cs i c) moved (All-cons peopled c cs some are.inhabited);
    }

pub remaining : (cs : List Chunk) (i : ℕ) (c : Chunk) → AreChunks cs → i < length cs → get_or cs i c ≡ c → AreChunks (c ∷ remove cs i)
remaining cs i c are within here =
    let moved = IsPermutation-remove cs i c within (sym here) in
    record {
      once = IsDistinct-IsPermutation same_group same_group-equiv.symm (keys_of cs) (keys_of (c ∷ remove cs i)) (IsPermutation-map key cs (c ∷ remove cs i) moved) are.once;
      inhabited = All-permutation peopled cs (c ∷ remove cs i) moved are.inhabited;
    }

pub AreChunks-tail : (c : Chunk) (cs : List Chunk) → AreChunks (c ∷ cs) → AreChunks cs
AreChunks-tail c cs are = record {
  once = IsDistinct-tail same_group c.0 (keys_of cs) are.once;
  inhabited = All-tail peopled c cs are.inhabited;
}

keys-set : (cs : List Chunk) (i : ℕ) (c new : Chunk) → i < length cs → get_or cs i c ≡ c → new.0 ≡ c.0 → keys_of (set cs i new) ≡ keys_of cs
keys-set [] i c new within here keeps = absurd (omega arith)
keys-set (d ∷ cs) zero c new within here keeps =
    ap (λ (g : Group). g ∷ keys_of cs) (keeps ∙ ap key (sym here))
keys-set (d ∷ cs) (suc i) c new within here keeps =
    ap (λ (gs : List Group). d.0 ∷ gs) (keys-set cs i c new (omega arith) here keeps)

pub AreChunks-set : (cs : List Chunk) (i : ℕ) (c new : Chunk) → AreChunks cs → i < length cs → get_or cs i c ≡ c → new.0 ≡ c.0 → HasMember new.1 → AreChunks (set cs i new)
AreChunks-set cs i c new are within here keeps some = record {
  once = subst (IsDistinct same_group) (sym (keys-set cs i c new within here keeps)) are.once;
  inhabited = All-set peopled cs i new some are.inhabited;
}

-- ---- the members at the group itself

pub found_members : (cs now : List Chunk) (i : ℕ) (c : Chunk) (g : Group) → AreChunks cs → cs ≡ now → i < length cs → get_or cs i c ≡ c → c.0 ≡ g → c.1 ≡ members_at now g
found_members cs now i c g are same within here at =
    members_at-of cs are g c (i, within, here) at ∙ ap (λ (xs : List Chunk). members_at xs g) same

written_there : (cs : List Chunk) (i : ℕ) (new : Chunk) → i < length cs → Contains (set cs i new) new
written_there [] i new within = absurd (omega arith)
written_there (d ∷ cs) zero new within = (0, omega arith, refl)
written_there (d ∷ cs) (suc i) new within = Contains-later d (set cs i new) new (written_there cs i new (omega arith))

pub written_members : (cs : List Chunk) (i : ℕ) (new : Chunk) (g : Group) → AreChunks (set cs i new) → i < length cs → new.0 ≡ g → new.1 ≡ members_at (set cs i new) g
written_members cs i new g are within at = members_at-of (set cs i new) are g new (written_there cs i new within) at

pub inserted_members : (cs : List Chunk) (i : ℕ) (new : Chunk) (g : Group) → AreChunks (insert cs i new) → new.0 ≡ g → new.1 ≡ members_at (insert cs i new) g
inserted_members cs i new g are at =
    members_at-of (insert cs i new) are g new ((Contains-insert cs i new new).1 (inl refl)) at

-- where a chunk was taken out, no member of its group is left
pub removed_members : (cs : List Chunk) (i : ℕ) (c : Chunk) (g : Group) → AreChunks cs → i < length cs → get_or cs i c ≡ c → c.0 ≡ g → members_at (remove cs i) g ≡ []
removed_members cs i c g are within here at =
    members_at-none (remove cs i) g (λ d there same. head_alone c (remove cs i) (remaining cs i c are within here).once d there (at ∙ sym same))

-- ---- members after an edit

pub HasMember-added : {E : Type 0} (r : Result (Unit {0}) E) (old new : List Member) (m : Member) → OnOk r (Adds old new m) → OnErr r (SameMembers old new) → HasMember old → HasMember new
HasMember-added (Ok x) old new m added same some = (some.0, (added some.0).1 (inr some.1))
HasMember-added (Err x) old new m added same some = (some.0, (same some.0).1 some.1)

-- one of some members that are not all at a place is not there
not_there : (ms : List Member) (p node : ℕ) → (AllAt ms p node → ⊥) → (x : Member) × Contains ms x × (IsAt p node x → ⊥)
not_there [] p node not = absurd (not (λ x there. absurd (Contains-nil x there)))
not_there (m ∷ ms) p node not = by_place (cases_eq m.partition p) (cases_eq m.node node) (not_there ms p node) where
  later : IsAt p node m → ((AllAt ms p node → ⊥) → (x : Member) × Contains ms x × (IsAt p node x → ⊥)) → (x : Member) × Contains (m ∷ ms) x × (IsAt p node x → ⊥)
  later at rest =
      let found = rest (λ all. not (λ x there. elim (Contains-cons m ms x there) [
        | inl same ↦ subst (IsAt p node) same at
        | inr more ↦ all x more
      ])) in
      (found.0, Contains-later m ms found.0 found.1, found.2)

  by_place : (m.partition ≡ p) ⊎ (m.partition ≡ p → ⊥) → (m.node ≡ node) ⊎ (m.node ≡ node → ⊥) → ((AllAt ms p node → ⊥) → (x : Member) × Contains ms x × (IsAt p node x → ⊥)) → (x : Member) × Contains (m ∷ ms) x × (IsAt p node x → ⊥)
  by_place (inl a) (inl b) rest = later (a, b) rest
  by_place (inl a) (inr b) rest = (m, (0, omega arith, refl), λ at. b at.1)
  by_place (inr a) other rest = (m, (0, omega arith, refl), λ at. a at.0)

pub HasMember-removed : {E : Type 0} (r : Result (Unit {0}) E) (old new : List Member) (p node : ℕ) → OnOk r (RemovesPlace old new p node) → OnErr r (SameMembers old new) → HasMember old → (AllAt old p node → ⊥) → HasMember new
HasMember-removed (Ok x) old new p node removed same some not =
    let left = not_there old p node not in
    (left.0, (removed left.0).1 (left.1, left.2))
HasMember-removed (Err x) old new p node removed same some not = (some.0, (same some.0).1 some.1)

-- where all members are at the place, none is left
pub RemovesPlace-all : (ms : List Member) (p node : ℕ) → AllAt ms p node → RemovesPlace ms [] p node
RemovesPlace-all ms p node all x = (λ there. absurd (Contains-nil x there), λ both. absurd (both.1 (all x both.0)))

-- where a node serves a partition as one member, that one goes
pub RemovesOne-once : (old new : List Member) (p node : ℕ) → RemovesPlace old new p node → HoldsPlace old p node → ServedOnce old p → RemovesOne old new p node
RemovesOne-once old new p node removes (m, there, partition, at) once = (m, (partition, at), λ x. (λ h. forth x h (cases_eq x.partition p) (cases_eq x.node node), back x)) where
  forth : (x : Member) → Contains old x → (x.partition ≡ p) ⊎ (x.partition ≡ p → ⊥) → (x.node ≡ node) ⊎ (x.node ≡ node → ⊥) → (x ≡ m) ⊎ Contains new x
  forth x h (inl e) (inl f) = inl (once x m h there e partition (f ∙ sym at))
  forth x h (inl e) (inr f) = inr ((removes x).1 (h, λ place. f place.1))
  forth x h (inr e) f = inr ((removes x).1 (h, λ place. e place.0))

  back : (x : Member) → (x ≡ m) ⊎ Contains new x → Contains old x
  back x (inl same) = subst (Contains old) (sym same) there
  back x (inr h) = ((removes x).0 h).0

-- ---- what is borrowed of a chunk that copies share

pub borrowed_chunk : (borrowed inside now : Chunk) → (borrowed ≡ inside) ⊎ (borrowed ≡ inside) → inside ≡ now → borrowed ≡ now
borrowed_chunk borrowed inside now (inl e) f = e ∙ f
borrowed_chunk borrowed inside now (inr e) f = e ∙ f

pub was_ok : {T E : Type 0} {r : Result T E} {x : T} → r ≡ Ok x → IsOk r
was_ok {T} {E} {r} {x} e = subst (λ (s : Result T E). IsOk s) (sym e) refl

-- no member serves a place of no members
pub nothing_there : (ms : List Member) (p node : ℕ) → ms ≡ [] → HoldsPlace ms p node → ⊥
nothing_there ms p node e (x, there, partition, at) = Contains-nil x (subst (λ (xs : List Member). Contains xs x) e there)

pub if_ok_weaker : {T E : Type 0} (r : Result T E) (P Q : T → Type 0) → IfOk r P → ((v : T) → P v → Q v) → IfOk r Q
if_ok_weaker (Ok v) P Q h f = f v h
if_ok_weaker (Err e) P Q h f = tt
