-- Chunks with their members, each group once.
use Rattle.std.proofs.Common.{◌≡◌, ◌⊎◌, ◌↔◌, ◌&&◌, ℕ, Bool, true, false, List, [], ◌∷◌, Option, Some, None, refl, sym, ap, ◌∙◌, subst, inl, inr, arith, cond}
use Rattle.std.specs.Bool.{IsTrue}
use Rattle.std.specs.Cmp.{IsEquivalence}
use Rattle.std.specs.List.{Contains, IsDistinct, list_any}
use Rattle.std.specs.Map.{keys_of}
use Rattle.std.specs.Option.{MatchOption}
use Rattle.std.specs.Str.{bytes_eq}
use borrow.Author.Tests.{eqb-true}
use Rattle.std.proofs.Common.{eq-eqb, eqb}
use Rattle.std.proofs.lemmas.Bool.{false≢true, and_parts}
use Rattle.std.proofs.lemmas.Slice.Eq.{bytes_eq-Decides}
use Rattle.std.proofs.lemmas.List.Elements.{All-contains, All-from_recursion}
use Rattle.std.proofs.lemmas.Map.Keys.{IsDistinct-head, IsDistinct-tail}
use Rattle.druid_base.proofs.OrderLemmas.{bool_same}
use Rattle.druid_segment_id.specs.Group.{Group, same_group}
use Rattle.druid_segment_id.proofs.GroupLemmas.{group_same}
use Rattle.druid_base.proofs.MemberLemmas.{Contains-nil, Contains-cons, Contains-later, Contains-map_back}
use Rattle.druid_timeline_members.specs.Members.{Member}
use Rattle.druid_timeline_chunks.specs.Chunks.{Chunk, AreChunks, members_at, HasNoChunk}

-- ---- the test of equal groups

both_back : (a b : Bool) → a ≡ true → b ≡ true → (a && b) ≡ true
both_back a b e f = ap (λ (x : Bool). x && b) e ∙ f

pub same_group-exact : (g h : Group) → same_group g h ≡ true → g ≡ h
same_group-exact g h e =
    let p = and_parts (eqb g.interval.start h.interval.start && eqb g.interval.end h.interval.end) (bytes_eq g.version h.version) e in
    let q = and_parts (eqb g.interval.start h.interval.start) (eqb g.interval.end h.interval.end) p.0 in
    group_same g h (eqb-true _ _ q.0) (eqb-true _ _ q.1) ((bytes_eq-Decides g.version h.version).0 p.1)

pub same_group-itself : (g : Group) → same_group g g ≡ true
same_group-itself g =
    both_back (eqb g.interval.start g.interval.start && eqb g.interval.end g.interval.end) (bytes_eq g.version g.version)
    (both_back (eqb g.interval.start g.interval.start) (eqb g.interval.end g.interval.end) (eq-eqb _ _ refl) (eq-eqb _ _ refl))
    ((bytes_eq-Decides g.version g.version).1 refl)

pub same_group-same : (g h : Group) → g ≡ h → same_group g h ≡ true
same_group-same g h e = subst (λ (k : Group). same_group g k ≡ true) e (same_group-itself g)

pub same_group-other : (g h : Group) → (g ≡ h → ⊥) → same_group g h ≡ false
same_group-other g h other = by_test (same_group g h) refl where
  by_test : (b : Bool) → same_group g h ≡ b → same_group g h ≡ false
  by_test true e = absurd (other (same_group-exact g h e))
  by_test false e = e

pub same_group-equiv : IsEquivalence same_group
same_group-equiv = record {
  refl = same_group-itself;
  symm = λ g h. bool_same (same_group g h) (same_group h g) (λ e. same_group-same h g (sym (same_group-exact g h e))) (λ e. same_group-same g h (sym (same_group-exact h g e)));
  congr = λ g h k e. ap (λ (x : Group). same_group x k) (same_group-exact g h e);
}

pub cases_group : (g h : Group) → (g ≡ h) ⊎ (g ≡ h → ⊥)
cases_group g h = by_test (same_group g h) refl where
  by_test : (b : Bool) → same_group g h ≡ b → (g ≡ h) ⊎ (g ≡ h → ⊥)
  by_test true e = inl (same_group-exact g h e)
  by_test false e = inr (λ same. false≢true (sym e ∙ same_group-same g h same))

-- ---- the members at a group

pub at_head : (c : Chunk) (cs : List Chunk) (g : Group) → c.0 ≡ g → members_at (c ∷ cs) g ≡ c.1
at_head c cs g e = ap (λ (b : Bool). cond b c.1 (members_at cs g)) (same_group-same c.0 g e)

pub at_tail : (c : Chunk) (cs : List Chunk) (g : Group) → (c.0 ≡ g → ⊥) → members_at (c ∷ cs) g ≡ members_at cs g
at_tail c cs g other = ap (λ (b : Bool). cond b c.1 (members_at cs g)) (same_group-other c.0 g other)

-- the head's group stands nowhere else
pub head_alone : (c : Chunk) (cs : List Chunk) → IsDistinct same_group (keys_of (c ∷ cs)) → (d : Chunk) → Contains cs d → c.0 ≡ d.0 → ⊥
head_alone c cs once d there e =
    let apart = All-contains (λ (y : Group). same_group c.0 y ≡ false) (keys_of cs) d.0 (All-from_recursion (λ (y : Group). same_group c.0 y ≡ false) (keys_of cs) (IsDistinct-head same_group c.0 (keys_of cs) once)) (Contains-map_back (λ (e : Chunk). e.0) cs d there) in
    false≢true (sym apart ∙ same_group-same c.0 d.0 e)

-- a chunk that is there has the members at its group
pub members_at-found : (chunks : List Chunk) → IsDistinct same_group (keys_of chunks) → (g : Group) (ms : List Member) → Contains chunks (g, ms) → members_at chunks g ≡ ms
members_at-found [] once g ms there = absurd (Contains-nil (g, ms) there)
members_at-found (c ∷ cs) once g ms there = elim (Contains-cons c cs (g, ms) there) [
  | inl here ↦ at_head c cs g (ap (λ (e : Chunk). e.0) here) ∙ ap (λ (e : Chunk). e.1) here
  | inr later ↦
      at_tail c cs g (head_alone c cs once (g, ms) later)
      ∙ members_at-found cs (IsDistinct-tail same_group c.0 (keys_of cs) once) g ms later
]

-- a group at which there is a member has a chunk
pub members_at-entry : (chunks : List Chunk) (g : Group) (x : Member) → Contains (members_at chunks g) x → Contains chunks (g, members_at chunks g)
members_at-entry [] g x there = absurd (Contains-nil x there)
members_at-entry (c ∷ cs) g x there = elim (cases_group c.0 g) [
  | inl here ↦
      let same = at_head c cs g here in
      (0, omega arith, λ i. (here i, sym same i))
  | inr other ↦
      let same = at_tail c cs g other in
      let found = members_at-entry cs g x (subst (λ (ms : List Member). Contains ms x) same there) in
      Contains-later c cs (g, members_at (c ∷ cs) g) (subst (λ (ms : List Member). Contains cs (g, ms)) (sym same) found)
]

-- where no chunk is of the group, there are no members at it
pub members_at-none : (chunks : List Chunk) (g : Group) → HasNoChunk chunks g → members_at chunks g ≡ []
members_at-none [] g none = refl
members_at-none (c ∷ cs) g none =
    at_tail c cs g (none c (0, omega arith, refl)) ∙ members_at-none cs g (λ d there. none d (Contains-later c cs d there))

-- a chunk that was found has the members at the group
pub members_at-of : (chunks : List Chunk) → AreChunks chunks → (g : Group) (c : Chunk) → Contains chunks c → c.0 ≡ g → c.1 ≡ members_at chunks g
members_at-of chunks are g c there e =
    sym (members_at-found chunks are.once g c.1 (subst (λ (k : Group). Contains chunks (k, c.1)) e there))

pub AreChunks-nil : AreChunks []
unfolding IsDistinct
AreChunks-nil = record { once = tt; inhabited = λ k d l. absurd (omega arith) }

-- a test of the nodes that are borrowed
pub any-Contains : (ns : List ℕ) (n : ℕ) → IsTrue (list_any (λ y. eqb y n) ns) ↔ Contains ns n
any-Contains [] n = (λ e. absurd (false≢true e), λ there. absurd (Contains-nil n there))
any-Contains (x ∷ ns) n = by_test (eqb x n) refl (any-Contains ns n) where
  by_test : (b : Bool) → eqb x n ≡ b → IsTrue (list_any (λ y. eqb y n) ns) ↔ Contains ns n → IsTrue (list_any (λ y. eqb y n) (x ∷ ns)) ↔ Contains (x ∷ ns) n
  by_test true e rest = (λ _. (0, omega arith, eqb-true x n e), λ _. rw e refl)
  by_test false e rest = (
    λ t. Contains-later x ns n (rest.0 (rw e at t)),
    λ there. elim (Contains-cons x ns n there) [
      | inl here ↦ absurd (false≢true (sym e ∙ eq-eqb x n here))
      | inr later ↦ rw e (rest.1 later)
    ],
  )

-- what is known of an option by another way
pub of_option : {X : Type 0} (o : Option X) (N M : Type 0) (P Q : X → Type 0) → (N → M) → ((x : X) → P x → Q x) → MatchOption o N P → MatchOption o M Q
of_option None N M P Q f g h = f h
of_option (Some x) N M P Q f g h = g x h
