-- Chunks that no run shows, as a walk over all chunks gathers them.
use Rattle.std.proofs.Common.{◌≡◌, ◌+◌, ◌<◌, ◌⊎◌, ◌↔◌, ◌++◌, ℕ, Bool, true, false, List, [], ◌∷◌, length, get_or, take, map, cond, refl, sym, ap, ◌∙◌, subst, inl, inr, arith}
use Rattle.std.specs.Bool.{IsTrue}
use Rattle.std.specs.List.{Contains, IsDistinct, AllByRecursion}
use Rattle.std.specs.Map.{keys_of}
use Rattle.std.proofs.lemmas.Bool.{false≢true}
use Rattle.std.proofs.lemmas.List.{take_more}
use Rattle.std.proofs.lemmas.List.Elements.{Contains-push, Contains-push_cases, Contains-append_left}
use Rattle.std.proofs.lemmas.List.Sorted.{IsPermutation-to_front, IsPermutation-sym}
use Rattle.std.proofs.lemmas.Map.Keys.{IsDistinct-head, IsDistinct-tail, IsDistinct-cons, IsDistinct-from_apart, IsDistinct-IsPermutation}
use Rattle.druid_segment_id.specs.Group.{Group, same_group}
use Rattle.druid_timeline_members.specs.Members.{IsComplete}
use Rattle.druid_base.proofs.MemberLemmas.{Contains-nil, Contains-cons, Contains-later}
use Rattle.druid_timeline_chunks.specs.Chunks.{Chunk, AreChunks, IsCompleteOf}
use Rattle.druid_timeline_chunks.proofs.ChunkLemmas.{same_group-exact, same_group-same, same_group-equiv}
use Rattle.druid_timeline.specs.Chunks.{held_in}
use Rattle.druid_timeline.specs.Overshadowed.{IsOvershadowed}
use Rattle.druid_timeline.specs.Pieces.{ArePieces, shown_at}
use Rattle.druid_timeline.specs.Visible.{IsVisible}
use Rattle.druid_timeline.proofs.ChunkLemmas.{IsCompleteIn-chunk}
use Rattle.druid_timeline.proofs.SpliceLemmas.{Shows-member, member-Shows}
use Rattle.druid_timeline.proofs.SweepLemmas.{Run, AreRuns-stretch}

-- ---- what runs show

-- a chunk is one that the runs show
abbrev pub IsShownBy : List Run → Group → Type 0
IsShownBy rs g = (r : Run) × Contains rs r × (r.1 ≡ g)

-- the set of the chunks that are shown, with that of one run more
pub IsShownBy-more : (rs : List Run) (i : ℕ) (r : Run) (key : Group) (old new : Group → Bool) → i < length rs → r ≡ get_or rs i r → key ≡ r.1
    → ((q : Group) → new q ≡ cond (same_group key q) true (old q)) → ((g : Group) → IsTrue (old g) ↔ IsShownBy (take i rs) g) → (g : Group) → IsTrue (new g) ↔ IsShownBy (take (i + 1) rs) g
IsShownBy-more rs i r key old new l at same updates h g = by_test (same_group key g) refl where
  more : take (i + 1) rs ≡ take i rs ++ r ∷ []
  more = take_more rs i r l ∙ ap (λ (x : Run). take i rs ++ x ∷ []) (sym at)

  one : IsShownBy (take (i + 1) rs) r.1
  one = (r, subst (λ (xs : List Run). Contains xs r) (sym more) (Contains-push (take i rs) r), refl)

  forth : same_group key g ≡ false → IsShownBy (take (i + 1) rs) g → IsShownBy (take i rs) g
  forth other (x, there, e) = elim (Contains-push_cases (take i rs) r x (subst (λ (xs : List Run). Contains xs x) more there)) [
    | inl before ↦ (x, before, e)
    | inr here ↦ absurd (false≢true (sym other ∙ same_group-same key g (same ∙ ap (λ (y : Run). y.1) here ∙ e)))
  ]

  back : IsShownBy (take i rs) g → IsShownBy (take (i + 1) rs) g
  back (x, there, e) = (x, subst (λ (xs : List Run). Contains xs x) (sym more) (Contains-append_left (take i rs) (r ∷ []) x there), e)

  by_test : (b : Bool) → same_group key g ≡ b → IsTrue (new g) ↔ IsShownBy (take (i + 1) rs) g
  by_test true e = (
    λ _. subst (IsShownBy (take (i + 1) rs)) (sym same ∙ same_group-exact key g e) one,
    λ _. updates g ∙ ap (λ (b : Bool). cond b true (old g)) e,
  )
  by_test false e =
      let was : new g ≡ old g = updates g ∙ ap (λ (b : Bool). cond b true (old g)) e in (
        λ reported. back ((h g).0 (sym was ∙ reported)),
        λ shown. was ∙ (h g).1 (forth e shown),
      )

-- ---- the complete chunks that are not seen

-- what is gathered, where the chunks of rest are left
pub record AreUnseen (seen : Group → Bool) (chunks rest : List Chunk) (found : List Group) : Type 0 where
  pub left : (e : Chunk) → Contains rest e → Contains chunks e
  pub among : (g : Group) → Contains found g → IsCompleteOf chunks g × (IsTrue (seen g) → ⊥)
  pub all : (e : Chunk) → Contains chunks e → IsComplete e.1 → (IsTrue (seen e.0) → ⊥) → Contains rest e ⊎ Contains found e.0
  pub apart : (g : Group) → Contains found g → Contains (keys_of rest) g → ⊥
  pub once : IsDistinct same_group found
  pub keys_once : IsDistinct same_group (keys_of rest)

pub AreUnseen-start : (seen : Group → Bool) (chunks : List Chunk) (found : List Group) → found ≡ [] → IsDistinct same_group (keys_of chunks) → AreUnseen seen chunks chunks found
AreUnseen-start seen chunks found none u = record {
  left = λ e there. there;
  among = λ g there. absurd (Contains-nil g (subst (λ (gs : List Group). Contains gs g) none there));
  all = λ e there whole unseen. inl there;
  apart = λ g there _. Contains-nil g (subst (λ (gs : List Group). Contains gs g) none there);
  once = subst (λ (gs : List Group). IsDistinct same_group gs) (sym none) (IsDistinct-from_apart same_group [] (λ i j d below l. absurd (omega arith)));
  keys_once = u;
}

pub AreUnseen-skip : (seen : Group → Bool) (chunks rest : List Chunk) (found : List Group) (e : Chunk) → AreUnseen seen chunks (e ∷ rest) found → (IsComplete e.1 × (IsTrue (seen e.0) → ⊥) → ⊥) → AreUnseen seen chunks rest found
AreUnseen-skip seen chunks rest found e h not = record {
  left = λ x there. h.left x (Contains-later e rest x there);
  among = h.among;
  all = λ x there whole unseen. elim (h.all x there whole unseen) [
    | inl left ↦ elim (Contains-cons e rest x left) [
      | inl same ↦ absurd (not (subst (λ (y : Chunk). IsComplete y.1) (sym same) whole, subst (λ (y : Chunk). IsTrue (seen y.0) → ⊥) (sym same) unseen))
      | inr later ↦ inl later
    ]
    | inr at ↦ inr at
  ];
  apart = λ g there later. h.apart g there (Contains-later e.0 (keys_of rest) g later);
  once = h.once;
  keys_once = IsDistinct-tail same_group e.0 (keys_of rest) h.keys_once;
}

none_same : (k : Group) (gs : List Group) → (Contains gs k → ⊥) → AllByRecursion (λ (q : Group). same_group k q ≡ false) gs
none_same k [] none = tt
none_same k (g ∷ gs) none = (differs (same_group k g) refl, none_same k gs (λ there. none (Contains-later g gs k there))) where
  differs : (b : Bool) → same_group k g ≡ b → same_group k g ≡ false
  differs true e = absurd (none (0, omega arith, sym (same_group-exact k g e)))
  differs false e = e

head_apart : (k : Group) (gs : List Group) → AllByRecursion (λ (q : Group). same_group k q ≡ false) gs → Contains gs k → ⊥
head_apart k [] h there = Contains-nil k there
head_apart k (g ∷ gs) h there = elim (Contains-cons g gs k there) [
  | inl same ↦ false≢true (sym h.0 ∙ same_group-same k g (sym same))
  | inr later ↦ head_apart k gs h.1 later
]

pub AreUnseen-more : (seen : Group → Bool) (chunks rest : List Chunk) (found new : List Group) (e : Chunk) → AreUnseen seen chunks (e ∷ rest) found → new ≡ found ++ e.0 ∷ [] → IsComplete e.1 → (IsTrue (seen e.0) → ⊥) → AreUnseen seen chunks rest new
AreUnseen-more seen chunks rest found new e h f whole unseen = record {
  left = λ x there. h.left x (Contains-later e rest x there);
  among = λ g there. elim (cases g there) [
    | inl before ↦ h.among g before
    | inr same ↦ subst (λ (k : Group). IsCompleteOf chunks k × (IsTrue (seen k) → ⊥)) same ((e.1, h.left e (0, omega arith, refl), whole), unseen)
  ];
  all = λ x there complete hidden. elim (h.all x there complete hidden) [
    | inl left ↦ elim (Contains-cons e rest x left) [
      | inl same ↦ inr (subst (λ (gs : List Group). Contains gs x.0) (sym f) (subst (λ (y : Chunk). Contains (found ++ e.0 ∷ []) y.0) same (Contains-push found e.0)))
      | inr later ↦ inl later
    ]
    | inr before ↦ inr (subst (λ (gs : List Group). Contains gs x.0) (sym f) (Contains-append_left found (e.0 ∷ []) x.0 before))
  ];
  apart = λ g there later. elim (cases g there) [
    | inl before ↦ h.apart g before (Contains-later e.0 (keys_of rest) g later)
    | inr same ↦ head_apart e.0 (keys_of rest) (IsDistinct-head same_group e.0 (keys_of rest) h.keys_once) (subst (Contains (keys_of rest)) (sym same) later)
  ];
  once = subst (λ (gs : List Group). IsDistinct same_group gs) (sym f)
      (IsDistinct-IsPermutation same_group same_group-equiv.symm (e.0 ∷ found) (found ++ e.0 ∷ []) (IsPermutation-sym _ _ (IsPermutation-to_front found e.0))
      (IsDistinct-cons same_group e.0 found (none_same e.0 found (λ there. h.apart e.0 there (0, omega arith, refl))) h.once));
  keys_once = IsDistinct-tail same_group e.0 (keys_of rest) h.keys_once;
} where
  cases : (g : Group) → Contains new g → Contains found g ⊎ (e.0 ≡ g)
  cases g there = Contains-push_cases found e.0 g (subst (λ (gs : List Group). Contains gs g) f there)

pub AreUnseen-end : (seen : Group → Bool) (chunks : List Chunk) (found : List Group) → AreUnseen seen chunks [] found → (g : Group) → Contains found g ↔ (IsCompleteOf chunks g × (IsTrue (seen g) → ⊥))
AreUnseen-end seen chunks found h g = (
  λ there. h.among g there,
  λ both. elim (h.all (g, both.0.0) both.0.1 both.0.2 both.1) [
    | inl none ↦ absurd (Contains-nil (g, both.0.0) none)
    | inr there ↦ there
  ],
)

-- ---- overshadowed chunks

-- the complete chunks that no run shows are the overshadowed ones
pub IsOvershadowed-unshown : (cs : List Chunk) (rs : List Run) → AreChunks cs → ArePieces (held_in cs) (map shown_at rs) → (g : Group) → (IsCompleteOf cs g × (IsShownBy rs g → ⊥)) ↔ IsOvershadowed (held_in cs) g
IsOvershadowed-unshown cs rs are h g = (forth, back) where
  forth : IsCompleteOf cs g × (IsShownBy rs g → ⊥) → IsOvershadowed (held_in cs) g
  forth (complete, hidden) = record {
    complete = (IsCompleteIn-chunk cs are g).1 complete;
    unseen = λ t visible.
        let one = Shows-member rs t g ((h.shows t g).1 (tt, visible)) in
        hidden (one.0, one.1, one.2);
  }

  shown : IsOvershadowed (held_in cs) g → IsShownBy rs g → ⊥
  shown o (r, there, same) =
      let st : r.0.start < r.0.end = AreRuns-stretch rs h.runs r there in
      let at = member-Shows rs r r.0.start there (omega arith, st) in
      o.unseen r.0.start (subst (λ (k : Group). IsVisible (held_in cs) r.0.start k) same ((h.shows r.0.start r.1).0 at).1)

  back : IsOvershadowed (held_in cs) g → IsCompleteOf cs g × (IsShownBy rs g → ⊥)
  back o = ((IsCompleteIn-chunk cs are g).0 o.complete, shown o)

-- the complete chunks that are not reported, where what is reported is what is seen
pub unseen_of : (reported seen : Type 0) (P : Type 0) → reported ↔ seen → (P × (reported → ⊥)) ↔ (P × (seen → ⊥))
unseen_of reported seen P h = (λ both. (both.0, λ s. both.1 (h.1 s)), λ both. (both.0, λ t. both.1 (h.0 t)))
