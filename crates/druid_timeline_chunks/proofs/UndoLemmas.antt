-- Chunks that are saved before an edit, and put back.
use Rattle.std.proofs.Common.{◌≡◌, ◌+◌, ◌<◌, ◌≤◌, ◌⊎◌, ℕ, Bool, true, cond, List, [], ◌∷◌, ◌++◌, length, get_or, set, refl, sym, ap, ◌∙◌, subst, inl, inr, arith}
use Rattle.std.specs.Bool.{IsTrue}
use Rattle.std.specs.List.{Contains, insert, remove, list_any}
use Rattle.std.specs.Map.{keys_of}
use Rattle.std.proofs.lemmas.List.{map-append}
use Rattle.std.proofs.lemmas.List.Elements.{All-contains, All-push, Contains-append_left, Contains-append_right}
use Rattle.std.proofs.lemmas.Map.Entries.{length-keys_of}
use Rattle.std.proofs.lemmas.Map.Made.{length-le_from_is_member}
use Rattle.std.proofs.lemmas.Map.Views.{Contains-from_any, list_any-from_Contains}
use Rattle.druid_segment_id.specs.Group.{Group, same_group}
use Rattle.druid_base.proofs.MemberLemmas.{Contains-nil, Contains-cons, Contains-later, Contains-map, Contains-map_back}
use Rattle.druid_timeline_members.specs.Members.{Member, HasMember}
use Rattle.druid_timeline_chunks.specs.Chunks.{Chunk, AreChunks, members_at, HasNoChunk}
use Rattle.druid_timeline_chunks.specs.Edits.{Saved, AreSaved, HasSaved, IsSaved, chunk_before, chunks_before, members_in}
use Rattle.druid_timeline_chunks.proofs.ChunkLemmas.{at_head, at_tail, cases_group, members_at-entry, members_at-found, members_at-none, same_group-equiv, same_group-exact, same_group-other}
use Rattle.druid_timeline_chunks.proofs.EditLemmas.{insert-other, inserted_members, remove-other, removed_members, set-other, written_members}

-- ---- one chunk put in or taken out, as if it stood before the others

pub put-set : (cs : List Chunk) (i : ℕ) (c new : Chunk) → AreChunks (set cs i new) → i < length cs → get_or cs i c ≡ c → new.0 ≡ c.0 → (g : Group) → members_at (set cs i new) g ≡ members_at (new ∷ cs) g
put-set cs i c new are within here keeps g = elim (cases_group new.0 g) [
  | inl same ↦ sym (written_members cs i new g are within same) ∙ sym (at_head new cs g same)
  | inr other ↦ set-other cs i c new g within here keeps (λ e. other (keeps ∙ e)) ∙ sym (at_tail new cs g other)
]

pub put-insert : (cs : List Chunk) (i : ℕ) (new : Chunk) → AreChunks (insert cs i new) → (g : Group) → members_at (insert cs i new) g ≡ members_at (new ∷ cs) g
put-insert cs i new are g = elim (cases_group new.0 g) [
  | inl same ↦ sym (inserted_members cs i new g are same) ∙ sym (at_head new cs g same)
  | inr other ↦ insert-other cs i new g other ∙ sym (at_tail new cs g other)
]

pub taken-remove : (cs : List Chunk) (i : ℕ) (c : Chunk) (k : Group) → AreChunks cs → i < length cs → get_or cs i c ≡ c → c.0 ≡ k → (g : Group) → members_at (remove cs i) g ≡ members_at ((k, []) ∷ cs) g
taken-remove cs i c k are within here at g = elim (cases_group k g) [
  | inl same ↦ removed_members cs i c g are within here (at ∙ same) ∙ sym (at_head (k, []) cs g same)
  | inr other ↦
      remove-other cs i c g within here (λ e. other (sym at ∙ e)) ∙ sym (at_tail (k, []) cs g other)
]

pub taken-none : (cs : List Chunk) (k : Group) → HasNoChunk cs k → (g : Group) → members_at cs g ≡ members_at ((k, []) ∷ cs) g
taken-none cs k none g = elim (cases_group k g) [
  | inl same ↦ members_at-none cs g (subst (HasNoChunk cs) same none) ∙ sym (at_head (k, []) cs g same)
  | inr other ↦ sym (at_tail (k, []) cs g other)
]

-- ---- what was saved, before the chunks that there are

-- the last that was saved is put back
pub back_one : (saved : List Saved) (s : Saved) (old new : List Chunk) → ((g : Group) → members_at new g ≡ members_at (chunk_before s ∷ old) g)
    → (g : Group) → members_at (chunks_before saved new) g ≡ members_at (chunks_before (saved ++ s ∷ []) old) g
back_one [] s old new back g = back g
back_one (t ∷ saved) s old new back g =
    ap (λ (ms : List Member). cond (same_group t.0 g) (members_in t.1) ms) (back_one saved s old new back g)

-- a group is saved as it is
pub save_one : (saved : List Saved) (s : Saved) (now : List Chunk) → members_at now s.0 ≡ members_in s.1
    → (g : Group) → members_at (chunks_before (saved ++ s ∷ []) now) g ≡ members_at (chunks_before saved now) g
save_one saved s now same g = sym (back_one saved s now now hidden g) where
  hidden : (q : Group) → members_at now q ≡ members_at (chunk_before s ∷ now) q
  hidden q = elim (cases_group s.0 q) [
    | inl here ↦ ap (members_at now) (sym here) ∙ same ∙ sym (at_head (chunk_before s) now q here)
    | inr other ↦ sym (at_tail (chunk_before s) now q other)
  ]

-- what became of a group that is saved does not show
hides : (saved : List Saved) (old new : List Chunk) (g : Group) → HasSaved saved g ⊎ (members_at new g ≡ members_at old g)
    → members_at (chunks_before saved new) g ≡ members_at (chunks_before saved old) g
hides [] old new g (inl there) = absurd (Contains-nil g there)
hides [] old new g (inr same) = same
hides (s ∷ saved) old new g reported = elim (cases_group s.0 g) [
  | inl here ↦
      at_head (chunk_before s) (chunks_before saved new) g here ∙ sym (at_head (chunk_before s) (chunks_before saved old) g here)
  | inr other ↦
      at_tail (chunk_before s) (chunks_before saved new) g other
      ∙ hides saved old new g (later other reported)
      ∙ sym (at_tail (chunk_before s) (chunks_before saved old) g other)
] where
  later : (s.0 ≡ g → ⊥) → HasSaved (s ∷ saved) g ⊎ (members_at new g ≡ members_at old g) → HasSaved saved g ⊎ (members_at new g ≡ members_at old g)
  later other (inr same) = inr same
  later other (inl there) = elim (Contains-cons s.0 (keys_of saved) g there) [
    | inl here ↦ absurd (other here)
    | inr rest ↦ inl rest
  ]

pub edit_hidden : (saved : List Saved) (old new : List Chunk) (k : Group) → HasSaved saved k → ((q : Group) → (q ≡ k → ⊥) → members_at new q ≡ members_at old q)
    → (g : Group) → members_at (chunks_before saved new) g ≡ members_at (chunks_before saved old) g
edit_hidden saved old new k has others g = elim (cases_group g k) [
  | inl same ↦ hides saved old new g (inl (subst (HasSaved saved) (sym same) has))
  | inr other ↦ hides saved old new g (inr (others g other))
]

-- ---- the saved groups

pub HasSaved-last : (saved : List Saved) (s : Saved) → HasSaved (saved ++ s ∷ []) s.0
HasSaved-last saved s =
    Contains-map_back (λ (t : Saved). t.0) (saved ++ s ∷ []) s (Contains-append_right saved (s ∷ []) s (0, omega arith, refl))

HasSaved-more : (saved : List Saved) (s : Saved) (g : Group) → HasSaved saved g → HasSaved (saved ++ s ∷ []) g
HasSaved-more saved s g has =
    subst (λ (gs : List Group). Contains gs g) (sym (map-append (λ (t : Saved). t.0) saved (s ∷ []))) (Contains-append_left (keys_of saved) (s.0 ∷ []) g has)

pub AreSaved-more : (saved : List Saved) (s : Saved) (groups : List Group) → AreSaved saved groups → IsSaved s → AreSaved (saved ++ s ∷ []) groups
AreSaved-more saved s groups log is = record {
  valid = All-push IsSaved saved s log.valid is;
  touched = λ g reported. HasSaved-more saved s g (log.touched g reported);
}

pub AreSaved-touched : (saved : List Saved) (s : Saved) (k : Group) (groups more : List Group) → AreSaved saved groups → IsSaved s → k ≡ s.0
    → ((q : Group) → list_any (same_group q) more ≡ cond (same_group k q) true (list_any (same_group q) groups)) → AreSaved (saved ++ s ∷ []) more
AreSaved-touched saved s k groups more log is e updates = record {
  valid = (AreSaved-more saved s groups log is).valid;
  touched = λ g reported. by_group g reported (cases_group k g);
} where
  by_group : (g : Group) → IsTrue (list_any (same_group g) more) → (k ≡ g) ⊎ (k ≡ g → ⊥) → HasSaved (saved ++ s ∷ []) g
  by_group g reported (inl here) = subst (HasSaved (saved ++ s ∷ [])) (sym e ∙ here) (HasSaved-last saved s)
  by_group g reported (inr other) =
      HasSaved-more saved s g (log.touched g (sym (updates g ∙ ap (λ (b : Bool). cond b true (list_any (same_group g) groups)) (same_group-other k g other)) ∙ reported))

pub HasMember-of : (chunks : List Chunk) (c : Chunk) → AreChunks chunks → Contains chunks c → HasMember c.1
HasMember-of chunks c are there = All-contains (λ (x : Chunk). HasMember x.1) chunks c are.inhabited there

-- ---- how many chunks there are

-- an edit of one group adds one chunk at most
pub one_more : (old new : List Chunk) (k : Group) → AreChunks new → ((q : Group) → (q ≡ k → ⊥) → members_at new q ≡ members_at old q) → length new ≤ length old + 1
one_more old new k are others =
    let fewer = length-le_from_is_member same_group-equiv (keys_of new) (k ∷ keys_of old) are.once there in
    omega (arith, fewer, length-keys_of new, length-keys_of old) where
      among : (q : Group) → Contains (keys_of new) q → Contains (k ∷ keys_of old) q
      among q at = elim (cases_group q k) [
        | inl same ↦ (0, omega arith, sym same)
        | inr other ↦
            let found = Contains-map (λ (c : Chunk). c.0) new q at in
            let c = found.0 in
            let some = HasMember-of new c are found.1 in
            let held = members_at-found new are.once q c.1 (subst (λ (g : Group). Contains new (g, c.1)) found.2 found.1) in
            let was = subst (λ (ms : List Member). Contains ms some.0) (sym held ∙ others q other) some.1 in
            Contains-later k (keys_of old) q (Contains-map_back (λ (d : Chunk). d.0) old (q, members_at old q) (members_at-entry old q some.0 was))
      ]

      there : (q : Group) → list_any (same_group q) (keys_of new) ≡ true → list_any (same_group q) (k ∷ keys_of old) ≡ true
      there q reported =
          list_any-from_Contains same_group-equiv q (k ∷ keys_of old) (among q (Contains-from_any same_group-exact q (keys_of new) reported))
