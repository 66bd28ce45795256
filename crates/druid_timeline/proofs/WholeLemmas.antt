-- What is visible of all chunks, by one sweep.
use Rattle.std.proofs.Common.{◌≡◌, ◌+◌, ◌<◌, ◌≤◌, ◌⊎◌, ◌↔◌, ◌++◌, ℕ, List, [], ◌∷◌, length, get_or, take, map, Option, Some, None, MatchOption, sym, ap, ◌∙◌, subst, inl, inr, Bor}
use Rattle.std.specs.List.{Contains, All, IsDistinct}
use Rattle.std.specs.Map.{keys_of}
use Rattle.std.proofs.lemmas.List.{take_more}
use Rattle.std.proofs.lemmas.List.Elements.{Contains-push_cases, All-contains}
use Rattle.std.proofs.lemmas.Map.Made.{length-le_from_is_member, is_member-Decides}
use Rattle.druid_time.specs.Extent.{Extent, Has}
use Rattle.druid_segment_id.specs.Group.{Group, same_group}
use Rattle.druid_timeline_members.specs.Members.{HasMember}
use Rattle.druid_base.proofs.MemberLemmas.{Contains-nil, Contains-map, Contains-map_back, Contains-flat_map, Contains-flat_map_back}
use Rattle.druid_timeline_chunks.specs.Chunks.{Chunk, AreChunks, IsCompleteOf}
use Rattle.druid_timeline_chunks.proofs.ChunkLemmas.{same_group-equiv, same_group-exact, same_group-same}
use Rattle.druid_timeline.specs.Candidates.{IsCandidateOf, IsBestOf}
use Rattle.druid_timeline.specs.Chunks.{held_at, held_in}
use Rattle.druid_timeline.specs.Holding.{Held, HasComplete, AreGroupsOf}
use Rattle.druid_timeline.specs.Pieces.{Shown, ArePieces, AreRuns, Shows}
use Rattle.druid_timeline.specs.Visible.{IsCandidate, IsVisible}
use Rattle.druid_timeline.proofs.ChunkLemmas.{IsCompleteIn-chunk}
use Rattle.druid_timeline.proofs.SkylineLemmas.{borrowed, borrowed_at, borrowed_within}

-- ---- the complete chunks

-- the list has the complete chunks, and no others
abbrev pub AreComplete : List Chunk → List Group → Type 0
AreComplete cs found = (g : Group) → Contains found g ↔ IsCompleteOf cs g

-- there are no more than in any list that has them
pub few_complete : (cs : List Chunk) (found complete : List Group) → AreChunks cs → IsDistinct same_group found → AreComplete cs found → HasComplete (held_in cs) complete → length found ≤ length complete
few_complete cs found complete are once all has =
    length-le_from_is_member same_group-equiv found complete once (λ g there.
    let decides = is_member-Decides (λ a b. (same_group-exact a b, same_group-same a b)) in
    (decides complete g).1 (has g ((IsCompleteIn-chunk cs are g).1 ((all g).0 ((decides found g).0 there)))))

-- the best of them is visible
pub best_visible : (cs : List Chunk) (found : List Group) → AreChunks cs → AreComplete cs found → (t : ℕ) (k : Group) → IsBestOf found t k ↔ IsVisible (held_in cs) t k
best_visible cs found are all t k = (
  λ best. record { candidate = (same k).0 best.candidate; greatest = λ x c. best.greatest x ((same x).1 c) },
  λ v. record { candidate = (same k).1 v.candidate; greatest = λ x c. v.greatest x ((same x).0 c) },
) where
  same : (x : Group) → IsCandidateOf found t x ↔ IsCandidate (held_in cs) t x
  same x = (
    λ c. record { complete = (IsCompleteIn-chunk cs are x).1 ((all x).0 c.0); has = c.1 },
    λ c. ((all x).1 ((IsCompleteIn-chunk cs are x).0 c.complete), c.has),
  )

-- ---- an interval with all of theirs

abbrev pub IsHullOver : List Group → Option Extent → Type 0
IsHullOver found hull = (g : Group) → Contains found g → (t : ℕ) → Has g.interval t → MatchOption hull ⊥ (λ h. Has h t)

pub IsHullOver-none : (found : List Group) (hull : Option Extent) → IsHullOver (take 0 found) hull
IsHullOver-none found hull g there t has = absurd (Contains-nil g there)

-- with one more
pub IsHullOver-more : (xs : List (Bor Group)) (i : ℕ) (x : Bor Group) (more : Extent) (old new : Option Extent) → i < length xs → x ≡ get_or xs i x → more ≡ x.now.interval
    → ((t : ℕ) → MatchOption old ⊥ (λ h. Has h t) ⊎ Has more t → MatchOption new ⊥ (λ h. Has h t))
    → IsHullOver (take i (borrowed xs)) old → IsHullOver (take (i + 1) (borrowed xs)) new
IsHullOver-more xs i x more old new l at is covers h g there t has = elim (Contains-push_cases (take i (borrowed xs)) x.now g (subst (λ (gs : List Group). Contains gs g) one_more there)) [
  | inl before ↦ covers t (inl (h g before t has))
  | inr same ↦ covers t (inr (subst (λ (e : Extent). Has e t) (ap (λ (k : Group). k.interval) (sym same) ∙ sym is) has))
] where
  one_more : take (i + 1) (borrowed xs) ≡ take i (borrowed xs) ++ x.now ∷ []
  one_more = take_more (borrowed xs) i x.now (borrowed_within xs i l) ∙ ap (λ (k : Group). take i (borrowed xs) ++ k ∷ []) (sym (borrowed_at xs i x l at))

-- ---- the pieces

-- where there is no such interval, nothing is visible
pub pieces_none : (cs : List Chunk) (found : List Group) (qs : List Shown) → AreChunks cs → AreComplete cs found → IsHullOver found None → qs ≡ [] → ArePieces (held_in cs) qs
pieces_none cs found qs are all hull none = subst (ArePieces (held_in cs)) (sym none) (record {
  runs = tt;
  shows = λ t g. (
    λ s. absurd s,
    λ v.
        let best = (best_visible cs found are all t g).1 v.1 in
        absurd (hull g best.candidate.0 t best.candidate.1),
  );
})

-- what a sweep over the interval shows are the pieces
pub pieces_whole : (cs : List Chunk) (found : List Group) (part : Extent) (ps qs : List Shown) → AreChunks cs → AreComplete cs found → IsHullOver found (Some part) → ps ≡ [] → AreRuns qs
    → ((t : ℕ) (g : Group) → Shows qs t g ↔ (Shows ps t g ⊎ (Has part t × IsBestOf found t g))) → ArePieces (held_in cs) qs
pieces_whole cs found part ps qs are all hull none runs shows = record {
  runs = runs;
  shows = λ t g. (
    λ s. elim ((shows t g).0 s) [
      | inl before ↦ absurd (subst (λ (xs : List Shown). Shows xs t g) none before)
      | inr best ↦ (tt, (best_visible cs found are all t g).0 best.1)
    ],
    λ v.
        let best = (best_visible cs found are all t g).1 v.1 in
        (shows t g).1 (inr (hull g best.candidate.0 t best.candidate.1, best)),
  );
}

-- ---- the chunks of which something is held

pub groups_held : (cs : List Chunk) → AreChunks cs → AreGroupsOf (held_in cs) (keys_of cs)
groups_held cs are = record {
  once = are.once;
  all = λ g. (forth cs are.inhabited g, back cs g);
} where
  forth : (ds : List Chunk) → All (λ (c : Chunk). HasMember c.1) ds → (g : Group) → Contains (keys_of ds) g → (h : Held) × Contains (held_in ds) h × (h.group ≡ g)
  forth ds each g there =
      let at = Contains-map (λ (c : Chunk). c.0) ds g there in
      let m = All-contains (λ (c : Chunk). HasMember c.1) ds at.0 each at.1 in
      (held_at at.0.0 m.0, Contains-flat_map_back (λ (c : Chunk). map (held_at c.0) c.1) ds at.0 (held_at at.0.0 m.0) at.1 (Contains-map_back (held_at at.0.0) at.0.1 m.0 m.1), at.2)

  back : (ds : List Chunk) (g : Group) → (h : Held) × Contains (held_in ds) h × (h.group ≡ g) → Contains (keys_of ds) g
  back ds g (h, there, same) =
      let at = Contains-flat_map (λ (c : Chunk). map (held_at c.0) c.1) ds h there in
      let one = Contains-map (held_at at.0.0) at.0.1 h at.2 in
      subst (Contains (keys_of ds)) (ap (λ (x : Held). x.group) one.2 ∙ same) (Contains-map_back (λ (c : Chunk). c.0) ds at.0 at.1)
