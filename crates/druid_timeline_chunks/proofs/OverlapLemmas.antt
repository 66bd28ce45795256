-- The keys of the chunks that overlap a group, over more and more of the chunks.
use Rattle.std.proofs.Common.{◌≡◌, ◌+◌, ◌-◌, ◌^◌, ◌<◌, ◌≤◌, ◌⊎◌, ◌++◌, ℕ, zero, suc, Bool, true, false, List, [], ◌∷◌, length, get_or, take, refl, sym, ap, ◌∙◌, subst, inl, inr, arith}
use Rattle.std.specs.List.{AllWithin, Contains, IsDistinct, list_any}
use Rattle.std.specs.Map.{keys_of}
use Rattle.std.proofs.lemmas.Bool.{cases_order, false≢true}
use Rattle.std.proofs.lemmas.List.{get_or_default, get_or-map, length-map}
use Rattle.std.proofs.lemmas.List.Elements.{Contains-append_left, Contains-push, Contains-push_cases}
use Rattle.std.proofs.lemmas.Map.Keys.{IsDistinct-push, apart_from_distinct}
use Rattle.std.proofs.lemmas.Nat.{pow_pos}
use Rattle.druid_time.specs.Extent.{Extent, IsExtent, Share}
use Rattle.druid_time.specs.Instant.{instant_count}
use Rattle.druid_segment_id.specs.Group.{Group, same_group}
use Rattle.druid_base.proofs.MemberLemmas.{Contains-nil, Contains-cons, Contains-later}
use Rattle.druid_timeline_chunks.specs.Chunks.{Chunk, AreChunks, Overlaps, IsOverlapOf, AreOverlapsOf}
use Rattle.druid_timeline_chunks.specs.Places.{place_below, chunk_place, length_class, AreInOrder}
use Rattle.druid_timeline_chunks.proofs.ChunkLemmas.{same_group-equiv, same_group-exact, same_group-same}
use Rattle.druid_timeline_chunks.proofs.PlaceLemmas.{class_less, class_bound, too_early, too_late}

-- ---- the first of a list

at_take : {X : Type 0} (xs : List X) (j : ℕ) (x : X) → Contains (take j xs) x → (k : ℕ) × (k < j) × (k < length xs) × (get_or xs k x ≡ x)
at_take xs zero x there = absurd (Contains-nil x there)
at_take [] (suc j) x there = absurd (Contains-nil x there)
at_take (y ∷ xs) (suc j) x there = elim (Contains-cons y (take j xs) x there) [
  | inl here ↦ (0, omega arith, omega arith, here)
  | inr later ↦ let found = at_take xs j x later in (suc found.0, omega (arith, found.1), omega (arith, found.2), found.3)
]

take_at : {X : Type 0} (xs : List X) (j : ℕ) (x : X) (k : ℕ) → k < j → k < length xs → get_or xs k x ≡ x → Contains (take j xs) x
take_at xs zero x k below within here = absurd (omega arith)
take_at [] (suc j) x k below within here = absurd (omega arith)
take_at (y ∷ xs) (suc j) x zero below within here = (0, omega arith, here)
take_at (y ∷ xs) (suc j) x (suc k) below within here =
    Contains-later y (take j xs) x (take_at xs j x k (omega arith) (omega arith) here)

of_more : (cs : List Chunk) (i j : ℕ) (g : Group) (part : Extent) (other : Group) → i ≤ j → IsOverlapOf (take i cs) g part other → IsOverlapOf (take j cs) g part other
of_more cs i j g part other le o =
    let found = at_take cs i (other, o.complete.0) o.complete.1 in
    record {
      complete = (o.complete.0, take_at cs j (other, o.complete.0) found.0 (omega (arith, found.1)) found.2 found.3, o.complete.2);
      different = o.different;
      share = o.share;
    }

-- ---- none of some chunks overlaps

pub passed_by : (cs : List Chunk) (i j : ℕ) (g : Group) (part : Extent) (keys : List Group) → i ≤ j → AllWithin (λ c. Overlaps g part c → ⊥) cs i j → AreOverlapsOf (take i cs) g part keys → AreOverlapsOf (take j cs) g part keys
passed_by cs i j g part keys le none found = record {
  all = λ other. (λ there. of_more cs i j g part other le ((found.all other).0 there), λ o. (found.all other).1 (back other o));
  once = found.once;
} where
  back : (other : Group) → IsOverlapOf (take j cs) g part other → IsOverlapOf (take i cs) g part other
  back other o =
      let ms = o.complete.0 in
      let at = at_take cs j (other, ms) o.complete.1 in
      elim (cases_order at.0 i) [
        | inr (inl below) ↦ record { complete = (ms, take_at cs i (other, ms) at.0 below at.2 at.3, o.complete.2); different = o.different; share = o.share }
        | inl level ↦ absurd (none at.0 (other, ms) (omega arith) at.1 (subst (Overlaps g part) (sym at.3) (o.complete.2, o.different, o.share)))
        | inr (inr above) ↦ absurd (none at.0 (other, ms) (omega arith) at.1 (subst (Overlaps g part) (sym at.3) (o.complete.2, o.different, o.share)))
      ]

-- ---- one that overlaps

none_passes : (keys : List Group) (p : Group → Bool) → ((k : Group) → Contains keys k → p k ≡ true → ⊥) → list_any p keys ≡ false
none_passes [] p none = refl
none_passes (k ∷ keys) p none = by_test (p k) refl (none_passes keys p (λ l there. none l (Contains-later k keys l there))) where
  by_test : (b : Bool) → p k ≡ b → list_any p keys ≡ false → list_any p (k ∷ keys) ≡ false
  by_test true e rest = absurd (none k (0, omega arith, refl) e)
  by_test false e rest = rw e rest

-- two places have two keys
two_keys : (cs : List Chunk) (k i : ℕ) (a b : Chunk) → AreChunks cs → k < i → i < length cs → get_or cs k a ≡ a → get_or cs i b ≡ b → a.0 ≡ b.0 → ⊥
two_keys cs k i a b are below within at_k at_i same =
    let apart = apart_from_distinct same_group (keys_of cs) k i a.0 are.once below (subst (λ (n : ℕ). i < n) (sym (length-map cs (λ (c : Chunk). c.0))) within) in
    let e : get_or (keys_of cs) k a.0 ≡ a.0 = get_or-map (λ (c : Chunk). c.0) cs k a a.0 (omega arith) ∙ ap (λ (c : Chunk). c.0) at_k in
    let f : get_or (keys_of cs) i a.0 ≡ b.0 = get_or-map (λ (c : Chunk). c.0) cs i b a.0 within ∙ ap (λ (c : Chunk). c.0) at_i in
    false≢true (sym apart ∙ same_group-same (get_or (keys_of cs) k a.0) (get_or (keys_of cs) i a.0) (e ∙ same ∙ sym f))

pub added : (cs : List Chunk) (i : ℕ) (c : Chunk) (g : Group) (part : Extent) (keys : List Group) → AreChunks cs → i < length cs → get_or cs i c ≡ c → Overlaps g part c → AreOverlapsOf (take i cs) g part keys → AreOverlapsOf (take (i + 1) cs) g part (keys ++ c.0 ∷ [])
added cs i c g part keys are within here over found = record {
  all = λ other. (λ there. forth other (Contains-push_cases keys c.0 other there), back other);
  once = IsDistinct-push same_group-equiv keys c.0 found.once (none_passes keys (same_group c.0) (λ k there e. again k there (same_group-exact c.0 k e)));
} where
  again : (k : Group) → Contains keys k → c.0 ≡ k → ⊥
  again k there same =
      let o = (found.all k).0 there in
      let at = at_take cs i (k, o.complete.0) o.complete.1 in
      two_keys cs at.0 i (k, o.complete.0) c are at.1 within at.3 here (sym same)

  own : IsOverlapOf (take (i + 1) cs) g part c.0
  own = record {
    complete = (c.1, take_at cs (i + 1) c i (omega arith) within here, over.0);
    different = over.1;
    share = over.2;
  }

  forth : (other : Group) → Contains keys other ⊎ (c.0 ≡ other) → IsOverlapOf (take (i + 1) cs) g part other
  forth other (inl there) = of_more cs i (i + 1) g part other (omega arith) ((found.all other).0 there)
  forth other (inr same) = subst (IsOverlapOf (take (i + 1) cs) g part) same own

  back : (other : Group) → IsOverlapOf (take (i + 1) cs) g part other → Contains (keys ++ c.0 ∷ []) other
  back other o =
      let ms = o.complete.0 in
      let at = at_take cs (i + 1) (other, ms) o.complete.1 in
      elim (cases_order at.0 i) [
        | inr (inl below) ↦
            Contains-append_left keys (c.0 ∷ []) other ((found.all other).1 (record { complete = (ms, take_at cs i (other, ms) at.0 below at.2 at.3, o.complete.2); different = o.different; share = o.share }))
        | inl level ↦
            let same : (other, ms) ≡ c = sym at.3 ∙ get_or_default cs at.0 (other, ms) c at.2 ∙ ap (λ (k : ℕ). get_or cs k c) level ∙ here in
            subst (Contains (keys ++ c.0 ∷ [])) (sym (ap (λ (x : Chunk). x.0) same)) (Contains-push keys c.0)
        | inr (inr above) ↦ absurd (omega (arith, at.1))
      ]

pub one_passed_by : (cs : List Chunk) (i : ℕ) (c : Chunk) (g : Group) (part : Extent) (keys : List Group) → i < length cs → get_or cs i c ≡ c → (Overlaps g part c → ⊥) → AreOverlapsOf (take i cs) g part keys → AreOverlapsOf (take (i + 1) cs) g part keys
one_passed_by cs i c g part keys within here not found =
    passed_by cs i (i + 1) g part keys (omega arith) (λ k d low high over. not (subst (Overlaps g part) (here_at k d (omega arith)) over)) found where
      here_at : (k : ℕ) (d : Chunk) → k ≡ i → get_or cs k d ≡ c
      here_at k d e = ap (λ (n : ℕ). get_or cs n d) e ∙ get_or_default cs i d c within ∙ here

pub none_found : (cs : List Chunk) (g : Group) (part : Extent) (keys : List Group) → keys ≡ [] → AreOverlapsOf (take 0 cs) g part keys
unfolding IsDistinct
none_found cs g part keys e = subst (AreOverlapsOf [] g part) (sym e) (record {
  all = λ other. (λ there. absurd (Contains-nil other there), λ o. absurd (Contains-nil (other, o.complete.0) o.complete.1));
  once = tt;
})

-- ---- near an interval

-- a chunk at a place stands before the next class
pub onward : (cs : List Chunk) (from next : ℕ) (c : Chunk) → IsExtent c.0.interval → from < length cs → get_or cs from c ≡ c → AllWithin (λ x. place_below instant_count (length_class c.0.interval + 1) 0 0 ≤ chunk_place x) cs next (length cs) → from < next
onward cs from next c valid within here after = elim (cases_order from next) [
  | inr (inl below) ↦ below
  | inl level ↦ absurd (past (omega arith))
  | inr (inr above) ↦ absurd (past (omega arith))
] where
  past : next ≤ from → ⊥
  past le =
      let up = subst (λ (x : Chunk). place_below instant_count (length_class c.0.interval + 1) 0 0 ≤ chunk_place x) here (after from c le within) in
      let less = class_less instant_count (length_class c.0.interval) c.0.interval.start c.0.interval.end (length_class c.0.interval + 1) 0 0 (omega (arith, valid.0, valid.1)) valid.1 (omega arith) in
      omega (arith, up, less)

pub early : (cs : List Chunk) (from first : ℕ) (c : Chunk) (own : Extent) (width : ℕ) → AreInOrder cs → IsExtent own → from < length cs → get_or cs from c ≡ c → width ≡ 2 ^ (length_class c.0.interval + 1)
    → AllWithin (λ x. chunk_place x < place_below instant_count (length_class c.0.interval) (own.start + 1 - width) 0) cs 0 first → first ≤ length cs → (k : ℕ) (d : Chunk) → from ≤ k → k < first → Share own (get_or cs k d).0.interval → ⊥
early cs from first c own width o valid_own within here wide before short k d low high (t, in_own, in_other) =
    let e = (get_or cs k d).0.interval in
    let valid = o.valid k d (omega (arith, high, short)) in
    let valid_c = subst (λ (x : Chunk). IsExtent x.0.interval) here (o.valid from c within) in
    let up = subst (λ (x : Chunk). chunk_place x ≤ chunk_place (get_or cs k d)) (get_or_default cs from d c within ∙ here) (o.sorted from k d low (omega (arith, high, short))) in
    let narrow : length_class e ≡ length_class c.0.interval → e.end - e.start < width = λ same. subst (λ (n : ℕ). e.end - e.start < n) (ap (λ (m : ℕ). 2 ^ (m + 1)) same ∙ sym wide) (class_bound e valid) in
    let some : 0 < width = subst (λ (n : ℕ). 0 < n) (sym wide) (pow_pos (length_class c.0.interval + 1)) in
    too_early instant_count (length_class e) e.start e.end (length_class c.0.interval) c.0.interval.start c.0.interval.end own.start width (omega (arith, valid.0, valid.1)) valid.1 (omega (arith, valid_c.0, valid_c.1)) valid_c.1 (omega (arith, valid_own.0, valid_own.1)) up (before k d (omega arith) high) narrow some t in_own.0 in_other.0 in_other.1

pub late : (cs : List Chunk) (high next class : ℕ) (own : Extent) → AreInOrder cs → IsExtent own
    → AllWithin (λ x. place_below instant_count class own.end 0 ≤ chunk_place x) cs high (length cs) → AllWithin (λ x. chunk_place x < place_below instant_count (class + 1) 0 0) cs 0 next → next ≤ length cs
    → (k : ℕ) (d : Chunk) → high ≤ k → k < next → Share own (get_or cs k d).0.interval → ⊥
late cs high next class own o valid_own after before short k d low below (t, in_own, in_other) =
    let e = (get_or cs k d).0.interval in
    let valid = o.valid k d (omega (arith, below, short)) in
    too_late instant_count (length_class e) e.start e.end class own.end (omega (arith, valid.0, valid.1)) valid.1 valid_own.1 (after k d low (omega (arith, below, short))) (before k d (omega arith) below) t in_own.1 in_other.0
