-- What is visible where the completeness of one chunk turns.
use Rattle.std.proofs.Common.{◌≡◌, ◌<◌, ◌≤◌, ◌⊎◌, ◌↔◌, ℕ, Bool, true, false, List, length, refl, sym, ◌∙◌, subst, inl, inr, arith}
use mathlib.Core.Bool.{beq, not}
use Rattle.std.specs.Bool.{IsTrue}
use Rattle.std.specs.List.{Contains, IsDistinct}
use Rattle.std.proofs.lemmas.Bool.{cases_lt, false≢true}
use Rattle.std.proofs.lemmas.Map.Made.{length-le_from_is_member, is_member-Decides}
use Rattle.druid_time.specs.Extent.{Extent, Has}
use Rattle.druid_segment_id.specs.Group.{Group, Outranks, same_group}
use Rattle.druid_segment_id.proofs.GroupLemmas.{Outranks-cases, Outranks-onward, Outranks-one_way}
use Rattle.druid_timeline_members.specs.Members.{IsComplete}
use Rattle.druid_timeline_chunks.specs.Chunks.{Chunk, AreChunks, IsOverlapOf}
use Rattle.druid_timeline_chunks.proofs.ChunkLemmas.{cases_group, same_group-equiv, same_group-exact, same_group-same}
use Rattle.druid_timeline.specs.Candidates.{IsCandidateOf, IsBestOf}
use Rattle.druid_timeline.specs.Chunks.{held_in}
use Rattle.druid_timeline.specs.Edited.{AreAlikeBut, AreRunsEdited, ArePiecesThen, HasOthers, IsOverlaid, IsWithin}
use Rattle.druid_timeline.specs.Holding.{Held, IsCompleteIn, SameHeld}
use Rattle.druid_timeline.specs.Pieces.{Shown, ArePieces, Shows}
use Rattle.druid_timeline.specs.Visible.{IsCandidate, IsVisible}
use Rattle.druid_timeline.proofs.ChunkLemmas.{KeepsChunks, IsCompleteIn-at, IsCompleteIn-chunk}
use Rattle.druid_timeline.proofs.HoldingLemmas.{IsVisible-same, SameHeld-back}
use Rattle.druid_timeline.proofs.VisibleLemmas.{visible_at}

-- ---- the same candidates

abbrev SameCandidates : List Held → List Held → ℕ → Type 0
SameCandidates old new t = (h : Group) → IsCandidate old t h ↔ IsCandidate new t h

visible_same : (old new : List Held) (t : ℕ) → SameCandidates old new t → (g : Group) → IsVisible old t g ↔ IsVisible new t g
visible_same old new t same g = (
  λ v. record { candidate = (same g).0 v.candidate; greatest = λ other c. v.greatest other ((same other).1 c) },
  λ v. record { candidate = (same g).1 v.candidate; greatest = λ other c. v.greatest other ((same other).0 c) },
)

candidates_outside : (old new : List Held) (g : Group) → AreAlikeBut old new g → (t : ℕ) → (Has g.interval t → ⊥) → SameCandidates old new t
candidates_outside old new g alike t not h = elim (cases_group h g) [
  | inl same ↦ (λ c. absurd (not (subst (λ (k : Group). Has k.interval t) same c.has)), λ c. absurd (not (subst (λ (k : Group). Has k.interval t) same c.has)))
  | inr other ↦ (
    λ c. record { complete = (alike h other).0 c.complete; has = c.has },
    λ c. record { complete = (alike h other).1 c.complete; has = c.has },
  )
]

candidates_unturned : (old new : List Held) (g : Group) → AreAlikeBut old new g → (IsCompleteIn old g ↔ IsCompleteIn new g) → (t : ℕ) → SameCandidates old new t
candidates_unturned old new g alike own t h = elim (cases_group h g) [
  | inl same ↦ (
    λ c. record { complete = subst (IsCompleteIn new) (sym same) (own.0 (subst (IsCompleteIn old) same c.complete)); has = c.has },
    λ c. record { complete = subst (IsCompleteIn old) (sym same) (own.1 (subst (IsCompleteIn new) same c.complete)); has = c.has },
  )
  | inr other ↦ (
    λ c. record { complete = (alike h other).0 c.complete; has = c.has },
    λ c. record { complete = (alike h other).1 c.complete; has = c.has },
  )
]

-- ---- pieces

-- where no completeness turns, the pieces stay
pub pieces_unturned : (old new : List Held) (g : Group) (ps : List Shown) → AreAlikeBut old new g → (IsCompleteIn old g ↔ IsCompleteIn new g) → ArePieces old ps → ArePieces new ps
pieces_unturned old new g ps alike own h = record {
  runs = h.runs;
  shows = λ t k.
      let same = visible_same old new t (candidates_unturned old new g alike own t) k in
      (λ s. (tt, same.0 ((h.shows t k).0 s).1), λ v. (h.shows t k).1 (tt, same.1 v.1));
}

cases_has : (e : Extent) (t : ℕ) → Has e t ⊎ (Has e t → ⊥)
cases_has e t = elim (cases_lt t e.start) [
  | inl early ↦ inr (λ has. let low : e.start ≤ t = has.0 in omega (arith, early, low))
  | inr from ↦ elim (cases_lt t e.end) [
    | inl to ↦ inl (from, to)
    | inr late ↦ inr (λ has. let high : t < e.end = has.1 in omega (arith, late, high))
  ]
]

-- where what is seen in a part is what is visible then, and elsewhere nothing changes, the runs are the pieces
pieces_edited : (old new : List Held) (part : Extent) (seen : ℕ → Group → Type 0) (ps qs : List Shown) → ArePieces old ps → AreRunsEdited part seen ps qs
    → ((t : ℕ) → Has part t → (k : Group) → seen t k ↔ IsVisible new t k) → ((t : ℕ) → (Has part t → ⊥) → (k : Group) → IsVisible old t k ↔ IsVisible new t k) → ArePieces new qs
pieces_edited old new part seen ps qs h edited inside outside = record {
  runs = edited.runs;
  shows = λ t k. by_place t k (cases_has part t);
} where
  by_place : (t : ℕ) (k : Group) → Has part t ⊎ (Has part t → ⊥) → Shows qs t k ↔ (Unit {0} × IsVisible new t k)
  by_place t k (inl has) = (λ s. (tt, (inside t has k).0 ((edited.inside t k has).0 s)), λ v. (edited.inside t k has).1 ((inside t has k).1 v.1))
  by_place t k (inr not) = (
    λ s. (tt, (outside t not k).0 ((h.shows t k).0 ((edited.outside t k not).0 s)).1),
    λ v. (edited.outside t k not).1 ((h.shows t k).1 (tt, (outside t not k).1 v.1)),
  )

-- where a chunk stays what it was, so do the pieces
pub pieces_level : (old : List Held) (g : Group) (whole : Bool) (ps : List Shown) → ArePieces old ps → (IsTrue whole ↔ IsCompleteIn old g) → ArePiecesThen old g whole ps
pieces_level old g whole ps h was new alike is = pieces_unturned old new g ps alike (λ c. is.0 (was.1 c), λ c. was.0 (is.1 c)) h

-- ---- a chunk that becomes complete

-- where it comes over the pieces, that is what is visible
overlaid_visible : (old new : List Held) (g : Group) (ps : List Shown) (t : ℕ) → ArePieces old ps → (IsCompleteIn old g → ⊥) → AreAlikeBut old new g → IsCompleteIn new g → Has g.interval t → (k : Group) → IsOverlaid ps g t k ↔ IsVisible new t k
overlaid_visible old new g ps t h before alike whole has k = (forth, back) where
  -- what is complete before is another chunk
  other_of : (x : Group) → IsCompleteIn old x → x ≡ g → ⊥
  other_of x complete same = before (subst (IsCompleteIn old) same complete)

  kept : (x : Group) → IsCandidate old t x → IsCandidate new t x
  kept x c = record { complete = (alike x (other_of x c.complete)).0 c.complete; has = c.has }

  own : IsCandidate new t g
  own = record { complete = whole; has = has }

  -- a chunk that is a candidate then is the one, or was before
  cases_then : (x : Group) → IsCandidate new t x → (x ≡ g) ⊎ IsCandidate old t x
  cases_then x c = elim (cases_group x g) [
    | inl same ↦ inl same
    | inr other ↦ inr (record { complete = (alike x other).1 c.complete; has = c.has })
  ]

  visible_old : (x : Group) → Shows ps t x → IsVisible old t x
  visible_old x s = ((h.shows t x).0 s).1

  -- it outranks all others where it outranks what is shown
  above_all : ((x : Group) → Shows ps t x → Outranks g x) → (x : Group) → IsCandidate old t x → Outranks g x
  above_all above x c = elim (visible_at old t) [
    | inl seen ↦
        let over = above seen.0 ((h.shows t seen.0).1 (tt, seen.1)) in
        elim (seen.1.greatest x c) [
          | inl same ↦ subst (Outranks g) (sym same) over
          | inr below ↦ Outranks-onward g seen.0 x over below
        ]
    | inr nothing ↦ absurd (nothing x c)
  ]

  forth : IsOverlaid ps g t k → IsVisible new t k
  forth (inl (same, above)) = subst (IsVisible new t) same (record {
    candidate = own;
    greatest = λ x c. elim (cases_then x c) [
      | inl is ↦ inl is
      | inr was ↦ inr (above_all above x was)
    ];
  })
  forth (inr (shown, not)) =
      let seen = visible_old k shown in record {
        candidate = kept k seen.candidate;
        greatest = λ x c. elim (cases_then x c) [
          | inl is ↦ elim (Outranks-cases g k) [
            | inl above ↦ absurd (not above)
            | inr (inl same) ↦ inl (is ∙ same)
            | inr (inr below) ↦ inr (subst (Outranks k) (sym is) below)
          ]
          | inr was ↦ seen.greatest x was
        ];
      }

  back : IsVisible new t k → IsOverlaid ps g t k
  back v = elim (cases_group k g) [
    | inl same ↦ inl (
      sym same,
      λ x s.
          let seen = visible_old x s in
          elim (v.greatest x (kept x seen.candidate)) [
            | inl is ↦ absurd (other_of x seen.candidate.complete (is ∙ same))
            | inr below ↦ subst (λ (y : Group). Outranks y x) same below
          ],
    )
    | inr other ↦ inr (
      (h.shows t k).1 (
        tt,
        record {
          candidate = record { complete = (alike k other).1 v.candidate.complete; has = v.candidate.has };
          greatest = λ x c. v.greatest x (kept x c);
        },
      ),
      λ above. elim (v.greatest g own) [
        | inl same ↦ other (sym same)
        | inr below ↦ Outranks-one_way g k above below
      ],
    )
  ]

pub pieces_overlaid : (old : List Held) (g : Group) (ps qs : List Shown) → ArePieces old ps → (IsCompleteIn old g → ⊥) → AreRunsEdited g.interval (IsOverlaid ps g) ps qs → ArePiecesThen old g true qs
pieces_overlaid old g ps qs h before edited new alike is =
    pieces_edited old new g.interval (IsOverlaid ps g) ps qs h edited
    (λ t has. overlaid_visible old new g ps t h before alike (is.0 refl) has)
    (λ t not. visible_same old new t (candidates_outside old new g alike t not))

-- ---- a chunk that is complete no more

-- where it was not shown, nothing changes
hidden_same : (old new : List Held) (g : Group) (ps : List Shown) (t : ℕ) → ArePieces old ps → AreAlikeBut old new g → (IsCompleteIn new g → ⊥) → (Shows ps t g → ⊥) → (k : Group) → IsVisible old t k ↔ IsVisible new t k
hidden_same old new g ps t h alike gone hidden k = (forth, back) where
  other_old : (x : Group) → IsVisible old t x → x ≡ g → ⊥
  other_old x v same = hidden (subst (Shows ps t) same ((h.shows t x).1 (tt, v)))

  was : (x : Group) → IsCandidate new t x → IsCandidate old t x
  was x c = record { complete = (alike x (λ same. gone (subst (IsCompleteIn new) same c.complete))).1 c.complete; has = c.has }

  forth : IsVisible old t k → IsVisible new t k
  forth v = record {
    candidate = record { complete = (alike k (other_old k v)).0 v.candidate.complete; has = v.candidate.has };
    greatest = λ x c. v.greatest x (was x c);
  }

  below : IsVisible new t k → (x : Group) → IsCandidate old t x → (x ≡ g) → ((y : Group) × IsVisible old t y) → (x ≡ k) ⊎ Outranks k x
  below v x c same (y, seen) =
      let y_new : IsCandidate new t y = record { complete = (alike y (other_old y seen)).0 seen.candidate.complete; has = seen.candidate.has } in
      elim (seen.greatest x c) [
        | inl is ↦ absurd (other_old y seen (sym is ∙ same))
        | inr under ↦ elim (v.greatest y y_new) [
          | inl is ↦ inr (subst (λ (z : Group). Outranks z x) is under)
          | inr above ↦ inr (Outranks-onward k y x above under)
        ]
      ]

  back : IsVisible new t k → IsVisible old t k
  back v = record {
    candidate = was k v.candidate;
    greatest = λ x c. elim (cases_group x g) [
      | inl same ↦ elim (visible_at old t) [
        | inl seen ↦ below v x c same seen
        | inr nothing ↦ absurd (nothing x c)
      ]
      | inr other ↦ v.greatest x (record { complete = (alike x other).0 c.complete; has = c.has })
    ];
  }

-- what is shown lies in the chunk's interval
shown_inside : (old : List Held) (g : Group) (ps : List Shown) (t : ℕ) → ArePieces old ps → Shows ps t g → Has g.interval t
shown_inside old g ps t h s = ((h.shows t g).0 s).1.candidate.has

pub pieces_hidden : (old : List Held) (g : Group) (ps : List Shown) → ArePieces old ps → ((t : ℕ) → Has g.interval t → Shows ps t g → ⊥) → ArePiecesThen old g false ps
pieces_hidden old g ps h hidden new alike is = record {
  runs = h.runs;
  shows = λ t k.
      let same = hidden_same old new g ps t h alike (λ c. false≢true (is.1 c)) (λ s. hidden t (shown_inside old g ps t h s) s) k in
      (λ s. (tt, same.0 ((h.shows t k).0 s).1), λ v. (h.shows t k).1 (tt, same.1 v.1));
}

-- inside a part the best of the others that overlap it is visible
others_visible : (cs : List Chunk) (new : List Held) (g : Group) (part : Extent) (found : List Group) (t : ℕ) → AreChunks cs → AreAlikeBut (held_in cs) new g → (IsCompleteIn new g → ⊥)
    → ((x : Group) → Contains found x ↔ IsOverlapOf cs g part x) → Has part t → (k : Group) → IsBestOf found t k ↔ IsVisible new t k
others_visible cs new g part found t are alike gone overlap has k = (
  λ best. record { candidate = (same k).0 best.candidate; greatest = λ x c. best.greatest x ((same x).1 c) },
  λ v. record { candidate = (same k).1 v.candidate; greatest = λ x c. v.greatest x ((same x).0 c) },
) where
  same : (x : Group) → IsCandidateOf found t x ↔ IsCandidate new t x
  same x = (
    λ c.
        let over = (overlap x).0 c.0 in
        record { complete = (alike x over.different).0 ((IsCompleteIn-chunk cs are x).1 over.complete); has = c.1 },
    λ c.
        let other : (x ≡ g → ⊥) = λ is. gone (subst (IsCompleteIn new) is c.complete) in
        let complete = (IsCompleteIn-chunk cs are x).0 ((alike x other).1 c.complete) in
        ((overlap x).1 (record { complete = complete; different = other; share = (t, has, c.has) }), c.has),
  )

pub pieces_swept : (cs : List Chunk) (g : Group) (part : Extent) (found : List Group) (ps qs : List Shown) → AreChunks cs → ((x : Group) → Contains found x ↔ IsOverlapOf cs g part x)
    → ((t : ℕ) → Has g.interval t → Shows ps t g → Has part t) → ArePieces (held_in cs) ps → AreRunsEdited part (IsBestOf found) ps qs → ArePiecesThen (held_in cs) g false qs
pieces_swept cs g part found ps qs are overlap hull h edited new alike is =
    let gone : (IsCompleteIn new g → ⊥) = λ c. false≢true (is.1 c) in
    pieces_edited (held_in cs) new part (IsBestOf found) ps qs h edited
    (λ t has. others_visible cs new g part found t are alike gone overlap has)
    (λ t not. hidden_same (held_in cs) new g ps t h alike gone (λ s. not (hull t (shown_inside (held_in cs) g ps t h s) s)))

-- ---- whether it turns

pub turned_test : (is was : Bool) → IsTrue (not (beq is was)) ↔ (was ≡ is → ⊥)
turned_test true true = (λ e. absurd (false≢true e), λ other. absurd (other refl))
turned_test true false = (λ e same. false≢true same, λ other. refl)
turned_test false true = (λ e same. false≢true (sym same), λ other. refl)
turned_test false false = (λ e. absurd (false≢true e), λ other. absurd (other refl))

pub level_unless : (was is : Bool) → ((was ≡ is → ⊥) → ⊥) → was ≡ is
level_unless true true not = refl
level_unless false false not = refl
level_unless true false not = absurd (not (λ same. false≢true (sym same)))
level_unless false true not = absurd (not (λ same. false≢true same))

-- two answers to one question
pub reported_alike : (was is : Bool) (P : Type 0) → (IsTrue was ↔ P) → (IsTrue is ↔ P) → was ≡ is
reported_alike true true P one other = refl
reported_alike false false P one other = refl
reported_alike true false P one other = absurd (false≢true (other.1 (one.0 refl)))
reported_alike false true P one other = absurd (false≢true (one.1 (other.0 refl)))

-- what is complete before an edit and after it, by the flag
pub level_claim : (old new : Type 0) (is : Bool) → (IsTrue is ↔ new) → (old ↔ new) → IsTrue is ↔ old
level_claim old new is claim level = (λ e. level.1 (claim.0 e), λ c. claim.1 (level.0 c))

-- where the chunk was not complete and turns, it is complete then
pub then_complete : (was is : Bool) (old : Type 0) → (IsTrue was ↔ old) → (old → ⊥) → (was ≡ is → ⊥) → IsTrue is
then_complete true is old claim not other = absurd (not (claim.0 refl))
then_complete false true old claim not other = refl
then_complete false false old claim not other = absurd (other refl)

pub not_complete : (was is : Bool) (old : Type 0) → (IsTrue was ↔ old) → (was ≡ is → ⊥) → IsTrue is → old → ⊥
not_complete was true old claim other e c = other (claim.1 c)
not_complete was false old claim other e c = false≢true e

-- ---- how many others there are

pub few_others : (cs : List Chunk) (g : Group) (part : Extent) (found others : List Group) → AreChunks cs → IsWithin part g.interval → IsDistinct same_group found → ((h : Group) → Contains found h ↔ IsOverlapOf cs g part h) → HasOthers (held_in cs) g others → length found ≤ length others
few_others cs g part found others are inside once overlap all =
    length-le_from_is_member same_group-equiv found others once (λ h there.
    let decides = is_member-Decides (λ a b. (same_group-exact a b, same_group-same a b)) in
    let at = (overlap h).0 ((decides found h).0 there) in
    let low : part.start ≤ at.share.0 = at.share.1.0 in
    let high : at.share.0 < part.end = at.share.1.1 in
    let in_own : Has g.interval at.share.0 = (omega (arith, low, inside.0), omega (arith, high, inside.1)) in
    (decides others h).1 (all h ((IsCompleteIn-chunk cs are h).1 at.complete) at.different (at.share.0, at.share.2, in_own)))

-- ---- the same holding

pub pieces_same : (old new : List Held) (ps : List Shown) → SameHeld old new → ArePieces old ps → ArePieces new ps
pieces_same old new ps same h = record {
  runs = h.runs;
  shows = λ t g. (
    λ s. (tt, IsVisible-same old new t g same ((h.shows t g).0 s).1),
    λ v. (h.shows t g).1 (tt, IsVisible-same new old t g (SameHeld-back old new same) v.1),
  );
}

-- ---- where the chunks of one group change

pub alike_chunks : (old new : List Chunk) (g : Group) → AreChunks old → AreChunks new → KeepsChunks old new g → AreAlikeBut (held_in old) (held_in new) g
alike_chunks old new g are now kept h other = (
  λ c. (IsCompleteIn-at new now h).1 (subst IsComplete (sym (kept h other)) ((IsCompleteIn-at old are h).0 c)),
  λ c. (IsCompleteIn-at old are h).1 (subst IsComplete (kept h other) ((IsCompleteIn-at new now h).0 c)),
)
