-- Timelines where a node has a new set in place of an old one.
use Rattle.std.proofs.Common.{◌≡◌, ◌⊎◌, ◌+◌, ◌<◌, ℕ, Bool, IsTrue, false, List, [], ◌∷◌, take, drop, length, get_or, refl, sym, ap, ◌∙◌, subst, inl, inr, arith, IfSome}
use Rattle.std.specs.Prelude.{◌↔◌, Contains}
use Rattle.std.specs.BTreeMap.{BTreeMap}
use Rattle.std.proofs.lemmas.List.{take_all, take_more, take-append-drop, get_or-take, length-take-le}
use Rattle.std.proofs.lemmas.List.Elements.{Contains-append_left, Contains-push, Contains-push_cases}
use Rattle.std.proofs.lemmas.Bool.{false≢true}
use Rattle.druid_segment_id.specs.Identifier.{Identifier, identifier_text}
use Rattle.druid_segment_descriptor.specs.Described.{Described}
use Rattle.druid_segment_descriptor.specs.Replay.{IsSegmentSet, StandsAt, BelongsAt}
use Rattle.druid_segment_descriptor.specs.declared.change.Change.TheVariants.{Drop}
use Rattle.druid_base.proofs.MemberLemmas.{Contains-nil}
use Rattle.druid_segment_descriptor.proofs.SortedLemmas.{AreSorted-own}
use Rattle.druid_timeline.specs.Holding.{Serving}
use Rattle.druid_inventory.specs.Entry.{Entry}
use Rattle.druid_inventory.specs.Timelines.{kept, AreTimelines, AddsSegment, RemovesSegment, TakesSegment, TakesChange, ServesThese, ServesWith}
use Rattle.druid_inventory.proofs.EditLemmas.{WithoutSegment, AreTimelines-less, dropped_in}
use Rattle.druid_inventory.proofs.ReplayedLemmas.{one_holder, belongs_absent}
use Rattle.druid_inventory.proofs.TimelineLemmas.{WithSegment, AreTimelines-alike, AreTimelines-more, takes_segment}

-- ---- other segments of one node

-- the same segments, said otherwise
pub these_alike : (entries : List Entry) (node : ℕ) (P Q : Described → Type 0) (m : BTreeMap (List ℕ) Serving) → ((d : Described) → P d ↔ Q d)
    → AreTimelines (ServesThese entries node P) m → AreTimelines (ServesThese entries node Q) m
these_alike entries node P Q m alike over =
    AreTimelines-alike (ServesThese entries node P) (ServesThese entries node Q) m
    (λ i y. (
      λ h. elim h [ inl own ↦ inl (own.0, (alike y).0 own.1) | inr other ↦ inr other ],
      λ h. elim h [ inl own ↦ inl (own.0, (alike y).1 own.1) | inr other ↦ inr other ],
    )) over

these_more : (entries : List Entry) (node : ℕ) (P : Described → Type 0) (d : Described) (m n : BTreeMap (List ℕ) Serving)
    → AreTimelines (ServesThese entries node P) m → AddsSegment m n node d → AreTimelines (ServesThese entries node (λ x. P x ⊎ (x ≡ d))) n
these_more entries node P d m n over adds =
    AreTimelines-alike (WithSegment (ServesThese entries node P) node d) (ServesThese entries node (λ x. P x ⊎ (x ≡ d))) n
    (λ i y. (
      λ h. elim h [
        | inl (inl own) ↦ inl (own.0, inl own.1)
        | inl (inr other) ↦ inr other
        | inr new ↦ inl (new.0, inr new.1)
      ],
      λ h. elim h [
        | inl own ↦ elim own.1 [ inl before ↦ inl (inl (own.0, before)) | inr new ↦ inr (own.0, new) ]
        | inr other ↦ inl (inr other)
      ],
    )) (AreTimelines-more (ServesThese entries node P) m n node d over adds)

these_less : (entries : List Entry) (node : ℕ) (P : Described → Type 0) (d : Described) (m n : BTreeMap (List ℕ) Serving)
    → ((y : Described) → P y → y.id ≡ d.id → y ≡ d) → AreTimelines (ServesThese entries node P) m → RemovesSegment m n node d
    → AreTimelines (ServesThese entries node (λ x. P x × (x ≡ d → ⊥))) n
these_less entries node P d m n alone over removes =
    AreTimelines-alike (WithoutSegment (ServesThese entries node P) node d) (ServesThese entries node (λ x. P x × (x ≡ d → ⊥))) n
    (λ i y. (
      λ h. elim h.0 [
        | inl own ↦ inl (own.0, (own.1, λ e. h.1 (own.0, e)))
        | inr other ↦ inr other
      ],
      λ h. elim h [
        | inl own ↦ (inl (own.0, own.1.0), λ it. own.1.1 it.1)
        | inr other ↦ (inr other, λ it. other.0 it.0)
      ],
    ))
    (AreTimelines-less (ServesThese entries node P) m n node d over removes (λ y there same. elim there [
      | inl own ↦ alone y own.1 same
      | inr other ↦ absurd (other.0 refl)
    ]))

-- ---- places in a set

-- the first k segments, and the next
next_cases : (s : List Described) (k : ℕ) (d x : Described) → k < length s → d ≡ get_or s k d → Contains (take (k + 1) s) x → Contains (take k s) x ⊎ (x ≡ d)
next_cases s k d x l is c =
    elim (Contains-push_cases (take k s) (get_or s k d) x (subst (λ (t : List Described). Contains t x) (take_more s k d l) c)) [
      | inl before ↦ inl before
      | inr e ↦ inr (sym e ∙ sym is)
    ]

next_before : (s : List Described) (k : ℕ) (d x : Described) → k < length s → Contains (take k s) x → Contains (take (k + 1) s) x
next_before s k d x l c =
    subst (λ (t : List Described). Contains t x) (sym (take_more s k d l)) (Contains-append_left (take k s) (get_or s k d ∷ []) x c)

next_there : (s : List Described) (k : ℕ) (d : Described) → k < length s → d ≡ get_or s k d → Contains (take (k + 1) s) d
next_there s k d l is =
    subst (Contains (take (k + 1) s)) (sym is) (subst (λ (t : List Described). Contains t (get_or s k d)) (sym (take_more s k d l)) (Contains-push (take k s) (get_or s k d)))

-- a segment stands at one place
not_earlier : (s : List Described) (k : ℕ) (d : Described) → IsSegmentSet s → k < length s → d ≡ get_or s k d → Contains (take k s) d → ⊥
not_earlier s k d h l is c =
    let long = length-take-le k s (omega arith) in
    let below : c.0 < k = omega arith in
    let same : get_or s c.0 d ≡ d = sym (get_or-take k s c.0 d below) ∙ c.2 in
    let level : c.0 ≡ k = AreSorted-own s h.sorted c.0 k d (omega arith) l (ap (λ (z : Described). identifier_text z.id) (same ∙ is)) in
    absurd (omega arith)

-- ---- a search by the identifier

-- the segment that stands there is the one searched for exactly where the set has that
pub stands_there : (s : List Described) (d x : Described) (id : Identifier) (i : ℕ) (b : Bool) → IsSegmentSet s → id ≡ d.id → StandsAt s id i → x ≡ get_or s i x
    → IsTrue b ↔ (x ≡ d) → IsTrue b ↔ Contains s d
stands_there s d x id i b h named at is same = (
  λ t. subst (Contains s) (same.0 t) here,
  λ there. same.1 (one_holder s h.sorted x d here there (ap identifier_text (ap (λ (z : Described). z.id) is ∙ at.here x ∙ named))),
) where
  here : Contains s x
  here = (i, at.within, sym is)

pub belongs_nowhere : (s : List Described) (d : Described) (id : Identifier) (i : ℕ) → id ≡ d.id → BelongsAt s id i → IsTrue false ↔ Contains s d
belongs_nowhere s d id i named at =
    (λ t. absurd (false≢true t), λ there. absurd (belongs_absent s id i at d there (ap identifier_text (sym named))))

-- ---- what goes

-- of the first k segments of the old set those that the new has, and all others
abbrev pub LeftTo : List Described → List Described → ℕ → Described → Type 0
LeftTo old new k d = Contains old d × (Contains (take k old) d → Contains new d)

pub LeftTo-none : (entries : List Entry) (node : ℕ) (old new : List Described) (m : BTreeMap (List ℕ) Serving)
    → AreTimelines (ServesWith entries node old) m → AreTimelines (ServesThese entries node (LeftTo old new 0)) m
LeftTo-none entries node old new m over =
    these_alike entries node (Contains old) (LeftTo old new 0) m (λ d. (λ c. (c, λ none. absurd (Contains-nil d none)), λ h. h.0)) over

pub LeftTo-all : (entries : List Entry) (node : ℕ) (old new : List Described) (k : ℕ) (m : BTreeMap (List ℕ) Serving) → length old ≡ k
    → AreTimelines (ServesThese entries node (LeftTo old new k)) m → AreTimelines (ServesThese entries node (λ d. Contains old d × Contains new d)) m
LeftTo-all entries node old new k m e over =
    let whole : take k old ≡ old = take_all k old (omega arith) in
    these_alike entries node (LeftTo old new k) (λ d. Contains old d × Contains new d) m
    (λ d. (λ h. (h.0, h.1 (subst (λ (t : List Described). Contains t d) (sym whole) h.0)), λ h. (h.0, λ _. h.1))) over

-- a segment that the new set has stays
pub LeftTo-kept : (entries : List Entry) (node : ℕ) (old new : List Described) (k : ℕ) (d : Described) (m : BTreeMap (List ℕ) Serving)
    → k < length old → d ≡ get_or old k d → Contains new d
    → AreTimelines (ServesThese entries node (LeftTo old new k)) m → AreTimelines (ServesThese entries node (LeftTo old new (k + 1))) m
LeftTo-kept entries node old new k d m l is there over =
    these_alike entries node (LeftTo old new k) (LeftTo old new (k + 1)) m
    (λ x. (
      λ h. (h.0, λ c. elim (next_cases old k d x l is c) [ inl before ↦ h.1 before | inr e ↦ subst (Contains new) (sym e) there ]),
      λ h. (h.0, λ c. h.1 (next_before old k d x l c)),
    )) over

-- and one that it has not goes
pub LeftTo-dropped : (entries : List Entry) (node : ℕ) (old new : List Described) (k : ℕ) (d : Described) (m n : BTreeMap (List ℕ) Serving)
    → IsSegmentSet old → k < length old → d ≡ get_or old k d → (Contains new d → ⊥) → AreTimelines (ServesThese entries node (LeftTo old new k)) m
    → RemovesSegment m n node d → AreTimelines (ServesThese entries node (LeftTo old new (k + 1))) n
LeftTo-dropped entries node old new k d m n h l is absent over removes =
    these_alike entries node (λ x. LeftTo old new k x × (x ≡ d → ⊥)) (LeftTo old new (k + 1)) n
    (λ x. (
      λ p. (p.0.0, λ c. elim (next_cases old k d x l is c) [ inl before ↦ p.0.1 before | inr e ↦ absurd (p.1 e) ]),
      λ p. (
        (p.0, λ c. p.1 (next_before old k d x l c)),
        λ e. absent (subst (Contains new) e (p.1 (subst (Contains (take (k + 1) old)) (sym e) (next_there old k d l is)))),
      ),
    ))
    (these_less entries node (LeftTo old new k) d m n
    (λ y p same. one_holder old h.sorted y d p.0 (k, l, sym is) (ap identifier_text same)) over removes)

-- the timelines take that
pub LeftTo-takes : (entries : List Entry) (node : ℕ) (old new : List Described) (k : ℕ) (d : Described) (m : BTreeMap (List ℕ) Serving)
    → IsSegmentSet old → k < length old → d ≡ get_or old k d → AreTimelines (ServesThese entries node (LeftTo old new k)) m → TakesChange m node (Drop d)
LeftTo-takes entries node old new k d m h l is over =
    dropped_in (ServesThese entries node (LeftTo old new k)) node d (kept m d.id.source) (over.each d.id.source)
    (inl (refl, ((k, l, sym is), λ c. absurd (not_earlier old k d h l is c))))

-- ---- what comes

-- what the sets share, and the first k segments of the new set
abbrev pub LoadedTo : List Described → List Described → ℕ → Described → Type 0
LoadedTo old new k d = (Contains old d × Contains new d) ⊎ Contains (take k new) d

pub LoadedTo-none : (entries : List Entry) (node : ℕ) (old new : List Described) (m : BTreeMap (List ℕ) Serving)
    → AreTimelines (ServesThese entries node (λ d. Contains old d × Contains new d)) m → AreTimelines (ServesThese entries node (LoadedTo old new 0)) m
LoadedTo-none entries node old new m over =
    these_alike entries node (λ d. Contains old d × Contains new d) (LoadedTo old new 0) m
    (λ d. (λ h. inl h, λ h. elim h [ inl both ↦ both | inr none ↦ absurd (Contains-nil d none) ])) over

pub LoadedTo-all : (entries : List Entry) (node : ℕ) (old new : List Described) (k : ℕ) (m : BTreeMap (List ℕ) Serving) → length new ≡ k
    → AreTimelines (ServesThese entries node (LoadedTo old new k)) m → AreTimelines (ServesWith entries node new) m
LoadedTo-all entries node old new k m e over =
    let whole : take k new ≡ new = take_all k new (omega arith) in
    these_alike entries node (LoadedTo old new k) (Contains new) m
    (λ d. (
      λ h. elim h [ inl both ↦ both.1 | inr c ↦ subst (λ (t : List Described). Contains t d) whole c ],
      λ c. inr (subst (λ (t : List Described). Contains t d) (sym whole) c),
    )) over

-- a segment that the old set has is there
pub LoadedTo-kept : (entries : List Entry) (node : ℕ) (old new : List Described) (k : ℕ) (d : Described) (m : BTreeMap (List ℕ) Serving)
    → k < length new → d ≡ get_or new k d → Contains old d
    → AreTimelines (ServesThese entries node (LoadedTo old new k)) m → AreTimelines (ServesThese entries node (LoadedTo old new (k + 1))) m
LoadedTo-kept entries node old new k d m l is there over =
    these_alike entries node (LoadedTo old new k) (LoadedTo old new (k + 1)) m
    (λ x. (
      λ h. elim h [ inl both ↦ inl both | inr c ↦ inr (next_before new k d x l c) ],
      λ h. elim h [
        | inl both ↦ inl both
        | inr c ↦ elim (next_cases new k d x l is c) [
          | inl before ↦ inr before
          | inr e ↦ inl (subst (Contains old) (sym e) there, subst (Contains new) (sym e) (k, l, sym is))
        ]
      ],
    )) over

-- and one that it has not comes
pub LoadedTo-loaded : (entries : List Entry) (node : ℕ) (old new : List Described) (k : ℕ) (d : Described) (m n : BTreeMap (List ℕ) Serving)
    → k < length new → d ≡ get_or new k d → AreTimelines (ServesThese entries node (LoadedTo old new k)) m → AddsSegment m n node d
    → AreTimelines (ServesThese entries node (LoadedTo old new (k + 1))) n
LoadedTo-loaded entries node old new k d m n l is over adds =
    these_alike entries node (λ x. LoadedTo old new k x ⊎ (x ≡ d)) (LoadedTo old new (k + 1)) n
    (λ x. (
      λ h. elim h [
        | inl (inl both) ↦ inl both
        | inl (inr c) ↦ inr (next_before new k d x l c)
        | inr e ↦ inr (subst (Contains (take (k + 1) new)) (sym e) (next_there new k d l is))
      ],
      λ h. elim h [
        | inl both ↦ inl (inl both)
        | inr c ↦ elim (next_cases new k d x l is c) [ inl before ↦ inl (inr before) | inr e ↦ inr e ]
      ],
    ))
    (these_more entries node (LoadedTo old new k) d m n over adds)

-- the timeline of its source takes it
pub LoadedTo-takes : (entries : List Entry) (node : ℕ) (old new : List Described) (k : ℕ) (d : Described) (m : BTreeMap (List ℕ) Serving)
    → IsSegmentSet new → k < length new → d ≡ get_or new k d → (Contains old d → ⊥) → AreTimelines (ServesThese entries node (LoadedTo old new k)) m
    → IfSome (kept m d.id.source) (TakesSegment d.id.source node d)
LoadedTo-takes entries node old new k d m h l is absent over =
    takes_segment (ServesThese entries node (LoadedTo old new k)) m node d over (λ y there same. elim there [
      | inl (_, inl both) ↦ absent (subst (Contains old) (one_holder new h.sorted y d both.1 (k, l, sym is) (ap identifier_text same)) both.0)
      | inl (_, inr c) ↦
          let whole = subst (λ (t : List Described). Contains t y) (take-append-drop k new) (Contains-append_left (take k new) (drop k new) y c) in
          let one : y ≡ d = one_holder new h.sorted y d whole (k, l, sym is) (ap identifier_text same) in
          not_earlier new k d h l is (subst (Contains (take k new)) one c)
      | inr other ↦ other.0 refl
    ])
