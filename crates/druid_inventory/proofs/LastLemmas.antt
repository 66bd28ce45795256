-- Of each identifier that changes are of, the last such change.
use Rattle.std.proofs.Common.{◌≡◌, ◌+◌, ◌-◌, ◌<◌, ◌≤◌, ◌++◌, ℕ, suc, List, [], ◌∷◌, length, get_or, set, take, drop, Result, Ok, Err, Some, None, refl, sym, ap, ◌∙◌, subst, inl, inr, arith}
use Rattle.std.specs.List.{Contains, insert}
use Rattle.std.specs.declared.cmp.Ordering.TheVariants.{Less, Equal, Greater}
use Rattle.std.proofs.lemmas.Bool.{cases_eq, cases_order}
use Rattle.std.specs.List.{between}
use borrow.Rule.Slice.PartMut.{put_mid}
use Rattle.std.proofs.lemmas.Slice.{between_is, take-put_mid}
use Rattle.std.proofs.lemmas.List.{take_at, drop_at, take-take, take_more_set, take-set-le, drop-append-le, length-drop, get_or_default, get_or_append_left, get_or_push, get_or-set_same, get_or-set_other, length-set, length_push, length-take-le, take_more}
use Rattle.std.proofs.lemmas.List.Edits.{length-insert, get_or-insert_below, get_or-insert_at, get_or-insert_above}
use Rattle.druid_base.proofs.MemberLemmas.{Contains-insert}
use Rattle.std.specs.Ordering.{nat_cmp}
use Rattle.std.specs.Cmp.Lexicographic.{slice_cmp}
use Rattle.druid_segment_id.specs.Identifier.{Identifier, identifier_text, identifier_cmp}
use Rattle.druid_segment_descriptor.specs.Described.{Described}
use Rattle.druid_segment_descriptor.specs.Replay.{IsSegmentSet, StandsAt, BelongsAt, replay_from}
use Rattle.druid_segment_descriptor.specs.Reply.{AreSorted}
use Rattle.druid_segment_descriptor.specs.declared.change.Change.{Change}
use Rattle.druid_segment_descriptor.specs.declared.change.Change.TheVariants.{Load, Drop}
use Rattle.druid_segment_descriptor.proofs.PlaceLemmas.{IsLeft, IsLeft-above, IsLeft-below, StandsAt-found, inserted}
use Rattle.druid_segment_descriptor.proofs.ReplayLemmas.{are_sorted, in_order, with_segment-in_order}
use Rattle.druid_segment_descriptor.proofs.SortedLemmas.{AreSorted-own}
use Rattle.druid_inventory.specs.Judged.{segment_of, NoneOfFrom, IsHolderOf, IsLastOf, AreLast, IsFound, noted}
use Rattle.druid_inventory.proofs.ReplayedLemmas.{belongs_absent, holder-loaded, holder-dropped}

-- ---- a place among the first so many

pub place_put : (old : List ℕ) (count at place : ℕ) (part now : List ℕ) → at ≤ count → count < length old → part ≡ between at (count + 1) (set old count place)
    → now ≡ drop (length part - 1) part ++ take (length part - 1) part
    → take (count + 1) (put_mid at (count + 1 - at) (set old count place) now) ≡ insert (take count old) at place
place_put old count at place part now l m is turned =
    take-put_mid at (count + 1 - at) (set old count place) now (count + 1) (omega (arith, long)) (omega (arith, length-set old count place))
    ∙ (λ i. front i ++ turned' i) where
      rest : List ℕ
      rest = drop at (take count old)

      wide : length rest ≡ count - at
      wide = length-drop at (take count old) ∙ ap (λ (n : ℕ). n - at) (length-take-le count old (omega arith))

      parts : part ≡ rest ++ place ∷ []
      parts =
          is ∙ between_is (set old count place) at (count + 1) ∙ ap (drop at) (take_more_set old count place m)
          ∙ drop-append-le at (take count old) (place ∷ []) (omega (arith, length-take-le count old (omega arith)))

      size : length part - 1 ≡ length rest
      size = let n = ap length parts in let k = length_push rest place in omega arith

      turned' : now ≡ place ∷ rest
      turned' =
          turned ∙ (λ i. drop (size i) (parts i) ++ take (size i) (parts i))
          ∙ (λ i. drop_at rest (place ∷ []) (length rest) refl i ++ take_at rest (place ∷ []) (length rest) refl i)

      long : at + length now ≡ count + 1
      long = let n = ap length turned' in omega (arith, wide)

      front : take at (set old count place) ≡ take at (take count old)
      front = take-set-le at old count place l ∙ sym (take-take at count old l)

-- ---- one change more

NoneOfFrom-push : (cs : List Change) (c : Change) (id : Identifier) (n : ℕ) → NoneOfFrom cs id n → (identifier_text (segment_of c).id ≡ identifier_text id → ⊥)
    → NoneOfFrom (cs ++ c ∷ []) id n
NoneOfFrom-push cs c id n none other k d m l same =
    let long = length_push cs c in
    elim (cases_order k (length cs)) [
      | inl level ↦
          let here : get_or (cs ++ c ∷ []) k d ≡ c = get_or_push cs c d k (sym level) in
          other (ap (λ (x : Change). identifier_text (segment_of x).id) (sym here) ∙ same)
      | inr (inl before) ↦
          let here : get_or (cs ++ c ∷ []) k d ≡ get_or cs k d = get_or_append_left cs (c ∷ []) d k before in
          none k d m before (ap (λ (x : Change). identifier_text (segment_of x).id) (sym here) ∙ same)
      | inr (inr beyond) ↦ absurd (omega arith)
    ]

IsLastOf-more : (cs : List Change) (c : Change) (id : Identifier) (p : ℕ) → IsLastOf cs id p → (identifier_text (segment_of c).id ≡ identifier_text id → ⊥)
    → IsLastOf (cs ++ c ∷ []) id p
IsLastOf-more cs c id p h other = record {
  within = let long = length_push cs c in let l = h.within in omega arith;
  here = λ x. ap (λ (y : Change). (segment_of y).id) (get_or_append_left cs (c ∷ []) x p h.within) ∙ h.here x;
  beyond = NoneOfFrom-push cs c id (p + 1) h.beyond other;
}

IsLastOf-new : (cs : List Change) (c : Change) (id : Identifier) (p : ℕ) → p ≡ length cs → (segment_of c).id ≡ id → IsLastOf (cs ++ c ∷ []) id p
IsLastOf-new cs c id p at same = record {
  within = let long = length_push cs c in omega arith;
  here = λ x. ap (λ (y : Change). (segment_of y).id) (get_or_push cs c x p (sym at)) ∙ same;
  beyond = λ k d m l. let long = length_push cs c in absurd (omega arith);
}

last_same : (cs : List Change) (a b : Identifier) (p q : ℕ) → a ≡ b → p ≡ q → IsLastOf cs a p → IsLastOf cs b q
last_same cs a b p q e f h = subst (λ (i : Identifier). IsLastOf cs i q) e (subst (λ (n : ℕ). IsLastOf cs a n) f h)

pub AreLast-none : AreLast [] [] []
AreLast-none = record {
  long = refl;
  sorted = λ k d l. absurd (omega arith);
  each = λ k d l. absurd (omega arith);
  all = λ id none k c m l. absurd (omega arith);
}

-- of an identifier that stands at k
last_again : (cs : List Change) (last : List ℕ) (segments : List Described) (c : Change) (k n : ℕ) → n ≡ length cs → AreLast cs last segments
    → StandsAt segments (segment_of c).id k → AreLast (cs ++ c ∷ []) (set last k n) segments
last_again cs last segments c k n count h at = record {
  long = h.long ∙ sym (length-set last k n);
  sorted = h.sorted;
  each = λ j d l.
      let within = at.within in
      let long = h.long in
      let kept = length-set last k n in
      elim (cases_eq j k) [
        | inl level ↦
            let here : get_or (set last k n) j 0 ≡ n = ap (λ (i : ℕ). get_or (set last k n) i 0) level ∙ get_or-set_same last k n 0 (omega arith) in
            let same : (get_or segments j d).id ≡ (segment_of c).id = ap (λ (i : ℕ). (get_or segments i d).id) level ∙ at.here d in
            last_same (cs ++ c ∷ []) (segment_of c).id (get_or segments j d).id n (get_or (set last k n) j 0) (sym same) (sym here)
            (IsLastOf-new cs c (segment_of c).id n count refl)
        | inr apart ↦
            let there : get_or (set last k n) j 0 ≡ get_or last j 0 = get_or-set_other last k j n 0 apart in
            last_same (cs ++ c ∷ []) (get_or segments j d).id (get_or segments j d).id (get_or last j 0) (get_or (set last k n) j 0) refl (sym there)
            (IsLastOf-more cs c (get_or segments j d).id (get_or last j 0) (h.each j d (omega arith))
            (λ same. apart (AreSorted-own segments h.sorted j k d (omega arith) within (sym same ∙ sym (ap identifier_text (at.here d))))))
      ];
  all = λ id none. NoneOfFrom-push cs c id 0 (h.all id none) (λ same.
      let x = get_or segments k (segment_of c) in
      none x (k, at.within, get_or_default segments k x (segment_of c) at.within) (ap identifier_text (at.here (segment_of c)) ∙ same));
}

-- of an identifier that stands nowhere
last_first : (cs : List Change) (last : List ℕ) (segments : List Described) (c : Change) (k n : ℕ) → n ≡ length cs → AreLast cs last segments
    → BelongsAt segments (segment_of c).id k → AreLast (cs ++ c ∷ []) (insert last k n) (insert segments k (segment_of c))
last_first cs last segments c k n count h at = record {
  long = length-insert segments k d at.within ∙ ap (λ (m : ℕ). m + 1) h.long ∙ sym (length-insert last k n inside);
  sorted = subst AreSorted (sym (inserted segments d k at))
      (are_sorted _ (with_segment-in_order d segments (in_order segments h.sorted)
      (λ i x l. absent (get_or segments i x) (i, l, get_or_default segments i (get_or segments i x) x l))));
  each = λ j x l. elim (cases_order j k) [
    | inl level ↦
        last_same (cs ++ c ∷ []) d.id (get_or (insert segments k d) j x).id n (get_or (insert last k n) j 0)
        (sym (ap (λ (i : ℕ). (get_or (insert segments k d) i x).id) level ∙ ap (λ (y : Described). y.id) (get_or-insert_at segments k d x at.within)))
        (sym (ap (λ (i : ℕ). get_or (insert last k n) i 0) level ∙ get_or-insert_at last k n 0 inside))
        (IsLastOf-new cs c d.id n count refl)
    | inr (inl before) ↦
        last_same (cs ++ c ∷ []) (get_or segments j x).id (get_or (insert segments k d) j x).id (get_or last j 0) (get_or (insert last k n) j 0)
        (sym (ap (λ (y : Described). y.id) (get_or-insert_below segments k d x j before at.within)))
        (sym (get_or-insert_below last k n 0 j before inside))
        (other j x (omega arith))
    | inr (inr beyond) ↦
        let e : (j - 1) + 1 ≡ j = omega arith in
        let longer = length-insert last k n inside in
        last_same (cs ++ c ∷ []) (get_or segments (j - 1) x).id (get_or (insert segments k d) j x).id (get_or last (j - 1) 0) (get_or (insert last k n) j 0)
        (sym (ap (λ (i : ℕ). (get_or (insert segments k d) i x).id) (sym e) ∙ ap (λ (y : Described). y.id) (get_or-insert_above segments k d x (j - 1) (omega arith) at.within)))
        (sym (ap (λ (i : ℕ). get_or (insert last k n) i 0) (sym e) ∙ get_or-insert_above last k n 0 (j - 1) (omega arith) inside))
        (other (j - 1) x (omega arith))
  ];
  all = λ id none. NoneOfFrom-push cs c id 0
      (h.all id (λ x there. none x ((Contains-insert segments k d x).1 (inr there))))
      (λ same. none d ((Contains-insert segments k d d).1 (inl refl)) same);
} where
  d : Described
  d = segment_of c

  inside : k ≤ length last
  inside = let within = at.within in let long = h.long in omega arith

  absent : (x : Described) → Contains segments x → identifier_text x.id ≡ identifier_text d.id → ⊥
  absent x there same = belongs_absent segments d.id k at x there same

  other : (j : ℕ) (x : Described) → j < length last → IsLastOf (cs ++ c ∷ []) (get_or segments j x).id (get_or last j 0)
  other j x l =
      let long = h.long in
      let y = get_or segments j x in
      IsLastOf-more cs c y.id (get_or last j 0) (h.each j x l)
      (λ same. absent y (j, omega arith, get_or_default segments j y x (omega arith)) (sym same))

last_noted : (cs : List Change) (last : List ℕ) (segments : List Described) (c : Change) (found : Result ℕ ℕ) (n : ℕ) → n ≡ length cs → AreLast cs last segments
    → IsFound segments (segment_of c).id found → (more : List Described) × AreLast (cs ++ c ∷ []) (noted last found n) more
last_noted cs last segments c (Ok k) n count h at = (segments, last_again cs last segments c k n count h at)
last_noted cs last segments c (Err k) n count h at = (insert segments k (segment_of c), last_first cs last segments c k n count h at)

-- of the first changes, the last of each identifier
pub record LastTo (cs : List Change) (i : ℕ) (places : List ℕ) : Type 0 where
  pub segments : List Described
  pub last : AreLast (take i cs) places segments

pub LastTo-more : (cs : List Change) (i : ℕ) (c : Change) (last now : List ℕ) (found : Result ℕ ℕ) → (h : LastTo cs i last) → i < length cs → c ≡ get_or cs i c
    → IsFound h.segments (segment_of c).id found → now ≡ noted last found i → LastTo cs (i + 1) now
LastTo-more cs i c last now found h l is at e =
    let more = last_noted (take i cs) last h.segments c found i (sym (length-take-le i cs (omega arith))) h.last at in
    let front : take (i + 1) cs ≡ take i cs ++ c ∷ [] = take_more cs i c l ∙ ap (λ (x : Change). take i cs ++ x ∷ []) (sym is) in
    record {
      segments = more.0;
      last = subst (λ (ds : List Change). AreLast ds now more.0) (sym front)
          (subst (λ (ps : List ℕ). AreLast (take i cs ++ c ∷ []) ps more.0) (sym e) more.1);
    }

-- ---- what is held

pub last_at : (cs : List Change) (last : List ℕ) (segments : List Described) (id : Identifier) (k p : ℕ) (d : Described) → AreLast cs last segments → StandsAt segments id k
    → p ≡ get_or last k 0 → IsLastOf cs id p
last_at cs last segments id k p d h at place =
    let within = at.within in
    let long = h.long in
    last_same cs (get_or segments k d).id id (get_or last k 0) p (at.here d) (sym place) (h.each k d (omega arith))

pub last_within : (cs : List Change) (last : List ℕ) (segments : List Described) (id : Identifier) (k : ℕ) → AreLast cs last segments → StandsAt segments id k
    → get_or last k 0 < length cs
last_within cs last [] id k h at = absurd (omega (arith, at.within))
last_within cs last (d ∷ segments) id k h at = (last_at cs last (d ∷ segments) id k (get_or last k 0) d h at refl).within

-- each place is one of a change
pub each_within : (cs : List Change) (last : List ℕ) (segments : List Described) (k : ℕ) → AreLast cs last segments → k < length last → get_or last k 0 < length cs
each_within cs last [] k h l = let long = h.long in absurd (omega arith)
each_within cs last (d ∷ segments) k h l = (h.each k d l).within

-- where the identifier stands, its last change says what is held
pub held_loaded : (s t : List Described) (cs : List Change) (last : List ℕ) (segments : List Described) (id : Identifier) (k p : ℕ) (c : Change) (d : Described) → IsSegmentSet s
    → replay_from s cs ≡ Some t → AreLast cs last segments → StandsAt segments id k → p ≡ get_or last k 0 → c ≡ get_or cs p c → c ≡ Load d → IsHolderOf t id (Some d)
held_loaded s t cs last segments id k p c d set made h at place here is =
    let r = last_at cs last segments id k p d h at place in
    let same : d.id ≡ id = ap (λ (x : Change). (segment_of x).id) (sym is ∙ here) ∙ r.here c in
    let e : p + 1 ≡ suc p = omega arith in
    holder-loaded s t cs id p c d set made r.within here is (subst (λ (n : ℕ). NoneOfFrom cs id n) e r.beyond) (ap identifier_text same)

pub held_dropped : (s t : List Described) (cs : List Change) (last : List ℕ) (segments : List Described) (id : Identifier) (k p : ℕ) (c : Change) (d : Described) → IsSegmentSet s
    → replay_from s cs ≡ Some t → AreLast cs last segments → StandsAt segments id k → p ≡ get_or last k 0 → c ≡ get_or cs p c → c ≡ Drop d → IsHolderOf t id None
held_dropped s t cs last segments id k p c d set made h at place here is =
    let r = last_at cs last segments id k p d h at place in
    let same : d.id ≡ id = ap (λ (x : Change). (segment_of x).id) (sym is ∙ here) ∙ r.here c in
    let e : p + 1 ≡ suc p = omega arith in
    holder-dropped s t cs id p c d set made r.within here is (subst (λ (n : ℕ). NoneOfFrom cs id n) e r.beyond) (ap identifier_text same)

-- where it stands nowhere, no change is of it
pub none_last : (cs : List Change) (last : List ℕ) (segments : List Described) (id : Identifier) (k : ℕ) → AreLast cs last segments → BelongsAt segments id k → NoneOfFrom cs id 0
none_last cs last segments id k h at = h.all id (λ x there same. belongs_absent segments id k at x there same)

-- the change of a segment, as the segment of its identifier
pub record IsProbed (segments : List Described) (m : ℕ) (id : Identifier) (y : Described) : Type 0 where
  pub is : y ≡ get_or segments m y
  pub same : y.id ≡ id

pub probed : (cs : List Change) (last : List ℕ) (segments : List Described) (m p : ℕ) (c : Change) → AreLast cs last segments → m < length last → p ≡ get_or last m 0 → c ≡ get_or cs p c
    → (y : Described) × IsProbed segments m (segment_of c).id y
probed cs last segments m p c h l place here =
    let long = h.long in
    let y = get_or segments m (segment_of c) in
    let each = h.each m (segment_of c) l in
    let at : (segment_of c).id ≡ y.id =
    ap (λ (x : Change). (segment_of x).id) here ∙ ap (λ (n : ℕ). (segment_of (get_or cs n c)).id) place ∙ each.here c in
    (y, record { is = sym (get_or_default segments m y (segment_of c) (omega arith)); same = sym at })

-- ---- a search

pub search_on : (segments : List Described) (id other : Identifier) (low high m : ℕ) (y : Described) → AreSorted segments → IsLeft segments id low high → m < high → low ≤ m
    → IsProbed segments m other y → Less ≡ slice_cmp nat_cmp (identifier_text other) (identifier_text id) → IsLeft segments id (m + 1) high
search_on segments id other low high m y sorted left under over probe less =
    IsLeft-above segments id low high m y sorted left under over probe.is
    (less ∙ ap (λ (i : Identifier). slice_cmp nat_cmp (identifier_text i) (identifier_text id)) (sym probe.same))

pub search_back : (segments : List Described) (id other : Identifier) (low high m : ℕ) (y : Described) → AreSorted segments → IsLeft segments id low high → m < high → low ≤ m
    → IsProbed segments m other y → Greater ≡ slice_cmp nat_cmp (identifier_text other) (identifier_text id) → IsLeft segments id low m
search_back segments id other low high m y sorted left under over probe greater =
    IsLeft-below segments id low high m y sorted left under over probe.is
    (greater ∙ ap (λ (i : Identifier). slice_cmp nat_cmp (identifier_text i) (identifier_text id)) (sym probe.same))

pub search_found : (segments : List Described) (id other : Identifier) (m : ℕ) (y : Described) → m < length segments → IsProbed segments m other y → Equal ≡ identifier_cmp other id
    → StandsAt segments id m
search_found segments id other m y l probe tied =
    StandsAt-found segments id m y l probe.is (tied ∙ ap (λ (i : Identifier). identifier_cmp i id) (sym probe.same))
