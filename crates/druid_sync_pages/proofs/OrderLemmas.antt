-- Pages whose segments rise from one to the next.
use Rattle.std.proofs.Common.{◌≡◌, ◌+◌, ◌-◌, ◌<◌, ◌≤◌, ℕ, zero, suc, List, [], ◌∷◌, ◌++◌, length, get_or, Option, Some, None, refl, sym, ap, ◌∙◌, subst, inl, inr, arith, length-append}
use Rattle.std.specs.List.{slice_get}
use Rattle.std.proofs.lemmas.Bool.{cases_order}
use Rattle.std.proofs.lemmas.Option.{same_Some, none-some}
use Rattle.std.proofs.lemmas.List.{get_or-append-add, get_or_append_left}
use Rattle.druid_segment_descriptor.specs.Described.{Described}
use Rattle.druid_segment_descriptor.specs.Reply.{AreSorted, IsBefore}
use Rattle.druid_sync_pages.specs.Assembly.{ArePages, whole_of}
use Rattle.druid_sync_pages.specs.PageSizes.{EndsBefore}
use Rattle.druid_sync_pages.proofs.WholeLemmas.{with_front}

abbrev Pages : Type 0
Pages = List (Option (List Described))

-- ---- two lists

pub before_in : (x x' y y' : Described) → x ≡ x' → y ≡ y' → IsBefore x y → IsBefore x' y'
before_in x x' y y' e f before = subst (λ z. IsBefore x' z) f (subst (λ z. IsBefore z y) e before)

right_at : (a b : List Described) (k n : ℕ) (d : Described) → length a + n ≡ k → get_or (a ++ b) k d ≡ get_or b n d
right_at a b k n d e = ap (λ i. get_or (a ++ b) i d) (sym e) ∙ get_or-append-add a b n d

pub sorted_back : (a b : List Described) → AreSorted (a ++ b) → AreSorted b
sorted_back a b h k d within =
    let n = length-append a b in
    before_in (get_or (a ++ b) (length a + k) d) (get_or b k d) (get_or (a ++ b) (length a + k + 1) d) (get_or b (k + 1) d)
    (right_at a b (length a + k) k d refl) (right_at a b (length a + k + 1) (k + 1) d (omega arith))
    (h (length a + k) d (omega (arith, within, n)))

pub sorted_seam : (a b : List Described) → AreSorted (a ++ b) → 1 ≤ length b → EndsBefore a b
sorted_seam a b h some n d end =
    let total = length-append a b in
    before_in (get_or (a ++ b) n d) (get_or a n d) (get_or (a ++ b) (n + 1) d) (get_or b 0 d)
    (get_or_append_left a b d n (omega (arith, end))) (right_at a b (n + 1) 0 d (omega (arith, end)))
    (h n d (omega (arith, total, some, end)))

pub sorted_append : (a b : List Described) → AreSorted a → AreSorted b → (1 ≤ length b → EndsBefore a b) → AreSorted (a ++ b)
sorted_append a b ha hb seam k d within =
    let total = length-append a b in
    elim (cases_order (k + 1) (length a)) [
      | inl at_end ↦ before_in (get_or a k d) (get_or (a ++ b) k d) (get_or b 0 d) (get_or (a ++ b) (k + 1) d)
          (sym (get_or_append_left a b d k (omega (arith, at_end)))) (sym (right_at a b (k + 1) 0 d (omega (arith, at_end))))
          (seam (omega (arith, within, total, at_end)) k d at_end)
      | inr (inl inside) ↦ before_in (get_or a k d) (get_or (a ++ b) k d) (get_or a (k + 1) d) (get_or (a ++ b) (k + 1) d)
          (sym (get_or_append_left a b d k (omega (arith, inside)))) (sym (get_or_append_left a b d (k + 1) inside))
          (ha k d inside)
      | inr (inr past) ↦
          let at : length a + (k - length a) ≡ k = omega (arith, past) in
          let next : length a + (k - length a + 1) ≡ k + 1 = omega (arith, past) in
          before_in (get_or b (k - length a) d) (get_or (a ++ b) k d) (get_or b (k - length a + 1) d) (get_or (a ++ b) (k + 1) d)
          (sym (right_at a b k (k - length a) d at)) (sym (right_at a b (k + 1) (k - length a + 1) d next))
          (hb (k - length a) d (omega (arith, within, total, past)))
    ]

-- ---- pages

-- the page at a place ends before the next begins
abbrev pub Seam : Pages → ℕ → Type 0
Seam pages i = (a b : List Described) → slice_get pages i ≡ Some (Some a) → slice_get pages (i + 1) ≡ Some (Some b) → EndsBefore a b

ends_in_front : (a b c : List Described) → 1 ≤ length b → EndsBefore a b → EndsBefore a (b ++ c)
ends_in_front a b c some h n d end = subst (λ y. IsBefore (get_or a n d) y) (sym (get_or_append_left b c d 0 some)) (h n d end)

abbrev Rising : Pages → Type 0
Rising pages = (i : ℕ) → i + 1 < length pages → Seam pages i

first_seam : (s r : List Described) (pages : Pages) → ArePages (Some s ∷ pages) → whole_of pages ≡ Some r → Rising (Some s ∷ pages) → 1 ≤ length r → EndsBefore s r
first_seam s r [] are whole seams some = let e = ap length (same_Some [] r whole) in absurd (omega (arith, some, e))
first_seam s r (None ∷ pages) are whole seams some = absurd (none-some r whole)
first_seam s r (Some b ∷ pages) are whole seams some = by_rest (whole_of pages) whole where
  by_rest : (rest : Option (List Described)) → with_front b rest ≡ Some r → EndsBefore s r
  by_rest None e = absurd (none-some r e)
  by_rest (Some c) e = subst (EndsBefore s) (same_Some (b ++ c) r e)
      (ends_in_front s b c (are 1 b refl).0 (seams 0 (omega arith) s b refl refl))

-- the place after i, of one page more
next_in : (p : Option (List Described)) (pages : Pages) (i : ℕ) (x : Option (List Described)) → slice_get pages (i + 1) ≡ Some x → slice_get (p ∷ pages) (suc i + 1) ≡ Some x
next_in p pages i x is =
    let e : suc i + 1 ≡ suc (i + 1) = omega arith in
    ap (slice_get (p ∷ pages)) e ∙ is

sorted_rest : (s r set : List Described) (pages : Pages) → ArePages (Some s ∷ pages) → whole_of pages ≡ Some r → Rising (Some s ∷ pages) → AreSorted r → s ++ r ≡ set → AreSorted set
sorted_rest s r set pages are whole seams sorted e =
    subst AreSorted e (sorted_append s r (are 0 s refl).2 sorted (first_seam s r pages are whole seams))

sorted_by : (s set : List Described) (pages : Pages) (rest : Option (List Described)) → whole_of pages ≡ rest → with_front s rest ≡ Some set → ArePages (Some s ∷ pages) → Rising (Some s ∷ pages)
    → ((r : List Described) → rest ≡ Some r → AreSorted r) → AreSorted set
sorted_by s set pages None e whole are seams again = absurd (none-some set whole)
sorted_by s set pages (Some r) e whole are seams again = sorted_rest s r set pages are e seams (again r refl) (same_Some (s ++ r) set whole)

-- where each page ends before the next begins, the whole rises
pub rising_whole : (pages : Pages) (set : List Described) → ArePages pages → whole_of pages ≡ Some set → Rising pages → AreSorted set
rising_whole [] set are whole seams = subst AreSorted (same_Some [] set whole) (λ k d within. absurd (omega (arith, within)))
rising_whole (None ∷ pages) set are whole seams = absurd (none-some set whole)
rising_whole (Some s ∷ pages) set are whole seams =
    sorted_by s set pages (whole_of pages) refl whole are seams
    (λ r e. rising_whole pages r (λ page segments is. are (suc page) segments is) e
    (λ i within a b x y. seams (suc i) (omega (arith, within)) a b x (next_in (Some s) pages i (Some b) y)))

back_in : (p : Option (List Described)) (pages : Pages) (i : ℕ) (x : Option (List Described)) → slice_get (p ∷ pages) (suc i + 1) ≡ Some x → slice_get pages (i + 1) ≡ Some x
back_in p pages i x is =
    let e : suc (i + 1) ≡ suc i + 1 = omega arith in
    ap (slice_get (p ∷ pages)) e ∙ is

pub of_rest : {G : Type 0} (s set : List Described) (rest : Option (List Described)) → with_front s rest ≡ Some set
    → ((r : List Described) → rest ≡ Some r → s ++ r ≡ set → G) → G
of_rest s set None whole more = absurd (none-some set whole)
of_rest s set (Some r) whole more = more r refl (same_Some (s ++ r) set whole)

front_ends : (a b c : List Described) → 1 ≤ length b → EndsBefore a (b ++ c) → EndsBefore a b
front_ends a b c some h n d end = subst (λ y. IsBefore (get_or a n d) y) (get_or_append_left b c d 0 some) (h n d end)

first_ends : (s r b : List Described) (pages : Pages) → ArePages (Some s ∷ pages) → whole_of pages ≡ Some r → AreSorted (s ++ r) → slice_get pages 0 ≡ Some (Some b) → EndsBefore s b
first_ends s r b [] are whole sorted y = absurd (none-some (Some b) y)
first_ends s r b (None ∷ pages) are whole sorted y = absurd (none-some b (same_Some None (Some b) y))
first_ends s r b (Some b' ∷ pages) are whole sorted y =
    of_rest b' r (whole_of pages) whole (λ c e is.
    let some = (are 1 b' refl).0 in
    let total = length-append b' c in
    let seam : EndsBefore s (b' ++ c) = sorted_seam s (b' ++ c) (subst (λ z. AreSorted (s ++ z)) (sym is) sorted) (omega (arith, some, total)) in
    subst (EndsBefore s) (same_Some b' b (same_Some (Some b') (Some b) y)) (front_ends s b' c some seam))

seam_in : (s r a b : List Described) (pages : Pages) (i : ℕ) → ArePages (Some s ∷ pages) → whole_of pages ≡ Some r → AreSorted (s ++ r)
    → (AreSorted r → (j : ℕ) → Seam pages j) → slice_get (Some s ∷ pages) i ≡ Some (Some a) → slice_get (Some s ∷ pages) (i + 1) ≡ Some (Some b) → EndsBefore a b
seam_in s r a b pages zero are whole sorted again x y =
    subst (λ z. EndsBefore z b) (same_Some s a (same_Some (Some s) (Some a) x)) (first_ends s r b pages are whole sorted y)
seam_in s r a b pages (suc j) are whole sorted again x y = again (sorted_back s r sorted) j a b x (back_in (Some s) pages j (Some b) y)

-- where the whole rises, each page ends before the next begins
pub whole_rising : (pages : Pages) (set : List Described) → ArePages pages → whole_of pages ≡ Some set → AreSorted set → (i : ℕ) → Seam pages i
whole_rising [] set are whole sorted i a b x y = absurd (none-some (Some a) x)
whole_rising (None ∷ pages) set are whole sorted i a b x y = absurd (none-some set whole)
whole_rising (Some s ∷ pages) set are whole sorted i a b x y =
    of_rest s set (whole_of pages) whole (λ r e is.
    seam_in s r a b pages i are e (subst AreSorted (sym is) sorted)
    (λ ordered. whole_rising pages r (λ page segments found. are (suc page) segments found) e ordered) x y)
