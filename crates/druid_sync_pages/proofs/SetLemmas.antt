-- Pages of one set.
use Rattle.std.proofs.Common.{◌≡◌, ◌+◌, ◌-◌, ◌*◌, ◌<◌, ◌≤◌, ℕ, suc, List, [], ◌∷◌, ◌++◌, length, get_or, take, drop, replicate, set, Option, Some, None, refl, sym, ap, ◌∙◌, subst, inl, inr, ⊎_elim, min, arith, suc-mul, zero-mul, zero-add, add-zero, add_comm}
use Rattle.std.specs.List.{slice_get}
use Rattle.std.proofs.Math.Seq.{take-add}
use Rattle.std.proofs.lemmas.Bool.{cases_eq}
use Rattle.std.proofs.lemmas.Option.{same_Some, none-some}
use Rattle.std.proofs.lemmas.List.{take_all, length-drop, length-take, length-set, length-replicate, drop-drop, get_or-drop, get_or-take}
use Rattle.druid_base.proofs.ListLemmas.{slice_get-set}
use Rattle.druid_segment_descriptor.specs.Described.{Described}
use Rattle.druid_segment_descriptor.specs.Mark.{Point}
use Rattle.druid_segment_descriptor.specs.Reply.{max_page, max_segments, AreSorted, IsFull}
use Rattle.druid_segment_descriptor.specs.Reply.{IsPageOf as IsReplyPage}
use Rattle.druid_sync_pages.specs.Pages.{page_at, pages_in, IsCutInto}
use Rattle.druid_sync_pages.specs.Assembly.{Parts, Page, IsPage, Conflicts, Puts, AreOf, IsPageOf, no_pages, with_page, whole_of}
use Rattle.druid_sync_pages.proofs.PartLemmas.{none_there}
use Rattle.druid_sync_pages.proofs.OrderLemmas.{of_rest, before_in}

abbrev Pages : Type 0
Pages = List (Option (List Described))

-- each page that is there is so many segments of the set
abbrev EachOf : ℕ → List Described → ℕ → Pages → Type 0
EachOf m set k pages = (page : ℕ) (segments : List Described) → slice_get pages page ≡ Some (Some segments) → segments ≡ take m (drop ((k + page) * m) set)

next_each : (m : ℕ) (set : List Described) (k : ℕ) (p : Option (List Described)) (pages : Pages) → EachOf m set k (p ∷ pages) → EachOf m set (suc k) pages
next_each m set k p pages each page segments is =
    let e : k + suc page ≡ suc k + page = omega arith in
    each (suc page) segments is ∙ ap (λ n. take m (drop (n * m) set)) e

longer : (m : ℕ) (ds : List Described) (k : ℕ) (pages : Pages) (s rest whole : List Described) → EachOf m ds k (Some s ∷ pages) → s ++ rest ≡ whole
    → rest ≡ take (length pages * m) (drop (suc k * m) ds) → whole ≡ take (suc (length pages) * m) (drop (k * m) ds)
longer m ds k pages s rest whole each joined back =
    let xs = drop (k * m) ds in
    let front : s ≡ take m xs = each 0 s refl ∙ ap (λ n. take m (drop (n * m) ds)) (add-zero k) in
    let after : drop m xs ≡ drop (suc k * m) ds = drop-drop m (k * m) ds ∙ ap (λ n. drop n ds) (sym (suc-mul k m)) in
    let total : m + length pages * m ≡ suc (length pages) * m = add_comm m (length pages * m) ∙ sym (suc-mul (length pages) m) in
    sym joined ∙ ap (λ ys. ys ++ rest) front ∙ ap (λ ys. take m xs ++ ys) (back ∙ sym (ap (take (length pages * m)) after))
    ∙ sym (take-add m (length pages * m) xs) ∙ ap (λ n. take n xs) total

whole_is : (m : ℕ) (ds : List Described) (k : ℕ) (pages : Pages) (whole : List Described) → EachOf m ds k pages → whole_of pages ≡ Some whole
    → whole ≡ take (length pages * m) (drop (k * m) ds)
whole_is m ds k [] whole each is = sym (same_Some [] whole is) ∙ sym (ap (λ n. take n (drop (k * m) ds)) (zero-mul m))
whole_is m ds k (None ∷ pages) whole each is = absurd (none-some whole is)
whole_is m ds k (Some s ∷ pages) whole each is =
    let back = λ (rest : List Described) (e : whole_of pages ≡ Some rest). whole_is m ds (suc k) pages rest (next_each m ds k (Some s) pages each) e in
    of_rest s whole (whole_of pages) is (λ rest e joined. longer m ds k pages s rest whole each joined (back rest e))

-- the pages of a set, once all have come, are the set
pub set_is_whole : (ds whole : List Described) (parts : Parts) → AreOf ds parts → whole_of parts.pages ≡ Some whole → whole ≡ ds
set_is_whole ds whole parts are is =
    let each : EachOf max_page ds 0 parts.pages = λ page segments found. are.each page segments found ∙ ap (λ n. take max_page (drop (n * max_page) ds)) (sym (zero-add page)) in
    whole_is max_page ds 0 parts.pages whole each is
    ∙ ap (λ n. take (length parts.pages * max_page) (drop n ds)) (zero-mul max_page)
    ∙ take_all (length parts.pages * max_page) ds are.count.enough

-- ---- a page more of the set

pub cut_into : (n : ℕ) → IsCutInto n (pages_in n)
cut_into n = record { enough = omega arith; no_more = omega arith }

pub cut_once : (n a b : ℕ) → IsCutInto n a → IsCutInto n b → a ≡ b
cut_once n a b x y = omega (arith, x.enough, x.no_more, y.enough, y.no_more)

pub of_with : (ds : List Described) (parts : Parts) (p : Page) → AreOf ds parts → IsPageOf ds p → AreOf ds (with_page parts p.page p.segments)
of_with ds parts p are is = record {
  count = subst (IsCutInto (length ds)) (sym (length-set parts.pages p.page (Some p.segments))) are.count;
  each = λ page segments found. ⊎_elim (λ before. are.each page segments before)
      (λ here. sym (same_Some p.segments segments here.1) ∙ is.segments ∙ ap (page_at ds) (sym here.0))
      (slice_get-set parts.pages p.page (Some p.segments) page (Some segments) found);
}

-- no page of the set conflicts with others of it
pub of_fits : (ds : List Described) (parts : Parts) (p : Page) → AreSorted ds → AreOf ds parts → IsPageOf ds p → Conflicts parts p → ⊥
of_fits ds parts p sorted are is (inl other) = other (cut_once (length ds) (length parts.pages) p.of are.count is.count)
of_fits ds parts p sorted are is (inr (inl other)) = other.2 (are.each p.page other.0 other.1 ∙ sym is.segments)
of_fits ds parts p sorted are is (inr (inr falls)) =
    falls.3 (subst AreSorted (sym (set_is_whole ds falls.0 (with_page parts p.page p.segments) (of_with ds parts p are is) falls.2)) sorted)

-- what is kept is of the set
pub of_kept : (ds : List Described) (parts : Parts) (p : Page) (new : Option Parts) → AreOf ds parts → IsPageOf ds p → Puts parts p None new
    → (left : Parts) × (new ≡ Some left) × AreOf ds left
of_kept ds parts p new are is (inl there) = (parts, there.1, are)
of_kept ds parts p new are is (inr lacking) = (with_page parts p.page p.segments, lacking.2, of_with ds parts p are is)

-- what is given is the set
pub of_given : (ds whole : List Described) (parts : Parts) (p : Page) (new : Option Parts) → AreOf ds parts → IsPageOf ds p → Puts parts p (Some whole) new → whole ≡ ds
of_given ds whole parts p new are is puts = set_is_whole ds whole (with_page parts p.page p.segments) (of_with ds parts p are is) puts.1

pub of_none : (ds : List Described) (at : Point) (of : ℕ) → IsCutInto (length ds) of → AreOf ds (no_pages at of)
of_none ds at of cut = record {
  count = subst (IsCutInto (length ds)) (sym (length-replicate of None)) cut;
  each = λ page segments found. absurd (none_there (replicate of None) of page segments refl found);
}

-- ---- a page of a set is one

sorted_part : (m n : ℕ) (ds : List Described) → AreSorted ds → AreSorted (take m (drop n ds))
sorted_part m n ds sorted k d within =
    let all = length-take m (drop n ds) in
    let rest = length-drop n ds in
    let at : (i : ℕ) → i < length (take m (drop n ds)) → get_or ds (n + i) d ≡ get_or (take m (drop n ds)) i d = λ i l.
    sym (get_or-drop n ds i d) ∙ sym (get_or-take m (drop n ds) i d (omega (arith, l, all))) in
    let next : n + k + 1 ≡ n + (k + 1) = omega arith in
    before_in (get_or ds (n + k) d) (get_or (take m (drop n ds)) k d) (get_or ds (n + k + 1) d) (get_or (take m (drop n ds)) (k + 1) d)
    (at k (omega (arith, within))) (ap (λ i. get_or ds i d) next ∙ at (k + 1) within)
    (sorted (n + k) d (omega (arith, within, all, rest)))

pub is_page : (ds : List Described) (p : Page) → AreSorted ds → length ds ≤ max_segments → IsPageOf ds p → 2 ≤ p.of → p.page < p.of → IsPage p
is_page ds p sorted few is several within =
    let all : length p.segments ≡ min max_page (length (drop (p.page * max_page) ds)) = ap length is.segments ∙ length-take max_page (drop (p.page * max_page) ds) in
    let rest = length-drop (p.page * max_page) ds in
    record {
      several = several;
      not_many = omega (arith, is.count.no_more, few);
      within = within;
      some = omega (arith, all, rest, is.count.no_more, within);
      few = omega (arith, all);
      sorted = subst AreSorted (sym is.segments) (sorted_part max_page (p.page * max_page) ds sorted);
    }

full_page : (n page of count : ℕ) → count ≡ min max_page (n - page * max_page) → IsCutInto n of → page < of → IsFull page of count
full_page n page of count is cut within = elim (cases_eq (page + 1) of) [
  | inl last ↦ inr (omega (arith, is, cut.no_more, last), last)
  | inr before ↦ inl (omega (arith, is, cut.no_more, within, before))
]

-- a page of a set that is too large for one message is one of a reply
pub is_page_of : (ds : List Described) (page of : ℕ) → AreSorted ds → IsCutInto (length ds) of → max_page < length ds → length ds ≤ max_segments → page < of
    → IsReplyPage page of (page_at ds page)
is_page_of ds page of sorted cut many few within =
    let all : length (page_at ds page) ≡ min max_page (length (drop (page * max_page) ds)) = length-take max_page (drop (page * max_page) ds) in
    let rest = length-drop (page * max_page) ds in
    record {
      several = omega (arith, cut.enough, many);
      not_many = omega (arith, cut.no_more, few);
      within = within;
      few = omega (arith, all);
      full = full_page (length ds) page of (length (page_at ds page)) (omega (arith, all, rest)) cut within;
      sorted = sorted_part max_page (page * max_page) ds sorted;
    }
