-- A page that is taken.
use Rattle.std.proofs.Common.{◌≡◌, ◌<◌, ◌≤◌, ◌&&◌, ℕ, zero, suc, List, replicate, set, Option, Some, None, Ok, nat_eq, refl, sym, ap, ◌∙◌, subst, inl, inr, arith, if◌then◌else◌}
use Rattle.std.specs.List.{slice_get}
use Rattle.std.specs.Ordering.{is_lt, is_eq, ordering_reverse}
use Rattle.std.specs.declared.cmp.Ordering.{Ordering}
use Rattle.std.specs.declared.cmp.Ordering.TheVariants.{Less, Equal, Greater}
use Rattle.std.proofs.lemmas.Bool.{eqb-true, and_parts}
use Rattle.std.proofs.lemmas.Option.{same_Some, none-some, slice_get-get_or}
use Rattle.std.proofs.lemmas.List.{length-replicate, get_or-replicate}
use Rattle.druid_segment_descriptor.specs.Described.{Described}
use Rattle.druid_segment_descriptor.specs.Mark.{Point, mark_cmp}
use Rattle.druid_segment_descriptor.specs.Reply.{AreSorted}
use Rattle.druid_segment_descriptor.specs.Orders.{mark_cmp-total, mark_cmp-ties}
use Rattle.druid_sync_pages.specs.Assembly.{Parts, Page, IsPage, IsLacking, Puts, Takes, Refuses, Conflicts, IsOutdated, no_pages, with_page, parts_for}
use Rattle.druid_sync_pages.specs.PageSizes.{FitsAs, Compares, PutsIn, RefusesIn}
use Rattle.druid_sync_pages.specs.declared.fault.PageFault.{PageFault}
use Rattle.druid_sync_pages.specs.declared.fault.PageFault.TheVariants.{Conflict, Memory}
use Rattle.druid_sync_pages.specs.declared.parts.Fit.TheVariants.{Lacking, Last}
use Rattle.druid_sync_pages.proofs.PartLemmas.{get_set_apart}
use Rattle.druid_sync_pages.proofs.WholeLemmas.{whole_lacks}

-- ---- marks

pub tied : (p q : Point) → Equal ≡ mark_cmp p q → p ≡ q
tied p q e =
    let parts = and_parts (nat_eq p.incarnation q.incarnation) (nat_eq p.count q.count) (mark_cmp-ties p q ∙ ap is_eq (sym e)) in
    let incarnations = eqb-true p.incarnation q.incarnation parts.0 in
    let counts = eqb-true p.count q.count parts.1 in
    λ i. record { incarnation = incarnations i; count = counts i }

turned : (p q : Point) (order : Ordering) → order ≡ mark_cmp p q → mark_cmp q p ≡ ordering_reverse order
turned p q order e = mark_cmp-total.antisymm q p ∙ ap ordering_reverse (sym e)

-- ---- out of memory

pub lacking_memory : (old : Option Parts) (parts : Parts) (p : Page) → old ≡ Some parts → parts.at ≡ p.at → FitsAs parts p (Ok Lacking) → RefusesIn old p Memory
lacking_memory old parts p is at fits = (None, Some (with_page parts p.page p.segments), (parts, is, at, inr (fits.0, fits.1, refl)))

pub last_memory : (old : Option Parts) (parts : Parts) (p : Page) → old ≡ Some parts → parts.at ≡ p.at → FitsAs parts p (Ok Last) → RefusesIn old p Memory
last_memory old parts p is at fits = (Some fits.2, None, (parts, is, at, (fits.0, fits.3, fits.4, refl)))

-- ---- a page of a later mark, or into nothing

none_at : (n place : ℕ) → place < n → slice_get {X = Option (List Described)} (replicate n None) place ≡ Some None
none_at n place within =
    slice_get-get_or (replicate n None) place None (omega (arith, within, length-replicate {A = Option (List Described)} n None))
    ∙ ap Some (get_or-replicate n place None None within)

another : (page of : ℕ) → 2 ≤ of → (place : ℕ) × (place < of) × (place ≡ page → ⊥)
another zero of several = (1, omega (arith, several), λ same. omega (arith, same))
another (suc page) of several = (0, omega (arith, several), λ same. omega (arith, same))

fresh_puts : (p : Page) → IsPage p → Puts (no_pages p.at p.of) p None (Some (with_page (no_pages p.at p.of) p.page p.segments))
fresh_puts p is =
    let other = another p.page p.of is.several in
    let lacks = get_set_apart (replicate p.of None) p.page other.0 (Some p.segments) other.2 ∙ none_at p.of other.0 other.1 in
    inr ((length-replicate p.of None, none_at p.of p.page is.within), whole_lacks (set (replicate p.of None) p.page (Some p.segments)) other.0 lacks, refl)

pub begins : (old : Option Parts) (p : Page) → IsPage p → Compares old p.at Less → Takes old p None (Some (with_page (no_pages p.at p.of) p.page p.segments))
begins None p is order = inr ((λ outdated. none-some outdated.0 outdated.1), fresh_puts p is)
begins (Some parts) p is order = inr (
  (λ outdated.
      let before : mark_cmp p.at parts.at ≡ Less = ap (λ (q : Parts). mark_cmp p.at q.at) (same_Some parts outdated.0 outdated.1) ∙ outdated.2 in
      let e = sym (turned parts.at p.at Less order) ∙ before in absurd cc),
  subst (λ q. Puts q p None (Some (with_page (no_pages p.at p.of) p.page p.segments)))
      (ap (λ o. if is_lt o then no_pages p.at p.of else parts) order) (fresh_puts p is),
)

-- ---- a page of the mark of those that have come

level : (parts : Parts) (p : Page) → Equal ≡ mark_cmp parts.at p.at → (IsOutdated (Some parts) p → ⊥) × (parts ≡ parts_for (Some parts) p)
level parts p order = (
  (λ outdated.
      let before : mark_cmp p.at parts.at ≡ Less = ap (λ (q : Parts). mark_cmp p.at q.at) (same_Some parts outdated.0 outdated.1) ∙ outdated.2 in
      let e = sym (turned parts.at p.at Equal order) ∙ before in absurd cc),
  ap (λ o. if is_lt o then no_pages p.at p.of else parts) order,
)

pub put_takes : (old : Option Parts) (p : Page) (given : Option (List Described)) (new : Option Parts) → Compares old p.at Equal → PutsIn old p given new → Takes old p given new
put_takes None p given new order puts = absurd (none-some puts.0 puts.1)
put_takes (Some parts) p given new order puts =
    let same = level parts p order in
    inr (same.0, subst (λ q. Puts q p given new) (sym (same_Some parts puts.0 puts.1) ∙ same.1) puts.3)

pub put_refuses : (old : Option Parts) (p : Page) (fault : PageFault) → Compares old p.at Equal → RefusesIn old p fault → Refuses old p fault
put_refuses None p Conflict order refuses = absurd (none-some refuses.0 refuses.1)
put_refuses (Some parts) p Conflict order refuses =
    let same = level parts p order in
    (same.0, subst (λ q. Conflicts q p) (sym (same_Some parts refuses.0 refuses.1) ∙ same.1) refuses.3)
put_refuses old p Memory order refuses = (refuses.0, refuses.1, put_takes old p refuses.0 refuses.1 order refuses.2)

-- ---- a page of an earlier mark

pub passes : (old : Option Parts) (p : Page) → Compares old p.at Greater → Takes old p None old
passes None p order = absurd cc
passes (Some parts) p order = inl ((parts, refl, turned parts.at p.at Greater order), refl, refl)

-- ---- in one way

there_not_lacking : (parts : Parts) (p : Page) (segments : List Described) → slice_get parts.pages p.page ≡ Some (Some segments) → IsLacking parts p → ⊥
there_not_lacking parts p segments e h = none-some segments (sym (same_Some (Some segments) None (sym e ∙ h.1)))

puts_one : (parts : Parts) (p : Page) (a b : Option (List Described)) (new other : Option Parts) → Puts parts p a new → Puts parts p b other → (a ≡ b) × (new ≡ other)
puts_one parts p None None new other (inl h) (inl k) = (refl, h.1 ∙ sym k.1)
puts_one parts p None None new other (inl h) (inr k) = absurd (there_not_lacking parts p p.segments h.0.1 k.0)
puts_one parts p None None new other (inr h) (inl k) = absurd (there_not_lacking parts p p.segments k.0.1 h.0)
puts_one parts p None None new other (inr h) (inr k) = (refl, h.2 ∙ sym k.2)
puts_one parts p None (Some ds) new other (inl h) k = absurd (there_not_lacking parts p p.segments h.0.1 k.0)
puts_one parts p None (Some ds) new other (inr h) k = absurd (none-some ds (sym h.1 ∙ k.1))
puts_one parts p (Some ds) None new other h (inl k) = absurd (there_not_lacking parts p p.segments k.0.1 h.0)
puts_one parts p (Some ds) None new other h (inr k) = absurd (none-some ds (sym k.1 ∙ h.1))
puts_one parts p (Some ds) (Some es) new other h k = (ap (λ s. Some s) (same_Some ds es (sym h.1 ∙ k.1)), h.3 ∙ sym k.3)

-- what is given, and what is left, is one
pub takes_one : (old : Option Parts) (p : Page) (a b : Option (List Described)) (new other : Option Parts) → Takes old p a new → Takes old p b other → (a ≡ b) × (new ≡ other)
takes_one old p a b new other (inl h) (inl k) = (h.1 ∙ sym k.1, h.2 ∙ sym k.2)
takes_one old p a b new other (inl h) (inr k) = absurd (k.0 h.0)
takes_one old p a b new other (inr h) (inl k) = absurd (h.0 k.0)
takes_one old p a b new other (inr h) (inr k) = puts_one (parts_for old p) p a b new other h.1 k.1

puts_fit : (parts : Parts) (p : Page) (given : Option (List Described)) (new : Option Parts) → Puts parts p given new → Conflicts parts p → ⊥
puts_fit parts p None new (inl h) (inl k) = k h.0.0
puts_fit parts p None new (inl h) (inr (inl k)) = k.2 (same_Some k.0 p.segments (same_Some (Some k.0) (Some p.segments) (sym k.1 ∙ h.0.1)))
puts_fit parts p None new (inl h) (inr (inr k)) = there_not_lacking parts p p.segments h.0.1 k.1
puts_fit parts p None new (inr h) (inl k) = k h.0.0
puts_fit parts p None new (inr h) (inr (inl k)) = there_not_lacking parts p k.0 k.1 h.0
puts_fit parts p None new (inr h) (inr (inr k)) = none-some k.0 (sym h.1 ∙ k.2)
puts_fit parts p (Some ds) new h (inl k) = k h.0.0
puts_fit parts p (Some ds) new h (inr (inl k)) = there_not_lacking parts p k.0 k.1 h.0
puts_fit parts p (Some ds) new h (inr (inr k)) = k.3 (subst AreSorted (same_Some ds k.0 (sym h.1 ∙ k.2)) h.2)

-- and what is taken does not conflict
pub takes_fit : (old : Option Parts) (p : Page) (given : Option (List Described)) (new : Option Parts) → Takes old p given new → Refuses old p Conflict → ⊥
takes_fit old p given new (inl h) k = k.0 h.0
takes_fit old p given new (inr h) k = puts_fit (parts_for old p) p given new h.1 k.1
