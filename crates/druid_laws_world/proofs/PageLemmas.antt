-- Pages that come: what true ones give is true, and each is taken in one way, or refused.
use Rattle.std.proofs.Common.{◌≡◌, ◌<◌, ℕ, Bool, true, false, cond, List, [], length, take, Option, Some, None, refl, sym, ap, ◌∙◌, subst, inl, inr, ⊎_elim, arith}
use Rattle.std.specs.Bool.{⊤}
use Rattle.std.specs.List.{slice_get}
use Rattle.std.specs.Option.{option_and_then, option_map}
use Rattle.std.specs.Ordering.{is_lt, ordering_reverse}
use Rattle.std.specs.declared.cmp.Ordering.{Ordering}
use Rattle.std.specs.declared.cmp.Ordering.TheVariants.{Less, Equal, Greater}
use Rattle.std.proofs.lemmas.Option.{same_Some}
use Rattle.druid_base.proofs.OptionLemmas.{chained}
use Rattle.druid_segment_descriptor.specs.Described.{Described}
use Rattle.druid_segment_descriptor.specs.Mark.{Point, never, same_mark, mark_cmp}
use Rattle.druid_segment_descriptor.specs.Orders.{mark_cmp-total}
use Rattle.druid_segment_descriptor.specs.Reply.{max_page, AreSorted}
use Rattle.druid_segment_descriptor.specs.Replay.{IsSegmentSet}
use Rattle.druid_segment_descriptor.specs.declared.reply.Body.{Body}
use Rattle.druid_segment_descriptor.specs.declared.reply.Body.TheVariants as bodies
use Rattle.druid_segment_descriptor.proofs.ReplayLemmas.{replay_from-set}
use Rattle.druid_sync_pages.specs.Pages.{IsCutInto}
use Rattle.druid_sync_pages.specs.Assembly.{Parts, Page, IsPage, AreOf, IsPageOf, IsOutdated, Puts, Takes, no_pages, with_page, parts_for, whole_of}
use Rattle.druid_sync_pages.proofs.SetLemmas.{cut_into, cut_once, set_is_whole, of_none, of_with, is_page}
use Rattle.druid_sync_pages.proofs.TakeLemmas.{tied, begins, passes, put_takes, takes_one, takes_fit}
use Rattle.druid_inventory.specs.Assembly.{IsPageReply, TakesReply, RefusesReply}
use Rattle.druid_inventory.specs.declared.fault.ApplyFault.TheVariants.{PageConflict}
use Rattle.druid_laws_world.specs.World.{Era, Life, IsHonest, IsTruePage, Grows, eras_of, changes_of, set_after, set_at}
use Rattle.druid_laws_world.proofs.ListLemmas.{get_below}
use Rattle.druid_laws_world.proofs.WorldLemmas.{set_after-is, set_at-grows}

-- ---- sets

nothing_served : IsSegmentSet []
nothing_served = record { few = omega arith; sorted = λ k d l. absurd (omega (arith, l)) }

-- what a node served at a mark is a set that it may serve
pub set_at-valid : (eras : List Era) (mark : Point) (ds : List Described) → set_at eras mark ≡ Some ds → IsSegmentSet ds
unfolding set_at
set_at-valid eras mark ds e = by (same_mark mark never) e where
  by : (b : Bool) → cond b (Some []) (option_and_then (λ cs. set_after cs mark.count) (changes_of eras mark.incarnation)) ≡ Some ds → IsSegmentSet ds
  by true f = subst IsSegmentSet (same_Some [] ds f) nothing_served
  by false f =
      let found = chained (λ cs. set_after cs mark.count) (changes_of eras mark.incarnation) ds f in
      replay_from-set [] ds (take mark.count found.0) nothing_served (set_after-is found.0 mark.count ds found.2).1

-- a true page is one of the set at its mark
pub page_is_of : (eras : List Era) (at : Point) (page of : ℕ) (segments : List Described) → (h : IsTruePage eras at page of segments)
    → IsPageOf h.set (record { at = at; page = page; of = of; segments = segments })
page_is_of eras at page of segments h = record { count = subst (IsCutInto (length h.set)) (sym h.count) (cut_into (length h.set)); segments = h.segments_are }

-- ---- pages of one set

-- the pages that came are those of a set that the node served
pub record AreTrueParts (eras : List Era) (parts : Parts) : Type 0 where
  pub set : List Described
  pub there : set_at eras parts.at ≡ Some set
  pub are : AreOf set parts

abbrev pub AreTrue : Life → Option Parts → Type 0
AreTrue life None = ⊤
AreTrue life (Some parts) = AreTrueParts (eras_of life) parts

pub true-grows : (old new : Life) (pages : Option Parts) → Grows old new → AreTrue old pages → AreTrue new pages
true-grows old new None g h = tt
true-grows old new (Some parts) g h = record { set = h.set; there = set_at-grows old new parts.at h.set g h.there; are = h.are }

outdated : (parts : Parts) (p : Page) → mark_cmp parts.at p.at ≡ Greater → IsOutdated (Some parts) p
outdated parts p e = (parts, refl, mark_cmp-total.antisymm p.at parts.at ∙ ap ordering_reverse e)

-- what a page belongs to is of its set
ready : (life : Life) (old : Option Parts) (p : Page) (ds : List Described) → AreTrue life old → set_at (eras_of life) p.at ≡ Some ds → IsPageOf ds p
    → (IsOutdated old p → ⊥) → AreOf ds (parts_for old p) × ((parts_for old p).at ≡ p.at)
ready life None p ds old there is in_time = (of_none ds p.at p.of is.count, refl)
ready life (Some parts) p ds old there is in_time = by (mark_cmp parts.at p.at) refl where
  by : (o : Ordering) → mark_cmp parts.at p.at ≡ o
      → AreOf ds (cond (is_lt o) (no_pages p.at p.of) parts) × ((cond (is_lt o) (no_pages p.at p.of) parts).at ≡ p.at)
  by Less e = (of_none ds p.at p.of is.count, refl)
  by Equal e =
      let same = tied parts.at p.at (sym e) in
      let sets : old.set ≡ ds = same_Some old.set ds (sym old.there ∙ ap (set_at (eras_of life)) same ∙ there) in
      (subst (λ (s : List Described). AreOf s parts) sets old.are, same)
  by Greater e = absurd (in_time (outdated parts p e))

abbrev GivesSet : Option (List Described) → List Described → Type 0
GivesSet None ds = ⊤
GivesSet (Some whole) ds = whole ≡ ds

put_true : (life : Life) (parts : Parts) (p : Page) (ds : List Described) (given : Option (List Described)) (new : Option Parts) → AreOf ds parts
    → set_at (eras_of life) parts.at ≡ Some ds → IsPageOf ds p → Puts parts p given new → AreTrue life new × GivesSet given ds
put_true life parts p ds None new are there is (inl h) = (subst (AreTrue life) (sym h.1) (record { set = ds; there = there; are = are }), tt)
put_true life parts p ds None new are there is (inr h) =
    (subst (AreTrue life) (sym h.2) (record { set = ds; there = there; are = of_with ds parts p are is }), tt)
put_true life parts p ds (Some whole) new are there is h =
    (subst (AreTrue life) (sym h.3) tt, set_is_whole ds whole (with_page parts p.page p.segments) (of_with ds parts p are is) h.1)

takes_true : (life : Life) (old : Option Parts) (p : Page) (ds : List Described) (given : Option (List Described)) (new : Option Parts) → AreTrue life old
    → set_at (eras_of life) p.at ≡ Some ds → IsPageOf ds p → Takes old p given new → AreTrue life new × GivesSet given ds
takes_true life old p ds given new true_old there is (inl h) =
    (subst (AreTrue life) (sym h.2) true_old, subst (λ (g : Option (List Described)). GivesSet g ds) (sym h.1) tt)
takes_true life old p ds given new true_old there is (inr h) =
    let at = ready life old p ds true_old there is h.0 in
    put_true life (parts_for old p) p ds given new at.0 (ap (set_at (eras_of life)) at.1 ∙ there) is h.1

-- what is given is true
abbrev pub IsGivenTrue : Life → Option Body → Type 0
IsGivenTrue life None = ⊤
IsGivenTrue life (Some reply) = IsHonest (eras_of life) reply

-- a true page leaves true ones, and gives a true snapshot
pub take_true : (life : Life) (old : Option Parts) (reply : Body) (given : Option Body) (new : Option Parts) → AreTrue life old → IsHonest (eras_of life) reply
    → TakesReply old reply given new → AreTrue life new × IsGivenTrue life given
take_true life old (bodies.Delta from to changes) given new true_old honest h = absurd h
take_true life old (bodies.Snapshot at ds) given new true_old honest h = absurd h
take_true life old (bodies.Reset cause at) given new true_old honest h = absurd h
take_true life old (bodies.Page at page of segments) given new true_old honest h =
    let p : Page = record { at = at; page = page; of = of; segments = segments } in
    let made = takes_true life old p honest.set h.0 new true_old honest.there (page_is_of (eras_of life) at page of segments honest) h.1 in
    (made.0, subst (IsGivenTrue life) (sym h.2) (whole_true h.0 made.1)) where
      whole_true : (o : Option (List Described)) → GivesSet o honest.set → IsGivenTrue life (option_map (bodies.Snapshot at) o)
      whole_true None e = tt
      whole_true (Some whole) e = subst (λ (s : List Described). set_at (eras_of life) at ≡ Some s) (sym e) honest.there

-- ---- in one way

pub take_one : (old : Option Parts) (reply : Body) (a b : Option Body) (new other : Option Parts) → TakesReply old reply a new → TakesReply old reply b other → (a ≡ b) × (new ≡ other)
take_one old (bodies.Delta from to changes) a b new other h k = absurd h
take_one old (bodies.Snapshot at ds) a b new other h k = absurd h
take_one old (bodies.Reset cause at) a b new other h k = absurd h
take_one old (bodies.Page at page of segments) a b new other h k =
    let one = takes_one old (record { at = at; page = page; of = of; segments = segments }) h.0 k.0 new other h.1 k.1 in
    (h.2 ∙ ap (option_map (bodies.Snapshot at)) one.0 ∙ sym k.2, one.1)

pub take_not_refused : (old : Option Parts) (reply : Body) (given : Option Body) (new : Option Parts) → TakesReply old reply given new → RefusesReply old reply PageConflict → ⊥
take_not_refused old (bodies.Delta from to changes) given new h k = absurd h
take_not_refused old (bodies.Snapshot at ds) given new h k = absurd h
take_not_refused old (bodies.Reset cause at) given new h k = absurd h
take_not_refused old (bodies.Page at page of segments) given new h k =
    takes_fit old (record { at = at; page = page; of = of; segments = segments }) h.0 new h.1 k

pub taken_page : (old : Option Parts) (reply : Body) (given : Option Body) (new : Option Parts) → TakesReply old reply given new → IsPageReply reply
taken_page old (bodies.Delta from to changes) given new h = absurd h
taken_page old (bodies.Snapshot at ds) given new h = absurd h
taken_page old (bodies.Reset cause at) given new h = absurd h
taken_page old (bodies.Page at page of segments) given new h = tt

-- ---- a true page is taken

abbrev CanPut : Parts → Page → Type 0
CanPut parts p = (given : Option (List Described)) × (new : Option Parts) × Puts parts p given new

puts_some : (parts : Parts) (p : Page) (ds : List Described) → AreOf ds parts → IsPageOf ds p → AreSorted ds → p.page < p.of → CanPut parts p
puts_some parts p ds are is sorted within = by found.0 found.1 where
  count : length parts.pages ≡ p.of
  count = cut_once (length ds) (length parts.pages) p.of are.count is.count

  found : (x : Option (List Described)) × (slice_get parts.pages p.page ≡ Some x)
  found = get_below parts.pages p.page (omega (arith, within, count))

  lacks : slice_get parts.pages p.page ≡ Some None → (o : Option (List Described)) → whole_of (with_page parts p.page p.segments).pages ≡ o → CanPut parts p
  lacks e None w = (None, Some (with_page parts p.page p.segments), inr ((count, e), w, refl))
  lacks e (Some whole) w =
      let same = set_is_whole ds whole (with_page parts p.page p.segments) (of_with ds parts p are is) w in
      (Some whole, None, ((count, e), w, subst AreSorted (sym same) sorted, refl))

  by : (x : Option (List Described)) → slice_get parts.pages p.page ≡ Some x → CanPut parts p
  by None e = lacks e (whole_of (with_page parts p.page p.segments).pages) refl
  by (Some segments) e =
      let same : segments ≡ p.segments = are.each p.page segments e ∙ sym is.segments in
      (None, Some parts, inl ((count, e ∙ ap (λ s. Some (Some s)) same), refl))

abbrev CanTake : Option Parts → Page → Type 0
CanTake old p = (given : Option (List Described)) × (new : Option Parts) × Takes old p given new

takes_some : (life : Life) (old : Option Parts) (p : Page) (ds : List Described) → AreTrue life old → set_at (eras_of life) p.at ≡ Some ds → IsPageOf ds p
    → max_page < length ds → p.page < p.of → CanTake old p
takes_some life old p ds true_old there is many within = by old true_old where
  valid : IsSegmentSet ds
  valid = set_at-valid (eras_of life) p.at ds there

  page : IsPage p
  page = is_page ds p valid.sorted valid.few is (omega (arith, many, is.count.enough)) within

  by : (o : Option Parts) → AreTrue life o → CanTake o p
  by None h = (None, _, begins None p page refl)
  by (Some parts) h = by_order (mark_cmp parts.at p.at) refl where
    by_order : (o : Ordering) → mark_cmp parts.at p.at ≡ o → CanTake (Some parts) p
    by_order Less e = (None, _, begins (Some parts) p page (sym e))
    by_order Greater e = (None, Some parts, passes (Some parts) p (sym e))
    by_order Equal e =
        let same = tied parts.at p.at (sym e) in
        let sets : h.set ≡ ds = same_Some h.set ds (sym h.there ∙ ap (set_at (eras_of life)) same ∙ there) in
        let put = puts_some parts p ds (subst (λ (s : List Described). AreOf s parts) sets h.are) is valid.sorted within in
        (put.0, put.1, put_takes (Some parts) p put.0 put.1 (sym e) (parts, refl, same, put.2))

abbrev pub CanTakeReply : Option Parts → Body → Type 0
CanTakeReply old reply = (given : Option Body) × (new : Option Parts) × TakesReply old reply given new

pub take_some : (life : Life) (old : Option Parts) (reply : Body) → AreTrue life old → IsHonest (eras_of life) reply → IsPageReply reply → CanTakeReply old reply
take_some life old (bodies.Delta from to changes) true_old honest is = absurd is
take_some life old (bodies.Snapshot at ds) true_old honest is = absurd is
take_some life old (bodies.Reset cause at) true_old honest is = absurd is
take_some life old (bodies.Page at page of segments) true_old honest is =
    let p : Page = record { at = at; page = page; of = of; segments = segments } in
    let made = takes_some life old p honest.set true_old honest.there (page_is_of (eras_of life) at page of segments honest) honest.several honest.within in
    (option_map (bodies.Snapshot at) made.0, made.1, (made.0, made.2, refl))

-- ---- in the steps of the code
