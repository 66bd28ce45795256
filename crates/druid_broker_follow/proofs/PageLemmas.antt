-- Pages that are asked for one after another.
use Rattle.std.proofs.Common.{◌≡◌, ◌≢◌, ◌⊎◌, ◌+◌, ◌-◌, ◌<◌, ◌≤◌, ℕ, zero, suc, List, [], ◌∷◌, ◌++◌, length, map, replicate, Option, Some, None, Result, Ok, Err, option_map, refl, sym, ap, ◌∙◌, subst, inl, inr, ⊎_elim, arith, if◌then◌else◌}
use Rattle.std.specs.List.{slice_get}
use Rattle.std.specs.Prelude.{slice_set}
use Rattle.std.specs.Ordering.{is_lt}
use Rattle.std.specs.declared.cmp.Ordering.{Ordering}
use Rattle.std.specs.declared.cmp.Ordering.TheVariants.{Less, Equal}
use Rattle.std.proofs.lemmas.Option.{same_Some, none-some}
use Rattle.std.proofs.lemmas.List.{append-nil, length-append, length-replicate}
use Rattle.druid_segment_descriptor.proofs.SortedLemmas.{mark_cmp-same}
use Rattle.druid_segment_descriptor.specs.Described.{Described}
use Rattle.druid_segment_descriptor.specs.Mark.{Point, mark_cmp}
use Rattle.druid_segment_descriptor.specs.Reply.{AreSorted}
use Rattle.druid_segment_descriptor.specs.declared.change.Ask.{Ask}
use Rattle.druid_segment_descriptor.specs.declared.change.Ask.TheVariants as asks
use Rattle.druid_segment_descriptor.specs.declared.reply.Body.{Body}
use Rattle.druid_segment_descriptor.specs.declared.reply.Body.TheVariants.{Delta, Snapshot, Page, Reset}
use Rattle.druid_sync_pages.specs.Assembly.{Parts, IsOutdated, Conflicts, Puts, Takes, no_pages, with_page, parts_for, whole_of}
use Rattle.druid_inventory.specs.Assembly.{Gives, PageRefused, TakesReply, RefusesReply}
use Rattle.druid_inventory.specs.declared.fault.ApplyFault.{ApplyFault}
use Rattle.druid_inventory.specs.declared.fault.ApplyFault.TheVariants as apply
use Rattle.druid_link.specs.Links.{Came}
use Rattle.druid_http_message.specs.Requests.{RequestValue}
use Rattle.druid_broker_follow.specs.Turns.{IsReported, Fetches, Exchanges, pages_from, IsPageAt, DiffersFrom, RefusesPage, Completes, FollowsPages}
use Rattle.druid_broker_follow.specs.Pages.{as_page, place_of, segments_of, turn_fault, first_pages, PutsPage, RefusesPut, LosesPage, HaveCome}
use Rattle.druid_broker_follow.specs.declared.fault.TurnFault.{TurnFault}
use Rattle.druid_broker_follow.specs.declared.fault.TurnFault.TheVariants as turn

abbrev Pages : Type 0
Pages = List (Option (List Described))

-- ---- marks

apart : Path Ordering Equal Less → ⊥
apart e = cc

never_before : (at : Point) → mark_cmp at at ≡ Less → ⊥
never_before at less = apart (sym (mark_cmp-same at) ∙ less)

-- ---- the first pages

first_length : (come : List (List Described)) (left : ℕ) → length (map Some come ++ replicate {A = Option (List Described)} left None) ≡ length come + left
first_length [] left = let none : left ≡ 0 + left = omega arith in length-replicate {A = Option (List Described)} left None ∙ none
first_length (s ∷ come) left = let rest = first_length come left in omega (arith, rest)

none_next : (come : List (List Described)) (left : ℕ) → slice_get (map Some come ++ replicate {A = Option (List Described)} (suc left) None) (length come) ≡ Some None
none_next [] left = refl
none_next (s ∷ come) left = none_next come left

put_next : (come : List (List Described)) (left : ℕ) (s : List Described)
    → slice_set (map Some come ++ replicate {A = Option (List Described)} (suc left) None) (length come) (Some s) ≡ map Some (come ++ s ∷ []) ++ replicate {A = Option (List Described)} left None
put_next [] left s = refl
put_next (c ∷ come) left s = ap (λ (pages : Pages). Some c ∷ pages) (put_next come left s)

-- where one has not come there is no whole
lacks_one : (come : List (List Described)) (left : ℕ) → whole_of (map Some come ++ replicate {A = Option (List Described)} (suc left) None) ≡ None
lacks_one [] left = refl
lacks_one (s ∷ come) left = ap (option_map (λ (rest : List Described). s ++ rest)) (lacks_one come left)

-- and where all have come there is one
whole_is_there : (come : List (List Described)) → (set : List Described) × (whole_of (map Some come) ≡ Some set)
whole_is_there [] = ([], refl)
whole_is_there (s ∷ come) =
    let rest = whole_is_there come in (s ++ rest.0, ap (option_map (λ (back : List Described). s ++ back)) rest.1)

more_lack : (come : List (List Described)) (left : ℕ) → whole_of (map Some come ++ replicate {A = Option (List Described)} left None) ≡ None → (less : ℕ) × (left ≡ suc less)
more_lack come zero none =
    let all = whole_is_there come in absurd (none-some all.0 (sym none ∙ ap whole_of (append-nil (map Some come)) ∙ all.1))
more_lack come (suc less) none = (less, refl)

none_lacks : (come : List (List Described)) (left : ℕ) (set : List Described) → whole_of (map Some come ++ replicate {A = Option (List Described)} left None) ≡ Some set
    → (left ≡ 0) × (whole_of (map Some come) ≡ Some set)
none_lacks come zero set whole = (refl, sym (ap whole_of (append-nil (map Some come))) ∙ whole)
none_lacks come (suc less) set whole = absurd (none-some set (sym (lacks_one come less) ∙ whole))

-- ---- the next page, put to the first ones

module _ (at : Point) (come : List (List Described)) (left page of : ℕ) (s : List Described) (next : length come ≡ page) where
  slot : slice_get (first_pages at come (suc left)).pages page ≡ Some None
  slot = subst (λ (n : ℕ). slice_get (first_pages at come (suc left)).pages n ≡ Some None) next (none_next come left)

  put : with_page (first_pages at come (suc left)) page s ≡ first_pages at (come ++ s ∷ []) left
  put = subst (λ (n : ℕ). with_page (first_pages at come (suc left)) n s ≡ first_pages at (come ++ s ∷ []) left) next
      (ap (λ (pages : Pages). record { at = at; pages = pages }) (put_next come left s))

  not_there : (segments : List Described) → slice_get (first_pages at come (suc left)).pages page ≡ Some (Some segments) → ⊥
  not_there segments there = none-some segments (same_Some None (Some segments) (sym slot ∙ there))

  put_whole : whole_of (with_page (first_pages at come (suc left)) page s).pages ≡ whole_of (map Some (come ++ s ∷ []) ++ replicate {A = Option (List Described)} left None)
  put_whole = ap (λ (parts : Parts). whole_of parts.pages) put

  counted : length (first_pages at come (suc left)).pages ≡ of → length come + suc left ≡ of
  counted long = sym (first_length come (suc left)) ∙ long

  -- it is kept where others lack
  pub kept_next : (new : Option Parts) → Puts (first_pages at come (suc left)) (as_page at page of s) None new
      → (less : ℕ) × (left ≡ suc less) × (length come + suc left ≡ of) × (new ≡ Some (first_pages at (come ++ s ∷ []) left))
  kept_next new (inl there) = absurd (not_there s there.0.1)
  kept_next new (inr lacking) =
      let more = more_lack (come ++ s ∷ []) left (sym put_whole ∙ lacking.1) in
      (more.0, more.1, counted lacking.0.0, lacking.2 ∙ ap Some put)

  -- and else the whole is given
  pub given_last : (set : List Described) (new : Option Parts) → Puts (first_pages at come (suc left)) (as_page at page of s) (Some set) new
      → (left ≡ 0) × (length come + suc left ≡ of) × (whole_of (map Some (come ++ s ∷ [])) ≡ Some set) × AreSorted set
  given_last set new puts =
      let none = none_lacks (come ++ s ∷ []) left set (sym put_whole ∙ puts.1) in
      (none.0, counted puts.0.0, none.1, puts.2)

  -- why it conflicts
  pub conflicts_next : Conflicts (first_pages at come (suc left)) (as_page at page of s)
      → (length come + suc left ≢ of)
      ⊎ ((left ≡ 0) × (length come + suc left ≡ of) × (set : List Described) × (whole_of (map Some (come ++ s ∷ [])) ≡ Some set) × (AreSorted set → ⊥))
  conflicts_next (inl other) = inl (λ same. other (first_length come (suc left) ∙ same))
  conflicts_next (inr (inl differs)) = absurd (not_there differs.0 differs.1)
  conflicts_next (inr (inr falls)) =
      let none = none_lacks (come ++ s ∷ []) left falls.0 (sym put_whole ∙ falls.2) in
      inr (none.0, counted falls.1.0, falls.0, none.1, falls.3)

  -- to the first ones, which are of its mark
  belongs : parts_for (Some (first_pages at come (suc left))) (as_page at page of s) ≡ first_pages at come (suc left)
  belongs = ap (λ (o : Ordering). if is_lt o then no_pages at of else first_pages at come (suc left)) (mark_cmp-same at)

  not_outdated : IsOutdated (Some (first_pages at come (suc left))) (as_page at page of s) → ⊥
  not_outdated (parts, is, less) =
      never_before at (subst (λ (q : Parts). mark_cmp at q.at ≡ Less) (sym (same_Some (first_pages at come (suc left)) parts is)) less)

  pub puts_next : (given : Option (List Described)) (new : Option Parts) → Takes (Some (first_pages at come (suc left))) (as_page at page of s) given new
      → Puts (first_pages at come (suc left)) (as_page at page of s) given new
  puts_next given new (inl outdated) = absurd (not_outdated outdated.0)
  puts_next given new (inr puts) = subst (λ (q : Parts). Puts q (as_page at page of s) given new) belongs puts.1

  pub refused_next : Conflicts (parts_for (Some (first_pages at come (suc left))) (as_page at page of s)) (as_page at page of s)
      → Conflicts (first_pages at come (suc left)) (as_page at page of s)
  refused_next conflicts = subst (λ (q : Parts). Conflicts q (as_page at page of s)) belongs conflicts

-- ---- page 0

-- what a page says is its place
page_says : (a b : Point) (j k m n : ℕ) → Path (Option (Point × ℕ × ℕ)) (Some (a, j, m)) (Some (b, k, n)) → (a ≡ b) × (j ≡ k) × (m ≡ n)
page_says a b j k m n e = let same = same_Some (a, j, m) (b, k, n) e in (ap (λ (p : Point × ℕ × ℕ). p.0) same, ap (λ (p : Point × ℕ × ℕ). p.1) same, ap (λ (p : Point × ℕ × ℕ). p.2) same)

-- what is given for a page of one body and of another of the same place
pub is_page_reply : (reply : Body) (at : Point) (page of : ℕ) → place_of reply ≡ Some (at, page, of) → reply ≡ Page at page of (segments_of reply)
is_page_reply (Delta from to changes) at page of e = absurd (none-some (at, page, of) e)
is_page_reply (Snapshot a segments) at page of e = absurd (none-some (at, page, of) e)
is_page_reply (Page a k m segments) at page of e =
    let same = page_says a at k page m of e in λ i. Page (same.0 i) (same.1 i) (same.2 i) segments
is_page_reply (Reset cause a) at page of e = absurd (none-some (at, page, of) e)

-- several pages are one and others
others_of : (of : ℕ) → 2 ≤ of → (left : ℕ) × (of ≡ suc (suc left))
others_of zero several = absurd (omega (arith, several))
others_of (suc zero) several = absurd (omega (arith, several))
others_of (suc (suc left)) several = (left, refl)

module _ (at : Point) (of : ℕ) (s : List Described) (others : ℕ) (of_is : of ≡ suc (suc others)) where
  into_none : parts_for None (as_page at 0 of s) ≡ first_pages at [] (suc (suc others))
  into_none = ap (λ (n : ℕ). no_pages at n) of_is

  first_kept : (new : Option Parts) → Takes None (as_page at 0 of s) None new → new ≡ Some (first_pages at (s ∷ []) (of - 1))
  first_kept new (inl outdated) = absurd (none-some outdated.0.0 outdated.0.1)
  first_kept new (inr puts) =
      let kept = kept_next at [] (suc others) 0 of s refl new (subst (λ (q : Parts). Puts q (as_page at 0 of s) None new) into_none puts.1) in
      let left : suc others ≡ of - 1 = omega (arith, of_is) in
      kept.3 ∙ ap (λ (n : ℕ). Some (first_pages at (s ∷ []) n)) left

  first_not_given : (set : List Described) (new : Option Parts) → Takes None (as_page at 0 of s) (Some set) new → ⊥
  first_not_given set new (inl outdated) = absurd (none-some outdated.0.0 outdated.0.1)
  first_not_given set new (inr puts) =
      let last = given_last at [] (suc others) 0 of s refl set new (subst (λ (q : Parts). Puts q (as_page at 0 of s) (Some set) new) into_none puts.1) in
      let none = last.0 in absurd (omega (arith, none))

  first_fits : Conflicts (parts_for None (as_page at 0 of s)) (as_page at 0 of s) → ⊥
  first_fits conflicts = by (conflicts_next at [] (suc others) 0 of s refl (subst (λ (q : Parts). Conflicts q (as_page at 0 of s)) into_none conflicts))
    where
      by : (length {A = List Described} [] + suc (suc others) ≢ of) ⊎ ((suc others ≡ 0) × (length {A = List Described} [] + suc (suc others) ≡ of) × (set : List Described)
          × (whole_of (map Some (s ∷ [])) ≡ Some set) × (AreSorted set → ⊥)) → ⊥
      by (inl other) = other (let is = of_is in omega (arith, is))
      by (inr last) = let none = last.0 in omega (arith, none)

  given_none : (given : Option (List Described)) → Path (Option Body) None (option_map (λ (set : List Described). Snapshot at set) given) → given ≡ None
  given_none None e = refl
  given_none (Some set) e = absurd (none-some (Snapshot at set) e)

-- page 0, alone, is kept
pub begin_keeps : (reply : Body) (at : Point) (of : ℕ) (new : Option Parts) → place_of reply ≡ Some (at, 0, of) → 2 ≤ of → TakesReply None reply None new
    → new ≡ Some (first_pages at (segments_of reply ∷ []) (of - 1))
begin_keeps reply at of new is several takes =
    let s = segments_of reply in
    let (others, of_is) = others_of of several in
    let (given, taken, none) = subst (λ (body : Body). TakesReply None body None new) (is_page_reply reply at 0 of is) takes in
    first_kept at of s others of_is new (subst (λ (g : Option (List Described)). Takes None (as_page at 0 of s) g new) (given_none at of s others of_is given none) taken)

-- and gives nothing
pub begin_gives_none : (reply snapshot : Body) (at : Point) (of : ℕ) (new : Option Parts) → place_of reply ≡ Some (at, 0, of) → 2 ≤ of → TakesReply None reply (Some snapshot) new → ⊥
begin_gives_none reply snapshot at of new is several takes =
    by (subst (λ (body : Body). TakesReply None body (Some snapshot) new) (is_page_reply reply at 0 of is) takes)
  where
    by : Gives None (as_page at 0 of (segments_of reply)) (Some snapshot) new → ⊥
    by (None, taken, given) = none-some snapshot (sym given)
    by (Some set, taken, given) = let (others, of_is) = others_of of several in first_not_given at of (segments_of reply) others of_is set new taken

-- nor is it refused, but where memory runs out
pub begin_fault : (reply : Body) (at : Point) (of : ℕ) (fault : TurnFault) → place_of reply ≡ Some (at, 0, of) → 2 ≤ of
    → ((refusal : ApplyFault) × RefusesReply None reply refusal × (fault ≡ turn_fault refusal)) → fault ≡ turn.Memory
begin_fault reply at of fault is several (refusal, refuses, reported) =
    reported ∙ by refusal (subst (λ (body : Body). RefusesReply None body refusal) (is_page_reply reply at 0 of is) refuses)
  where
    by : (refusal : ApplyFault) → PageRefused None (as_page at 0 of (segments_of reply)) refusal → turn_fault refusal ≡ turn.Memory
    by apply.UnknownNode h = absurd h
    by apply.OtherIncarnation h = absurd h
    by apply.Gap h = absurd h
    by (apply.NotStrict index) h = absurd h
    by apply.TooMany h = absurd h
    by apply.Conflict h = absurd h
    by apply.PageConflict h = let (others, of_is) = others_of of several in absurd (first_fits at of (segments_of reply) others of_is h.1)
    by apply.Memory h = refl

-- ---- the others

module _ {L : Type 0} (step : L → List ℕ → Came → L → Type 0) (request : Ask → RequestValue) (at : Point) (of : ℕ) where
  one_more : (sent : List (RequestValue × Body)) (x : RequestValue × Body) (old between new : L) → Exchanges step sent old between → IsReported step x.0 between new (Ok x.1)
      → Exchanges step (sent ++ x ∷ []) old new
  one_more [] x old between new same exchange = (new, subst (λ (l : L). IsReported step x.0 l new (Ok x.1)) same exchange, refl)
  one_more (y ∷ sent) x old between new (mid, first, rest) exchange = (mid, first, one_more sent x mid between new rest exchange)

  abbrev page_of : ℕ → List Described → RequestValue × Body
  page_of page s = (request (asks.Page at page), Page at page of s)

  pages_more : (come : List (List Described)) (s : List Described) (page : ℕ)
      → pages_from request at of page (come ++ s ∷ []) ≡ pages_from request at of page come ++ page_of (page + length come) s ∷ []
  pages_more [] s page = let e : page ≡ page + length {A = List Described} [] = omega arith in ap (λ (n : ℕ). page_of n s ∷ []) e
  pages_more (c ∷ come) s page =
      let e : suc page + length come ≡ page + length (c ∷ come) = omega arith in
      ap (λ (rest : List (RequestValue × Body)). page_of page c ∷ rest)
      (pages_more come s (suc page) ∙ ap (λ (n : ℕ). pages_from request at of (suc page) come ++ page_of n s ∷ []) e)

  module _ (first : List Described) where
    -- page 0 has come
    pub have_first : (parts : Option Parts) (old : L) → 2 ≤ of → parts ≡ Some (first_pages at (first ∷ []) (of - 1)) → HaveCome step request at of first 1 parts old old
    have_first parts old several is =
        let (left, of_is) = others_of of several in
        let same : of - 1 ≡ suc left = omega (arith, of_is) in
        record {
          come = [];
          left = left;
          count = refl;
          lacking = omega (arith, of_is);
          parts = is ∙ ap (λ (n : ℕ). Some (first_pages at (first ∷ []) n)) same;
          asked = refl;
        }

    -- not all pages have come
    pub some_lack : (parts : Option Parts) (old new : L) → HaveCome step request at of first of parts old new → ⊥
    some_lack parts old new have = let l = have.lacking in omega (arith, l)

    module _ (page : ℕ) (parts : Option Parts) (old between : L) (have : HaveCome step request at of first page parts old between) where
      next : length (first ∷ have.come) ≡ page
      next = let c = have.count in omega (arith, c)

      of_mark : (other : ℕ) (s : List Described) (given : Option (List Described)) (after : Option Parts) → Takes parts (as_page at page other s) given after
          → Puts (first_pages at (first ∷ have.come) (suc have.left)) (as_page at page other s) given after
      of_mark other s given after takes =
          puts_next at (first ∷ have.come) have.left page other s next given after
          (subst (λ (q : Option Parts). Takes q (as_page at page other s) given after) have.parts takes)

      same_count : (other : ℕ) → length (first ∷ have.come) + suc have.left ≡ other → other ≡ of
      same_count other is = let n = next in let l = have.lacking in omega (arith, is, n, l)

      asked_with : (new : L) (other : ℕ) (s : List Described) → other ≡ of → IsReported step (request (asks.Page at page)) between new (Ok (Page at page other s))
          → Exchanges step (pages_from request at of 1 (have.come ++ s ∷ [])) old new
      asked_with new other s same exchange =
          let here : page ≡ 1 + length have.come = sym have.count in
          subst (λ (sent : List (RequestValue × Body)). Exchanges step sent old new) (sym (pages_more have.come s 1))
          (one_more (pages_from request at of 1 have.come) (page_of (1 + length have.come) s) old between new have.asked
          (subst (λ (n : ℕ). IsReported step (request (asks.Page at n)) between new (Ok (Page at n of s))) here
          (subst (λ (n : ℕ). IsReported step (request (asks.Page at page)) between new (Ok (Page at page n s))) same exchange)))

      kept_by : (after : Option Parts) (new : L) (other : ℕ) (s : List Described) (set : Option (List Described)) → IsReported step (request (asks.Page at page)) between new (Ok (Page at page other s))
          → Takes parts (as_page at page other s) set after → Path (Option Body) None (option_map (λ (set : List Described). Snapshot at set) set)
          → HaveCome step request at of first (page + 1) after old new
      kept_by after new other s (Some set) exchange takes none = absurd (none-some (Snapshot at set) none)
      kept_by after new other s None exchange takes none =
          let (less, left_is, long, is) = kept_next at (first ∷ have.come) have.left page other s next after (of_mark other s None after takes) in
          let l = have.lacking in
          let c = have.count in
          let n = length-append have.come (s ∷ []) in
          record {
            come = have.come ++ s ∷ [];
            left = less;
            count = omega (arith, c, n);
            lacking = omega (arith, l, left_is);
            parts = is ∙ ap (λ (m : ℕ). Some (first_pages at (first ∷ have.come ++ s ∷ []) m)) left_is;
            asked = asked_with new other s (same_count other long) exchange;
          }

      -- one page more
      pub goes_on : (after : Option Parts) (new : L) → PutsPage step request at page parts after between new None → HaveCome step request at of first (page + 1) after old new
      goes_on after new (other, s, exchange, (set, takes, none)) = kept_by after new other s set exchange takes none

      given_by : (after : Option Parts) (new : L) (reply : Body) (other : ℕ) (s : List Described) (set : Option (List Described)) → IsReported step (request (asks.Page at page)) between new (Ok (Page at page other s))
          → Takes parts (as_page at page other s) set after → Path (Option Body) (Some reply) (option_map (λ (set : List Described). Snapshot at set) set)
          → Completes step request at of first old new (Ok reply)
      given_by after new reply other s None exchange takes given = absurd (none-some reply (sym given))
      given_by after new reply other s (Some set) exchange takes given =
          let (none, long, whole, sorted) = given_last at (first ∷ have.come) have.left page other s next set after (of_mark other s (Some set) after takes) in
          let l = have.lacking in
          let c = have.count in
          let n = length-append have.come (s ∷ []) in (
            have.come ++ s ∷ [],
            set,
            record { all = omega (arith, l, c, n, none); whole = whole; sorted = sorted },
            asked_with new other s (same_count other long) exchange,
            same_Some reply (Snapshot at set) given,
          )

      -- the last one gives the snapshot
      pub completes : (after : Option Parts) (new : L) (reply : Body) → PutsPage step request at page parts after between new (Some reply) → Completes step request at of first old new (Ok reply)
      completes after new reply (other, s, exchange, (set, takes, given)) = given_by after new reply other s set exchange takes given

      within : 1 + length have.come < of
      within = let l = have.lacking in let c = have.count in omega (arith, l, c)

      here : page ≡ 1 + length have.come
      here = sym have.count

      -- the next one does not come
      pub loses : (new : L) (fault : TurnFault) → LosesPage step request at page between new fault → Completes step request at of first old new (Err fault)
      loses new fault (inl fetches) =
          (have.come, between, within, have.asked, inl (subst (λ (n : ℕ). Fetches step (request (asks.Page at n)) between new (Err fault)) here fetches))
      loses new fault (inr (reply, exchange, lost, other)) =
          subst (λ (f : TurnFault). Completes step request at of first old new (Err f)) (sym lost) (
            have.come,
            between,
            within,
            have.asked,
            inr (
              reply,
              subst (λ (n : ℕ). IsReported step (request (asks.Page at n)) between new (Ok reply)) here exchange,
              subst (λ (n : ℕ). IsPageAt at n reply → ⊥) here other,
            ),
          )

      by_reply : (new : L) (other : ℕ) (s : List Described) (fault : TurnFault) → IsReported step (request (asks.Page at page)) between new (Ok (Page at page other s))
          → RefusesPage at of first have.come (Page at page other s) fault → Completes step request at of first old new (Err fault)
      by_reply new other s fault exchange refuses =
          (have.come, between, within, have.asked, inr (Page at page other s, subst (λ (n : ℕ). IsReported step (request (asks.Page at n)) between new (Ok (Page at page other s))) here exchange, refuses))

      same_page : (other : ℕ) (s : List Described) → Page at page other s ≡ Page at (1 + length have.come) other s
      same_page other s = ap (λ (n : ℕ). Page at n other s) here

      differs : (other : ℕ) (s : List Described)
          → (length (first ∷ have.come) + suc have.left ≢ other)
          ⊎ ((have.left ≡ 0) × (length (first ∷ have.come) + suc have.left ≡ other) × (set : List Described)
          × (whole_of (map Some (first ∷ have.come ++ s ∷ [])) ≡ Some set) × (AreSorted set → ⊥))
          → DiffersFrom at of first have.come (Page at page other s)
      differs other s (inl apart) =
          let n = next in let l = have.lacking in
          let all : length (first ∷ have.come) + suc have.left ≡ of = omega (arith, n, l) in
          (other, s, same_page other s, inl (λ same. apart (all ∙ sym same)))
      differs other s (inr (none, long, set, whole, falls)) =
          let l = have.lacking in let c = have.count in
          (other, s, same_page other s, inr (omega (arith, l, c, none), set, whole, falls))

      same_body : (other m : ℕ) (s t : List Described) → Page at page other s ≡ Page at (1 + length have.come) m t → (other ≡ m) × (s ≡ t)
      same_body other m s t e = ((page_says at at page (1 + length have.come) other m (ap place_of e)).2, ap segments_of e)

      -- a page that is taken is of the snapshot
      fits_with : (other : ℕ) (s : List Described) (given : Option (List Described)) (after : Option Parts) → Takes parts (as_page at page other s) given after
          → DiffersFrom at of first have.come (Page at page other s) → ⊥
      fits_with other s None after takes (m, t, body, why) =
          let (less, left_is, long, _) = kept_next at (first ∷ have.come) have.left page other s next after (of_mark other s None after takes) in
          let same = same_body other m s t body in
          let l = have.lacking in let c = have.count in
          ⊎_elim (λ apart. apart (sym same.0 ∙ same_count other long)) (λ last. let n = last.0 in omega (arith, l, c, left_is, n)) why
      fits_with other s (Some set) after takes (m, t, body, why) =
          let (none, long, whole, sorted) = given_last at (first ∷ have.come) have.left page other s next set after (of_mark other s (Some set) after takes) in
          let same = same_body other m s t body in
          ⊎_elim (λ apart. apart (sym same.0 ∙ same_count other long))
          (λ last. last.3 (subst AreSorted (same_Some set last.1
          (sym whole ∙ ap (λ (u : List Described). whole_of (map Some (first ∷ have.come ++ u ∷ []))) same.1 ∙ last.2)) sorted)) why

      refused_as : (new : L) (other : ℕ) (s : List Described) (refusal : ApplyFault) → IsReported step (request (asks.Page at page)) between new (Ok (Page at page other s))
          → PageRefused parts (as_page at page other s) refusal → Completes step request at of first old new (Err (turn_fault refusal))
      refused_as new other s apply.UnknownNode exchange h = absurd h
      refused_as new other s apply.OtherIncarnation exchange h = absurd h
      refused_as new other s apply.Gap exchange h = absurd h
      refused_as new other s (apply.NotStrict index) exchange h = absurd h
      refused_as new other s apply.TooMany exchange h = absurd h
      refused_as new other s apply.Conflict exchange h = absurd h
      refused_as new other s apply.PageConflict exchange h =
          by_reply new other s (turn.Apply apply.PageConflict) exchange
          (differs other s (conflicts_next at (first ∷ have.come) have.left page other s next
          (refused_next at (first ∷ have.come) have.left page other s next
          (subst (λ (q : Option Parts). Conflicts (parts_for q (as_page at page other s)) (as_page at page other s)) have.parts h.1))))
      refused_as new other s apply.Memory exchange h = by_reply new other s turn.Memory exchange ((other, s, same_page other s), fits_with other s h.0 h.1 h.2)

      -- or is refused
      pub refuses : (new : L) (fault : TurnFault) → RefusesPut step request at page parts between new fault → Completes step request at of first old new (Err fault)
      refuses new fault (other, s, refusal, exchange, refused, is) =
          subst (λ (f : TurnFault). Completes step request at of first old new (Err f)) (sym is) (refused_as new other s refusal exchange refused)

      pub stops : (new : L) (fault : TurnFault) → LosesPage step request at page between new fault ⊎ RefusesPut step request at page parts between new fault
          → Completes step request at of first old new (Err fault)
      stops new fault (inl lost) = loses new fault lost
      stops new fault (inr refused) = refuses new fault refused

    -- memory was refused for page 0
    pub never_begun : (old : L) → 2 ≤ of → Completes step request at of first old old (Err turn.Memory)
    never_begun old several = ([], old, omega (arith, several), refl, inl (inr (refl, refl)))

-- ---- what a reply leads to

module _ {L : Type 0} (step : L → List ℕ → Came → L → Type 0) (request : Ask → RequestValue) (old new : L) where
  -- a reply that is no page is the answer
  pub follows_none : (reply : Body) → None ≡ place_of reply → FollowsPages step request reply old old (Ok reply)
  follows_none (Delta from to changes) is = (refl, refl)
  follows_none (Snapshot at segments) is = (refl, refl)
  follows_none (Page at page of segments) is = absurd (none-some (at, page, of) is)
  follows_none (Reset cause at) is = (refl, refl)

  other_page : (reply : Body) (at : Point) (page of : ℕ) (s : List Described) → reply ≡ Page at page of s → page ≢ 0 → FollowsPages step request reply old old (Err turn.PageLost)
  other_page reply at zero of s is other = absurd (other refl)
  other_page reply at (suc page) of s is other = subst (λ (body : Body). FollowsPages step request body old old (Err turn.PageLost)) (sym is) (refl, refl)

  -- a page other than page 0 was not asked for
  pub follows_other : (reply : Body) (at : Point) (page of : ℕ) → Some (at, page, of) ≡ place_of reply → page ≢ 0 → FollowsPages step request reply old old (Err turn.PageLost)
  follows_other reply at page of is other = other_page reply at page of (segments_of reply) (is_page_reply reply at page of (sym is)) other

  -- page 0 is followed by the others
  pub follows_first : (reply : Body) (at : Point) (page of : ℕ) (answer : Result Body TurnFault) → Some (at, page, of) ≡ place_of reply → page ≡ 0
      → Completes step request at of (segments_of reply) old new answer → FollowsPages step request reply old new answer
  follows_first reply at page of answer is zeroth completed =
      let same = is_page_reply reply at page of (sym is) ∙ ap (λ (n : ℕ). Page at n of (segments_of reply)) zeroth in
      subst (λ (body : Body). FollowsPages step request body old new answer) (sym same) completed
