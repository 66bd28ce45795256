-- What a broker fetches over a link over which asks are answered honestly is honest.
use Rattle.std.proofs.Common.{◌≡◌, ◌+◌, ◌<◌, ◌≤◌, ◌^◌, ℕ, nat_eq, zero, suc, Bool, true, false, cond, List, [], ◌∷◌, length, map, Option, Some, None, Result, Ok, Err, refl, sym, ap, ◌∙◌, subst, inl, inr, arith}
use Rattle.std.specs.Bool.{⊤}
use Rattle.std.specs.List.{AllByRecursion, slice_get}
use Rattle.std.proofs.lemmas.Bool.{eqb-true}
use Rattle.std.proofs.lemmas.List.{length-map}
use Rattle.std.proofs.lemmas.Option.{same_Some, none-some}
use Rattle.druid_segment_descriptor.specs.Described.{Described}
use Rattle.druid_segment_descriptor.specs.Mark.{Point, IsWord, never}
use Rattle.druid_segment_descriptor.specs.Reply.{max_pages}
use Rattle.druid_segment_descriptor.specs.ReplyBody.{IsSnapshotOf}
use Rattle.druid_segment_descriptor.specs.declared.change.Ask.{Ask}
use Rattle.druid_segment_descriptor.specs.declared.change.Ask.TheVariants as asks
use Rattle.druid_segment_descriptor.specs.declared.change.Change.{Change}
use Rattle.druid_segment_descriptor.specs.declared.reply.Body.{Body}
use Rattle.druid_segment_descriptor.specs.declared.reply.Body.TheVariants as bodies
use Rattle.druid_sync_text.specs.Read.{Form, followed, whole, paged, begun_again, Answers}
use Rattle.druid_sync_pages.specs.Pages.{page_at, IsCutInto}
use Rattle.druid_sync_pages.specs.Assembly.{Parts, AreOf}
use Rattle.druid_sync_pages.proofs.SetLemmas.{cut_into, set_is_whole}
use Rattle.druid_inventory.specs.Entry.{Entry, ask_of}
use Rattle.druid_link.specs.Links.{Came}
use Rattle.druid_http_message.specs.Requests.{RequestValue}
use Rattle.druid_http_wire.specs.Written.{request_text}
use Rattle.druid_broker_follow.specs.Turns.{Exchanges, pages_from, Completes, FollowsPages, IsAsked, IsFetched, IsFetchedFrom, IsReported, ask_request}
use Rattle.druid_broker_follow.specs.declared.fault.TurnFault.{TurnFault}
use Rattle.druid_laws_world.specs.World.{CameTo, Era, Life, IsHonest, IsLife, IsTruePage, changes_of, eras_of, set_at}
use Rattle.druid_laws_world.proofs.WorldLemmas.{came_to, from_one}
use Rattle.druid_laws_headline.specs.Headline.{AnswersHonestly, HasText, HasWords, Leads}
use Rattle.druid_laws_headline.proofs.HonestLemmas.{same_ok}

-- ---- the numbers of the asks for pages

-- of incarnations with words
words_of : (eras : List Era) (i : ℕ) (cs : List Change) → AllByRecursion (λ era. (era.incarnation < 2 ^ 64) × (length era.changes < 2 ^ 64)) eras
    → changes_of eras i ≡ Some cs → (i < 2 ^ 64) × (length cs < 2 ^ 64)
words_of [] i cs all e = absurd (none-some cs e)
words_of (era ∷ eras) i cs all e = by_test (words_of eras i cs all.1) (nat_eq era.incarnation i) refl e where
  by_test : (changes_of eras i ≡ Some cs → (i < 2 ^ 64) × (length cs < 2 ^ 64)) → (b : Bool) → nat_eq era.incarnation i ≡ b
      → cond b (Some era.changes) (changes_of eras i) ≡ Some cs → (i < 2 ^ 64) × (length cs < 2 ^ 64)
  by_test rest true is f =
      (subst (λ (n : ℕ). n < 2 ^ 64) (eqb-true era.incarnation i is) all.0.0, subst (λ (xs : List Change). length xs < 2 ^ 64) (same_Some era.changes cs f) all.0.1)
  by_test rest false is f = rest f

-- who was never synced has nothing
never_set : (eras : List Era) (ds : List Described) → set_at eras never ≡ Some ds → ds ≡ []
unfolding set_at
never_set eras ds e = sym (same_Some [] ds e)

-- the mark of a page is one of the node
mark_words : (life : Life) → IsLife life → HasWords life → (at : Point) (page of : ℕ) (segments : List Described)
    → IsTruePage (eras_of life) at page of segments → IsWord at × (1 ≤ at.incarnation)
mark_words life valid words at page of segments is = by_mark (came_to life at is.set is.there) where
  by_mark : CameTo life at → IsWord at × (1 ≤ at.incarnation)
  by_mark (inl e) =
      let none : is.set ≡ [] = never_set (eras_of life) is.set (subst (λ (m : Point). set_at (eras_of life) m ≡ Some is.set) e is.there) in
      let no : length is.set ≡ 0 = ap length none in
      let several = is.several in
      absurd (omega (arith, no, several))
  by_mark (inr (cs, of_one, within)) =
      let both = words_of (eras_of life) at.incarnation cs words of_one in
      let few = both.1 in
      (record { incarnation = both.0; count = omega (arith, few, within) }, from_one (eras_of life) at.incarnation cs valid.eras of_one)

-- a page is one of few
abbrev IsOfFew : Body → Type 0
IsOfFew (bodies.Delta from to changes) = ⊤
IsOfFew (bodies.Snapshot at ds) = ⊤
IsOfFew (bodies.Page at page of segments) = of ≤ max_pages
IsOfFew (bodies.Reset cause at) = ⊤

snapshot_few : (at : Point) (ds : List Described) (reply : Body) → IsSnapshotOf at ds reply → IsOfFew reply
snapshot_few at ds (bodies.Delta from to changes) is = tt
snapshot_few at ds (bodies.Snapshot mark set) is = tt
snapshot_few at ds (bodies.Page mark page of segments) is = absurd is
snapshot_few at ds (bodies.Reset cause mark) is = tt

no_shape : {A E : Type 0} {x : A} {f : E} → Path (Result A E) (Ok x) (Err f) → ⊥
no_shape e = cc

form_few : (form : Option Form) (reply : Body) → Answers form (Ok reply) → IsOfFew reply
form_few None reply is = absurd (no_shape is)
form_few (Some (followed from to changes)) reply is = subst IsOfFew (sym is.0) tt
form_few (Some (whole at segments)) reply is = snapshot_few at segments reply is
form_few (Some (paged at page of segments)) reply is = subst IsOfFew (sym is.0) is.1.not_many
form_few (Some (begun_again cause at)) reply is = subst IsOfFew (sym (same_ok is)) tt

reported_few : {L : Type 0} (step : L → List ℕ → Came → L → Type 0) (request : RequestValue) (old new : L) (reply : Body)
    → IsReported step request old new (Ok reply) → IsOfFew reply
reported_few step request old new reply is = let read = is.reported.4 in form_few _ reply read.2

-- ---- links

module _ {L : Type 0} (step : L → List ℕ → Came → L → Type 0) where
  -- what holds on the way to the end holds on what is left of it after an exchange
  onward : (request : Ask → RequestValue) (life : Life) (sent : RequestValue) (old new end : L) (answer : Result Body TurnFault)
      → AnswersHonestly step request life old end → IsReported step sent old new answer → AnswersHonestly step request life new end
  onward request life sent old new end answer honest is more later ask before after reply leads text reported rest =
      honest (request_text sent ∷ more) later ask before after reply (is.came, new, is.made, leads) text reported rest

  exchanges_lead : (made : List (RequestValue × Body)) (old new : L) → Exchanges step made old new → (sent : List (List ℕ)) × Leads step sent old new
  exchanges_lead [] old new same = ([], same)
  exchanges_lead (first ∷ rest) old new (between, is, more) =
      let led = exchanges_lead rest between new more in (request_text first.0 ∷ led.0, (is.came, between, is.made, led.1))

  follows_lead : (request : Ask → RequestValue) (first : Body) (old new : L) (reply : Body) → FollowsPages step request first old new (Ok reply)
      → (sent : List (List ℕ)) × Leads step sent old new
  follows_lead request (bodies.Page at zero of segments) old new reply (rest, set, is, made, snapshot) = exchanges_lead (pages_from request at of 1 rest) old new made
  follows_lead request (bodies.Page at (suc page) of segments) old new reply h = absurd (no_shape h.0)
  follows_lead request (bodies.Delta from to changes) old new reply h = ([], h.1)
  follows_lead request (bodies.Snapshot at ds) old new reply h = ([], h.1)
  follows_lead request (bodies.Reset cause at) old new reply h = ([], h.1)

  asked_lead : (request : Ask → RequestValue) (ask : Ask) (old new : L) (reply : Body) → IsAsked step request ask old new (Ok reply)
      → (sent : List (List ℕ)) × Leads step sent old new
  asked_lead request ask old new reply (inl failed) = absurd (no_shape failed.1)
  asked_lead request ask old new reply (inr (between, first, is, follows)) =
      let led = follows_lead request first between new reply follows in (request_text (request ask) ∷ led.0, (is.came, between, is.made, led.1))

  -- what fetches a reply leads to its end
  pub fetched_lead : (ask : Ask) (old new : L) (reply : Body) → IsFetched step ask old new (Ok reply) → (sent : List (List ℕ)) × Leads step sent old new
  fetched_lead ask old new reply (inl failed) = absurd (no_shape failed.1)
  fetched_lead ask old new reply (inr (inl (between, first, is, goes_on, follows))) =
      let led = follows_lead ask_request first between new reply follows in (request_text (ask_request ask) ∷ led.0, (is.came, between, is.made, led.1))
  fetched_lead ask old new reply (inr (inr (between, first, is, again, all))) =
      let led = asked_lead ask_request asks.Whole between new reply all in (request_text (ask_request ask) ∷ led.0, (is.came, between, is.made, led.1))

-- ---- pages

-- each page that came is one of the set
pages_are : {L : Type 0} (step : L → List ℕ → Came → L → Type 0) (life : Life) (request : Ask → RequestValue) (at : Point) (of page : ℕ) (rest : List (List Described)) (old new : L)
    → AnswersHonestly step request life old new → IsWord at × (1 ≤ at.incarnation) → page + length rest ≤ 65_535
    → Exchanges step (pages_from request at of page rest) old new → (ds : List Described) → set_at (eras_of life) at ≡ Some ds
    → (i : ℕ) (segments : List Described) → slice_get (map Some rest) i ≡ Some (Some segments) → segments ≡ page_at ds (page + i)
pages_are step life request at of page [] old new honest word low made ds there i segments got = absurd (none-some (Some segments) got)
pages_are step life request at of page (s ∷ rest) old new honest word low made ds there zero segments got =
    let small : page ≤ 65_535 = omega (arith, low) in
    let led = exchanges_lead step (pages_from request at of (suc page) rest) made.0 new made.2 in
    let true_page = honest [] led.0 (asks.Page at page) old made.0 (bodies.Page at page of s) refl (word.0, word.1, small) made.1 led.1 in
    let sets : true_page.set ≡ ds = same_Some true_page.set ds (sym true_page.there ∙ there) in
    let here : s ≡ segments = same_Some s segments (same_Some (Some s) (Some segments) got) in
    let at_page : page ≡ page + 0 = omega arith in
    sym here ∙ true_page.segments_are ∙ ap (λ (d : List Described). page_at d page) sets ∙ ap (page_at ds) at_page
pages_are step life request at of page (s ∷ rest) old new honest word low made ds there (suc i) segments got =
    let at_page : suc page + i ≡ page + suc i = omega arith in
    let less : suc page + length rest ≤ 65_535 = omega (arith, low) in
    let after = onward step request life (request (asks.Page at page)) old made.0 new (Ok (bodies.Page at page of s)) honest made.1 in
    pages_are step life request at of (suc page) rest made.0 new after word less made.2 ds there i segments got ∙ ap (page_at ds) at_page

-- the snapshot that pages are put together to is that of the set
completes_true : {L : Type 0} (step : L → List ℕ → Came → L → Type 0) (life : Life) → IsLife life → HasWords life
    → (request : Ask → RequestValue) (at : Point) (of : ℕ) (first : List Described) (old new : L) (reply : Body)
    → AnswersHonestly step request life old new → of ≤ max_pages
    → IsHonest (eras_of life) (bodies.Page at 0 of first) → Completes step request at of first old new (Ok reply) → IsHonest (eras_of life) reply
completes_true step life valid words request at of first old new reply honest few start (rest, set, is, made, snapshot) =
    subst (IsHonest (eras_of life)) (sym snapshot) (subst (λ (s : List Described). set_at (eras_of life) at ≡ Some s) (sym same) start.there) where
      parts : Parts
      parts = record { at = at; pages = map Some (first ∷ rest) }

      word : IsWord at × (1 ≤ at.incarnation)
      word = mark_words life valid words at 0 of first start

      low : 1 + length rest ≤ 65_535
      low = let all = is.all in omega (arith, all, few)

      each : (page : ℕ) (segments : List Described) → slice_get (map Some (first ∷ rest)) page ≡ Some (Some segments) → segments ≡ page_at start.set page
      each zero segments got =
          sym (same_Some first segments (same_Some (Some first) (Some segments) got)) ∙ start.segments_are
      each (suc i) segments got =
          let at_page : 1 + i ≡ suc i = omega arith in
          pages_are step life request at of 1 rest old new honest word low made start.set start.there i segments got ∙ ap (page_at start.set) at_page

      count : of ≡ length (map Some (first ∷ rest))
      count =
          let n = length-map (first ∷ rest) Some in
          let all = is.all in
          omega (arith, n, all)

      are : AreOf start.set parts
      are = record { count = subst (IsCutInto (length start.set)) (sym start.count ∙ count) (cut_into (length start.set)); each = each }

      same : set ≡ start.set
      same = set_is_whole start.set set parts are is.whole

follows_true : {L : Type 0} (step : L → List ℕ → Came → L → Type 0) (life : Life) → IsLife life → HasWords life
    → (request : Ask → RequestValue) (first : Body) (old new : L) (reply : Body) → AnswersHonestly step request life old new → IsOfFew first
    → IsHonest (eras_of life) first → FollowsPages step request first old new (Ok reply) → IsHonest (eras_of life) reply
follows_true step life valid words request (bodies.Page at zero of segments) old new reply honest few start h =
    completes_true step life valid words request at of segments old new reply honest few start h
follows_true step life valid words request (bodies.Page at (suc page) of segments) old new reply honest few start h = absurd (no_shape h.0)
follows_true step life valid words request (bodies.Delta from to changes) old new reply honest few start h = subst (IsHonest (eras_of life)) (sym (same_ok h.0)) start
follows_true step life valid words request (bodies.Snapshot at ds) old new reply honest few start h = subst (IsHonest (eras_of life)) (sym (same_ok h.0)) start
follows_true step life valid words request (bodies.Reset cause at) old new reply honest few start h = subst (IsHonest (eras_of life)) (sym (same_ok h.0)) start

-- ---- asks

-- an ask whose reply came, and what it leads to
led_true : {L : Type 0} (step : L → List ℕ → Came → L → Type 0) (life : Life) → IsLife life → HasWords life
    → (request : Ask → RequestValue) (ask : Ask) (old between new : L) (first reply : Body) → AnswersHonestly step request life old new → HasText ask
    → IsReported step (request ask) old between (Ok first) → FollowsPages step request first between new (Ok reply) → IsHonest (eras_of life) reply
led_true step life valid words request ask old between new first reply honest text came follows =
    let led = follows_lead step request first between new reply follows in
    follows_true step life valid words request first between new reply
    (onward step request life (request ask) old between new (Ok first) honest came)
    (reported_few step (request ask) old between first came)
    (honest [] led.0 ask old between first refl text came led.1) follows

pub asked_true : {L : Type 0} (step : L → List ℕ → Came → L → Type 0) (life : Life) → IsLife life → HasWords life
    → (request : Ask → RequestValue) (ask : Ask) (old new : L) (reply : Body) → AnswersHonestly step request life old new → HasText ask
    → IsAsked step request ask old new (Ok reply) → IsHonest (eras_of life) reply
asked_true step life valid words request ask old new reply honest text (inl failed) = absurd (no_shape failed.1)
asked_true step life valid words request ask old new reply honest text (inr (between, first, came, follows)) =
    led_true step life valid words request ask old between new first reply honest text came follows

fetched_true : {L : Type 0} (step : L → List ℕ → Came → L → Type 0) (life : Life) → IsLife life → HasWords life
    → (ask : Ask) (old new : L) (reply : Body) → AnswersHonestly step ask_request life old new → HasText ask
    → IsFetched step ask old new (Ok reply) → IsHonest (eras_of life) reply
fetched_true step life valid words ask old new reply honest text (inl failed) = absurd (no_shape failed.1)
fetched_true step life valid words ask old new reply honest text (inr (inl (between, first, came, goes_on, follows))) =
    led_true step life valid words ask_request ask old between new first reply honest text came follows
fetched_true step life valid words ask old new reply honest text (inr (inr (between, first, came, again, all))) =
    asked_true step life valid words ask_request asks.Whole between new reply
    (onward step ask_request life (ask_request ask) old between new (Ok first) honest came) tt all

pub fetched_from_true : {L : Type 0} (step : L → List ℕ → Came → L → Type 0) (life : Life) → IsLife life → HasWords life
    → (inventory : List Entry) (node : ℕ) (entry : Entry) (old new : L) (reply : Body) → AnswersHonestly step ask_request life old new
    → slice_get inventory node ≡ Some entry → HasText (ask_of entry.mark)
    → IsFetchedFrom step inventory node old new (Ok reply) → IsHonest (eras_of life) reply
fetched_from_true step life valid words inventory node entry old new reply honest at text (e, got, fetched) =
    let same : entry ≡ e = same_Some entry e (sym at ∙ got) in
    fetched_true step life valid words _ old new reply honest (subst (λ (x : Entry). HasText (ask_of x.mark)) same text) fetched
