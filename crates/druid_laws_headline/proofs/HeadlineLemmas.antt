-- From what nodes serve in a world to what an inventory of the world tells.
use Rattle.std.proofs.Common.{◌≡◌, ◌⊎◌, ◌<◌, ℕ, Bool, arith, zero, suc, List, [], ◌∷◌, length, Option, Some, None, option_map, Result, Ok, refl, sym, ap, ◌∙◌, subst, inl, inr}
use Rattle.std.specs.Prelude.{◌↔◌}
use Rattle.std.specs.List.{Contains, slice_get}
use Rattle.std.proofs.lemmas.List.Elements.{All-contains}
use Rattle.std.proofs.lemmas.Option.{same_Some}
use Rattle.druid_base.proofs.MemberLemmas.{Contains-map_back}
use Rattle.druid_segment_descriptor.specs.Described.{Described, IsDescribed}
use Rattle.druid_timeline.specs.Holding.{Held}
use Rattle.druid_inventory.specs.Entry.{Entry}
use Rattle.druid_inventory.specs.Sources.{Serves, IsHoldingOf}
use Rattle.druid_segment_rows.specs.Segment.{Segment}
use Rattle.druid_query.specs.Query.{Query}
use Rattle.druid_query.specs.Asked.{Asked}
use Rattle.druid_query.specs.SubQuery.{IsAsked}
use Rattle.druid_query.specs.Read.{IsReadOf, query_at}
use Rattle.druid_query.specs.Refusal.{Refusal}
use Rattle.druid_partial.specs.Groups.{Group}
use Rattle.druid_partial_text.specs.Written.{result_text}
use Rattle.druid_partial_text.specs.Answers.{shortfall_text}
use Rattle.druid_link.specs.Links.{Came}
use Rattle.druid_http_message.specs.Requests.{RequestValue}
use Rattle.druid_inventory_views.specs.Fold.{Published, fold_of}
use Rattle.druid_broker_scatter.specs.Exact.{AreServed}
use Rattle.druid_broker_scatter.specs.Gathered.{Exchange, AreAsked}
use Rattle.druid_broker_scatter.specs.Plan.{Pair, asked_of, AreReplicas, IsPlanOf}
use Rattle.druid_broker_scatter.proofs.ExactLemmas.{exact}
use Rattle.druid_broker_scatter.proofs.LawLemmas.{may_be_asked}
use Rattle.druid_broker.specs.Queries.{ReportsRows, AnswersRows, AnswersQuery, WantsMemory}
use Rattle.druid_broker.specs.Routes.{Route, AnswersPost}
use Rattle.druid_http_wire.specs.Served.{IsOutOfMemory}
use Rattle.druid_broker.specs.Routes as routes
use Rattle.druid_broker.specs.Views.{TakesInventory, AnswersUnread, RespondsAt, RespondsBy}
use Rattle.druid_broker.proofs.ServeLemmas.{one_reading}
use Rattle.druid_laws_world.specs.World.{Life, IsTrueEntry, IsInventoryOf, marks_of, eras_of, set_at}
use Rattle.druid_laws_world.proofs.ListLemmas.{pairs_get, pairs_at}
use Rattle.druid_laws_headline.specs.Headline.{ServesAt, IsHeldAt, AreServedAt, IsPosted, IsExactAt}

mark_got : (inventory : List Entry) (node : ℕ) (e : Entry) → slice_get inventory node ≡ Some e → slice_get (marks_of inventory) node ≡ Some e.mark
mark_got [] node e at = absurd (cc)
mark_got (x ∷ more) zero e at = let same : Some x ≡ Some e = at in ap (λ (o : Option Entry). option_map (λ y. y.mark) o) same
mark_got (x ∷ more) (suc n) e at = mark_got more n e at

entry_got : (inventory : List Entry) (node : ℕ) (m : _) → slice_get (marks_of inventory) node ≡ Some m → (e : Entry) × (slice_get inventory node ≡ Some e) × (e.mark ≡ m)
entry_got [] node m at = absurd (cc)
entry_got (x ∷ more) zero m at = (x, refl, cc)
entry_got (x ∷ more) (suc n) m at = entry_got more n m at

-- what is served at the marks is what the inventory tells
pub to_world : (world : List Life) (inventory : List Entry) (node : ℕ) (d : Described) → IsInventoryOf world inventory → Serves inventory node d → ServesAt world (marks_of inventory) node d
to_world world inventory node d of_world s =
    let l = pairs_get IsTrueEntry world inventory node s.0 of_world s.1 in
    (l.0, s.0.mark, s.0.set, l.1, mark_got inventory node s.0 s.1, l.2, s.2)

pub from_world : (world : List Life) (inventory : List Entry) (node : ℕ) (d : Described) → IsInventoryOf world inventory → ServesAt world (marks_of inventory) node d → Serves inventory node d
from_world world inventory node d of_world s =
    let e = entry_got inventory node s.1 s.4 in
    let true_there : IsTrueEntry s.0 e.0 = pairs_at IsTrueEntry world inventory node s.0 e.0 of_world s.3 e.1 in
    let sets : Some e.0.set ≡ Some s.2 = sym true_there ∙ ap (set_at (eras_of s.0)) e.2 ∙ s.5 in
    (e.0, e.1, subst (λ (o : Option (List Described)). member_if o) (sym sets) s.6)
  where
    member_if : Option (List Described) → Type 0
    member_if None = Contains [] d
    member_if (Some set) = Contains set d

pub served : (world : List Life) (inventory : List Entry) (source : List ℕ) (segments : List Segment) → IsInventoryOf world inventory
    → AreServedAt world (marks_of inventory) source segments → AreServed inventory source segments
served world inventory source segments of_world at = record {
  own = at.own;
  each = λ s there. let f = at.each s there in (f.0, f.1, from_world world inventory f.0 f.1 of_world f.2, f.3, f.4, f.5);
  all = λ node d serves of_source rows. at.all node d (to_world world inventory node d of_world serves) of_source rows;
}

pub holding : (world : List Life) (inventory : List Entry) (source : List ℕ) (held : List Held) → IsInventoryOf world inventory
    → IsHeldAt world (marks_of inventory) source held → IsHoldingOf inventory source held
holding world inventory source held of_world at x = (
  (λ there. let f = (at x).0 there in (f.0, f.1, from_world world inventory f.0 f.1 of_world f.2, f.3, f.4)),
  (λ f. (at x).1 (f.0, f.1, to_world world inventory f.0 f.1 of_world f.2, f.3, f.4)),
)

some_piece : (a : Asked) (more : List Asked) → a ∷ more ≡ [] → ⊥
some_piece a more e = cc

whole : (query : Query) (missing : List Asked) (groups : List Group) (status : ℕ) (body : List ℕ) → ReportsRows query missing groups status body
    → (status ≡ 200) ↔ (missing ≡ [])
whole query [] groups status body reported = ((λ e. refl), (λ e. reported.status_is))
whole query (a ∷ more) groups status body reported = ((λ e. let no : 200 ≡ 503 = sym e ∙ reported.status_is in absurd (omega (arith, no))), (λ e. absurd (some_piece a more e)))

rows : (query : Query) (missing : List Asked) (groups : List Group) (status : ℕ) (body : List ℕ) → ReportsRows query missing groups status body
    → status ≡ 200 → body ≡ result_text query groups
rows query [] groups status body reported e = reported.body_is
rows query (a ∷ more) groups status body reported e = let no : 200 ≡ 503 = sym e ∙ reported.status_is in absurd (omega (arith, no))

short : (query : Query) (missing : List Asked) (groups : List Group) (status : ℕ) (body : List ℕ) → ReportsRows query missing groups status body
    → (status ≡ 200 → ⊥) → (status ≡ 503) × (body ≡ shortfall_text query missing groups)
short query [] groups status body reported other = absurd (other reported.status_is)
short query (a ∷ more) groups status body reported other = (reported.status_is, reported.body_is)

-- ---- what was asked

within : (inventory : List Entry) (node : ℕ) (e : Entry) → slice_get inventory node ≡ Some e → node < length (marks_of inventory)
within [] node e at = absurd (cc)
within (x ∷ more) zero e at = omega arith
within (x ∷ more) (suc n) e at = let rest = within more n e at in omega (arith, rest)

module _ (order : List ℕ → List ℕ) (inventory : List Entry) (query : Query) (pairs : List Pair) (exchanges : List Exchange) (plan : IsPlanOf inventory query pairs)
    (asked : AreAsked order query pairs exchanges) (e : Exchange) (there : Contains exchanges e) where
  listed : e.node < length (marks_of inventory)
  listed =
      let some = asked.asks e there in
      let p = asked.planned e some.0 there some.1 in
      let replicas = All-contains (λ (q : Pair). AreReplicas inventory q.asked.0 q.nodes) pairs p.0 plan.paired.replicas p.2 in
      let serves = (replicas.all e.node).0 p.4 in
      within inventory e.node serves.1.0 serves.1.1

  among : (a : Asked) → Contains e.asked a → Contains (asked_of pairs) a
  among a asks =
      let p = asked.planned e a there asks in
      subst (Contains (asked_of pairs)) p.3 (Contains-map_back (λ (q : Pair). q.asked) pairs p.0 p.2)

  allowed : ((node : ℕ) (d : Described) → Serves inventory node d → IsDescribed d) → IsAsked query.source e.asked
  allowed described = may_be_asked inventory query pairs e.asked plan described (asked.asks e there) among (asked.in_order e there)

-- ---- what is answered by what was published

-- bytes read as one query
one_query : (bytes : List ℕ) (a b : Query) → IsReadOf bytes (Ok a) → IsReadOf bytes (Ok b) → a ≡ b
one_query bytes a b first second =
    let same : first.0 ≡ second.0 = same_Some _ _ (sym first.1.1 ∙ second.1.1) in
    same_ok (sym first.2 ∙ ap query_at same ∙ second.2)
  where
    same_ok : {x y : Query} → Path (Result Query Refusal) (Ok x) (Ok y) → x ≡ y
    same_ok e = cc

module _ {L : Type 0} (step : L → List ℕ → Came → L → Type 0) (order : List ℕ → List ℕ) (world : List Life) (inventory : List Entry) (of_world : IsInventoryOf world inventory)
    (asked : Query) (old new : List L) (status : ℕ) (body : List ℕ) where
  exact_rows : AnswersRows step order inventory asked old new status body → IsExactAt step world (marks_of inventory) asked old new status body
  exact_rows answer = record {
    exchanges = answer.exchanges;
    made = answer.made;
    missing = answer.missing;
    groups = answer.groups;
    whole = whole asked answer.missing answer.groups status body answer.reported;
    rows = rows asked answer.missing answer.groups status body answer.reported;
    short = short asked answer.missing answer.groups status body answer.reported;
    listed = λ e there. listed order inventory asked answer.pairs answer.exchanges answer.plan answer.gathered.asked e there;
    may_be_asked = λ described e there.
        allowed order inventory asked answer.pairs answer.exchanges answer.plan answer.gathered.asked e there
        (λ node d serves. described node d (to_world world inventory node d of_world serves));
    exact = λ segments held sees at held_at seen honest.
        exact order inventory asked answer.pairs answer.exchanges answer.missing answer.groups segments held sees answer.plan answer.gathered
        (served world inventory asked.source segments of_world at) (holding world inventory asked.source held of_world held_at) seen honest;
  }

  exact_query : (bytes : List ℕ) → IsReadOf bytes (Ok asked)
      → AnswersQuery step order inventory bytes old new status body ⊎ (WantsMemory step order inventory bytes old new × IsOutOfMemory status body)
      → IsExactAt step world (marks_of inventory) asked old new status body ⊎ AnswersUnread status body
  exact_query bytes read (inl (inl (query, reads, answer))) =
      inl (exact_rows (subst (λ (q : Query). AnswersRows step order inventory q old new status body) (one_query bytes query asked reads read) answer))
  exact_query bytes read (inl (inr (fault, had, refused, reported, same))) = absurd (one_reading bytes asked fault had read refused)
  exact_query bytes read (inr (wants, memory)) = inr (inr memory)

pub exact_answer : {L : Type 0} (step : L → List ℕ → Came → L → Type 0) (order : List ℕ → List ℕ) (world : List Life) (opening : List Entry) (seen now : Published) (request : RequestValue) (asked : Query)
    (old new : List L) (status : ℕ) (body : List ℕ) → IsInventoryOf world (fold_of opening now) → IsPosted request asked
    → RespondsBy step order opening seen now old new request status body
    → IsExactAt step world (marks_of (fold_of opening now)) asked old new status body ⊎ AnswersUnread status body
exact_answer step order world opening seen now request asked old new status body of_world posted responds =
    by (subst (λ (r : Route). RespondsAt step order opening r seen now old new request status body) posted.route responds)
  where
    takes : TakesInventory routes.query request
    takes = (posted.method, (asked, posted.read))

    by : RespondsAt step order opening routes.query seen now old new request status body
        → IsExactAt step world (marks_of (fold_of opening now)) asked old new status body ⊎ AnswersUnread status body
    by (inl (_, prefix, answer)) =
        exact_query step order world (fold_of opening now) of_world asked old new status body request.body posted.read
        (subst (λ (b : Bool). AnswersPost step order b (fold_of opening now) request.body old new status body) posted.method answer)
    by (inr (inl (memory, answer, same, links))) = inr (inr (memory takes))
    by (inr (inr (_, unread, same, links))) = inr unread
