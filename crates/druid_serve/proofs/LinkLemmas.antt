-- What connections leave of the links of a worker: where they lead.
use Rattle.std.proofs.Common.{◌++◌, ◌≡◌, ◌≢◌, ◌<◌, ◌≤◌, ◌⊎◌, ℕ, zero, suc, Bool, true, false, List, [], ◌∷◌, length, map, Option, Some, Ok, Err, Result, inl, inr, refl, sym, ap, ◌∙◌, subst, slice_get, get_or, option_map, unwrap_or, codes, bytes_eq, IfOk, IfErr}
use Rattle.std.proofs.lemmas.Option.{slice_get_within, slice_get-get_or, slice_get-map}
use Rattle.std.proofs.lemmas.List.{length-map}
use Rattle.druid_serve_config.specs.Configs.{Node, names_of}
use Rattle.druid_link.specs.TcpLinks.{TcpLinkValue}
use Rattle.druid_http_message.specs.Requests.{RequestValue, path_of}
use Rattle.druid_http_message.specs.declared.fault.WireFault.{WireFault}
use Rattle.druid_query.specs.Query.{Query}
use Rattle.druid_inventory.specs.Entry.{Entry, fresh}
use Rattle.druid_inventory_views.specs.Fold.{Published, fold_of}
use Rattle.druid_broker_scatter.specs.Gathered.{Exchange, AreMade, Leads}
use Rattle.druid_http_wire.specs.Served.{Serves, IsServed, FailsToServe}
use Rattle.druid_broker.specs.Queries.{AnswersQuery, WantsMemory}
use Rattle.druid_broker.specs.Routes.{Route, health, query, sources, load_status, entry, nowhere, route_of, AnswersPost, AnswersAt}
use Rattle.druid_broker.specs.Views.{RespondsAt}
use Rattle.druid_broker_scatter.specs.Order.{turned, ailing_last}
use Rattle.druid_serve.specs.Answers.{Over, Responds, IsServedBy}
use Rattle.druid_serve.specs.Links.{NodeLinkValue, LeadTo, IsLinkAt, IsFresh, AreFresh, opening_of}

-- exchanges keep the address
same_address : (asked : Query) (node : ℕ) (exchanges : List Exchange) (old new : NodeLinkValue) → Leads Over asked node exchanges old new
    → new.link.address ≡ old.link.address
same_address asked node [] old new same = ap (λ (l : NodeLinkValue). l.link.address) (sym same)
same_address asked node (e ∷ more) old new (inl (with, next, step, leads)) =
    same_address asked node more next new leads ∙ ap (λ (l : TcpLinkValue). l.address) step.0
same_address asked node (e ∷ more) old new (inr (other, leads)) = same_address asked node more old new leads

made_lead : (nodes : List Node) (asked : Query) (exchanges : List Exchange) (old new : List NodeLinkValue)
    → AreMade Over asked exchanges old new → LeadTo nodes old → LeadTo nodes new
made_lead nodes asked exchanges old new made lead = record {
  count = made.count ∙ lead.count;
  each = λ k node link is at.
      let within : k < length old = subst (λ (n : ℕ). k < n) made.count (slice_get_within new k link at) in
      let there = slice_get-get_or old k link within in
      same_address asked k exchanges (get_or old k link) link (made.each k (get_or old k link) link there at) ∙ lead.each k node (get_or old k link) is there;
}

stays : (nodes : List Node) (old new : List NodeLinkValue) → new ≡ old → LeadTo nodes old → LeadTo nodes new
stays nodes old new same lead = subst (λ (links : List NodeLinkValue). LeadTo nodes links) (sym same) lead

-- whatever was answered to a query
query_lead : (nodes : List Node) (order : List ℕ → List ℕ) (inventory : List Entry) (bytes : List ℕ) (old new : List NodeLinkValue) (status : ℕ) (body : List ℕ)
    → AnswersQuery Over order inventory bytes old new status body → LeadTo nodes old → LeadTo nodes new
query_lead nodes order inventory bytes old new status body (inl (asked, is, answers)) lead =
    made_lead nodes asked answers.exchanges old new answers.made lead
query_lead nodes order inventory bytes old new status body (inr (fault, other, is, reports, same)) lead = stays nodes old new same lead

memory_lead : (nodes : List Node) (order : List ℕ → List ℕ) (inventory : List Entry) (bytes : List ℕ) (old new : List NodeLinkValue)
    → WantsMemory Over order inventory bytes old new → LeadTo nodes old → LeadTo nodes new
memory_lead nodes order inventory bytes old new (inl (is, same)) lead = stays nodes old new same lead
memory_lead nodes order inventory bytes old new (inr (inl (fault, names, is, same))) lead = stays nodes old new same lead
memory_lead nodes order inventory bytes old new (inr (inr (asked, is, inl same))) lead = stays nodes old new same lead
memory_lead nodes order inventory bytes old new (inr (inr (asked, is, inr asks))) lead = made_lead nodes asked asks.exchanges old new asks.made lead

post_lead : (nodes : List Node) (order : List ℕ → List ℕ) (posts : Bool) (inventory : List Entry) (bytes : List ℕ) (old new : List NodeLinkValue) (status : ℕ) (body : List ℕ)
    → AnswersPost Over order posts inventory bytes old new status body → LeadTo nodes old → LeadTo nodes new
post_lead nodes order true inventory bytes old new status body (inl answers) lead = query_lead nodes order inventory bytes old new status body answers lead
post_lead nodes order true inventory bytes old new status body (inr (wants, out)) lead = memory_lead nodes order inventory bytes old new wants lead
post_lead nodes order false inventory bytes old new status body (reports, same) lead = stays nodes old new same lead

route_lead : (nodes : List Node) (order : List ℕ → List ℕ) (route : Route) (inventory : List Entry) (old new : List NodeLinkValue) (request : RequestValue) (status : ℕ) (body : List ℕ)
    → AnswersAt Over order route inventory old new request status body → LeadTo nodes old → LeadTo nodes new
route_lead nodes order query inventory old new request status body answers lead =
    post_lead nodes order (bytes_eq request.method (codes "POST")) inventory request.body old new status body answers lead
route_lead nodes order health inventory old new request status body (reports, same) lead = stays nodes old new same lead
route_lead nodes order sources inventory old new request status body (reports, same) lead = stays nodes old new same lead
route_lead nodes order load_status inventory old new request status body (reports, same) lead = stays nodes old new same lead
route_lead nodes order (entry node) inventory old new request status body (reports, same) lead = stays nodes old new same lead
route_lead nodes order nowhere inventory old new request status body (reports, same) lead = stays nodes old new same lead

responds_lead : (nodes : List Node) (order : List ℕ → List ℕ) (opening : List Entry) (route : Route) (seen now : Published) (old new : List NodeLinkValue) (request : RequestValue) (status : ℕ) (body : List ℕ)
    → RespondsAt Over order opening route seen now old new request status body → LeadTo nodes old → LeadTo nodes new
responds_lead nodes order opening route seen now old new request status body (inl (takes, prefix, answers)) lead =
    route_lead nodes order route (fold_of opening now) old new request status body answers lead
responds_lead nodes order opening route seen now old new request status body (inr (inl (takes, answers, is, same))) lead = stays nodes old new same lead
responds_lead nodes order opening route seen now old new request status body (inr (inr (takes, answers, is, same))) lead = stays nodes old new same lead

serves_lead : (nodes : List Node) (order : List ℕ → List ℕ) (opening : List Entry) (seen now : Published) (old new : List NodeLinkValue) (before after : Option (List ℕ)) (status : ℕ) (body : List ℕ)
    → Serves (Responds order opening seen now old new) ((now ≡ seen) × (new ≡ old)) before after status body → LeadTo nodes old → LeadTo nodes new
serves_lead nodes order opening seen now old new before after status body (inl answered) lead =
    responds_lead nodes order opening (route_of (path_of answered.request.target)) seen now old new answered.request status body answered.answer lead
serves_lead nodes order opening seen now old new before after status body (inr (refused, stayed)) lead = stays nodes old new stayed.1 lead

-- what a worker answers leaves each link where it leads
pub answered_lead : (nodes : List Node) (order : List ℕ → List ℕ) (opening : List Entry) (seen now : Published) (old new : List NodeLinkValue) (before after had has : Option (List ℕ)) (result : Result ℕ WireFault)
    → IfOk result (IsServed (Responds order opening seen now old new) ((now ≡ seen) × (new ≡ old)) before after had has)
    → IfErr result (FailsToServe (Responds order opening seen now old new) ((now ≡ seen) × (new ≡ old)) before after had has)
    → LeadTo nodes old → LeadTo nodes new
answered_lead nodes order opening seen now old new before after had has (Ok status) served failed lead =
    serves_lead nodes order opening seen now old new before after served.status served.body served.served lead
answered_lead nodes order opening seen now old new before after had has (Err fault) served (inl (unread, stayed)) lead = stays nodes old new stayed.1 lead
answered_lead nodes order opening seen now old new before after had has (Err fault) served (inr unsent) lead =
    serves_lead nodes order opening seen now old new before after unsent.status unsent.body unsent.served lead

-- what was served over links that the worker has
pub served_by : (opening : List Entry) (turn last : ℕ) (seen now : Published) (old new began ended : List NodeLinkValue) (before after had has : Option (List ℕ)) (result : Result ℕ WireFault)
    → old ≡ began → new ≡ ended
    → IfOk result (IsServed (Responds (λ nodes. ailing_last last (turned turn nodes)) opening seen now old new) ((now ≡ seen) × (new ≡ old)) before after had has)
    → IfOk result (IsServedBy opening turn seen now began ended before after had has)
served_by opening turn last seen now old new began ended before after had has (Ok sent) start end served =
    let order : List ℕ → List ℕ = λ nodes. ailing_last last (turned turn nodes) in (
      last,
      subst (λ (l : List NodeLinkValue). IsServed (Responds order opening seen now l ended) ((now ≡ seen) × (ended ≡ l)) before after had has sent) start
          (subst (λ (l : List NodeLinkValue). IsServed (Responds order opening seen now old l) ((now ≡ seen) × (l ≡ old)) before after had has sent) end served),
    )
served_by opening turn last seen now old new began ended before after had has (Err fault) start end served = served

-- ---- where they lead first

-- fresh links lead to their nodes
pub leads_from : (patience : ℕ) (nodes : List Node) (links : List NodeLinkValue) → AreFresh patience nodes links → LeadTo nodes links
leads_from patience nodes links fresh = record {
  count = fresh.count;
  each = λ k node link is at. (fresh.each k link at node is).address;
}

-- the fresh link to the node of a place is that node's
pub link_at : (patience : ℕ) (nodes : List Node) (k : ℕ) (node : Node) (link : NodeLinkValue) → slice_get nodes k ≡ Some node
    → IsFresh patience k node link → IsLinkAt patience nodes k link
link_at patience nodes k node link is fresh other at =
    subst (λ (n : Node). IsFresh patience k n link) (ap (λ (o : Option Node). unwrap_or o node) (sym is ∙ at)) fresh

some_is : {A : Type 0} (a b : A) → Some a ≡ Some b → a ≡ b
some_is {A = A} a b e = ap (λ (o : Option A). unwrap_or o a) e

-- what stands in a list with one more at its end
pushed : {A : Type 0} (xs : List A) (y : A) (k : ℕ) (l : A) → slice_get (xs ++ y ∷ []) k ≡ Some l
    → (slice_get xs k ≡ Some l) ⊎ ((k ≡ length xs) × (y ≡ l))
pushed [] y zero l is = inr (refl, some_is y l is)
pushed [] y (suc k) l is = absurd cc
pushed (x ∷ xs) y zero l is = inl is
pushed (x ∷ xs) y (suc k) l is = after (pushed xs y k l is)
  where
    after : (slice_get xs k ≡ Some l) ⊎ ((k ≡ length xs) × (y ≡ l)) → (slice_get xs k ≡ Some l) ⊎ ((suc k ≡ length (x ∷ xs)) × (y ≡ l))
    after (inl at) = inl at
    after (inr (last, same)) = inr (ap suc last, same)

-- one link more
pub one_link : (patience : ℕ) (nodes : List Node) (links : List NodeLinkValue) (link : NodeLinkValue)
    → ((k : ℕ) (l : NodeLinkValue) → slice_get links k ≡ Some l → IsLinkAt patience nodes k l) → IsLinkAt patience nodes (length links) link
    → (k : ℕ) (l : NodeLinkValue) → slice_get (links ++ link ∷ []) k ≡ Some l → IsLinkAt patience nodes k l
one_link patience nodes links link each last k l at = by (pushed links link k l at)
  where
    by : (slice_get links k ≡ Some l) ⊎ ((k ≡ length links) × (link ≡ l)) → IsLinkAt patience nodes k l
    by (inl there) = each k l there
    by (inr (end, same)) = subst (λ (n : ℕ). IsLinkAt patience nodes n l) (sym end) (subst (IsLinkAt patience nodes (length links)) same last)

pub opening_length : (nodes : List Node) → length (opening_of nodes) ≡ length nodes
opening_length nodes = length-map (names_of nodes) fresh ∙ length-map nodes (λ n. n.name)
