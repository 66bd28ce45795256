-- What a link over a socket keeps of the exchanges that were made over it.
use Rattle.std.proofs.Common.{◌≡◌, ℕ, Bool, true, false, ◌==◌, List, [], ◌∷◌, ◌++◌, if◌then◌else◌, Contains, slice_get, Some, Ok, inl, inr, refl, sym, ap, ◌∙◌, subst, append_assoc}
use Rattle.std.proofs.lemmas.Bool.{eq-eqb, eqb-true}
use Rattle.std.proofs.lemmas.List.{append-nil, append_cancel_right}
use Rattle.std.proofs.lemmas.List.Elements.{Contains-append_right}
use Rattle.druid_base.proofs.ListLemmas.{Contains-here}
use Rattle.druid_segment_descriptor.specs.declared.change.Ask.{Ask}
use Rattle.druid_segment_descriptor.specs.declared.reply.Body.{Body}
use Rattle.druid_query.specs.Query.{Query}
use Rattle.druid_inventory.specs.Entry.{Entry, ask_of}
use Rattle.druid_link.specs.Exchanged.{Exchanged}
use Rattle.druid_link.specs.TcpLinks.{TcpLinkValue, ExchangesOverTcp}
use Rattle.druid_http_message.specs.Requests.{RequestValue}
use Rattle.druid_http_wire.specs.Written.{request_text}
use Rattle.druid_broker_scatter.specs.Gathered as scatter
use Rattle.druid_broker_scatter.specs.Gathered.{Exchange, AreMade, request_for}
use Rattle.druid_broker_follow.specs.Turns.{IsFetchedFrom}
use Rattle.druid_laws_world.specs.World.{Life}
use Rattle.druid_laws_headline.specs.Headline.{AnswersHonestly, WereHonest, Leads, kept_of}
use Rattle.druid_laws_headline.proofs.FetchLemmas.{fetched_lead}

-- exchanges keep what was there before them
led : (sent : List (List ℕ)) (old new : TcpLinkValue) → Leads ExchangesOverTcp sent old new → (made : List Exchanged) × (new.made ≡ made ++ old.made)
led [] old new same = ([], ap (λ (l : TcpLinkValue). l.made) same)
led (bytes ∷ rest) old new (came, between, step, more) =
    let one : Exchanged = record { request = bytes; came = came } in
    let next = led rest between new more in
    (next.0 ++ one ∷ [], next.1 ∙ ap (λ (l : TcpLinkValue). next.0 ++ l.made) step.0 ∙ sym (append_assoc next.0 (one ∷ []) old.made))

amid : (later sooner : List Exchanged) (one : Exchanged) → Contains (later ++ one ∷ sooner) one
amid later sooner one = Contains-append_right later (one ∷ sooner) one (Contains-here one sooner)

-- a reply on the way came of an exchange that is kept
pub kept_honest : (request : Ask → RequestValue) (life : Life) (old new : TcpLinkValue) (made : List Exchanged)
    → new.made ≡ made ++ old.made → WereHonest request life made → AnswersHonestly ExchangesOverTcp request life old new
kept_honest request life old new made is honest sent later ask before after reply leads text reported rest =
    let one : Exchanged = record { request = request_text (request ask); came = reported.came } in
    let first = led sent old before leads in
    let last = led later after new rest in
    let whole : made ++ old.made ≡ (last.0 ++ one ∷ first.0) ++ old.made =
    sym is ∙ last.1 ∙ ap (λ (l : TcpLinkValue). last.0 ++ l.made) reported.made.0 ∙ ap (λ (xs : List Exchanged). last.0 ++ one ∷ xs) first.1 ∙ sym (append_assoc last.0 (one ∷ first.0) old.made) in
    let same : made ≡ last.0 ++ one ∷ first.0 = append_cancel_right made (last.0 ++ one ∷ first.0) old.made whole in
    honest ask reported.came reply text (subst (λ (xs : List Exchanged). Contains xs one) (sym same) (amid last.0 first.0 one)) reported.reported

-- what was fetched came of such
pub fetched_kept : (inventory : List Entry) (node : ℕ) (old new : TcpLinkValue) (reply : Body) → IsFetchedFrom ExchangesOverTcp inventory node old new (Ok reply)
    → (made : List Exchanged) × (new.made ≡ made ++ old.made)
fetched_kept inventory node old new reply (e, at, fetched) =
    let leads = fetched_lead ExchangesOverTcp (ask_of e.mark) old new reply fetched in led leads.0 old new leads.1

-- the exchanges of a query with one node
pub kept_in_order : (asked : Query) (node : ℕ) (exchanges : List Exchange) (old new : TcpLinkValue) → scatter.Leads ExchangesOverTcp asked node exchanges old new
    → new.made ≡ kept_of asked node exchanges ++ old.made
kept_in_order asked node [] old new same = ap (λ (l : TcpLinkValue). l.made) (sym same)
kept_in_order asked node (e ∷ more) old new (inl (with, next, step, leads)) =
    let one : Exchanged = record { request = request_text (request_for asked e.asked); came = e.came } in
    let test : (e.node == node) ≡ true = eq-eqb e.node node with in
    kept_in_order asked node more next new leads ∙ ap (λ (l : TcpLinkValue). kept_of asked node more ++ l.made) step.0
    ∙ sym (append_assoc (kept_of asked node more) (one ∷ []) old.made)
    ∙ ap (λ (b : Bool). (kept_of asked node more ++ (if b then one ∷ [] else [])) ++ old.made) (sym test)
kept_in_order asked node (e ∷ more) old new (inr (other, leads)) = by (kept_in_order asked node more old new leads) (e.node == node) refl
  where
    one : Exchanged
    one = record { request = request_text (request_for asked e.asked); came = e.came }

    by : new.made ≡ kept_of asked node more ++ old.made → (b : Bool) → (e.node == node) ≡ b → new.made ≡ kept_of asked node (e ∷ more) ++ old.made
    by so_far true test = absurd (other (eqb-true e.node node test))
    by so_far false test =
        so_far
        ∙ ap (λ (xs : List Exchanged). xs ++ old.made) (sym (append-nil (kept_of asked node more)))
        ∙ ap (λ (b : Bool). (kept_of asked node more ++ (if b then one ∷ [] else [])) ++ old.made) (sym test)

pub kept_of_query : (asked : Query) (exchanges : List Exchange) (old new : List TcpLinkValue) (node : ℕ) (before after : TcpLinkValue)
    → AreMade ExchangesOverTcp asked exchanges old new → slice_get old node ≡ Some before → slice_get new node ≡ Some after
    → after.made ≡ kept_of asked node exchanges ++ before.made
kept_of_query asked exchanges old new node before after made at_first at_last =
    kept_in_order asked node exchanges before after (made.each node before after at_first at_last)
