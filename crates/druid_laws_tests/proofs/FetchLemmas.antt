-- What comes over a link to a data node is honest in a life of the node.
use Rattle.std.proofs.Common.{◌≡◌, ℕ, List, [], ◌∷◌, Some, Ok, Err, ◌∙◌, subst}
use Rattle.std.specs.Prelude.{IfOk}
use Rattle.druid_segment_descriptor.specs.declared.change.Ask.{Ask}
use Rattle.druid_segment_descriptor.specs.declared.reply.Body.{Body}
use Rattle.druid_sync_text.specs.Asks.{ask_at, parameters_of}
use Rattle.druid_link.specs.Links.{Came}
use Rattle.druid_http_message.specs.Requests.{RequestValue}
use Rattle.druid_http_message.specs.declared.fault.WireFault.{WireFault}
use Rattle.druid_http_wire.specs.Written.{answer_text, request_text}
use Rattle.druid_node.specs.State.{State}
use Rattle.druid_node.specs.Routes.{RespondsInTurn}
use Rattle.druid_broker_follow.specs.Turns.{ask_request, IsAnswerTo}
use Rattle.druid_laws_world.specs.World.{Life, IsHonest, eras_of}
use Rattle.druid_laws_headline.specs.Headline.{AnswersHonestly, HasText, Leads}
use Rattle.druid_laws_tests.specs.Exchanges.{IsAnswered, ExchangesWithNode}
use Rattle.druid_laws_tests.proofs.RequestLemmas.{ask_read}

-- exchanges leave the node as it is
stays : (sent : List (List ℕ)) (old new : State) → Leads ExchangesWithNode sent old new → new ≡ old
stays [] old new is = is
stays (bytes ∷ sent) old new (came, between, made, rest) = stays sent between new rest ∙ made.0

no_bytes : (fault : WireFault) (bytes : List ℕ) → Path Came (Err fault) (Ok bytes) → ⊥
no_bytes fault bytes e = cc

-- what a node that stays as it is answers to an ask is honest
abbrev pub IsHonestNode : Life → State → Type 0
IsHonestNode life state =
    (ask : Ask) (status : ℕ) (body : List ℕ) (reply : Body) → ask_at (parameters_of ask) ≡ Some ask → RespondsInTurn state state (ask_request ask) status body
    → IsAnswerTo (Ok (answer_text status body)) (Ok reply) → IsHonest (eras_of life) reply

came_honest : (life : Life) (state : State) → IsHonestNode life state → (ask : Ask) → HasText ask → ask_at (parameters_of ask) ≡ Some ask → (came : Came) (reply : Body)
    → IfOk came (IsAnswered state (request_text (ask_request ask))) → IsAnswerTo came (Ok reply) → IsHonest (eras_of life) reply
came_honest life state honest ask text back (Err fault) reply is answer = absurd (no_bytes fault answer.0 answer.2)
came_honest life state honest ask text back (Ok bytes) reply is answer =
    honest ask is.status is.body reply back
    (subst (λ (r : RequestValue). RespondsInTurn state state r is.status is.body) (ask_read ask is.request is.rest text is.read) is.responds)
    (subst (λ (b : List ℕ). IsAnswerTo (Ok b) (Ok reply)) is.written answer)

pub link_is_honest : ((ask : Ask) → HasText ask → ask_at (parameters_of ask) ≡ Some ask) → (life : Life) (state end : State) → IsHonestNode life state
    → AnswersHonestly ExchangesWithNode ask_request life state end
link_is_honest back life state end honest sent later ask old new reply leads text is rest =
    let here : old ≡ state = stays sent state old leads in
    came_honest life state honest ask text (back ask text) is.came reply
    (subst (λ (s : State). IfOk is.came (IsAnswered s (request_text (ask_request ask)))) here is.made.1) is.reported
