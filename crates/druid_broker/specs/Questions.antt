-- What a request asks of an inventory, and what one answers. Only proofs and private functions use this.
use Rattle.std.specs.Prelude.{◌≡◌, ◌≢◌, ◌⊎◌, ℕ, true, List, codes, bytes_eq, Some, Ok, Err}
use Rattle.druid_base.specs.Numbers.{number_at}
use Rattle.druid_sync_text.specs.Asks.{ask_at}
use Rattle.druid_inventory.specs.Entry.{Entry}
use Rattle.druid_query.specs.Query.{Query}
use Rattle.druid_query.specs.Read.{IsReadOf}
use Rattle.druid_query.specs.Refused.{refusal_text}
use Rattle.druid_query.specs.declared.fault.QueryFault.{QueryFault}
use Rattle.druid_query.specs.declared.fault.QueryFault.TheVariants.{Memory}
use Rattle.druid_link.specs.Links.{Came}
use Rattle.druid_http_message.specs.Requests.{RequestValue, parameters_of}
use Rattle.druid_http_wire.specs.Served.{Reports, Allows, IsOutOfMemory}
use Rattle.druid_broker.specs.Queries.{NamesField}
use Rattle.druid_broker.specs.Routes.{Route, query, sources, load_status, entry, OrOutOfMemory, AnswersSources, AnswersNode, AnswersPost, ReportsAt, loaded_text, is_loaded}
use Rattle.druid_broker.specs.Views.{TakesInventory}
use Rattle.druid_broker.specs.declared.question.Question.{Question}
use Rattle.druid_broker.specs.declared.question.Question.TheVariants as asks

-- the question that a request puts on a route
abbrev pub Asks : Route → RequestValue → Question → Type 0
Asks sources request asks.Sources = bytes_eq request.method (codes "GET") ≡ true
Asks load_status request asks.LoadStatus = bytes_eq request.method (codes "GET") ≡ true
Asks (entry node) request (asks.Entry number ask) =
    (bytes_eq request.method (codes "GET") ≡ true) × (number_at node ≡ Some number) × (ask_at (parameters_of request.target) ≡ Some ask)
Asks query request (asks.Rows asked timeout) = (bytes_eq request.method (codes "POST") ≡ true) × IsReadOf request.body (Ok asked)
Asks route request question = ⊥

-- the answer to bytes that are no query, or for which memory is refused
abbrev pub RefusesBody : List ℕ → ℕ → List ℕ → Type 0
RefusesBody bytes status body =
    ((fault : QueryFault) × IsReadOf bytes (Err fault)
    × (fault ≢ Memory → Reports 400 (refusal_text fault) status body ⊎ (NamesField fault × IsOutOfMemory status body))
    × (fault ≡ Memory → IsOutOfMemory status body))
    ⊎ ((asked : Query) × IsReadOf bytes (Ok asked) × IsOutOfMemory status body)

-- the answer to a request that puts no question
abbrev pub Settles : Route → RequestValue → ℕ → List ℕ → Type 0
Settles query request status body = Allows (bytes_eq request.method (codes "POST")) (RefusesBody request.body) status body
Settles route request status body =
    (TakesInventory route request → ⊥) × ((inventory : List Entry) → ReportsAt route inventory request status body)

-- what an inventory answers to a question, and what the links become
abbrev pub Answers : {L : Type 0} → (L → List ℕ → Came → L → Type 0) → (List ℕ → List ℕ) → Question → List Entry → List L → List L → ℕ → List ℕ → Type 0
Answers step order asks.Sources inventory old new status body = OrOutOfMemory (AnswersSources inventory) status body × (new ≡ old)
Answers step order asks.LoadStatus inventory old new status body = Reports 200 (loaded_text (is_loaded inventory)) status body × (new ≡ old)
Answers step order (asks.Entry number ask) inventory old new status body = AnswersNode inventory number ask status body × (new ≡ old)
Answers step order (asks.Rows asked timeout) inventory old new status body =
    (bytes : List ℕ) → IsReadOf bytes (Ok asked) → AnswersPost step order true inventory bytes old new status body
