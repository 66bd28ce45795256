-- What a node answers to a request.
use Rattle.std.specs.Prelude.{◌≡◌, ◌≢◌, ◌⊎◌, IsSome, ℕ, Bool, true, false, List, codes, bytes_eq, Option, Some, None, Ok, Err, if◌then◌else◌}
use Rattle.druid_segment_descriptor.specs.declared.change.Ask.{Ask}
use Rattle.druid_segment_descriptor.specs.declared.change.Change.{Change}
use Rattle.druid_segment_descriptor.specs.declared.reply.Body.{Body}
use Rattle.druid_sync_history.specs.Kept.{Kept, StandsFor, frozen_count}
use Rattle.druid_sync_history.specs.Answer.{answer}
use Rattle.druid_sync_text.specs.Asks.{ask_at}
use Rattle.druid_sync_text.specs.Back.{IsReadBack}
use Rattle.druid_sync_text.specs.Written.{reply_text}
use Rattle.druid_segment_rows.specs.Segment.{Segment}
use Rattle.druid_query.specs.Read.{IsReadBy}
use Rattle.druid_query.specs.SubQuery.{SubQuery, subquery_at}
use Rattle.druid_query.specs.declared.fault.QueryFault.{QueryFault}
use Rattle.druid_query.specs.declared.fault.QueryFault.TheVariants.{Memory}
use Rattle.druid_query.specs.Refused.{refusal_text}
use Rattle.druid_partial.specs.Answer.{Answer}
use Rattle.druid_partial_text.specs.Answers.{answer_text}
use Rattle.druid_http_message.specs.Requests.{RequestValue, path_of, parameters_of}
use Rattle.druid_http_wire.specs.Served.{Reports, Allows, Gets, IsOutOfMemory}
use Rattle.druid_node.specs.State.{State}
use Rattle.druid_node.specs.Answers.{IsAnswerOf}
use Rattle.druid_node.specs.declared.routes.Route.{Route}
use Rattle.druid_node.specs.declared.routes.Route.TheVariants.{Health, Segments, Query, Nowhere}

abbrev pub route_of : List ℕ → Route
route_of path =
    if bytes_eq path (codes "/status/health") then Health
    else (if bytes_eq path (codes "/druid-internal/v1/segments") then Segments
    else (if bytes_eq path (codes "/druid/v2") then Query
    else (if bytes_eq path (codes "/druid/v2/") then Query else Nowhere)))

-- ---- what it serves. An ask may freeze the set that is served, so there is a state before an answer and one after it

-- what the history answers to the ask, and which set is frozen then
abbrev pub IsReplyTo : Kept → Kept → Ask → Body → Type 0
IsReplyTo old new ask reply =
    (history : List Change) → StandsFor old history
    → answer old.incarnation history old.limit (frozen_count old.frozen) ask ≡ Some (reply, frozen_count new.frozen)

-- with a text that is read back as that
abbrev pub AnswersFound : State → State → Option Ask → ℕ → List ℕ → Type 0
AnswersFound old new None status body = (new ≡ old) × Reports 400 (codes "{\"error\":\"Y6\"}") status body
AnswersFound old new (Some ask) status body =
    (reply : Body) × IsReplyTo old.history new.history ask reply × IsReadBack reply × Reports 200 (reply_text reply) status body

-- the parameters spell an ask
abbrev pub AnswersAsk : State → State → List ℕ → ℕ → List ℕ → Type 0
AnswersAsk old new parameters status body = AnswersFound old new (ask_at parameters) status body

-- an ask, where the method is GET
abbrev pub AnswersGet : Bool → State → State → List ℕ → ℕ → List ℕ → Type 0
AnswersGet true old new parameters status body = AnswersAsk old new parameters status body
AnswersGet false old new parameters status body = (new ≡ old) × Reports 405 (codes "{\"error\":\"Method\"}") status body

-- ---- queries

abbrev pub AnswersSub : List Segment → SubQuery → ℕ → List ℕ → Type 0
AnswersSub held sub status body = (a : Answer) × IsAnswerOf held sub a × Reports 200 (answer_text a) status body

-- the bytes read as a subquery, or are refused as one
abbrev pub AnswersQuery : List Segment → List ℕ → ℕ → List ℕ → Type 0
AnswersQuery held bytes status body =
    ((sub : SubQuery) × IsReadBy subquery_at bytes (Ok sub) × AnswersSub held sub status body)
    ⊎ ((fault : QueryFault) × (fault ≢ Memory) × IsReadBy subquery_at bytes (Err fault) × Reports 400 (refusal_text fault) status body)

-- ---- the whole

-- an answer that is no ask's leaves the state as it was
abbrev pub AnswersAt : Route → State → State → RequestValue → ℕ → List ℕ → Type 0
AnswersAt Health old new request status body =
    (new ≡ old) × Gets request (Reports 200 (codes "true")) status body
AnswersAt Segments old new request status body =
    AnswersGet (bytes_eq request.method (codes "GET")) old new (parameters_of request.target) status body
AnswersAt Query old new request status body =
    (new ≡ old) × Allows (bytes_eq request.method (codes "POST")) (AnswersQuery old.held request.body) status body
AnswersAt Nowhere old new request status body = (new ≡ old) × Reports 404 (codes "{\"error\":\"NoRoute\"}") status body

-- what a node in the old state answers to the request; then it is in the new one
abbrev pub Responds : State → State → RequestValue → ℕ → List ℕ → Type 0
Responds old new request status body = AnswersAt (route_of (path_of request.target)) old new request status body

-- the answer takes memory: to an ask that reads, or to what is posted as a query
abbrev pub TakesMemory : Route → RequestValue → Type 0
TakesMemory Health request = ⊥
TakesMemory Segments request =
    (bytes_eq request.method (codes "GET") ≡ true) × IsSome (ask_at (parameters_of request.target))
TakesMemory Query request = bytes_eq request.method (codes "POST") ≡ true
TakesMemory Nowhere request = ⊥

-- out of memory in the place of an answer that takes some
abbrev pub RespondsInTurn : State → State → RequestValue → ℕ → List ℕ → Type 0
RespondsInTurn old new request status body =
    Responds old new request status body
    ⊎ (TakesMemory (route_of (path_of request.target)) request × IsOutOfMemory status body)
