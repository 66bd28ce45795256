-- What a status address answers.
use Rattle.std.specs.Prelude.{◌≡◌, ◌⊎◌, ⊤, ℕ, Bool, true, false, List, Option, Some, codes, bytes_eq, IfSome, if◌then◌else◌}
use Rattle.std.specs.Io.KnownBytes.{Appends}
use Rattle.druid_http_message.specs.Requests.{RequestValue, path_of}
use Rattle.druid_telemetry_metrics.specs.Routes.{route_at}
use Rattle.druid_telemetry_metrics.specs.Response.{response_text}
use Rattle.druid_telemetry_metrics.specs.declared.route.Route.{Route}
use Rattle.druid_telemetry_metrics.specs.declared.route.Route.TheVariants.{Health, Metrics, Query, Datasources, LoadStatus, Segments, Inventory, Other}
use Rattle.druid_http_wire.specs.Messages.{IsRequest}
use Rattle.druid_http_wire.specs.Served.{Reports, Gets, IsOutOfMemory, IsSent, IsRefused}
use Rattle.druid_serve_base.specs.declared.status.StatusAnswer.{StatusAnswer}
use Rattle.druid_serve_base.specs.declared.status.StatusAnswer.TheVariants.{Page, Short}

abbrev pub loaded_text : Bool → List ℕ
loaded_text true = codes "{\"inventoryInitialized\":true}"
loaded_text false = codes "{\"inventoryInitialized\":false}"

-- an answer as servers give it everywhere
abbrev pub IsShort : (ℕ → List ℕ → Type 0) → StatusAnswer → Type 0
IsShort P (Short response) = P response.status response.body
IsShort P (Page text) = ⊥

-- the metrics of a server, or none where memory runs out
abbrev pub IsPage : StatusAnswer → Type 0
IsPage (Page text) = ⊤
IsPage (Short response) = IsOutOfMemory response.status response.body

abbrev pub LeadsNowhere : ℕ → List ℕ → Type 0
LeadsNowhere status body = Reports 404 (codes "{\"error\":\"NoRoute\"}") status body

-- whether each node was synced
abbrev pub ReportsLoad : ℕ → List ℕ → Type 0
ReportsLoad status body = (loaded : Bool) × Reports 200 (loaded_text loaded) status body

-- metrics, where the method is the one that gets them
abbrev pub AnswersMetrics : Bool → StatusAnswer → Type 0
AnswersMetrics true answer = IsPage answer
AnswersMetrics false answer = IsShort (Reports 405 (codes "{\"error\":\"Method\"}")) answer

-- the load status, of a server that follows nodes
abbrev pub AnswersLoad : Bool → RequestValue → StatusAnswer → Type 0
AnswersLoad true request answer = IsShort (Gets request ReportsLoad) answer
AnswersLoad false request answer = IsShort LeadsNowhere answer

-- what is answered at a route
abbrev pub AnswersStatus : Bool → Route → RequestValue → StatusAnswer → Type 0
AnswersStatus follows Health request answer = IsShort (Gets request (Reports 200 (codes "true"))) answer
AnswersStatus follows Metrics request answer = AnswersMetrics (bytes_eq request.method (codes "GET")) answer
AnswersStatus follows LoadStatus request answer = AnswersLoad follows request answer
AnswersStatus follows Query request answer = IsShort LeadsNowhere answer
AnswersStatus follows Datasources request answer = IsShort LeadsNowhere answer
AnswersStatus follows Segments request answer = IsShort LeadsNowhere answer
AnswersStatus follows Inventory request answer = IsShort LeadsNowhere answer
AnswersStatus follows Other request answer = IsShort LeadsNowhere answer

-- the answer was written, with this status
abbrev pub IsWritten : Option (List ℕ) → Option (List ℕ) → StatusAnswer → ℕ → Type 0
IsWritten old new (Short response) sent = IsSent old new response.status response.body sent
IsWritten old new (Page text) sent = Appends old new (response_text text.items) × (sent ≡ 200)

-- a request was read and its answer written
pub record IsAnsweredThere (follows : Bool) (before after old new : Option (List ℕ)) (sent : ℕ) : Type 0 where
  pub request : RequestValue
  pub answer : StatusAnswer
  pub read : IfSome before (λ input. (rest : List ℕ) × (after ≡ Some rest) × IsRequest input request rest)
  pub answers : AnswersStatus follows (route_at (path_of request.target)) request answer
  pub written : IsWritten old new answer sent

-- no request was read, and that was answered
pub record IsRefusedThere (before old new : Option (List ℕ)) (sent : ℕ) : Type 0 where
  pub status : ℕ
  pub body : List ℕ
  pub refused : IsRefused before status body
  pub written : IsSent old new status body sent
