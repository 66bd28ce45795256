-- What a broker answers to a request.
use Rattle.std.specs.Prelude.{◌≡◌, ◌⊎◌, ◌&&◌, ◌==◌, ℕ, Bool, true, false, List, length, take, drop, map, codes, bytes_eq, nat_le, nat_lt, not, slice_get, Contains, ◌↔◌, Option, Some, None, if◌then◌else◌}
use Rattle.std.specs.List.{list_all, list_any}
use Rattle.std.specs.List.Sorted.{IsStrictlySortedBy}
use Rattle.std.specs.Ordering.{nat_cmp}
use Rattle.std.specs.Cmp.Lexicographic.{slice_cmp}
use Rattle.serde_json.specs.Data.{Data, array, string}
use Rattle.serde_json.specs.View.{items_of}
use Rattle.serde_json.specs.Written.{compact_text}
use Rattle.druid_base.specs.Numbers.{number_at}
use Rattle.druid_segment_descriptor.specs.declared.change.Ask.{Ask}
use Rattle.druid_segment_descriptor.specs.declared.reply.Body.{Body}
use Rattle.druid_sync_text.specs.Asks.{ask_at}
use Rattle.druid_sync_text.specs.Written.{reply_text}
use Rattle.druid_inventory.specs.Entry.{Entry, IsUnsynced, IsAnswerOf}
use Rattle.druid_inventory.specs.Sources.{HasSource}
use Rattle.druid_link.specs.Links.{Came}
use Rattle.druid_http_message.specs.Requests.{RequestValue, parameters_of}
use Rattle.druid_http_wire.specs.Served.{Reports, Gets, IsOutOfMemory}
use Rattle.druid_broker.specs.Queries.{AnswersQuery, WantsMemory}

-- where requests go
pub data Route : Type 0 where
  health : Route
  query : Route
  sources : Route
  load_status : Route
  entry : (node : List ℕ) → Route
  nowhere : Route

-- the part after `/druid-internal/v1/inventory/`, where it is one, and not empty
abbrev pub entry_front : List ℕ
entry_front = codes "/druid-internal/v1/inventory/"

abbrev pub is_part : List ℕ → Bool
is_part text = nat_lt 0 (length text) && not (list_any (λ b. b == 47) text)

abbrev pub entry_route : List ℕ → Route
entry_route path =
    if bytes_eq (take (length entry_front) path) entry_front && is_part (drop (length entry_front) path)
    then entry (drop (length entry_front) path) else nowhere

abbrev pub route_of : List ℕ → Route
route_of path =
    if bytes_eq path (codes "/status/health") then health
    else (if bytes_eq path (codes "/druid/v2") then query
    else (if bytes_eq path (codes "/druid/v2/") then query
    else (if bytes_eq path (codes "/druid/v2/datasources") then sources
    else (if bytes_eq path (codes "/druid/broker/v1/loadstatus") then load_status
    else entry_route path))))

-- ---- out of memory

-- an answer that allocates
abbrev pub OrOutOfMemory : (ℕ → List ℕ → Type 0) → ℕ → List ℕ → Type 0
OrOutOfMemory P status body = P status body ⊎ IsOutOfMemory status body

-- ---- what the inventory tells

-- the data sources that it has, in order
abbrev pub names_data : List (List ℕ) → Data
names_data names = array (items_of (map string names))

pub record AnswersSources (inventory : List Entry) (status : ℕ) (body : List ℕ) : Type 0 where
  pub names : List (List ℕ)
  pub all : (source : List ℕ) → Contains names source ↔ HasSource inventory source
  pub ordered : IsStrictlySortedBy (slice_cmp nat_cmp) names
  pub reported : Reports 200 (compact_text (names_data names)) status body

-- each node was synced
abbrev pub is_loaded : List Entry → Bool
is_loaded inventory = list_all (λ e. nat_le 1 e.mark.incarnation) inventory

abbrev pub loaded_text : Bool → List ℕ
loaded_text true = codes "{\"inventoryInitialized\":true}"
loaded_text false = codes "{\"inventoryInitialized\":false}"

-- what is known of a node, as it is asked for
abbrev pub AnswersNode : List Entry → ℕ → Ask → ℕ → List ℕ → Type 0
AnswersNode inventory node ask status body =
    ((slice_get inventory node ≡ None) × Reports 404 (codes "{\"error\":\"V2\"}") status body)
    ⊎ (IsUnsynced inventory node × Reports 404 (codes "{\"error\":\"V3\"}") status body)
    ⊎ ((reply : Body) × IsAnswerOf inventory node ask reply × OrOutOfMemory (Reports 200 (reply_text reply)) status body)

-- of the node with that number, where one reads
abbrev pub AnswersNumber : List Entry → Option ℕ → Ask → ℕ → List ℕ → Type 0
AnswersNumber inventory None ask status body = Reports 404 (codes "{\"error\":\"V2\"}") status body
AnswersNumber inventory (Some node) ask status body = AnswersNode inventory node ask status body

-- to that ask, where one reads, and else whatever the node is
abbrev pub AnswersEntry : List Entry → Option ℕ → Option Ask → ℕ → List ℕ → Type 0
AnswersEntry inventory number None status body = Reports 400 (codes "{\"error\":\"Y6\"}") status body
AnswersEntry inventory number (Some ask) status body = AnswersNumber inventory number ask status body

-- ---- the whole

-- what is answered on a route without asking a node
abbrev pub ReportsAt : Route → List Entry → RequestValue → ℕ → List ℕ → Type 0
ReportsAt health inventory request status body = Gets request (Reports 200 (codes "true")) status body
ReportsAt query inventory request status body = ⊥
ReportsAt sources inventory request status body = Gets request (OrOutOfMemory (AnswersSources inventory)) status body
ReportsAt load_status inventory request status body = Gets request (Reports 200 (loaded_text (is_loaded inventory))) status body
ReportsAt (entry node) inventory request status body =
    Gets request (AnswersEntry inventory (number_at node) (ask_at (parameters_of request.target))) status body
ReportsAt nowhere inventory request status body = Reports 404 (codes "{\"error\":\"NoRoute\"}") status body

-- the answer to a query that is posted; another method uses no link
abbrev pub AnswersPost : {L : Type 0} → (L → List ℕ → Came → L → Type 0) → (List ℕ → List ℕ) → Bool → List Entry → List ℕ → List L → List L → ℕ → List ℕ → Type 0
AnswersPost step order true inventory bytes old new status body =
    AnswersQuery step order inventory bytes old new status body ⊎ (WantsMemory step order inventory bytes old new × IsOutOfMemory status body)
AnswersPost step order false inventory bytes old new status body = Reports 405 (codes "{\"error\":\"Method\"}") status body × (new ≡ old)

-- the answer on a route, and what the links become: only queries use them
abbrev pub AnswersAt : {L : Type 0} → (L → List ℕ → Came → L → Type 0) → (List ℕ → List ℕ) → Route → List Entry → List L → List L → RequestValue → ℕ → List ℕ → Type 0
AnswersAt step order query inventory old new request status body =
    AnswersPost step order (bytes_eq request.method (codes "POST")) inventory request.body old new status body
AnswersAt step order route inventory old new request status body =
    ReportsAt route inventory request status body × (new ≡ old)
