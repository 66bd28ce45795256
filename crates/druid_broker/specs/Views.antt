-- What a broker answers by way of a view of what is published.
use Rattle.std.specs.Prelude.{◌≡◌, ◌⊎◌, ℕ, true, List, codes, bytes_eq, IsSome, Ok}
use mathlib.Core.List.{IsPrefix}
use Rattle.druid_base.specs.Numbers.{number_at}
use Rattle.druid_sync_text.specs.Asks.{ask_at}
use Rattle.druid_inventory.specs.Entry.{Entry}
use Rattle.druid_inventory_views.specs.Fold.{Published, fold_of}
use Rattle.druid_query.specs.Query.{Query}
use Rattle.druid_query.specs.Read.{IsReadOf}
use Rattle.druid_link.specs.Links.{Came}
use Rattle.druid_http_message.specs.Requests.{RequestValue, path_of, parameters_of}
use Rattle.druid_http_wire.specs.Served.{Reports, IsOutOfMemory}
use Rattle.druid_broker.specs.Routes.{Route, health, query, sources, load_status, entry, nowhere, route_of, AnswersAt}

-- an answer takes the inventory where a query is posted that reads as one, and where what is known is got: of all nodes, or of
-- one that goes by a number, as an ask that reads asks
abbrev pub TakesInventory : Route → RequestValue → Type 0
TakesInventory health request = ⊥
TakesInventory query request = (bytes_eq request.method (codes "POST") ≡ true) × ((asked : Query) × IsReadOf request.body (Ok asked))
TakesInventory sources request = bytes_eq request.method (codes "GET") ≡ true
TakesInventory load_status request = bytes_eq request.method (codes "GET") ≡ true
TakesInventory (entry node) request =
    (bytes_eq request.method (codes "GET") ≡ true) × IsSome (number_at node) × IsSome (ask_at (parameters_of request.target))
TakesInventory nowhere request = ⊥

-- what is answered where nothing was read: the view was given no reading, or memory was refused
abbrev pub AnswersUnread : ℕ → List ℕ → Type 0
AnswersUnread status body = Reports 500 (codes "{\"error\":\"NoReading\"}") status body ⊎ IsOutOfMemory status body

-- what a broker answers on a route by way of a view, which has seen one list of what is published and then another: where the answer
-- takes the inventory, by that which the second list makes of the opening one; or what it answers whatever is known; or that nothing
-- was read, and then no link is used
abbrev pub RespondsAt : {L : Type 0} → (L → List ℕ → Came → L → Type 0) → (List ℕ → List ℕ) → List Entry → Route → Published → Published → List L → List L → RequestValue → ℕ → List ℕ → Type 0
RespondsAt step order opening route seen now old new request status body =
    (TakesInventory route request × IsPrefix seen now × AnswersAt step order route (fold_of opening now) old new request status body)
    ⊎ ((TakesInventory route request → IsOutOfMemory status body)
    × ((inventory : List Entry) → AnswersAt step order route inventory old new request status body) × (now ≡ seen) × (new ≡ old))
    ⊎ (TakesInventory route request × AnswersUnread status body × (now ≡ seen) × (new ≡ old))

-- the same on the route that the request names
abbrev pub RespondsBy : {L : Type 0} → (L → List ℕ → Came → L → Type 0) → (List ℕ → List ℕ) → List Entry → Published → Published → List L → List L → RequestValue → ℕ → List ℕ → Type 0
RespondsBy step order opening seen now old new request status body =
    RespondsAt step order opening (route_of (path_of request.target)) seen now old new request status body
