-- Routes by their paths, and the cell in which an answer is counted.
use Rattle.std.specs.Prelude.{ℕ, ◌+◌, ◌*◌, ◌==◌, ◌||◌, nat_lt, Bool, List, [], ◌∷◌, codes, length, take, drop, count_by, position, Option, Some, None, if◌then◌else◌}
use Rattle.std.specs.Str.{bytes_eq}
use Rattle.druid_telemetry_metrics.specs.declared.route.Route.{Route}
use Rattle.druid_telemetry_metrics.specs.declared.route.Route.TheVariants.{Health, Metrics, Query, Datasources, LoadStatus, Segments, Inventory, Other}

abbrev pub begins : List ℕ → List ℕ → Bool
begins front text = bytes_eq (take (length front) text) front

abbrev pub route_at : List ℕ → Route
route_at path =
    if bytes_eq path (codes "/status/health") then Health
    else if bytes_eq path (codes "/metrics") then Metrics
    else if bytes_eq path (codes "/druid/v2") || bytes_eq path (codes "/druid/v2/") then Query
    else if bytes_eq path (codes "/druid/v2/datasources") then Datasources
    else if bytes_eq path (codes "/druid/broker/v1/loadstatus") then LoadStatus
    else if bytes_eq path (codes "/druid-internal/v1/segments") then Segments
    else if begins (codes "/druid-internal/v1/inventory/") path then Inventory
    else Other

abbrev pub is_space : ℕ → Bool
is_space c = c == 32

abbrev pub ends_path : ℕ → Bool
ends_path c = (c == 32) || (c == 63) || (c == 13) || (c == 10)

-- what stands before the first byte that passes a test, or all
abbrev pub front_to : Option ℕ → List ℕ → List ℕ
front_to None text = text
front_to (Some n) text = take n text

-- what stands after the byte at a place
abbrev pub after : Option ℕ → List ℕ → List ℕ
after None text = []
after (Some n) text = drop (n + 1) text

-- the path in the first line of a request: what stands after its first space, up to what ends it
abbrev pub path_in : List ℕ → List ℕ
path_in head = let rest : List ℕ = after (position is_space head) head in front_to (position ends_path rest) rest

abbrev pub route_text : Route → List ℕ
route_text Health = codes "health"
route_text Metrics = codes "metrics"
route_text Query = codes "query"
route_text Datasources = codes "datasources"
route_text LoadStatus = codes "loadstatus"
route_text Segments = codes "segments"
route_text Inventory = codes "inventory"
route_text Other = codes "other"

abbrev pub route_place : Route → ℕ
route_place Health = 0
route_place Metrics = 1
route_place Query = 2
route_place Datasources = 3
route_place LoadStatus = 4
route_place Segments = 5
route_place Inventory = 6
route_place Other = 7

abbrev pub place_of_status : ℕ → ℕ
place_of_status n =
    if n == 200 then 0 else if n == 400 then 1 else if n == 404 then 2 else if n == 405 then 3
    else if n == 500 then 4 else if n == 503 then 5 else 6

abbrev pub status_place : Option ℕ → ℕ
status_place None = 6
status_place (Some n) = place_of_status n

abbrev pub text_of_status : ℕ → List ℕ
text_of_status n =
    if n == 200 then codes "200" else if n == 400 then codes "400" else if n == 404 then codes "404" else if n == 405 then codes "405"
    else if n == 500 then codes "500" else if n == 503 then codes "503" else codes "none"

abbrev pub status_text : Option ℕ → List ℕ
status_text None = codes "none"
status_text (Some n) = text_of_status n

-- the cell of a route and a status: no two have one
abbrev pub cell_of : Route → Option ℕ → ℕ
cell_of route status = 7 * route_place route + status_place status

-- the bounds of the buckets of durations, in microseconds
abbrev pub bounds : List ℕ
bounds = 1000 ∷ 5000 ∷ 10000 ∷ 25000 ∷ 50000 ∷ 100000 ∷ 250000 ∷ 500000 ∷ 1000000 ∷ 2500000 ∷ 5000000 ∷ 10000000 ∷ 30000000 ∷ []

-- the bucket of a duration: how many of the bounds it is above
abbrev pub bucket_of : ℕ → ℕ
bucket_of micros = count_by (λ bound. nat_lt bound micros) bounds
