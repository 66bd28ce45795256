-- The rows of the router. Only proofs use these words.
use Rattle.std.specs.Prelude.{ℕ, List, [], ◌∷◌, ◌++◌, length, drop, codes, Option, Some, None}
use Rattle.matchit.specs.Rows.{RowsOf, param_token}
use Rattle.matchit.specs.Router.{RouteOf}
use Rattle.druid_broker.specs.Routes.{Route, health, query, sources, load_status, entry, nowhere, entry_front}
use Rattle.druid_broker.specs.declared.routes.RouteKind.{RouteKind}
use Rattle.druid_broker.specs.declared.routes.RouteKind.TheVariants.{Health, Query, Sources, LoadStatus, Entry}

-- a path to a place
abbrev pub path_row : List ℕ → RouteKind → List ℕ × RouteOf RouteKind
path_row text place = (text, record { pattern = text; text = text; names = []; value = place })

abbrev pub entry_row : List ℕ × RouteOf RouteKind
entry_row = (
  entry_front ++ param_token ∷ [],
  record { pattern = entry_front ++ param_token ∷ []; text = entry_front ++ codes "{node}"; names = (30, 34) ∷ []; value = Entry },
)

-- those that name a whole path
abbrev pub path_rows : RowsOf (RouteOf RouteKind)
path_rows =
    path_row (codes "/druid/broker/v1/loadstatus") LoadStatus
    ∷ path_row (codes "/druid/v2/datasources") Sources
    ∷ path_row (codes "/druid/v2/") Query
    ∷ path_row (codes "/druid/v2") Query
    ∷ path_row (codes "/status/health") Health
    ∷ []

abbrev pub the_rows : RowsOf (RouteOf RouteKind)
the_rows = entry_row ∷ path_rows

-- where a path leads that matches this row
abbrev pub place_route : RouteKind → List ℕ → Route
place_route Health path = health
place_route Query path = query
place_route Sources path = sources
place_route LoadStatus path = load_status
place_route Entry path = entry (drop (length entry_front) path)

abbrev pub reported : Option (RouteOf RouteKind) → List ℕ → Route
reported None path = nowhere
reported (Some r) path = place_route r.value path
