-- The families that servers report, out of what they counted.
use Rattle.std.specs.Prelude.{ℕ, ◌*◌, ◌==◌, min, ◌^◌, ◌-◌, List, [], ◌∷◌, ◌++◌, codes, flat_map, map, length, get_or, Option, Some, None, if◌then◌else◌}
use Rattle.std.specs.List.{zip}
use Rattle.druid_telemetry_metrics.specs.Routes.{bounds, cell_of, route_text, status_text}
use Rattle.druid_telemetry_metrics.specs.Text.{Label, Sample, Bucket, Family, Histogram, page_text}
use Rattle.druid_telemetry_metrics.specs.declared.family.Number.{Number}
use Rattle.druid_telemetry_metrics.specs.declared.family.Number.TheVariants.{Whole, Micros}
use Rattle.druid_telemetry_metrics.specs.declared.family.Kind.{Kind}
use Rattle.druid_telemetry_metrics.specs.declared.family.Kind.TheVariants.{Counter, Gauge}
use Rattle.druid_telemetry_metrics.specs.declared.families.NodeState.{NodeState}
use Rattle.druid_telemetry_metrics.specs.declared.route.Route.{Route}
use Rattle.druid_telemetry_metrics.specs.declared.route.Route.TheVariants.{Health, Metrics, Query, Datasources, LoadStatus, Segments, Inventory, Other}

-- ---- what was counted

-- what a server counted: its answers by the cell of their route and status, and their durations by bucket
pub record Readings : Type 0 where
  pub connections : ℕ
  pub bytes : ℕ
  pub micros : ℕ
  pub answers : List ℕ
  pub durations : List ℕ

-- what a broker counted of a node: its turns and exchanges by how they ended
pub record Followed : Type 0 where
  pub node : List ℕ
  pub incarnation : ℕ
  pub changes : ℕ
  pub heard : ℕ
  pub turns : List ℕ
  pub exchanges : List ℕ

-- the number at a place, 0 where there is none
abbrev pub number_at : List ℕ → ℕ → ℕ
number_at numbers place = get_or numbers place 0

-- ---- samples

abbrev pub label : List ℕ → List ℕ → Label
label name value = record { name = name; value = value }

-- a number of a server, with what else tells it apart
abbrev pub sample : List ℕ → List Label → Number → Sample
sample server labels number = record { labels = label (codes "server") server ∷ labels; number = number }

-- a count, left out where it is 0
abbrev pub counted_sample : List ℕ → List Label → ℕ → List Sample
counted_sample server labels count = if count == 0 then [] else sample server labels (Whole count) ∷ []

abbrev pub family : List ℕ → List ℕ → Kind → List Sample → Family
family name help kind samples = record { name = name; help = help; kind = kind; samples = samples }

-- a family of one number
abbrev pub single : List ℕ → List ℕ → Kind → List ℕ → ℕ → Family
single name help kind server number = family name help kind (sample server [] (Whole number) ∷ [])

-- ---- a server

abbrev pub routes : List Route
routes = Health ∷ Metrics ∷ Query ∷ Datasources ∷ LoadStatus ∷ Segments ∷ Inventory ∷ Other ∷ []

-- the statuses that servers write, and none
abbrev pub statuses : List (Option ℕ)
statuses = Some 200 ∷ Some 400 ∷ Some 404 ∷ Some 405 ∷ Some 500 ∷ Some 503 ∷ None ∷ []

-- how often a route was answered with a status
abbrev pub answers_of : List ℕ → List ℕ → Route → Option ℕ → List Sample
answers_of server answers route status = counted_sample server
    (label (codes "route") (route_text route) ∷ label (codes "status") (status_text status) ∷ [])
    (number_at answers (cell_of route status))

abbrev pub route_answers : List ℕ → List ℕ → Route → List Sample
route_answers server answers route = flat_map (answers_of server answers route) statuses

abbrev pub server_families : List ℕ → Readings → List Family
server_families server r =
    single (codes "druid_cluster_connections_total") (codes "Connections that were taken.") Counter server r.connections
    ∷ family (codes "druid_cluster_answers_total") (codes "Connections that ended, by route and by the status that was written.") Counter
    (flat_map (route_answers server r.answers) routes)
    ∷ single (codes "druid_cluster_written_bytes_total") (codes "Bytes that were written to connections.") Counter server r.bytes
    ∷ []

-- how many answers took at most each bound, in microseconds, and longer than the bound before it
abbrev pub bucket : ℕ × ℕ → Bucket
bucket p = record { bound = p.0; count = p.1 }

abbrev pub buckets : List ℕ → List Bucket
buckets durations = map bucket (zip bounds durations)

abbrev pub server_histogram : List ℕ → Readings → Histogram
server_histogram server r = record {
  name = codes "druid_cluster_answer_seconds";
  help = codes "How long connections took, from their first byte to their last.";
  spreads = record {
    labels = label (codes "server") server ∷ [];
    buckets = buckets r.durations;
    over = number_at r.durations (length bounds);
    sum = r.micros;
  } ∷ [];
}

-- ---- a node

-- the name, the sentence and the number of each family
abbrev pub node_rows : NodeState → List (List ℕ × List ℕ × ℕ)
node_rows state =
    (codes "druid_cluster_node_incarnation", codes "The incarnation of the node.", state.incarnation)
    ∷ (codes "druid_cluster_node_changes", codes "The count of the node's mark: its loads and drops in this incarnation.", state.changes)
    ∷ (codes "druid_cluster_node_segments", codes "Segments that the node loaded and did not drop.", state.segments)
    ∷ (codes "druid_cluster_node_rows", codes "Rows of the segments that the node holds.", state.rows)
    ∷ (codes "druid_cluster_node_file_bytes", codes "Bytes of the segment files that the node holds.", state.bytes)
    ∷ []

abbrev pub node_families : List ℕ → NodeState → List Family
node_families server state = map (λ r. single r.0 r.1 Gauge server r.2) (node_rows state)

-- ---- a broker

abbrev pub turn_ends : List (List ℕ)
turn_ends = map codes ("Moved" ∷ "AlreadyHave" ∷ "AskWhole" ∷ "AskPages" ∷ "K1" ∷ "K2" ∷ "K3" ∷ "K4" ∷ "K5" ∷ "K6" ∷ "K9" ∷ [])

abbrev pub exchange_ends : List (List ℕ)
exchange_ends = map codes ("answered" ∷ "X1" ∷ "X2" ∷ "X3" ∷ "X4" ∷ "X5" ∷ "X6" ∷ "X7" ∷ "X8" ∷ "X9" ∷ [])

-- what ended each way of a node
abbrev pub ended : List ℕ → List ℕ → List (List ℕ) → List ℕ → List Sample
ended server node ends counts =
    flat_map (λ p. counted_sample server (label (codes "node") node ∷ label (codes "end") p.0 ∷ []) p.1) (zip ends counts)

-- a number of a node
abbrev pub followed_sample : List ℕ → (Followed → Number) → Followed → Sample
followed_sample server number f = sample server (label (codes "node") f.node ∷ []) (number f)

abbrev pub broker_families : List ℕ → List Followed → List Family
broker_families server nodes =
    family (codes "druid_cluster_turns_total") (codes "Turns with a node that is followed, by how they ended.") Counter
    (flat_map (λ (f : Followed). ended server f.node turn_ends f.turns) nodes)
    ∷ family (codes "druid_cluster_exchanges_total") (codes "Exchanges with a node, of turns and of queries, by how they ended.") Counter
    (flat_map (λ (f : Followed). ended server f.node exchange_ends f.exchanges) nodes)
    ∷ family (codes "druid_cluster_followed_incarnation") (codes "The incarnation of the mark that is held of a node, 0 where it was never synced.") Gauge
    (map (followed_sample server (λ f. Whole f.incarnation)) nodes)
    ∷ family (codes "druid_cluster_followed_changes") (codes "The count of the mark that is held of a node.") Gauge
    (map (followed_sample server (λ f. Whole f.changes)) nodes)
    ∷ family (codes "druid_cluster_followed_heard_timestamp_seconds") (codes "When a turn with a node last did not fail, in seconds since 1970; 0 where none has.") Gauge
    (map (followed_sample server (λ f. Micros (min (1000 * f.heard) (2 ^ 64 - 1)))) nodes)
    ∷ []

-- ---- pages

-- what a server tells of its connections, then its own families, and how long its answers took
abbrev pub server_page : List ℕ → Readings → List Family → List ℕ
server_page server r own = page_text (server_families server r ++ own) (server_histogram server r ∷ [])

abbrev pub node_page : List ℕ → Readings → NodeState → List ℕ
node_page server r state = server_page server r (node_families server state)

abbrev pub broker_page : List ℕ → Readings → List Followed → List ℕ
broker_page server r nodes = server_page server r (broker_families server nodes)
