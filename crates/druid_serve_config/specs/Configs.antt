-- Configs, read out of JSON. A text is its bytes.
use Rattle.std.specs.Prelude.{◌≡◌, ℕ, ◌<◌, ◌≤◌, ◌&&◌, Bool, true, false, nat_le, nat_lt, IsTrue, IsSome, IfSome, is_some, is_none, All, List, [], codes, length, map, Option, Some, None, unwrap_or, option_map, option_and_then, if◌then◌else◌}
use Rattle.serde_json.specs.Data.{Data, Items}
use Rattle.serde_json.specs.Read.{read}
use Rattle.serde_json.specs.Find.{get, as_array, as_bool, as_object, as_str}
use Rattle.serde_json.specs.Written.{compact_text, has_float}
use Rattle.druid_base.specs.Options.{◌>>=◌}
use Rattle.druid_segment_id.specs.Names.{is_name}
use Rattle.druid_segment_id.specs.Identifier.{Identifier}
use Rattle.druid_base.specs.Distinct.{AreDistinct, are_distinct}
use Rattle.druid_base.specs.Fields.{list_at, text_at, number_at}
use Rattle.druid_segment_text.specs.Json.{source_at, interval_at, version_at}
use Rattle.druid_base.specs.Each.{each_of}
use Rattle.druid_serve_config.specs.Addresses.{is_address, IsAddress, IsLocal}
use Rattle.druid_serve_config.specs.Limits.{max_servers, max_workers, max_kept, max_count, max_rest, max_patience, usual_patience, max_front, max_threads}

-- ---- what a config tells

-- the addresses of a server: where others reach it, where it listens, and where it answers how it is, if it does
pub record Addresses : Type 0 where
  pub address : List ℕ
  pub listen : List ℕ
  pub status : Option (List ℕ)

-- a server that does not say where it listens, listens at its address
abbrev pub addresses_of : List ℕ → Option (List ℕ) → Option (List ℕ) → Addresses
addresses_of address listen status = record { address = address; listen = unwrap_or listen address; status = status }

-- a data node: its name, its addresses, the path of its folder, the files that it loads, the tombstones that it places, how many
-- threads answer, after how many milliseconds each it looks at its folder, if it does, how many front threads it has, and how many
-- threads count one query
pub record Node : Type 0 where
  pub name : List ℕ
  pub address : List ℕ
  pub listen : List ℕ
  pub status : Option (List ℕ)
  pub folder : List ℕ
  pub loads : List (List ℕ)
  pub tombstones : List Identifier
  pub workers : ℕ
  pub watch : Option ℕ
  pub front : ℕ
  pub threads : ℕ

abbrev pub node_of : List ℕ → Addresses → List ℕ → List (List ℕ) → List Identifier → ℕ → Option ℕ → ℕ → ℕ → Node
node_of name addresses folder loads tombstones workers watch front threads = record {
  name = name;
  address = addresses.address;
  listen = addresses.listen;
  status = addresses.status;
  folder = folder;
  loads = loads;
  tombstones = tombstones;
  workers = workers;
  watch = watch;
  front = front;
  threads = threads;
}

-- a broker: its addresses, how many threads answer, and how many front threads it has
pub record Broker : Type 0 where
  pub address : List ℕ
  pub listen : List ℕ
  pub status : Option (List ℕ)
  pub workers : ℕ
  pub front : ℕ

abbrev pub broker_of : Addresses → ℕ → ℕ → Broker
broker_of addresses workers front = record {
  address = addresses.address;
  listen = addresses.listen;
  status = addresses.status;
  workers = workers;
  front = front;
}

-- a query as it is posted: the place of the broker that is asked, and its text
pub record Posted : Type 0 where
  pub broker : ℕ
  pub text : List ℕ

-- what a cluster does. every: after how many milliseconds each a syncer makes a turn once it has made its turns, if it goes on.
-- patience: how many milliseconds an exchange with a node may take. network: its addresses may be those of any machine. An endless
-- cluster has no connections after which it ends
pub record Settings : Type 0 where
  pub connections : ℕ
  pub kept : ℕ
  pub turns : ℕ
  pub every : Option ℕ
  pub patience : ℕ
  pub network : Bool
  pub endless : Bool

abbrev pub settings_of : ℕ → ℕ → ℕ → Option ℕ → ℕ → Bool → Bool → Settings
settings_of connections kept turns every patience network endless = record {
  connections = connections;
  kept = kept;
  turns = turns;
  every = every;
  patience = patience;
  network = network;
  endless = endless;
}

-- its servers, its queries, and what it does
pub record Cluster : Type 0 where
  pub nodes : List Node
  pub brokers : List Broker
  pub queries : List Posted
  pub connections : ℕ
  pub kept : ℕ
  pub turns : ℕ
  pub every : Option ℕ
  pub patience : ℕ
  pub network : Bool
  pub endless : Bool

abbrev pub cluster_of : List Node → List Broker → List Posted → Settings → Cluster
cluster_of nodes brokers queries settings = record {
  nodes = nodes;
  brokers = brokers;
  queries = queries;
  connections = settings.connections;
  kept = settings.kept;
  turns = settings.turns;
  every = settings.every;
  patience = settings.patience;
  network = settings.network;
  endless = settings.endless;
}

-- a query of a config: the place of the broker that is asked, and the JSON that the text of the query reads as
pub record Asked : Type 0 where
  pub broker : ℕ
  pub query : Option Data

-- a cluster, each of its queries by its JSON
pub record Reported : Type 0 where
  pub nodes : List Node
  pub brokers : List Broker
  pub queries : List Asked
  pub connections : ℕ
  pub kept : ℕ
  pub turns : ℕ
  pub every : Option ℕ
  pub patience : ℕ
  pub network : Bool
  pub endless : Bool

abbrev pub asked_of : Posted → Asked
asked_of q = record { broker = q.broker; query = read q.text }

abbrev pub reported_by : List Node → List Broker → List Asked → Settings → Reported
reported_by nodes brokers queries settings = record {
  nodes = nodes;
  brokers = brokers;
  queries = queries;
  connections = settings.connections;
  kept = settings.kept;
  turns = settings.turns;
  every = settings.every;
  patience = settings.patience;
  network = settings.network;
  endless = settings.endless;
}

-- what a config tells of a cluster
abbrev pub reported_of : Cluster → Reported
reported_of c = record {
  nodes = c.nodes;
  brokers = c.brokers;
  queries = map asked_of c.queries;
  connections = c.connections;
  kept = c.kept;
  turns = c.turns;
  every = c.every;
  patience = c.patience;
  network = c.network;
  endless = c.endless;
}

-- the text of a value is compact; one with a float has no text of its own
abbrev pub IsCompact : List ℕ → Type 0
IsCompact text = (d : Data) → read text ≡ Some d → has_float d ≡ false → text ≡ compact_text d

-- ---- fields

-- whether addresses may be those of any machine: not where there is no such key
abbrev pub network_of : Option Data → Option Bool
network_of None = Some false
network_of (Some there) = as_bool there

abbrev pub network_at : Data → Option Bool
network_at d = network_of (get (codes "network") d)

-- the address at a key
abbrev pub address_at : Bool → List ℕ → Data → Option (List ℕ)
address_at network key d = option_and_then (λ s. if is_address network s then Some s else None) (text_at key d)

-- another address of a server, where there is such a key
abbrev pub another_of : Bool → List ℕ → Data → Option Data → Option (Option (List ℕ))
another_of network key d None = Some None
another_of network key d (Some there) = option_map Some (address_at network key d)

abbrev pub another_at : Bool → List ℕ → Data → Option (Option (List ℕ))
another_at network key d = another_of network key d (get key d)

abbrev pub name_at : Data → Option (List ℕ)
name_at d = option_and_then (λ s. if is_name s then Some s else None) (text_at (codes "name") d)

-- the number at a key, where it is 1 at least and at most a limit
abbrev pub some_at : ℕ → List ℕ → Data → Option ℕ
some_at limit key d = option_and_then (λ n. if nat_le 1 n && nat_le n limit then Some n else None) (number_at key d)

-- the number at a key, where it is at most 1,000,000
abbrev pub count_at : List ℕ → Data → Option ℕ
count_at key d = option_and_then (λ n. if nat_le n max_count then Some n else None) (number_at key d)

-- a rest in milliseconds, where there is such a key
abbrev pub rest_of : List ℕ → Data → Option Data → Option (Option ℕ)
rest_of key d None = Some None
rest_of key d (Some there) = option_map Some (some_at max_rest key d)

abbrev pub rest_at : List ℕ → Data → Option (Option ℕ)
rest_at key d = rest_of key d (get key d)

-- the patience with nodes in milliseconds, the usual one where there is no such key
abbrev pub patience_of : Data → Option Data → Option ℕ
patience_of d None = Some usual_patience
patience_of d (Some there) = some_at max_patience (codes "patience") d

abbrev pub patience_at : Data → Option ℕ
patience_at d = patience_of d (get (codes "patience") d)

-- how many front threads a server has: none where there is no such key
abbrev pub front_of : Data → Option Data → Option ℕ
front_of d None = Some 0
front_of d (Some there) = option_and_then (λ n. if nat_le n max_front then Some n else None) (number_at (codes "front") d)

abbrev pub front_at : Data → Option ℕ
front_at d = front_of d (get (codes "front") d)

-- how many threads count one query: one where there is no such key
abbrev pub threads_of : Data → Option Data → Option ℕ
threads_of d None = Some 1
threads_of d (Some there) = some_at max_threads (codes "threads") d

abbrev pub threads_at : Data → Option ℕ
threads_at d = threads_of d (get (codes "threads") d)

-- the cluster does not end: `every` is there, and no `connections`
abbrev pub is_endless : Data → Bool
is_endless d = is_none (get (codes "connections") d) && is_some (get (codes "every") d)

-- how many connections each broker answers before the end: 0 where there is none
abbrev pub connections_at : Data → Option ℕ
connections_at d = if is_endless d then Some 0 else count_at (codes "connections") d

-- ---- nodes, brokers and queries

-- the names of the files that a node loads
abbrev pub loads_at : Data → Option (List (List ℕ))
loads_at d = option_and_then (each_of as_str) (list_at (codes "loads") d)

-- a tombstone: the source, the interval and the version of a chunk, which it is the one partition of
unfoldable pub tombstone_at : Data → Option Identifier
tombstone_at d = do
  source ← source_at d
  interval ← interval_at d
  version ← version_at d
  Some (record { source = source; interval = interval; version = version; partition = 0 })

-- the tombstones that a node places: none where there is no such key
abbrev pub tombstones_in : Option Data → Option (List Identifier)
tombstones_in None = Some []
tombstones_in (Some d) = option_and_then (each_of tombstone_at) (as_array d)

abbrev pub tombstones_at : Data → Option (List Identifier)
tombstones_at d = tombstones_in (get (codes "tombstones") d)

unfoldable pub node_at : Bool → Data → Option Node
node_at network d = do
  name ← name_at d
  address ← address_at network (codes "address") d
  folder ← text_at (codes "folder") d
  loads ← loads_at d
  tombstones ← tombstones_at d
  workers ← some_at max_workers (codes "workers") d
  watch ← rest_at (codes "watch") d
  status ← another_at network (codes "status") d
  front ← front_at d
  listen ← another_at network (codes "listen") d
  threads ← threads_at d
  Some (node_of name (addresses_of address listen status) folder loads tombstones workers watch front threads)

unfoldable pub broker_at : Bool → Data → Option Broker
broker_at network d = do
  address ← address_at network (codes "address") d
  workers ← some_at max_workers (codes "workers") d
  status ← another_at network (codes "status") d
  front ← front_at d
  listen ← another_at network (codes "listen") d
  Some (broker_of (addresses_of address listen status) workers front)

-- the place of one of so many brokers
abbrev pub place_at : ℕ → Data → Option ℕ
place_at brokers d = option_and_then (λ n. if nat_lt n brokers then Some n else None) (number_at (codes "broker") d)

-- the JSON of a query, which is an object
abbrev pub object_at : Data → Option Data
object_at d = option_and_then (λ q. option_and_then (λ _. Some q) (as_object q)) (get (codes "query") d)

-- a query to one of so many brokers
unfoldable pub query_at : ℕ → Data → Option Asked
query_at brokers d = do
  broker ← place_at brokers d
  query ← object_at d
  Some (record { broker = broker; query = Some query })

-- so many servers there may be
abbrev pub are_few : ℕ → Bool
are_few n = nat_le 1 n && nat_le n max_servers

abbrev pub names_of : List Node → List (List ℕ)
names_of nodes = map (λ n. n.name) nodes

unfoldable pub nodes_in : Bool → Items → Option (List Node)
nodes_in network items = do
  nodes ← each_of (node_at network) items
  if are_few (length nodes) && are_distinct (names_of nodes) then Some nodes else None

unfoldable pub brokers_in : Bool → Items → Option (List Broker)
brokers_in network items = do
  brokers ← each_of (broker_at network) items
  if are_few (length brokers) then Some brokers else None

abbrev pub nodes_at : Bool → Data → Option (List Node)
nodes_at network d = option_and_then (nodes_in network) (list_at (codes "nodes") d)

abbrev pub brokers_at : Bool → Data → Option (List Broker)
brokers_at network d = option_and_then (brokers_in network) (list_at (codes "brokers") d)

abbrev pub queries_at : ℕ → Data → Option (List Asked)
queries_at brokers d = option_and_then (each_of (query_at brokers)) (list_at (codes "queries") d)

-- ---- configs

unfoldable pub settings_at : Data → Option Settings
settings_at d = do
  connections ← connections_at d
  kept ← some_at max_kept (codes "kept") d
  turns ← count_at (codes "turns") d
  every ← rest_at (codes "every") d
  patience ← patience_at d
  network ← network_at d
  Some (settings_of connections kept turns every patience network (is_endless d))

-- the servers and the queries of a cluster that does so
unfoldable pub servers_at : Settings → Data → Option Reported
servers_at settings d = do
  nodes ← nodes_at settings.network d
  brokers ← brokers_at settings.network d
  queries ← queries_at (length brokers) d
  Some (reported_by nodes brokers queries settings)

-- what a config tells, if it is one
abbrev pub config_at : Data → Option Reported
config_at d = option_and_then (λ settings. servers_at settings d) (settings_at d)

-- ---- limits

-- a rest is a millisecond at least, and an hour at most
pub record IsRest (n : ℕ) : Type 0 where
  pub some : 1 ≤ n
  pub short : n ≤ max_rest

-- a patience is a millisecond at least, and an hour at most
pub record IsPatience (n : ℕ) : Type 0 where
  pub some : 1 ≤ n
  pub short : n ≤ max_patience

-- a node of that name, at addresses of ports, which has 1 to 16 workers, at most 256 front threads, and 1 to 16 threads for one query
pub record IsNode (node : Node) : Type 0 where
  pub name : IsTrue (is_name node.name)
  pub address : IsAddress node.address
  pub listen : IsAddress node.listen
  pub status : IfSome node.status IsAddress
  pub some_workers : 1 ≤ node.workers
  pub few_workers : node.workers ≤ max_workers
  pub rest : IfSome node.watch IsRest
  pub few_front : node.front ≤ max_front
  pub some_threads : 1 ≤ node.threads
  pub few_threads : node.threads ≤ max_threads

-- a broker at addresses of ports, which has 1 to 16 workers and at most 256 front threads
pub record IsBroker (broker : Broker) : Type 0 where
  pub address : IsAddress broker.address
  pub listen : IsAddress broker.listen
  pub status : IfSome broker.status IsAddress
  pub some_workers : 1 ≤ broker.workers
  pub few_workers : broker.workers ≤ max_workers
  pub few_front : broker.front ≤ max_front

-- each address of a server is one of this machine
pub record AreLocal (address listen : List ℕ) (status : Option (List ℕ)) : Type 0 where
  pub address_local : IsLocal address
  pub listen_local : IsLocal listen
  pub status_local : IfSome status IsLocal

abbrev pub IsLocalNode : Node → Type 0
IsLocalNode node = AreLocal node.address node.listen node.status

abbrev pub IsLocalBroker : Broker → Type 0
IsLocalBroker broker = AreLocal broker.address broker.listen broker.status

-- the query is an object
abbrev pub IsObject : Asked → Type 0
IsObject q = IsSome (option_and_then as_object q.query)

-- what a config tells is within its limits; of addresses it has other machines' only where it says so
pub record IsWithinLimits (reported : Reported) : Type 0 where
  pub some_nodes : 1 ≤ length reported.nodes
  pub few_nodes : length reported.nodes ≤ max_servers
  pub nodes : All IsNode reported.nodes
  pub own_names : AreDistinct (names_of reported.nodes)
  pub some_brokers : 1 ≤ length reported.brokers
  pub few_brokers : length reported.brokers ≤ max_servers
  pub brokers : All IsBroker reported.brokers
  pub asked : All (λ q. q.broker < length reported.brokers) reported.queries
  pub objects : All IsObject reported.queries
  pub few_connections : reported.connections ≤ max_count
  pub some_kept : 1 ≤ reported.kept
  pub few_kept : reported.kept ≤ max_kept
  pub few_turns : reported.turns ≤ max_count
  pub rest : IfSome reported.every IsRest
  pub patience : IsPatience reported.patience
  pub local_nodes : reported.network ≡ false → All IsLocalNode reported.nodes
  pub local_brokers : reported.network ≡ false → All IsLocalBroker reported.brokers
  pub goes_on : reported.endless ≡ true → IsSome reported.every
