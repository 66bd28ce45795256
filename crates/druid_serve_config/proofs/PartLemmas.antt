-- What the parts of a config are, where it is read.
use Rattle.std.proofs.Common.{◌≡◌, ℕ, List, Bool, length, codes, Option, Some, None, IsSome, is_some, is_none, true, false, unwrap_or, option_and_then, refl, sym, subst, ap, ◌∙◌}
use Rattle.std.proofs.lemmas.Option.{same_Some}
use Rattle.serde_json.specs.Data.{Data}
use Rattle.druid_base.proofs.OptionLemmas.{chained, given_so}
use Rattle.druid_base.proofs.StepLemmas.{each_next}
use Rattle.druid_base.specs.Options.{◌>>=◌}
use Rattle.druid_segment_id.specs.Identifier.{Identifier}
use Rattle.druid_base.specs.Fields.{text_at}
use Rattle.druid_serve_config.specs.Limits.{max_workers, max_kept}
use Rattle.druid_serve_config.specs.Configs.{Node, Broker, Asked, Settings, Reported, addresses_of, node_of, broker_of, settings_of, reported_by, name_at, address_at, another_at, network_at, front_at, threads_at, some_at, count_at, rest_at, patience_at, is_endless, connections_at, loads_at, tombstones_at, place_at, object_at, node_at, broker_at, query_at, nodes_at, brokers_at, queries_at, settings_at, servers_at, config_at}

pub some_of : {A : Type 0} (o : Option A) → IsSome o → (x : A) × (o ≡ Some x)
some_of None some = absurd cc
some_of (Some x) some = (x, refl)

pub some_is : {A : Type 0} (o : Option A) (x : A) → o ≡ Some x → IsSome o
some_is o x is = subst (λ p. IsSome p) (sym is) refl

-- ---- nodes

pub record NodeParts (network : Bool) (d : Data) (node : Node) : Type 0 where
  pub name : name_at d ≡ Some node.name
  pub address : address_at network (codes "address") d ≡ Some node.address
  pub folder : text_at (codes "folder") d ≡ Some node.folder
  pub loads : loads_at d ≡ Some node.loads
  pub tombstones : tombstones_at d ≡ Some node.tombstones
  pub workers : some_at max_workers (codes "workers") d ≡ Some node.workers
  pub watch : rest_at (codes "watch") d ≡ Some node.watch
  pub status : another_at network (codes "status") d ≡ Some node.status
  pub front : front_at d ≡ Some node.front
  pub asked : Option (List ℕ)
  pub asked_is : another_at network (codes "listen") d ≡ Some asked
  pub listen : unwrap_or asked node.address ≡ node.listen
  pub threads : threads_at d ≡ Some node.threads

abbrev node_last : Data → List ℕ → List ℕ → List ℕ → List (List ℕ) → List Identifier → ℕ → Option ℕ → Option (List ℕ) → ℕ → Option (List ℕ) → Option Node
node_last d name address folder loads tombstones workers watch status front listen =
    threads_at d >>= λ threads. Some (node_of name (addresses_of address listen status) folder loads tombstones workers watch front threads)

abbrev node_tenth : Bool → Data → List ℕ → List ℕ → List ℕ → List (List ℕ) → List Identifier → ℕ → Option ℕ → Option (List ℕ) → ℕ → Option Node
node_tenth network d name address folder loads tombstones workers watch status front =
    another_at network (codes "listen") d >>= node_last d name address folder loads tombstones workers watch status front

abbrev node_ninth : Bool → Data → List ℕ → List ℕ → List ℕ → List (List ℕ) → List Identifier → ℕ → Option ℕ → Option (List ℕ) → Option Node
node_ninth network d name address folder loads tombstones workers watch status =
    front_at d >>= node_tenth network d name address folder loads tombstones workers watch status

abbrev node_eighth : Bool → Data → List ℕ → List ℕ → List ℕ → List (List ℕ) → List Identifier → ℕ → Option ℕ → Option Node
node_eighth network d name address folder loads tombstones workers watch =
    another_at network (codes "status") d >>= node_ninth network d name address folder loads tombstones workers watch

abbrev node_seventh : Bool → Data → List ℕ → List ℕ → List ℕ → List (List ℕ) → List Identifier → ℕ → Option Node
node_seventh network d name address folder loads tombstones workers =
    rest_at (codes "watch") d >>= node_eighth network d name address folder loads tombstones workers

abbrev node_sixth : Bool → Data → List ℕ → List ℕ → List ℕ → List (List ℕ) → List Identifier → Option Node
node_sixth network d name address folder loads tombstones =
    some_at max_workers (codes "workers") d >>= node_seventh network d name address folder loads tombstones

abbrev node_fifth : Bool → Data → List ℕ → List ℕ → List ℕ → List (List ℕ) → Option Node
node_fifth network d name address folder loads = tombstones_at d >>= node_sixth network d name address folder loads

abbrev node_fourth : Bool → Data → List ℕ → List ℕ → List ℕ → Option Node
node_fourth network d name address folder = loads_at d >>= node_fifth network d name address folder

abbrev node_third : Bool → Data → List ℕ → List ℕ → Option Node
node_third network d name address = text_at (codes "folder") d >>= node_fourth network d name address

abbrev node_second : Bool → Data → List ℕ → Option Node
node_second network d name = address_at network (codes "address") d >>= node_third network d name

pub node_parts : (network : Bool) (d : Data) (node : Node) → node_at network d ≡ Some node → NodeParts network d node
unfolding node_at
node_parts network d =
    each_next (NodeParts network d) (name_at d) (node_second network d)
    (λ name a. each_next (NodeParts network d) (address_at network (codes "address") d) (node_third network d name)
    (λ address b. each_next (NodeParts network d) (text_at (codes "folder") d) (node_fourth network d name address)
    (λ folder h. each_next (NodeParts network d) (loads_at d) (node_fifth network d name address folder)
    (λ loads i. each_next (NodeParts network d) (tombstones_at d) (node_sixth network d name address folder loads)
    (λ tombstones k. each_next (NodeParts network d) (some_at max_workers (codes "workers") d) (node_seventh network d name address folder loads tombstones)
    (λ workers j. each_next (NodeParts network d) (rest_at (codes "watch") d) (node_eighth network d name address folder loads tombstones workers)
    (λ watch w. each_next (NodeParts network d) (another_at network (codes "status") d) (node_ninth network d name address folder loads tombstones workers watch)
    (λ status s. each_next (NodeParts network d) (front_at d) (node_tenth network d name address folder loads tombstones workers watch status)
    (λ front f. each_next (NodeParts network d) (another_at network (codes "listen") d) (node_last d name address folder loads tombstones workers watch status front)
    (λ listen l. each_next (NodeParts network d) (threads_at d) (λ threads. Some (node_of name (addresses_of address listen status) folder loads tombstones workers watch front threads))
    (λ threads t. given_so (NodeParts network d) (node_of name (addresses_of address listen status) folder loads tombstones workers watch front threads)
    (record { name = a; address = b; folder = h; loads = i; tombstones = k; workers = j; watch = w; status = s; front = f; asked = listen; asked_is = l; listen = refl; threads = t }))))))))))))

goes_on : {A B : Type 0} (o : Option A) (f : A → Option B) → is_some o ≡ true → ((x : A) → is_some (f x) ≡ true) → is_some (o >>= f) ≡ true
goes_on None f there next = absurd cc
goes_on (Some x) f there next = next x

-- where each part reads, so does the node
pub node_whole : (network : Bool) (d : Data) → is_some (name_at d) ≡ true → is_some (address_at network (codes "address") d) ≡ true → is_some (text_at (codes "folder") d) ≡ true
    → is_some (loads_at d) ≡ true → is_some (tombstones_at d) ≡ true → is_some (some_at max_workers (codes "workers") d) ≡ true → is_some (rest_at (codes "watch") d) ≡ true
    → is_some (another_at network (codes "status") d) ≡ true → is_some (front_at d) ≡ true → is_some (another_at network (codes "listen") d) ≡ true
    → is_some (threads_at d) ≡ true → is_some (node_at network d) ≡ true
unfolding node_at
node_whole network d a b h i k j w s f l t =
    goes_on (name_at d) (node_second network d) a
    (λ name. goes_on (address_at network (codes "address") d) (node_third network d name) b
    (λ address. goes_on (text_at (codes "folder") d) (node_fourth network d name address) h
    (λ folder. goes_on (loads_at d) (node_fifth network d name address folder) i
    (λ loads. goes_on (tombstones_at d) (node_sixth network d name address folder loads) k
    (λ tombstones. goes_on (some_at max_workers (codes "workers") d) (node_seventh network d name address folder loads tombstones) j
    (λ workers. goes_on (rest_at (codes "watch") d) (node_eighth network d name address folder loads tombstones workers) w
    (λ watch. goes_on (another_at network (codes "status") d) (node_ninth network d name address folder loads tombstones workers watch) s
    (λ status. goes_on (front_at d) (node_tenth network d name address folder loads tombstones workers watch status) f
    (λ front. goes_on (another_at network (codes "listen") d) (node_last d name address folder loads tombstones workers watch status front) l
    (λ listen. goes_on (threads_at d) (λ threads. Some (node_of name (addresses_of address listen status) folder loads tombstones workers watch front threads)) t
    (λ threads. refl)))))))))))

-- ---- brokers

pub record BrokerParts (network : Bool) (d : Data) (broker : Broker) : Type 0 where
  pub address : address_at network (codes "address") d ≡ Some broker.address
  pub workers : some_at max_workers (codes "workers") d ≡ Some broker.workers
  pub status : another_at network (codes "status") d ≡ Some broker.status
  pub front : front_at d ≡ Some broker.front
  pub asked : Option (List ℕ)
  pub asked_is : another_at network (codes "listen") d ≡ Some asked
  pub listen : unwrap_or asked broker.address ≡ broker.listen

abbrev broker_last : Bool → Data → List ℕ → ℕ → Option (List ℕ) → ℕ → Option Broker
broker_last network d address workers status front = another_at network (codes "listen") d >>= λ listen. Some (broker_of (addresses_of address listen status) workers front)

abbrev broker_fourth : Bool → Data → List ℕ → ℕ → Option (List ℕ) → Option Broker
broker_fourth network d address workers status = front_at d >>= broker_last network d address workers status

abbrev broker_third : Bool → Data → List ℕ → ℕ → Option Broker
broker_third network d address workers = another_at network (codes "status") d >>= broker_fourth network d address workers

abbrev broker_second : Bool → Data → List ℕ → Option Broker
broker_second network d address = some_at max_workers (codes "workers") d >>= broker_third network d address

pub broker_parts : (network : Bool) (d : Data) (broker : Broker) → broker_at network d ≡ Some broker → BrokerParts network d broker
unfolding broker_at
broker_parts network d =
    each_next (BrokerParts network d) (address_at network (codes "address") d) (broker_second network d)
    (λ address a. each_next (BrokerParts network d) (some_at max_workers (codes "workers") d) (broker_third network d address)
    (λ workers b. each_next (BrokerParts network d) (another_at network (codes "status") d) (broker_fourth network d address workers)
    (λ status s. each_next (BrokerParts network d) (front_at d) (broker_last network d address workers status)
    (λ front f. each_next (BrokerParts network d) (another_at network (codes "listen") d) (λ listen. Some (broker_of (addresses_of address listen status) workers front))
    (λ listen l. given_so (BrokerParts network d) (broker_of (addresses_of address listen status) workers front)
    (record { address = a; workers = b; status = s; front = f; asked = listen; asked_is = l; listen = refl }))))))

-- ---- queries

pub record QueryParts (brokers : ℕ) (d : Data) (asked : Asked) : Type 0 where
  pub broker : place_at brokers d ≡ Some asked.broker
  pub query : option_and_then (λ q. Some (Some q)) (object_at d) ≡ Some asked.query

abbrev asked_made : ℕ → Data → Asked
asked_made broker query = record { broker = broker; query = Some query }

abbrev query_second : Data → ℕ → Option Asked
query_second d broker = object_at d >>= λ query. Some (asked_made broker query)

pub query_parts : (brokers : ℕ) (d : Data) (asked : Asked) → query_at brokers d ≡ Some asked → QueryParts brokers d asked
unfolding query_at
query_parts brokers d =
    each_next (QueryParts brokers d) (place_at brokers d) (query_second d)
    (λ broker a. each_next (QueryParts brokers d) (object_at d) (λ query. Some (asked_made broker query))
    (λ query b. given_so (QueryParts brokers d) (asked_made broker query) (record { broker = a; query = ap (λ o. option_and_then (λ q. Some (Some q)) o) b })))

-- ---- what a cluster does

pub record SettingsParts (d : Data) (settings : Settings) : Type 0 where
  pub connections : connections_at d ≡ Some settings.connections
  pub kept : some_at max_kept (codes "kept") d ≡ Some settings.kept
  pub turns : count_at (codes "turns") d ≡ Some settings.turns
  pub every : rest_at (codes "every") d ≡ Some settings.every
  pub patience : patience_at d ≡ Some settings.patience
  pub network : network_at d ≡ Some settings.network
  pub endless : is_endless d ≡ settings.endless

abbrev settings_last : Data → ℕ → ℕ → ℕ → Option ℕ → ℕ → Option Settings
settings_last d connections kept turns every patience =
    network_at d >>= λ network. Some (settings_of connections kept turns every patience network (is_endless d))

abbrev settings_fifth : Data → ℕ → ℕ → ℕ → Option ℕ → Option Settings
settings_fifth d connections kept turns every = patience_at d >>= settings_last d connections kept turns every

abbrev settings_fourth : Data → ℕ → ℕ → ℕ → Option Settings
settings_fourth d connections kept turns = rest_at (codes "every") d >>= settings_fifth d connections kept turns

abbrev settings_third : Data → ℕ → ℕ → Option Settings
settings_third d connections kept = count_at (codes "turns") d >>= settings_fourth d connections kept

abbrev settings_second : Data → ℕ → Option Settings
settings_second d connections = some_at max_kept (codes "kept") d >>= settings_third d connections

pub settings_parts : (d : Data) (settings : Settings) → settings_at d ≡ Some settings → SettingsParts d settings
unfolding settings_at
settings_parts d =
    each_next (SettingsParts d) (connections_at d) (settings_second d)
    (λ connections a. each_next (SettingsParts d) (some_at max_kept (codes "kept") d) (settings_third d connections)
    (λ kept b. each_next (SettingsParts d) (count_at (codes "turns") d) (settings_fourth d connections kept)
    (λ turns h. each_next (SettingsParts d) (rest_at (codes "every") d) (settings_fifth d connections kept turns)
    (λ every e. each_next (SettingsParts d) (patience_at d) (settings_last d connections kept turns every)
    (λ patience p. each_next (SettingsParts d) (network_at d) (λ network. Some (settings_of connections kept turns every patience network (is_endless d)))
    (λ network n. given_so (SettingsParts d) (settings_of connections kept turns every patience network (is_endless d))
    (record { connections = a; kept = b; turns = h; every = e; patience = p; network = n; endless = refl })))))))

pub network_settled : (d : Data) (settings : Settings) → settings_at d ≡ Some settings → network_at d ≡ Some settings.network
network_settled d settings read = (settings_parts d settings read).network

-- ---- configs

pub record ServerParts (settings : Settings) (d : Data) (reported : Reported) : Type 0 where
  pub nodes : nodes_at settings.network d ≡ Some reported.nodes
  pub brokers : brokers_at settings.network d ≡ Some reported.brokers
  pub queries : queries_at (length reported.brokers) d ≡ Some reported.queries
  pub is : reported ≡ reported_by reported.nodes reported.brokers reported.queries settings

abbrev servers_last : Settings → Data → List Node → List Broker → Option Reported
servers_last settings d nodes brokers = queries_at (length brokers) d >>= λ queries. Some (reported_by nodes brokers queries settings)

abbrev servers_second : Settings → Data → List Node → Option Reported
servers_second settings d nodes = brokers_at settings.network d >>= servers_last settings d nodes

pub server_parts : (settings : Settings) (d : Data) (reported : Reported) → servers_at settings d ≡ Some reported → ServerParts settings d reported
unfolding servers_at
server_parts settings d =
    each_next (ServerParts settings d) (nodes_at settings.network d) (servers_second settings d)
    (λ nodes a. each_next (ServerParts settings d) (brokers_at settings.network d) (servers_last settings d nodes)
    (λ brokers b. each_next (ServerParts settings d) (queries_at (length brokers) d) (λ queries. Some (reported_by nodes brokers queries settings))
    (λ queries h. given_so (ServerParts settings d) (reported_by nodes brokers queries settings)
    (record { nodes = a; brokers = b; queries = h; is = refl }))))

pub record ConfigParts (d : Data) (reported : Reported) : Type 0 where
  pub settings : Settings
  pub settings_is : settings_at d ≡ Some settings
  pub settled : SettingsParts d settings
  pub servers : ServerParts settings d reported

pub config_parts : (d : Data) (reported : Reported) → config_at d ≡ Some reported → ConfigParts d reported
config_parts d reported read =
    let step = chained (λ (settings : Settings). servers_at settings d) (settings_at d) reported read in
    record {
      settings = step.0;
      settings_is = step.1;
      settled = settings_parts d step.0 step.1;
      servers = server_parts step.0 d reported step.2;
    }

-- ---- where the whole reads, each part does

pub node_reads : (network : Bool) (d : Data) → IsSome (node_at network d) → (node : Node) × NodeParts network d node
node_reads network d some = let read = some_of (node_at network d) some in (read.0, node_parts network d read.0 read.1)

pub name_reads : (network : Bool) (d : Data) → IsSome (node_at network d) → IsSome (name_at d)
name_reads network d some = let read = node_reads network d some in some_is (name_at d) read.0.name read.1.name

pub loads_read : (network : Bool) (d : Data) → IsSome (node_at network d) → IsSome (loads_at d)
loads_read network d some = let read = node_reads network d some in some_is (loads_at d) read.0.loads read.1.loads

pub tombstones_read : (network : Bool) (d : Data) → IsSome (node_at network d) → IsSome (tombstones_at d)
tombstones_read network d some = let read = node_reads network d some in some_is (tombstones_at d) read.0.tombstones read.1.tombstones

pub watch_read : (network : Bool) (d : Data) → IsSome (node_at network d) → None ≡ rest_at (codes "watch") d → ⊥
watch_read network d some none = let read = node_reads network d some in let no = none ∙ read.1.watch in absurd cc

pub status_read : (network : Bool) (d : Data) → IsSome (node_at network d) → None ≡ another_at network (codes "status") d → ⊥
status_read network d some none = let read = node_reads network d some in let no = none ∙ read.1.status in absurd cc

pub listen_read : (network : Bool) (d : Data) → IsSome (node_at network d) → None ≡ another_at network (codes "listen") d → ⊥
listen_read network d some none = let read = node_reads network d some in let no = none ∙ read.1.asked_is in absurd cc

pub threads_read : (network : Bool) (d : Data) → IsSome (node_at network d) → None ≡ threads_at d → ⊥
threads_read network d some none = let read = node_reads network d some in let no = none ∙ read.1.threads in absurd cc

lacking : (o : Option Node) → (IsSome o → ⊥) → false ≡ is_some o
lacking None none = refl
lacking (Some node) none = absurd (none refl)

none_is : {A : Type 0} (o : Option A) → is_none o ≡ true → None ≡ o
none_is None none = refl
none_is (Some x) none = absurd cc

-- where its threads do not read, the node does not
pub threads_lack : (network : Bool) (d : Data) → is_none (threads_at d) ≡ true → false ≡ is_some (node_at network d)
threads_lack network d none = lacking (node_at network d) (λ some. threads_read network d some (none_is (threads_at d) none))

settings_reads : (d : Data) → IsSome (settings_at d) → (settings : Settings) × SettingsParts d settings
settings_reads d some = let read = some_of (settings_at d) some in (read.0, settings_parts d read.0 read.1)

pub connections_read : (d : Data) → IsSome (settings_at d) → None ≡ connections_at d → ⊥
connections_read d some none = let read = settings_reads d some in let no = none ∙ read.1.connections in absurd cc

pub kept_read : (d : Data) → IsSome (settings_at d) → None ≡ some_at max_kept (codes "kept") d → ⊥
kept_read d some none = let read = settings_reads d some in let no = none ∙ read.1.kept in absurd cc

pub turns_read : (d : Data) → IsSome (settings_at d) → None ≡ count_at (codes "turns") d → ⊥
turns_read d some none = let read = settings_reads d some in let no = none ∙ read.1.turns in absurd cc

pub every_read : (d : Data) → IsSome (settings_at d) → None ≡ rest_at (codes "every") d → ⊥
every_read d some none = let read = settings_reads d some in let no = none ∙ read.1.every in absurd cc

pub patience_read : (d : Data) → IsSome (settings_at d) → None ≡ patience_at d → ⊥
patience_read d some none = let read = settings_reads d some in let no = none ∙ read.1.patience in absurd cc

pub network_read : (d : Data) → IsSome (settings_at d) → None ≡ network_at d → ⊥
network_read d some none = let read = settings_reads d some in let no = none ∙ read.1.network in absurd cc

pub config_reads : (d : Data) → IsSome (config_at d) → (reported : Reported) × ConfigParts d reported
config_reads d some = let read = some_of (config_at d) some in (read.0, config_parts d read.0 read.1)

pub settings_read : (d : Data) → IsSome (config_at d) → IsSome (settings_at d)
settings_read d some = let read = config_reads d some in some_is (settings_at d) read.1.settings read.1.settings_is

-- the servers read as what was settled says
pub servers_read : (d : Data) (settings : Settings) → settings_at d ≡ Some settings → IsSome (config_at d) → (reported : Reported) × ServerParts settings d reported
servers_read d settings is some =
    let read = config_reads d some in
    let same : read.1.settings ≡ settings = same_Some read.1.settings settings (sym read.1.settings_is ∙ is) in
    (read.0, subst (λ s. ServerParts s d read.0) same read.1.servers)

pub nodes_read : (d : Data) (settings : Settings) → settings_at d ≡ Some settings → IsSome (config_at d) → IsSome (nodes_at settings.network d)
nodes_read d settings is some = let read = servers_read d settings is some in some_is (nodes_at settings.network d) read.0.nodes read.1.nodes

pub brokers_read : (d : Data) (settings : Settings) → settings_at d ≡ Some settings → IsSome (config_at d) → IsSome (brokers_at settings.network d)
brokers_read d settings is some = let read = servers_read d settings is some in some_is (brokers_at settings.network d) read.0.brokers read.1.brokers

pub queries_read : (d : Data) (settings : Settings) (brokers : List Broker) → settings_at d ≡ Some settings → IsSome (config_at d) → brokers_at settings.network d ≡ Some brokers → IsSome (queries_at (length brokers) d)
queries_read d settings brokers is some there =
    let read = servers_read d settings is some in
    let same : read.0.brokers ≡ brokers = same_Some read.0.brokers brokers (sym read.1.brokers ∙ there) in
    some_is (queries_at (length brokers) d) read.0.queries (ap (λ (bs : List Broker). queries_at (length bs) d) (sym same) ∙ read.1.queries)
