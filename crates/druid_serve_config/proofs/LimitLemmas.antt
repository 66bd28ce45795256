-- What is read of a config is within its limits.
use Rattle.std.proofs.Common.{◌≡◌, ℕ, ◌<◌, ◌≤◌, List, length, map, get_or, codes, All, IsSome, IfSome, is_some, is_none, Option, Some, None, unwrap_or, option_map, option_and_then, Bool, true, false, ◌&&◌, cond, nat_le, nat_lt, IsTrue, lit≤, refl, sym, subst, ◌∙◌, arith}
use Rattle.std.proofs.lemmas.Bool.{leb-true, and_parts}
use Rattle.std.proofs.lemmas.Bool.Decides.{nat_tests}
use Rattle.std.proofs.lemmas.Option.{same_Some, cond_some}
use Rattle.std.proofs.lemmas.List.{get_or-map, get_or_default, length-map}
use Rattle.serde_json.specs.Data.{Data, null, boolean, number, string, array, object, Items}
use Rattle.serde_json.specs.Find.{get, as_object}
use Rattle.druid_base.proofs.DistinctLemmas.{distinct_to}
use Rattle.druid_base.proofs.OptionLemmas.{chained}
use Rattle.druid_base.proofs.StepLemmas.{stepped}
use Rattle.druid_base.specs.Each.{each_of}
use Rattle.druid_base.proofs.EachLemmas.{each_sound}
use Rattle.druid_segment_id.specs.Names.{is_name}
use Rattle.druid_serve_config.specs.Limits.{max_servers, max_workers, max_kept, max_count, max_rest, max_patience, usual_patience, max_front, max_threads}
use Rattle.druid_base.specs.Fields.{list_at, text_at, number_at}
use Rattle.druid_serve_config.specs.Addresses.{is_address, IsAddress, IsLocal}
use Rattle.druid_serve_config.specs.Configs.{IsObject, Node, Broker, Asked, Posted, Settings, Reported, asked_of, reported_by, name_at, address_at, another_of, another_at, some_at, count_at, rest_of, rest_at, patience_of, front_of, front_at, threads_of, threads_at, patience_at, is_endless, connections_at, node_at, broker_at, query_at, are_few, names_of, nodes_in, brokers_in, config_at, IsRest, IsPatience, IsNode, IsBroker, AreLocal, IsLocalNode, IsLocalBroker, IsWithinLimits}
use Rattle.druid_base.specs.Distinct.{AreDistinct, are_distinct}
use Rattle.druid_serve_config.proofs.AddressLemmas.{any_address, local_address}
use Rattle.druid_serve_config.proofs.PartLemmas.{SettingsParts, ServerParts, node_parts, broker_parts, query_parts, config_parts}

-- ---- tests

-- what passed a test, passes it
passed : {A : Type 0} (p : A → Bool) (o : Option A) (y : A) → option_and_then (λ s. cond (p s) (Some s) None) o ≡ Some y → p y ≡ true
passed {A} p o y e =
    let step = chained (λ (s : A). cond (p s) (Some s) None) o y e in
    let kept = cond_some (p step.0) step.0 y step.2 in
    subst (λ t. p t ≡ true) kept.1 kept.0

record Between (low high n : ℕ) : Type 0 where
  above : low ≤ n
  below : n ≤ high

between : (low high n : ℕ) → (nat_le low n && nat_le n high) ≡ true → Between low high n
between low high n h =
    let both = and_parts (nat_le low n) (nat_le n high) h in
    record { above = leb-true low n both.0; below = leb-true n high both.1 }

some_between : (limit : ℕ) (key : List ℕ) (d : Data) (n : ℕ) → some_at limit key d ≡ Some n → Between 1 limit n
some_between limit key d n e = between 1 limit n (passed (λ n. nat_le 1 n && nat_le n limit) (number_at key d) n e)

count_below : (key : List ℕ) (d : Data) (n : ℕ) → count_at key d ≡ Some n → n ≤ max_count
count_below key d n e = leb-true n max_count (passed (λ n. nat_le n max_count) (number_at key d) n e)

connections_so : (b : Bool) (d : Data) (n : ℕ) → cond b (Some 0) (count_at (codes "connections") d) ≡ Some n → n ≤ max_count
connections_so true d n e = let none = same_Some 0 n e in omega (arith, none)
connections_so false d n e = count_below (codes "connections") d n e

connections_below : (d : Data) (n : ℕ) → connections_at d ≡ Some n → n ≤ max_count
connections_below d n e = connections_so (is_endless d) d n e

-- ---- rests

some_rest : (key : List ℕ) (d : Data) (o : Option ℕ) (rest : Option ℕ) → some_at max_rest key d ≡ o → option_map Some o ≡ Some rest → IfSome rest IsRest
some_rest key d None rest is e = absurd cc
some_rest key d (Some n) rest is e =
    let n_is = some_between max_rest key d n is in
    subst (λ r. IfSome r IsRest) (same_Some (Some n) rest e) (record { some = n_is.above; short = n_is.below })

rest_so : (key : List ℕ) (d : Data) (o : Option Data) (rest : Option ℕ) → rest_of key d o ≡ Some rest → IfSome rest IsRest
rest_so key d None rest e = subst (λ r. IfSome r IsRest) (same_Some None rest e) tt
rest_so key d (Some there) rest e = some_rest key d (some_at max_rest key d) rest refl e

rest_is : (key : List ℕ) (d : Data) (rest : Option ℕ) → rest_at key d ≡ Some rest → IfSome rest IsRest
rest_is key d rest e = rest_so key d (get key d) rest e

-- ---- addresses and patience

address_passes : (network : Bool) (key : List ℕ) (d : Data) (text : List ℕ) → address_at network key d ≡ Some text → is_address network text ≡ true
address_passes network key d text e = passed (is_address network) (text_at key d) text e

-- where there is an address, it is an address
abbrev Passes : Bool → Option (List ℕ) → Type 0
Passes network o = IfSome o (λ text. is_address network text ≡ true)

some_passes : (network : Bool) (key : List ℕ) (d : Data) (o : Option (List ℕ)) (found : Option (List ℕ)) → address_at network key d ≡ o → option_map Some o ≡ Some found → Passes network found
some_passes network key d None found is e = absurd cc
some_passes network key d (Some text) found is e = subst (Passes network) (same_Some (Some text) found e) (address_passes network key d text is)

another_so : (network : Bool) (key : List ℕ) (d : Data) (o : Option Data) (found : Option (List ℕ)) → another_of network key d o ≡ Some found → Passes network found
another_so network key d None found e = subst (Passes network) (same_Some None found e) tt
another_so network key d (Some there) found e = some_passes network key d (address_at network key d) found refl e

another_passes : (network : Bool) (key : List ℕ) (d : Data) (found : Option (List ℕ)) → another_at network key d ≡ Some found → Passes network found
another_passes network key d found e = another_so network key d (get key d) found e

listen_so : (network : Bool) (asked : Option (List ℕ)) (address listen : List ℕ) → is_address network address ≡ true → Passes network asked → unwrap_or asked address ≡ listen
    → is_address network listen ≡ true
listen_so network None address listen own asked is = subst (λ t. is_address network t ≡ true) is own
listen_so network (Some text) address listen own asked is = subst (λ t. is_address network t ≡ true) is asked

-- the addresses of a server pass
record Addressed (network : Bool) (address listen : List ℕ) (status : Option (List ℕ)) : Type 0 where
  address_passes : is_address network address ≡ true
  listen_passes : is_address network listen ≡ true
  status_passes : Passes network status

addressed : (network : Bool) (d : Data) (address listen : List ℕ) (asked status : Option (List ℕ))
    → address_at network (codes "address") d ≡ Some address → another_at network (codes "listen") d ≡ Some asked → unwrap_or asked address ≡ listen
    → another_at network (codes "status") d ≡ Some status → Addressed network address listen status
addressed network d address listen asked status a l is s =
    let own = address_passes network (codes "address") d address a in
    record {
      address_passes = own;
      listen_passes = listen_so network asked address listen own (another_passes network (codes "listen") d asked l) is;
      status_passes = another_passes network (codes "status") d status s;
    }

status_any : (network : Bool) (status : Option (List ℕ)) → Passes network status → IfSome status IsAddress
status_any network None h = tt
status_any network (Some text) h = any_address network text h

status_local : (network : Bool) (status : Option (List ℕ)) → network ≡ false → Passes network status → IfSome status IsLocal
status_local network None none h = tt
status_local network (Some text) none h = local_address network text none h

addressed_local : (network : Bool) (address listen : List ℕ) (status : Option (List ℕ)) → network ≡ false → Addressed network address listen status → AreLocal address listen status
addressed_local network address listen status none h = record {
  address_local = local_address network address none h.address_passes;
  listen_local = local_address network listen none h.listen_passes;
  status_local = status_local network status none h.status_passes;
}

patience_so : (d : Data) (o : Option Data) (n : ℕ) → patience_of d o ≡ Some n → IsPatience n
patience_so d None n e = subst IsPatience (same_Some usual_patience n e) (record { some = lit≤ tt; short = lit≤ tt })
patience_so d (Some there) n e =
    let n_is = some_between max_patience (codes "patience") d n e in
    record { some = n_is.above; short = n_is.below }

patience_is : (d : Data) (n : ℕ) → patience_at d ≡ Some n → IsPatience n
patience_is d n e = patience_so d (get (codes "patience") d) n e

front_so : (d : Data) (o : Option Data) (n : ℕ) → front_of d o ≡ Some n → n ≤ max_front
front_so d None n e = let none = same_Some 0 n e in omega (arith, none)
front_so d (Some there) n e = leb-true n max_front (passed (λ n. nat_le n max_front) (number_at (codes "front") d) n e)

pub front_is : (d : Data) (n : ℕ) → front_at d ≡ Some n → n ≤ max_front
front_is d n e = front_so d (get (codes "front") d) n e

threads_so : (d : Data) (o : Option Data) (n : ℕ) → threads_of d o ≡ Some n → Between 1 max_threads n
threads_so d None n e = subst (Between 1 max_threads) (same_Some 1 n e) (record { above = lit≤ tt; below = lit≤ tt })
threads_so d (Some there) n e = some_between max_threads (codes "threads") d n e

rest_given : (o : Option ℕ) (rest : Option ℕ) → option_map Some o ≡ Some rest → IsSome rest
rest_given None rest e = absurd cc
rest_given (Some n) rest e = subst (λ r. IsSome r) (same_Some (Some n) rest e) refl

rest_there : (key : List ℕ) (d : Data) (o : Option Data) (rest : Option ℕ) → is_some o ≡ true → rest_of key d o ≡ Some rest → IsSome rest
rest_there key d None rest there e = absurd cc
rest_there key d (Some x) rest there e = rest_given (some_at max_rest key d) rest e

endless_goes_on : (d : Data) (every : Option ℕ) → is_endless d ≡ true → rest_at (codes "every") d ≡ Some every → IsSome every
endless_goes_on d every endless e =
    rest_there (codes "every") d (get (codes "every") d) every
    (and_parts (is_none (get (codes "connections") d)) (is_some (get (codes "every") d)) endless).1 e

-- ---- servers and queries

pub name_is : (d : Data) (name : List ℕ) → name_at d ≡ Some name → IsTrue (is_name name)
name_is d name e = passed is_name (text_at (codes "name") d) name e

node_addressed : (network : Bool) (d : Data) (node : Node) → node_at network d ≡ Some node → Addressed network node.address node.listen node.status
node_addressed network d node read =
    let parts = node_parts network d node read in
    addressed network d node.address node.listen parts.asked node.status parts.address parts.asked_is parts.listen parts.status

pub node_is : (network : Bool) (d : Data) (node : Node) → node_at network d ≡ Some node → IsNode node
node_is network d node read =
    let parts = node_parts network d node read in
    let workers = some_between max_workers (codes "workers") d node.workers parts.workers in
    let threads = threads_so d (get (codes "threads") d) node.threads parts.threads in
    let there = node_addressed network d node read in
    record {
      name = name_is d node.name parts.name;
      address = any_address network node.address there.address_passes;
      listen = any_address network node.listen there.listen_passes;
      status = status_any network node.status there.status_passes;
      some_workers = workers.above;
      few_workers = workers.below;
      rest = rest_is (codes "watch") d node.watch parts.watch;
      few_front = front_is d node.front parts.front;
      some_threads = threads.above;
      few_threads = threads.below;
    }

node_local : (network : Bool) → network ≡ false → (d : Data) (node : Node) → node_at network d ≡ Some node → IsLocalNode node
node_local network none d node read = addressed_local network node.address node.listen node.status none (node_addressed network d node read)

broker_addressed : (network : Bool) (d : Data) (broker : Broker) → broker_at network d ≡ Some broker → Addressed network broker.address broker.listen broker.status
broker_addressed network d broker read =
    let parts = broker_parts network d broker read in
    addressed network d broker.address broker.listen parts.asked broker.status parts.address parts.asked_is parts.listen parts.status

pub broker_is : (network : Bool) (d : Data) (broker : Broker) → broker_at network d ≡ Some broker → IsBroker broker
broker_is network d broker read =
    let parts = broker_parts network d broker read in
    let workers = some_between max_workers (codes "workers") d broker.workers parts.workers in
    let there = broker_addressed network d broker read in
    record {
      address = any_address network broker.address there.address_passes;
      listen = any_address network broker.listen there.listen_passes;
      status = status_any network broker.status there.status_passes;
      some_workers = workers.above;
      few_workers = workers.below;
      few_front = front_is d broker.front parts.front;
    }

broker_local : (network : Bool) → network ≡ false → (d : Data) (broker : Broker) → broker_at network d ≡ Some broker → IsLocalBroker broker
broker_local network none d broker read = addressed_local network broker.address broker.listen broker.status none (broker_addressed network d broker read)

query_is : (brokers : ℕ) (d : Data) (asked : Asked) → query_at brokers d ≡ Some asked → asked.broker < brokers
query_is brokers d asked read =
    let lower : nat_lt asked.broker brokers ≡ true = passed (λ n. nat_lt n brokers) (number_at (codes "broker") d) asked.broker (query_parts brokers d asked read).broker in
    grind (arith, nat_tests, lower)

object_so : (o : Option Data) (asked : Option Data) → option_and_then (λ q. Some (Some q)) (option_and_then (λ q. option_and_then (λ _. Some q) (as_object q)) o) ≡ Some asked
    → IsSome (option_and_then as_object asked)
object_so None asked read = absurd cc
object_so (Some (object ms)) asked read = subst (λ q. IsSome (option_and_then as_object q)) (same_Some (Some (object ms)) asked read) refl
object_so (Some null) asked read = absurd cc
object_so (Some (boolean b)) asked read = absurd cc
object_so (Some (number x)) asked read = absurd cc
object_so (Some (string s)) asked read = absurd cc
object_so (Some (array ds)) asked read = absurd cc

query_object : (brokers : ℕ) (d : Data) (asked : Asked) → query_at brokers d ≡ Some asked → IsObject asked
query_object brokers d asked read = object_so (get (codes "query") d) asked.query (query_parts brokers d asked read).query

-- what holds of all that an item reads as holds of each of the list
each_is : {A : Type 0} (P : A → Type 0) (f : Data → Option A) → ((d : Data) (x : A) → f d ≡ Some x → P x) → (ds : Items) (xs : List A) → each_of f ds ≡ Some xs → All P xs
each_is P f one ds xs read k d below = each_sound P f one ds xs read (get_or xs k d) (k, below, get_or_default xs k (get_or xs k d) d below)

-- ---- lists of servers

record NodeLimits (network : Bool) (nodes : List Node) : Type 0 where
  count : Between 1 max_servers (length nodes)
  each : All IsNode nodes
  here : network ≡ false → All IsLocalNode nodes
  own : AreDistinct (names_of nodes)

abbrev nodes_if : List Node → Option (List Node)
nodes_if nodes = cond (are_few (length nodes) && are_distinct (names_of nodes)) (Some nodes) None

nodes_fit : (network : Bool) (items : Items) (nodes : List Node) → nodes_in network items ≡ Some nodes → NodeLimits network nodes
unfolding nodes_in
nodes_fit network items nodes read =
    let step = stepped nodes_if (each_of (node_at network) items) nodes read in
    let kept = cond_some (are_few (length step.0) && are_distinct (names_of step.0)) step.0 nodes step.2 in
    let tests = and_parts (are_few (length step.0)) (are_distinct (names_of step.0)) kept.0 in
    subst (NodeLimits network) kept.1 (record {
      count = between 1 max_servers (length step.0) tests.0;
      each = each_is IsNode (node_at network) (node_is network) items step.0 step.1;
      here = λ none. each_is IsLocalNode (node_at network) (node_local network none) items step.0 step.1;
      own = distinct_to (names_of step.0) tests.1;
    })

record BrokerLimits (network : Bool) (brokers : List Broker) : Type 0 where
  count : Between 1 max_servers (length brokers)
  each : All IsBroker brokers
  here : network ≡ false → All IsLocalBroker brokers

abbrev brokers_if : List Broker → Option (List Broker)
brokers_if brokers = cond (are_few (length brokers)) (Some brokers) None

brokers_fit : (network : Bool) (items : Items) (brokers : List Broker) → brokers_in network items ≡ Some brokers → BrokerLimits network brokers
unfolding brokers_in
brokers_fit network items brokers read =
    let step = stepped brokers_if (each_of (broker_at network) items) brokers read in
    let kept = cond_some (are_few (length step.0)) step.0 brokers step.2 in
    subst (BrokerLimits network) kept.1 (record {
      count = between 1 max_servers (length step.0) kept.0;
      each = each_is IsBroker (broker_at network) (broker_is network) items step.0 step.1;
      here = λ none. each_is IsLocalBroker (broker_at network) (broker_local network none) items step.0 step.1;
    })

-- ---- configs

servers_within : (settings : Settings) (d : Data) (reported : Reported) → SettingsParts d settings → ServerParts settings d reported
    → IsWithinLimits (reported_by reported.nodes reported.brokers reported.queries settings)
servers_within settings d reported settled parts =
    let listed = chained (nodes_in settings.network) (list_at (codes "nodes") d) reported.nodes parts.nodes in
    let nodes = nodes_fit settings.network listed.0 reported.nodes listed.2 in
    let ranked = chained (brokers_in settings.network) (list_at (codes "brokers") d) reported.brokers parts.brokers in
    let brokers = brokers_fit settings.network ranked.0 reported.brokers ranked.2 in
    let queued = chained (each_of (query_at (length reported.brokers))) (list_at (codes "queries") d) reported.queries parts.queries in
    let kept = some_between max_kept (codes "kept") d settings.kept settled.kept in
    record {
      some_nodes = nodes.count.above;
      few_nodes = nodes.count.below;
      nodes = nodes.each;
      own_names = nodes.own;
      some_brokers = brokers.count.above;
      few_brokers = brokers.count.below;
      brokers = brokers.each;
      asked = each_is (λ q. q.broker < length reported.brokers) (query_at (length reported.brokers)) (query_is (length reported.brokers)) queued.0 reported.queries queued.2;
      objects = each_is IsObject (query_at (length reported.brokers)) (query_object (length reported.brokers)) queued.0 reported.queries queued.2;
      few_connections = connections_below d settings.connections settled.connections;
      some_kept = kept.above;
      few_kept = kept.below;
      few_turns = count_below (codes "turns") d settings.turns settled.turns;
      rest = rest_is (codes "every") d settings.every settled.every;
      patience = patience_is d settings.patience settled.patience;
      local_nodes = nodes.here;
      local_brokers = brokers.here;
      goes_on = λ endless. endless_goes_on d settings.every (settled.endless ∙ endless) settled.every;
    }

pub within : (d : Data) (reported : Reported) → config_at d ≡ Some reported → IsWithinLimits reported
within d reported read =
    let parts = config_parts d reported read in
    subst IsWithinLimits (sym parts.servers.is) (servers_within parts.settings d reported parts.settled parts.servers)

-- what holds of queries as the config has them holds of them as they are posted
pub posted_so : (P : Asked → Type 0) (queries : List Posted) → All P (map asked_of queries) → All (λ q. P (asked_of q)) queries
posted_so P queries all k d below =
    subst P (get_or-map asked_of queries k d (asked_of d) below) (all k (asked_of d) (omega (arith, below, length-map queries asked_of)))
