-- What is wrong with JSON that is no config.
use Rattle.std.specs.Prelude.{◌≡◌, ℕ, ◌+◌, Bool, true, false, List, [], codes, length, drop, slice_index_or, Option, Some, None}
use Rattle.std.specs.List.{list_any}
use Rattle.std.specs.Str.{bytes_eq}
use Rattle.serde_json.specs.Data.{Data, Items}
use Rattle.serde_json.specs.Find.{get_item}
use Rattle.druid_base.specs.Each.{each_of}
use Rattle.druid_base.specs.Fields.{list_at, text_at}
use Rattle.druid_serve_config.specs.Configs.{Node, Broker, network_at, name_at, address_at, another_at, loads_at, tombstones_at, some_at, count_at, rest_at, front_at, threads_at, patience_at, connections_at, place_at, object_at, node_at, broker_at, brokers_at, names_of, are_few}
use Rattle.druid_serve_config.specs.Limits.{max_workers, max_kept}
use Rattle.druid_serve_config.specs.declared.bad_field.BadField.{BadField}
use Rattle.druid_serve_config.specs.declared.bad_field.BadField.TheVariants as bad
use Rattle.druid_serve_config.specs.declared.bad_field.WholeRule.{WholeRule}
use Rattle.druid_serve_config.specs.declared.bad_field.WholeRule.TheVariants as whole
use Rattle.druid_serve_config.specs.declared.bad_field.AddressRule.{AddressRule}
use Rattle.druid_serve_config.specs.declared.bad_field.AddressRule.TheVariants as rule
use Rattle.druid_serve_config.specs.declared.bad_field.NodeRule.{NodeRule}
use Rattle.druid_serve_config.specs.declared.bad_field.NodeRule.TheVariants as node
use Rattle.druid_serve_config.specs.declared.bad_field.BrokerRule.{BrokerRule}
use Rattle.druid_serve_config.specs.declared.bad_field.BrokerRule.TheVariants as broker
use Rattle.druid_serve_config.specs.declared.bad_field.QueryRule.{QueryRule}
use Rattle.druid_serve_config.specs.declared.bad_field.QueryRule.TheVariants as query

-- in the item at a place there is no such value
abbrev pub Lacks : {A : Type 0} → (Data → Option A) → Items → ℕ → Type 0
Lacks f items place = (d : Data) × (get_item place items ≡ Some d) × (f d ≡ None)

-- each item is a node, and a later one has the name of that at a place
abbrev pub HasNameTwice : Bool → Items → ℕ → Type 0
HasNameTwice network items place =
    (nodes : List Node) × (each_of (node_at network) items ≡ Some nodes)
    × (list_any (bytes_eq (slice_index_or (names_of nodes) place [])) (drop (place + 1) (names_of nodes)) ≡ true)

-- each item is a server, but there are none or too many
abbrev pub HasOtherCount : {A : Type 0} → (Data → Option A) → Items → Type 0
HasOtherCount {A} f items = (servers : List A) × (each_of f items ≡ Some servers) × (are_few (length servers) ≡ false)

-- what an address has to be where addresses may be those of any machine, and where not
abbrev pub rule_of : Bool → AddressRule
rule_of false = rule.Local
rule_of true = rule.Network

-- of the items, the node at a place breaks the rule
abbrev pub BreaksNode : Bool → Items → ℕ → NodeRule → Type 0
BreaksNode network items place node.Name = Lacks name_at items place
BreaksNode network items place node.OwnName = HasNameTwice network items place
BreaksNode network items place (node.Address rule) = (rule ≡ rule_of network) × Lacks (address_at network (codes "address")) items place
BreaksNode network items place node.Folder = Lacks (text_at (codes "folder")) items place
BreaksNode network items place node.Loads = Lacks loads_at items place
BreaksNode network items place node.Tombstones = Lacks tombstones_at items place
BreaksNode network items place node.Workers = Lacks (some_at max_workers (codes "workers")) items place
BreaksNode network items place node.Watch = Lacks (rest_at (codes "watch")) items place
BreaksNode network items place (node.Status rule) = (rule ≡ rule_of network) × Lacks (another_at network (codes "status")) items place
BreaksNode network items place node.Front = Lacks front_at items place
BreaksNode network items place (node.Listen rule) = (rule ≡ rule_of network) × Lacks (another_at network (codes "listen")) items place
BreaksNode network items place node.Threads = Lacks threads_at items place

abbrev pub BreaksBroker : Bool → Items → ℕ → BrokerRule → Type 0
BreaksBroker network items place (broker.Address rule) = (rule ≡ rule_of network) × Lacks (address_at network (codes "address")) items place
BreaksBroker network items place broker.Workers = Lacks (some_at max_workers (codes "workers")) items place
BreaksBroker network items place (broker.Status rule) = (rule ≡ rule_of network) × Lacks (another_at network (codes "status")) items place
BreaksBroker network items place broker.Front = Lacks front_at items place
BreaksBroker network items place (broker.Listen rule) = (rule ≡ rule_of network) × Lacks (another_at network (codes "listen")) items place

-- the same of queries to so many brokers
abbrev pub BreaksQuery : ℕ → Items → ℕ → QueryRule → Type 0
BreaksQuery brokers items place query.Broker = Lacks (place_at brokers) items place
BreaksQuery brokers items place query.Query = Lacks object_at items place

-- the list at a key is so
abbrev pub ListIs : List ℕ → (Items → Type 0) → Data → Type 0
ListIs key P d = (items : Items) × (list_at key d ≡ Some items) × P items

-- so it is by what the whole says of addresses
abbrev pub ByNetwork : (Bool → Data → Type 0) → Data → Type 0
ByNetwork P d = (network : Bool) × (network_at d ≡ Some network) × P network d

-- the whole breaks the rule
abbrev pub BreaksWhole : WholeRule → Data → Type 0
BreaksWhole whole.Connections d = connections_at d ≡ None
BreaksWhole whole.Kept d = some_at max_kept (codes "kept") d ≡ None
BreaksWhole whole.Turns d = count_at (codes "turns") d ≡ None
BreaksWhole whole.Every d = rest_at (codes "every") d ≡ None
BreaksWhole whole.Patience d = patience_at d ≡ None
BreaksWhole whole.Network d = network_at d ≡ None
BreaksWhole whole.Nodes d = list_at (codes "nodes") d ≡ None
BreaksWhole whole.NodeCount d = ByNetwork (λ network. ListIs (codes "nodes") (HasOtherCount (node_at network))) d
BreaksWhole whole.Brokers d = list_at (codes "brokers") d ≡ None
BreaksWhole whole.BrokerCount d = ByNetwork (λ network. ListIs (codes "brokers") (HasOtherCount (broker_at network))) d
BreaksWhole whole.Queries d = list_at (codes "queries") d ≡ None

-- the field of JSON breaks its rule
abbrev pub IsWrong : BadField → Data → Type 0
IsWrong bad.Json d = ⊥
IsWrong (bad.Whole rule) d = BreaksWhole rule d
IsWrong (bad.Node place rule) d = ByNetwork (λ network. ListIs (codes "nodes") (λ items. BreaksNode network items place rule)) d
IsWrong (bad.Broker place rule) d = ByNetwork (λ network. ListIs (codes "brokers") (λ items. BreaksBroker network items place rule)) d
IsWrong (bad.Query place rule) d =
    ByNetwork (λ network d. (brokers : List Broker) × (brokers_at network d ≡ Some brokers)
    × ListIs (codes "queries") (λ items. BreaksQuery (length brokers) items place rule) d) d
