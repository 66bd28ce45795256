-- Which links lead to which nodes, and what a broker knows first of the nodes of a config.
use Rattle.std.specs.Prelude.{◌≡◌, ℕ, ◌*◌, List, [], map, length, Some}
use Rattle.std.specs.Duration.{as_nanos}
use Rattle.std.specs.List.{slice_get}
use Rattle.druid_serve_config.specs.Configs.{Node, names_of}
use Rattle.druid_inventory.specs.Entry.{Entry, fresh}
use Rattle.druid_link_health.specs.Monitored.{Monitored}
use Rattle.druid_link.specs.TcpLinks.{TcpLinkValue}

-- a link whose exchanges are noted as those of a node
abbrev pub NodeLinkValue : Type 0
NodeLinkValue = Monitored TcpLinkValue

-- the link to a node over which nothing was exchanged: its exchanges may take so many milliseconds, and are noted as those of the
-- node with that number
pub record IsFresh (patience at : ℕ) (node : Node) (link : NodeLinkValue) : Type 0 where
  pub address : link.link.address ≡ node.address
  pub none : link.link.made ≡ []
  pub limit : as_nanos link.link.limit ≡ patience * 1000000
  pub number : link.node ≡ at

-- a link is such a one to the node with that number
abbrev pub IsLinkAt : ℕ → List Node → ℕ → NodeLinkValue → Type 0
IsLinkAt patience nodes number link = (node : Node) → slice_get nodes number ≡ Some node → IsFresh patience number node link

-- link k is such a one to node k
pub record AreFresh (patience : ℕ) (nodes : List Node) (links : List NodeLinkValue) : Type 0 where
  pub count : length links ≡ length nodes
  pub each : (k : ℕ) (link : NodeLinkValue) → slice_get links k ≡ Some link → IsLinkAt patience nodes k link

-- link k leads to the address of node k, whatever was exchanged
pub record LeadTo (nodes : List Node) (links : List NodeLinkValue) : Type 0 where
  pub count : length links ≡ length nodes
  pub each : (k : ℕ) (node : Node) (link : NodeLinkValue) → slice_get nodes k ≡ Some node → slice_get links k ≡ Some link
      → link.link.address ≡ node.address

-- what a broker of a config knows first: of each node its name, in the config's order, and nothing that it serves
abbrev pub opening_of : List Node → List Entry
opening_of nodes = map fresh (names_of nodes)
