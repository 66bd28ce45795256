-- Why a line is no command: the first of its fields that is wrong.
use Rattle.std.specs.Prelude.{◌≡◌, ◌≤◌, ◌&&◌, ◌⊎◌, ℕ, false, List, [], ◌∷◌, codes, length, nat_lt, is_none, option_map, option_and_then, unwrap_or, Option, Some, None, if◌then◌else◌}
use Rattle.std.specs.Str.{bytes_eq}
use Rattle.serde_json.specs.Data.{Data}
use Rattle.serde_json.specs.Find.{get, as_array, as_str}
use Rattle.druid_base.specs.Fields.{text_at, number_at, limited_at}
use Rattle.druid_base.specs.Each.{each_of}
use Rattle.druid_base.specs.Options.{◌>>=◌}
use Rattle.druid_inventory.specs.Entry.{max_nodes}
use Rattle.druid_replay.specs.Commands.{Command, reply, lookup, marks, join, equal, max_brokers, is_from_one, asked_at}
use Rattle.druid_replay.specs.declared.reason.BadLine.{BadLine}
use Rattle.druid_replay.specs.declared.reason.BadLine.TheVariants.{NotBrokers, NoCommand, Count, Nodes, OutOfRange, NoNumber, NoBroker, Node, Reply, Interval, Source}
use Rattle.druid_replay.specs.declared.reason.BrokerKey.{BrokerKey}
use Rattle.druid_replay.specs.declared.reason.BrokerKey.TheVariants as keys

-- the texts at `nodes`
unfoldable pub names_at : Data → Option (List (List ℕ))
names_at d = do
  nodes ← option_and_then as_array (get (codes "nodes") d)
  each_of as_str nodes

unfoldable pub brokers_fault : Data → BadLine
brokers_fault d =
    if is_none (number_at (codes "count") d) then Count
    else (if is_none (names_at d) then Nodes else OutOfRange)

-- brokers are asked for by no other name
unfoldable pub opening_fault : Data → BadLine
opening_fault d =
    unwrap_or (option_map (λ name. if bytes_eq name (codes "brokers") then brokers_fault d else NotBrokers) (text_at (codes "do") d)) NotBrokers

unfoldable pub reply_fault : Data → BadLine
reply_fault d =
    if is_none (number_at (codes "broker") d) then NoNumber keys.Broker
    else (if is_none (limited_at 65_535 (codes "node") d) then Node else Reply)

unfoldable pub lookup_fault : Data → BadLine
lookup_fault d =
    if is_none (number_at (codes "broker") d) then NoNumber keys.Broker
    else (if is_none (text_at (codes "interval") d) then Interval else Source)

unfoldable pub join_fault : Data → BadLine
join_fault d = if is_none (number_at (codes "from") d) then NoNumber keys.From else NoNumber keys.Into

unfoldable pub equal_fault : Data → BadLine
equal_fault d = if is_none (number_at (codes "left") d) then NoNumber keys.Left else NoNumber keys.Right

-- the same of a command of that name
abbrev pub fault_of : List ℕ → Data → BadLine
fault_of name d =
    if bytes_eq name (codes "reply") then reply_fault d
    else (if bytes_eq name (codes "lookup") then lookup_fault d
    else (if bytes_eq name (codes "marks") then NoNumber keys.Broker
    else (if bytes_eq name (codes "join") then join_fault d
    else (if bytes_eq name (codes "equal") then equal_fault d else NoCommand))))

unfoldable pub asked_fault : Data → BadLine
asked_fault d = unwrap_or (option_map (λ name. fault_of name d) (text_at (codes "do") d)) NoCommand

-- of brokers that stand, of which there are this many, the first that is not one
abbrev pub missing_fault : ℕ → Command → BadLine
missing_fault count (reply broker node body) = NoBroker keys.Broker
missing_fault count (lookup broker interval source) = NoBroker keys.Broker
missing_fault count (marks broker) = NoBroker keys.Broker
missing_fault count (join from into) = if nat_lt from count then NoBroker keys.Into else NoBroker keys.From
missing_fault count (equal left right) = if nat_lt left count then NoBroker keys.Right else NoBroker keys.Left

-- its brokers are looked for once all its fields are there
unfoldable pub command_fault : ℕ → Data → BadLine
command_fault count d = unwrap_or (option_map (missing_fault count) (asked_at d)) (asked_fault d)

-- ---- which reason that is: of the rules of a line, in their order, the first that it breaks. Law `bad_lines_break_a_rule`

-- the rules of the line that asks for brokers
abbrev pub opening_rules : List BadLine
opening_rules = NotBrokers ∷ Count ∷ Nodes ∷ OutOfRange ∷ []

-- the rules of a command of that name; none of a name that no command has
abbrev pub rules_of : List ℕ → List BadLine
rules_of name =
    if bytes_eq name (codes "reply") then NoNumber keys.Broker ∷ Node ∷ Reply ∷ NoBroker keys.Broker ∷ []
    else (if bytes_eq name (codes "lookup") then NoNumber keys.Broker ∷ Interval ∷ Source ∷ NoBroker keys.Broker ∷ []
    else (if bytes_eq name (codes "marks") then NoNumber keys.Broker ∷ NoBroker keys.Broker ∷ []
    else (if bytes_eq name (codes "join") then NoNumber keys.From ∷ NoNumber keys.Into ∷ NoBroker keys.From ∷ NoBroker keys.Into ∷ []
    else (if bytes_eq name (codes "equal") then NoNumber keys.Left ∷ NoNumber keys.Right ∷ NoBroker keys.Left ∷ NoBroker keys.Right ∷ []
    else []))))

abbrev pub rules_at : Data → List BadLine
rules_at d = unwrap_or (option_map rules_of (text_at (codes "do") d)) []

-- where the number of a broker stands
abbrev pub key_text : BrokerKey → List ℕ
key_text keys.Broker = codes "broker"
key_text keys.From = codes "from"
key_text keys.Into = codes "into"
key_text keys.Left = codes "left"
key_text keys.Right = codes "right"

-- the line breaks the rule of that reason, where that many brokers stand
abbrev pub Breaks : ℕ → Data → BadLine → Type 0
Breaks count d NotBrokers = text_at (codes "do") d ≡ Some (codes "brokers") → ⊥
Breaks count d Count = number_at (codes "count") d ≡ None
Breaks count d Nodes = names_at d ≡ None
Breaks count d OutOfRange =
    (n : ℕ) × (names : List (List ℕ)) × (number_at (codes "count") d ≡ Some n) × (names_at d ≡ Some names)
    × ((is_from_one max_brokers n && is_from_one max_nodes (length names)) ≡ false)
Breaks count d NoCommand = rules_at d ≡ []
Breaks count d (NoNumber key) = number_at (key_text key) d ≡ None
Breaks count d (NoBroker key) = (n : ℕ) × (number_at (key_text key) d ≡ Some n) × (count ≤ n)
Breaks count d Node = limited_at 65_535 (codes "node") d ≡ None
Breaks count d Reply = get (codes "reply") d ≡ None
Breaks count d Interval = text_at (codes "interval") d ≡ None
Breaks count d Source = text_at (codes "source") d ≡ None
Breaks count d reason = ⊥

-- of these rules the line breaks that one, and none before it
abbrev pub IsFirst : ℕ → Data → List BadLine → BadLine → Type 0
IsFirst count d [] reason = ⊥
IsFirst count d (rule ∷ rules) reason =
    (Breaks count d rule × (reason ≡ rule)) ⊎ ((Breaks count d rule → ⊥) × IsFirst count d rules reason)
