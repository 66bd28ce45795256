-- The commands of a script, each the JSON object of a line.
use Rattle.std.specs.Prelude.{ℕ, ◌&&◌, Bool, List, codes, length, nat_le, nat_lt, Option, Some, None, option_and_then, if◌then◌else◌}
use Rattle.std.specs.Str.{bytes_eq}
use Rattle.serde_json.specs.Data.{Data}
use Rattle.serde_json.specs.Find.{get, as_array, as_str}
use Rattle.druid_base.specs.Fields.{text_at, number_at, limited_at}
use Rattle.druid_inventory.specs.Entry.{max_nodes}
use Rattle.druid_base.specs.Options.{◌>>=◌}
use Rattle.druid_base.specs.Each.{each_of}

-- the most brokers of a script
abbrev pub max_brokers : ℕ
max_brokers = 64

-- the brokers that a script begins with: how many there are, and the names of their nodes
pub record Opening : Type 0 where
  pub count : ℕ
  pub names : List (List ℕ)

-- what a line asks for once brokers stand: that a broker takes a reply of a node, the visible pieces of a source in an
-- interval, a broker's marks, that a broker becomes the join of itself and another, or whether two brokers are equal.
-- Brokers count from 0
pub data Command : Type 0 where
  reply : (broker node : ℕ) → (body : Data) → Command
  lookup : (broker : ℕ) → (interval source : List ℕ) → Command
  marks : (broker : ℕ) → Command
  join : (from into : ℕ) → Command
  equal : (left right : ℕ) → Command

-- a number from 1 to a limit
abbrev pub is_from_one : ℕ → ℕ → Bool
is_from_one limit n = nat_le 1 n && nat_le n limit

-- 1 to 64 brokers, over 1 to 64 names
unfoldable pub brokers_at : Data → Option Opening
brokers_at d = do
  count ← number_at (codes "count") d
  nodes ← option_and_then as_array (get (codes "nodes") d)
  names ← each_of as_str nodes
  if is_from_one max_brokers count && is_from_one max_nodes (length names) then Some (record { count = count; names = names }) else None

unfoldable pub reply_at : Data → Option Command
reply_at d = do
  broker ← number_at (codes "broker") d
  node ← limited_at 65_535 (codes "node") d
  body ← get (codes "reply") d
  Some (reply broker node body)

unfoldable pub lookup_at : Data → Option Command
lookup_at d = do
  broker ← number_at (codes "broker") d
  interval ← text_at (codes "interval") d
  source ← text_at (codes "source") d
  Some (lookup broker interval source)

unfoldable pub marks_at : Data → Option Command
marks_at d = do
  broker ← number_at (codes "broker") d
  Some (marks broker)

unfoldable pub join_at : Data → Option Command
join_at d = do
  from ← number_at (codes "from") d
  into ← number_at (codes "into") d
  Some (join from into)

unfoldable pub equal_at : Data → Option Command
equal_at d = do
  left ← number_at (codes "left") d
  right ← number_at (codes "right") d
  Some (equal left right)

-- the brokers that are asked for: that is the first command, and comes once
unfoldable pub opening_at : Data → Option Opening
opening_at d = do
  name ← text_at (codes "do") d
  if bytes_eq name (codes "brokers") then brokers_at d else None

-- a command of that name
abbrev pub command_of : List ℕ → Data → Option Command
command_of name d =
    if bytes_eq name (codes "reply") then reply_at d
    else (if bytes_eq name (codes "lookup") then lookup_at d
    else (if bytes_eq name (codes "marks") then marks_at d
    else (if bytes_eq name (codes "join") then join_at d
    else (if bytes_eq name (codes "equal") then equal_at d else None))))

-- any other command, whether its brokers stand or not
unfoldable pub asked_at : Data → Option Command
asked_at d = do
  name ← text_at (codes "do") d
  command_of name d

-- it is of brokers that stand, of which there are this many
abbrev pub is_among : ℕ → Command → Bool
is_among count (reply broker node body) = nat_lt broker count
is_among count (lookup broker interval source) = nat_lt broker count
is_among count (marks broker) = nat_lt broker count
is_among count (join from into) = nat_lt from count && nat_lt into count
is_among count (equal left right) = nat_lt left count && nat_lt right count

-- any other command, once that many brokers stand
unfoldable pub command_at : ℕ → Data → Option Command
command_at count d = do
  command ← asked_at d
  if is_among count command then Some command else None
