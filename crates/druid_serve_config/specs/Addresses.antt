-- Addresses of servers: an IPv4 address and a port.
use Rattle.std.specs.Prelude.{◌≡◌, ℕ, ◌≤◌, ◌==◌, ◌&&◌, Bool, true, false, nat_le, nat_lt, IsTrue, List, ◌++◌, codes, decimal, length, take, drop, Option, Some, None, option_and_then, if◌then◌else◌}
use Rattle.std.specs.List.{position_or_len, before_first, after_first}
use Rattle.std.specs.Str.{bytes_eq}
use Rattle.druid_base.specs.Options.{◌>>=◌}
use Rattle.druid_base.specs.Numbers as numbers
use Rattle.druid_serve_config.specs.Limits.{max_port, max_octet}

-- what stands before a port of this machine
abbrev pub loopback : List ℕ
loopback = codes "127.0.0.1:"

-- there is a number, and it is that of a port
abbrev pub is_port : Option ℕ → Bool
is_port None = false
is_port (Some n) = nat_le 1 n && nat_le n max_port

-- there is a number, and it is one of the four of an IPv4 address
abbrev pub is_octet : Option ℕ → Bool
is_octet None = false
is_octet (Some n) = nat_le n max_octet

-- ---- this machine

-- the address of a port of this machine, the port in decimal digits
abbrev pub is_local : List ℕ → Bool
is_local text = bytes_eq (take 10 text) loopback && is_port (numbers.number_at (drop 10 text))

-- the same in words
abbrev pub NamesPort : List ℕ → Type 0
NamesPort text = (port : ℕ) × (1 ≤ port) × (port ≤ max_port) × (text ≡ loopback ++ decimal port)

-- ---- any machine

abbrev pub dot : ℕ
dot = 46

abbrev pub colon : ℕ
colon = 58

-- what follows the first such byte of a text, where the digits of one of the four numbers stand before it
abbrev pub after_octet : ℕ → List ℕ → Option (List ℕ)
after_octet byte text =
    if nat_lt (position_or_len (λ b. b == byte) text) (length text) && is_octet (numbers.number_at (before_first (λ b. b == byte) text))
    then Some (after_first (λ b. b == byte) text)
    else None

-- what follows the four, dots between them and a colon after them
unfoldable pub after_host : List ℕ → Option (List ℕ)
after_host text = do
  second ← after_octet dot text
  third ← after_octet dot second
  fourth ← after_octet dot third
  after_octet colon fourth

-- the address of a port of any machine, its numbers in decimal digits
abbrev pub is_host_port : List ℕ → Bool
is_host_port text = is_port (option_and_then numbers.number_at (after_host text))

-- the same in words
abbrev pub NamesHostPort : List ℕ → Type 0
NamesHostPort text =
    (a : ℕ) × (b : ℕ) × (c : ℕ) × (d : ℕ) × (port : ℕ)
    × (a ≤ max_octet) × (b ≤ max_octet) × (c ≤ max_octet) × (d ≤ max_octet) × (1 ≤ port) × (port ≤ max_port)
    × (text ≡ decimal a ++ (codes "." ++ (decimal b ++ (codes "." ++ (decimal c ++ (codes "." ++ (decimal d ++ (codes ":" ++ decimal port))))))))

-- ---- both

-- an address that a config may have: of this machine alone, or of any where it says that its servers are in a network
abbrev pub is_address : Bool → List ℕ → Bool
is_address false text = is_local text
is_address true text = is_host_port text

-- the same as facts
abbrev pub IsAddress : List ℕ → Type 0
IsAddress text = IsTrue (is_host_port text)

abbrev pub IsLocal : List ℕ → Type 0
IsLocal text = IsTrue (is_local text)
