-- The limits of a config, as numbers.
use Rattle.std.specs.Prelude.{ℕ}

-- the most nodes, and the most brokers, of a config
abbrev pub max_servers : ℕ
max_servers = 64

-- the most workers of a server
abbrev pub max_workers : ℕ
max_workers = 16

-- the most changes that a node keeps
abbrev pub max_kept : ℕ
max_kept = 1000

-- the most turns, and the most connections of a server
abbrev pub max_count : ℕ
max_count = 1000000

-- the longest rest, in milliseconds
abbrev pub max_rest : ℕ
max_rest = 3600000

-- the longest patience with a node, in milliseconds
abbrev pub max_patience : ℕ
max_patience = 3600000

-- the patience of a config that names none, in milliseconds
abbrev pub usual_patience : ℕ
usual_patience = 30000

-- the most front threads of a server
abbrev pub max_front : ℕ
max_front = 256

-- the most threads that one query takes of a node
abbrev pub max_threads : ℕ
max_threads = 16

-- the greatest port
abbrev pub max_port : ℕ
max_port = 65535

-- the greatest of the four numbers of an IPv4 address
abbrev pub max_octet : ℕ
max_octet = 255
