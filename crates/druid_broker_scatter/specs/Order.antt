-- In which order the replicas of a piece are asked.
use Rattle.std.specs.Prelude.{ℕ, Bool, ◌%◌, ◌/◌, ◌^◌, ◌==◌, ◌&&◌, not, nat_lt, List, [], ◌∷◌, ◌++◌, length, take, drop, filter}

-- turned left by the turn modulo the length; nothing stays nothing
abbrev pub turned : ℕ → List ℕ → List ℕ
turned turn [] = []
turned turn (x ∷ xs) = drop (turn % length (x ∷ xs)) (x ∷ xs) ++ take (turn % length (x ∷ xs)) (x ∷ xs)

-- whether a node, of 0 to 63, has its bit in a set of nodes
abbrev pub has_node : ℕ → ℕ → Bool
has_node set node = nat_lt node 64 && (set / 2 ^ node % 2 == 1)

abbrev pub has_no_node : ℕ → ℕ → Bool
has_no_node set node = not (has_node set node)

-- the nodes that are well, and then those that ail, each in the order in which they stood
abbrev pub ailing_last : ℕ → List ℕ → List ℕ
ailing_last ailing nodes = filter (has_no_node ailing) nodes ++ filter (has_node ailing) nodes
