-- Which servers of a cluster a process starts.
use Rattle.std.specs.Prelude.{ℕ, ◌==◌, ◌||◌, Bool, true, false, nat_lt, List, codes, length, take, drop, Option, Some, None, if◌then◌else◌}
use Rattle.std.specs.Str.{bytes_eq}
use Rattle.std.specs.List.{list_any, list_all, slice_split}
use Rattle.druid_base.specs.Numbers as numbers
use Rattle.druid_serve_config.specs.Configs.{Node, Broker}

-- the words of a text, with commas between
abbrev pub words_of : List ℕ → List (List ℕ)
words_of text = slice_split (λ byte. byte == 44) text

-- the place of the broker that a word names: `broker:` and the place in digits
abbrev pub broker_named : List ℕ → Option ℕ
broker_named word = if bytes_eq (take 7 word) (codes "broker:") then numbers.number_at (drop 7 word) else None

-- whether it names the broker at a place, and one of so many
abbrev pub is_at : ℕ → Option ℕ → Bool
is_at place None = false
is_at place (Some named) = named == place

abbrev pub is_below : ℕ → Option ℕ → Bool
is_below count None = false
is_below count (Some named) = nat_lt named count

-- whether a word names one of these nodes or brokers
abbrev pub is_known : List Node → List Broker → List ℕ → Bool
is_known nodes brokers word =
    list_any (λ n. bytes_eq n.name word) nodes || is_below (length brokers) (broker_named word)

-- whether each word of a text does: then it is a part of their cluster
abbrev pub is_part : List Node → List Broker → List ℕ → Bool
is_part nodes brokers text = list_all (is_known nodes brokers) (words_of text)

-- whether a part has a node, and the broker at a place: where no words name it, it has all
abbrev pub has_node : Option (List (List ℕ)) → Node → Bool
has_node None node = true
has_node (Some words) node = list_any (bytes_eq node.name) words

abbrev pub has_broker : Option (List (List ℕ)) → ℕ → Bool
has_broker None place = true
has_broker (Some words) place = list_any (λ w. is_at place (broker_named w)) words
