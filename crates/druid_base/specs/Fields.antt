-- Fields of JSON objects.
use Rattle.std.specs.Prelude.{ℕ, List, Option, Some, None, is_some, nat_le, option_map, option_and_then, if◌then◌else◌}
use Rattle.serde_json.specs.Data.{Data, Items}
use Rattle.serde_json.specs.Find.{get, as_array, as_null, as_number, as_str, as_u64}

-- the text at a key
abbrev pub text_at : List ℕ → Data → Option (List ℕ)
text_at key d = option_and_then as_str (get key d)

-- the whole number at a key
abbrev pub number_at : List ℕ → Data → Option ℕ
number_at key d = option_and_then as_u64 (option_and_then as_number (get key d))

-- the number at a key, where it is at most a limit
abbrev pub limited_at : ℕ → List ℕ → Data → Option ℕ
limited_at limit key d = option_and_then (λ n. if nat_le n limit then Some n else None) (number_at key d)

-- the items of the list at a key
abbrev pub list_at : List ℕ → Data → Option Items
list_at key d = option_and_then as_array (get key d)

-- a text or null
unfoldable pub text_or_null : Data → Option (Option (List ℕ))
text_or_null d = if is_some (as_null d) then Some None else option_map Some (as_str d)
