-- How long the answer to a query may take.
use Rattle.std.specs.Prelude.{ℕ, ◌==◌, ◌||◌, Bool, false, List, [], ◌∷◌, codes, nat_eq, Option, Some, None, option_and_then, if◌then◌else◌}
use Rattle.std.specs.List.{list_any, starts_with}
use Rattle.serde_json.specs.Data.{Data}
use Rattle.serde_json.specs.Find.{get}
use Rattle.druid_base.specs.Fields.{number_at}

-- 0 sets no time
abbrev pub some_time : ℕ → Option ℕ
some_time millis = if millis == 0 then None else Some millis

-- the whole number of milliseconds at `timeout` in the object at `context`
unfoldable pub timeout_at : Data → Option ℕ
timeout_at d = option_and_then some_time (option_and_then (number_at (codes "timeout")) (get (codes "context") d))

-- whether a word begins somewhere in a text
abbrev pub stands_in : List ℕ → List ℕ → Bool
stands_in word [] = false
stands_in word (b ∷ bs) = starts_with nat_eq (b ∷ bs) word || stands_in word bs

-- whether a text may have such a key: it spells it out, or it has an escape, which may stand for any letter
abbrev pub may_say_timeout : List ℕ → Bool
may_say_timeout text = stands_in (codes "timeout") text || list_any (λ b. nat_eq b 92) text

-- the timeout of a text that is the JSON of d
abbrev pub timeout_in : List ℕ → Data → Option ℕ
timeout_in text d = if may_say_timeout text then timeout_at d else None
