-- Which chunks an edit may be compared with.
use Rattle.std.specs.Prelude.{◌≢◌, List, Contains}
use Rattle.druid_time.specs.Extent.{Share}
use Rattle.druid_segment_id.specs.Group.{Group}
use Rattle.druid_timeline.specs.Holding.{Held}

-- where it is another group than g and shares an instant with it, it is in the list
abbrev pub IsAmong : Group → List Group → Group → Type 0
IsAmong g others h = h ≢ g → Share h.interval g.interval → Contains others h

-- so is each group of which something is held
abbrev pub AreAmong : List Held → Group → List Group → Type 0
AreAmong held g others = (x : Held) → Contains held x → IsAmong g others x.group
