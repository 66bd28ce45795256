-- Events, and their lines.
use Rattle.std.specs.Prelude.{ℕ, List, [], ◌∷◌, ◌++◌, codes, Option, Some, None, if◌then◌else◌}
use Rattle.serde_json.specs.Data.{Data, Members, object, member, no_members, string, number, unsigned}
use Rattle.serde_json.specs.Written.{compact_text}
use Rattle.druid_time.specs.Texts.{instant_text}
use Rattle.druid_segment_text.specs.Json.{mark_data}
use Rattle.druid_telemetry_log.specs.declared.level.Level.{Level}
use Rattle.druid_telemetry_log.specs.declared.level.Level.TheVariants.{Info, Debug}
use Rattle.druid_telemetry_log.specs.declared.event.Event.{Event}
use Rattle.druid_telemetry_log.specs.declared.event.Event.TheVariants.{Loaded, Dropped, Refused, Lost, Found, Fell, Oversize, Answered, Missed}
use Rattle.druid_telemetry_log.specs.Levels.{lets}

-- from which level on an event is logged
abbrev pub level_of : Event → Level
level_of (Loaded file) = Info
level_of (Dropped file) = Info
level_of (Refused file code) = Info
level_of (Lost node code) = Info
level_of (Found node failed) = Info
level_of (Fell node held shown) = Info
level_of (Oversize node code exchanges) = Info
level_of (Answered route status milliseconds bytes) = Debug
level_of (Missed lines) = Info

-- a member that is a text, and one that is a number
abbrev pub text_then : List ℕ → List ℕ → Members → Members
text_then key text rest = member key (string text) rest

abbrev pub count_then : List ℕ → ℕ → Members → Members
count_then key n rest = member key (number (unsigned n)) rest

-- what is logged of a file
abbrev pub file_data : List ℕ → List ℕ → List ℕ → List ℕ → Data
file_data at event file server = object
    (text_then (codes "at") at (text_then (codes "event") event (text_then (codes "file") file (text_then (codes "server") server no_members))))

abbrev pub refused_data : List ℕ → List ℕ → List ℕ → List ℕ → Data
refused_data at code file server = object
    (text_then (codes "at") at (text_then (codes "code") code (text_then (codes "event") (codes "refused")
    (text_then (codes "file") file (text_then (codes "server") server no_members)))))

abbrev pub lost_data : List ℕ → List ℕ → List ℕ → List ℕ → Data
lost_data at code node server = object
    (text_then (codes "at") at (text_then (codes "code") code (text_then (codes "event") (codes "lost")
    (text_then (codes "node") node (text_then (codes "server") server no_members)))))

abbrev pub found_data : List ℕ → ℕ → List ℕ → List ℕ → Data
found_data at failed node server = object
    (text_then (codes "at") at (text_then (codes "event") (codes "found") (count_then (codes "failed") failed
    (text_then (codes "node") node (text_then (codes "server") server no_members)))))

abbrev pub fell_data : List ℕ → Data → List ℕ → List ℕ → Data → Data
fell_data at held node server shown = object
    (text_then (codes "at") at (text_then (codes "event") (codes "fell") (member (codes "held") held
    (text_then (codes "node") node (text_then (codes "server") server (member (codes "shown") shown no_members))))))

abbrev pub oversize_data : List ℕ → List ℕ → ℕ → List ℕ → List ℕ → Data
oversize_data at code exchanges node server = object
    (text_then (codes "at") at (text_then (codes "code") code (text_then (codes "event") (codes "oversize")
    (count_then (codes "exchanges") exchanges (text_then (codes "node") node (text_then (codes "server") server no_members))))))

abbrev pub answered_data : List ℕ → ℕ → ℕ → List ℕ → List ℕ → ℕ → Data
answered_data at bytes milliseconds route server status = object
    (text_then (codes "at") at (count_then (codes "bytes") bytes (text_then (codes "event") (codes "answered")
    (count_then (codes "milliseconds") milliseconds (text_then (codes "route") route (text_then (codes "server") server
    (count_then (codes "status") status no_members)))))))

abbrev pub missed_data : List ℕ → ℕ → List ℕ → Data
missed_data at lines server = object
    (text_then (codes "at") at (text_then (codes "event") (codes "missed") (count_then (codes "lines") lines
    (text_then (codes "server") server no_members))))

-- the JSON of an event of a server at an instant
abbrev pub event_data : List ℕ → List ℕ → Event → Data
event_data at server (Loaded file) = file_data at (codes "loaded") file.now server
event_data at server (Dropped file) = file_data at (codes "dropped") file.now server
event_data at server (Refused file code) = refused_data at code.now file.now server
event_data at server (Lost node code) = lost_data at code.now node.now server
event_data at server (Found node failed) = found_data at failed node.now server
event_data at server (Fell node held shown) = fell_data at (mark_data held) node.now server (mark_data shown)
event_data at server (Oversize node code exchanges) = oversize_data at code.now exchanges node.now server
event_data at server (Answered route status milliseconds bytes) = answered_data at bytes milliseconds route.now server status
event_data at server (Missed lines) = missed_data at lines server

-- its line, where the level lets it through
abbrev pub line_at : Level → ℕ → List ℕ → Event → Option (List ℕ)
line_at level at server event =
    if lets level (level_of event) then Some (compact_text (event_data (instant_text at) server event) ++ 10 ∷ []) else None
