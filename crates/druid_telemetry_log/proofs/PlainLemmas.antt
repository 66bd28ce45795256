-- No event has a float.
use Rattle.std.proofs.Common.{◌≡◌, ℕ, List, false, refl}
use Rattle.serde_json.specs.Written.{has_float}
use Rattle.druid_segment_text.specs.Json.{mark_data}
use Rattle.druid_telemetry_log.specs.Events.{event_data}
use Rattle.druid_telemetry_log.specs.declared.event.Event.{Event}
use Rattle.druid_telemetry_log.specs.declared.event.Event.TheVariants.{Loaded, Dropped, Refused, Lost, Found, Fell, Oversize, Answered, Missed}

pub event_plain : (at server : List ℕ) (event : Event) → has_float (event_data at server event) ≡ false
unfolding mark_data
event_plain at server (Loaded file) = refl
event_plain at server (Dropped file) = refl
event_plain at server (Refused file code) = refl
event_plain at server (Lost node code) = refl
event_plain at server (Found node failed) = refl
event_plain at server (Fell node held shown) = refl
event_plain at server (Oversize node code exchanges) = refl
event_plain at server (Answered route status milliseconds bytes) = refl
event_plain at server (Missed lines) = refl
