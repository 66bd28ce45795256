use Rattle.std.proofs.Common.{◌≡◌, ◌++◌, false, nat_lt, map, drop, string_bytes}
use Rattle.std.specs.List.{AllWithin}
use Rattle.serde_json.specs.View.{items_of}
use Rattle.serde_json.specs.Written.{items_text}
use Rattle.druid_segment_descriptor.specs.Described.{IsDescribed}
use Rattle.druid_sync_text.specs.Written.{load_data}
use Rattle.druid_sync_text.proofs.reply_writer.push_loads.Given as goal

abbrev pub invariant-loop-i : goal.invariant-loop-i
invariant-loop-i l =
    (string_bytes l.text ++ items_text (nat_lt 0 l.i) (items_of (map load_data (drop l.i l.segments)))
    ≡ string_bytes l.fn.text ++ items_text false (items_of (map load_data l.segments)))
    × AllWithin IsDescribed l.segments 0 l.i
