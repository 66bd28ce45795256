use Rattle.std.proofs.Common.{◌≡◌, ◌++◌, false, nat_lt, map, drop, string_bytes}
use Rattle.std.specs.List.{AllWithin}
use Rattle.serde_json.specs.View.{items_of}
use Rattle.serde_json.specs.Written.{items_text}
use Rattle.druid_segment_descriptor.specs.Described.{IsDescribed}
use Rattle.druid_sync_text.specs.Written.{segment_of, change_data}
use Rattle.druid_sync_text.proofs.reply_writer.push_changes.Given as goal

abbrev pub invariant-loop-i : goal.invariant-loop-i
invariant-loop-i l =
    (string_bytes l.text ++ items_text (nat_lt 0 l.i) (items_of (map change_data (drop l.i l.changes)))
    ≡ string_bytes l.fn.text ++ items_text false (items_of (map change_data l.changes)))
    × AllWithin (λ c. IsDescribed (segment_of c)) l.changes 0 l.i
