use Rattle.std.proofs.Common.{◌≡◌, take, map, false}
use Rattle.httparse.specs.Spans.{header_bytes}
use Rattle.druid_http_wire.specs.Heads.{is_coded}
use Rattle.druid_http_wire.proofs.length.is_coded.Given as goal

abbrev pub invariant-loop-field : goal.invariant-loop-field
invariant-loop-field l = is_coded (map (header_bytes l.head) (take l.field-index l.fields)) ≡ false
