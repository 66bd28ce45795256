use Rattle.std.proofs.Common.{◌≡◌, take, map}
use Rattle.httparse.specs.Spans.{header_bytes}
use Rattle.druid_http_wire.specs.Heads.{length_in}
use Rattle.druid_http_wire.proofs.length.length_in.Given as goal

abbrev pub invariant-loop-field : goal.invariant-loop-field
invariant-loop-field l = l.length ≡ length_in (map (header_bytes l.head) (take l.field-index l.fields))
