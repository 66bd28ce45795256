use Rattle.std.proofs.Common.{◌≡◌, ◌≤◌, ◌+◌, length}
use Rattle.std.specs.Io.KnownBytes.{Consumes}
use Rattle.druid_http_wire.specs.Limits.{max_head}
use Rattle.druid_serve_front.proofs.request.read_head.Given as goal

abbrev pub invariant-loop-turn : goal.invariant-loop-turn
invariant-loop-turn g l = record {
  bound : length l.bytes.items ≤ max_head;
  reads : l._turn ≤ length l.bytes.items;
  room : length l.part ≡ max_head + 1;
  taken : Consumes (g.S.Read.remaining l.fn.stream) (g.S.Read.remaining l.stream) l.bytes.items;
}
