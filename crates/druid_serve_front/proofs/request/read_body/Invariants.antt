use Rattle.std.proofs.Common.{◌≡◌, ◌+◌, ◌++◌, List, ℕ, length}
use Rattle.std.specs.Io.KnownBytes.{Consumes}
use Rattle.druid_serve_front.specs.declared.request.TheConstants.{PART}
use Rattle.druid_serve_front.proofs.request.read_body.Given as goal

abbrev pub invariant-loop-left : goal.invariant-loop-left
invariant-loop-left g l = record {
  room : length l.part ≡ PART;
  more : (more : List ℕ) × (l.bytes.items ≡ l.initial.bytes.items ++ more) × (length more + l.left ≡ l.initial.count)
      × Consumes (g.S.Read.remaining l.initial.stream) (g.S.Read.remaining l.stream) more;
}

abbrev pub decreases-loop-left : goal.decreases-loop-left
decreases-loop-left g l = l.left
