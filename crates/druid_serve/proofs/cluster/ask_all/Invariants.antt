use Rattle.std.proofs.Common.{ℕ, List, take, count_by}
use Rattle.std.specs.Io.KnownBytes.{Appends}
use Rattle.druid_serve_config.specs.Parts.{has_broker}
use Rattle.druid_serve_base.specs.Printed.{ArePrinted}
use Rattle.druid_serve.proofs.cluster.ask_all.Given as goal

abbrev pub invariant-loop-place : goal.invariant-loop-place
invariant-loop-place g l =
    (text : List ℕ) × ArePrinted (count_by (λ q. has_broker l.part q.broker) (take l.place l.config.queries)) text
    × Appends (g.W.Write.contents l.initial.out) (g.W.Write.contents l.out) text
