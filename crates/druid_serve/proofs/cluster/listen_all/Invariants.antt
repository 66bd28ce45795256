use Rattle.std.proofs.Common.{◌≡◌, map, filter}
use Rattle.std.specs.List.{range_with_len}
use Rattle.druid_serve_config.specs.Parts.{has_broker}
use Rattle.druid_serve.proofs.cluster.listen_all.Given as goal

abbrev pub invariant-loop-place : goal.invariant-loop-place
invariant-loop-place g l = map (λ x. x.place) l.listening.items ≡ filter (has_broker l.part) (range_with_len 0 l.place)
