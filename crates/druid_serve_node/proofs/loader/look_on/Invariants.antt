use Rattle.std.proofs.Common.{◌≡◌, ◌≢◌}
use Rattle.std.specs.declared.cmp.Ordering.TheVariants.{Greater}
use Rattle.druid_segment_descriptor.specs.Mark.{mark_cmp}
use Rattle.druid_serve_node.proofs.loader.look_on.Given as goal

abbrev pub invariant-loop : goal.invariant-loop
invariant-loop g l = record {
  own : l.watch.seen.incarnation ≡ g.I.Incarnation.number;
  reached : mark_cmp g.J.Begun.mark l.watch.seen ≢ Greater;
}
