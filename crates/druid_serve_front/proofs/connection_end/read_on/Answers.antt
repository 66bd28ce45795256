use Rattle.std.proofs.Common.{take, ◌++◌, length-append, length-take, rules, arith}
use Rattle.std.proofs.KnownBytes.{Consumes-trans}
use Rattle.druid_serve_front.proofs.connection_end.read_on.Goals as goal

pub loop-taken-preserved : goal.loop-taken-preserved
loop-taken-preserved g c =
    let before = c.loop-taken.invariant in
    let more = take c.in-Ok-receive_some.count c.receive_some.new.part in
    record {
      bound = search rules;
      room = search rules;
      took = record {
        front = before.took.front ++ more;
        taken = Consumes-trans _ _ _ before.took.front more before.took.taken c.in-Ok-receive_some.ensures.taken;
        within = omega (arith, before.took.within, length-append before.took.front more, length-take c.in-Ok-receive_some.count c.receive_some.new.part);
      };
    }
