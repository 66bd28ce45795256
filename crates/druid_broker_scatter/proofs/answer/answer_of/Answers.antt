use Rattle.std.proofs.Common.{ap}
use Rattle.druid_link.specs.Links.{came_of}
use Rattle.druid_broker_scatter.proofs.ReportLemmas.{lost_of, lacks_of}
use Rattle.druid_broker_scatter.proofs.answer.answer_of.Goals as goal

pub returns-in-Ok-clause-none : goal.returns-in-Ok-clause-none
returns-in-Ok-clause-none c =
    lost_of c.args.sub.now c.in-Ok.bytes.items c.deref.result.now (came_of c.args.came.now) c.answer_in.result c.deref.ensures.value (ap came_of c.in-Ok.is) c.answer_in.ensures.none

pub returns-in-Ok-clause-err : goal.returns-in-Ok-clause-err
returns-in-Ok-clause-err c =
    lacks_of c.args.sub.now c.in-Ok.bytes.items c.deref.result.now (came_of c.args.came.now) c.answer_in.result c.deref.ensures.value (ap came_of c.in-Ok.is) c.answer_in.ensures.err
