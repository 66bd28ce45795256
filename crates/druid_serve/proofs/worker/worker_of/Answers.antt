use Rattle.std.specs.Arc.{arc_value}
use Rattle.druid_serve.proofs.LinkLemmas.{leads_from}
use Rattle.druid_serve.proofs.worker.worker_of.Goals as goal

pub returns : goal.returns
returns g c = leads_from (arc_value c.args.health.now).patience c.args.nodes.now c.in_ok-links.links.items c.in_ok-links.ensures
