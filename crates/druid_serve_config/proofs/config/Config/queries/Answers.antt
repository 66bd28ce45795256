use Rattle.std.proofs.Common.{◌<◌, length}
use Rattle.druid_serve_config.specs.Configs.{IsObject}
use Rattle.druid_serve_config.proofs.LimitLemmas.{posted_so}
use Rattle.druid_serve_config.proofs.config.Config.queries.Goals as goal

pub returns-clause-asked : goal.returns-clause-asked
returns-clause-asked c = rw (← c.self.view_is) (posted_so (λ q. q.broker < length c.self.inside.brokers.items) c.self.inside.queries.items c.self.invariant.asked)

pub returns-clause-objects : goal.returns-clause-objects
returns-clause-objects c = rw (← c.self.view_is) (posted_so IsObject c.self.inside.queries.items c.self.invariant.objects)
