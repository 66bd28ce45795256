use Rattle.std.proofs.lemmas.Result.{IfOk-weaker}
use Rattle.druid_inventory_views.proofs.FaultLemmas.{unknown_exact, refused_exact}
use Rattle.druid_inventory_views.proofs.publisher.Publisher.publish.Goals as goal

pub returns-clause-unknown : goal.returns-clause-unknown
returns-clause-unknown g c =
    unknown_exact c.apply_reply.result c.args.self.now.inventory c.args.node c.args.reply.now
    (IfOk-weaker c.apply_reply.result _ _ (λ r h. (r.0, h.0, h.1)) c.apply_reply.ensures.ok) c.apply_reply.ensures.fault

pub returns-clause-refused : goal.returns-clause-refused
returns-clause-refused g c =
    refused_exact c.apply_reply.result c.args.self.now.inventory c.args.node c.args.reply.now
    (IfOk-weaker c.apply_reply.result _ _ (λ r h. (r.0, h.0, h.1)) c.apply_reply.ensures.ok) c.apply_reply.ensures.fault
