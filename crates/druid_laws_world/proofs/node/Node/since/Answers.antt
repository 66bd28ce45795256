use Rattle.std.proofs.lemmas.Result.{IfOk-weaker}
use Rattle.druid_laws_world.proofs.NodeLemmas.{answers_so}
use Rattle.druid_laws_world.proofs.node.Node.since.Goals as goal

pub returns-clause-ok : goal.returns-clause-ok
returns-clause-ok c =
    rw (← c.self.view_is)
    (IfOk-weaker c.since.result _ _
    (λ reply e. answers_so c.self.inside.ended.items c.self.inside.history c.since.new.self c.self.inside.changes.items c.self.inside.kept c.args.ask.now reply c.self.invariant c.since.ensures.place e)
    c.since.ensures.answer)
