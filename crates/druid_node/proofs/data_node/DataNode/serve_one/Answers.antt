use Rattle.std.proofs.lemmas.Result.{IfOk-weaker, IfErr-weaker}
use Rattle.druid_node.proofs.SeenLemmas.{served_as_seen, refused_as_seen, serve_reported, unread_reported}
use Rattle.druid_node.proofs.data_node.DataNode.serve_one.Goals as goal

pub returns-in-Ok-clause-ok : goal.returns-in-Ok-clause-ok
returns-in-Ok-clause-ok g c =
    IfOk-weaker c.serve.result _ _ (λ sent h. served_as_seen g.I.Incarnation.number c.args.seen.now _ c.in-Ok.request _ _ _ _ sent c.in-Ok.ensures.ok h) c.serve.ensures.ok

pub returns-in-Err-clause-ok : goal.returns-in-Err-clause-ok
returns-in-Err-clause-ok g c =
    IfOk-weaker c.refuse_unread.result _ _ (λ sent h. refused_as_seen g.I.Incarnation.number c.args.seen.now _ _ _ _ c.in-Err.fault sent c.in-Err.ensures.err h) c.refuse_unread.ensures.ok

pub returns-in-Ok-clause-err : goal.returns-in-Ok-clause-err
returns-in-Ok-clause-err g c =
    IfErr-weaker c.serve.result _ _ (λ given h. serve_reported g.I.Incarnation.number c.args.seen.now c.in-Ok.request _ _ _ _ given c.in-Ok.ensures.ok h) c.serve.ensures.err

pub returns-in-Err-clause-err : goal.returns-in-Err-clause-err
returns-in-Err-clause-err g c =
    IfErr-weaker c.refuse_unread.result _ _ (λ given h. unread_reported g.I.Incarnation.number c.args.seen.now _ _ _ _ c.in-Err.fault given c.in-Err.ensures.err h) c.refuse_unread.ensures.err
