use Rattle.std.proofs.Common.{subst}
use Rattle.std.specs.Result.{IfOk, IfErr}
use Rattle.std.proofs.lemmas.Result.{IfOk-weaker}
use Rattle.druid_segment_descriptor.specs.declared.reply.Body.{Body}
use Rattle.druid_inventory.specs.Step.{Reports}
use Rattle.druid_inventory.proofs.StepLemmas.{SomeStep, unknown_exact, refused_exact}
use Rattle.druid_inventory.proofs.inventory.Inventory.apply.Goals as goal

pub returns-clause-unknown : goal.returns-clause-unknown
returns-clause-unknown c =
    unknown_exact c.step_of.result c.args.self.now c.args.node c.body.result.now
    (IfOk-weaker c.step_of.result _ _ (λ r h. (r.1, h.0, h.1)) c.step_of.ensures.ok) c.step_of.ensures.reported

pub returns-clause-refused : goal.returns-clause-refused
returns-clause-refused c =
    let ok : IfOk c.step_of.result (λ _. SomeStep c.args.self.now c.args.node c.body.result.now) =
    IfOk-weaker c.step_of.result _ _ (λ r h. (r.1, h.0, h.1)) c.step_of.ensures.ok in
    let ok' = subst (λ (b : Body). IfOk c.step_of.result (λ _. SomeStep c.args.self.now c.args.node b)) c.body.ensures.value ok in
    let reported = subst (λ (b : Body). IfErr c.step_of.result (Reports c.args.self.now c.args.node b)) c.body.ensures.value c.step_of.ensures.reported in
    refused_exact c.step_of.result c.args.self.now c.args.node c.args.reply.now ok' reported
