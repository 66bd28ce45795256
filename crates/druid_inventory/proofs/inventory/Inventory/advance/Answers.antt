use Rattle.std.proofs.Common.{subst}
use Rattle.std.specs.Result.{IfOk, IfErr}
use Rattle.std.proofs.lemmas.Result.{IfOk-weaker}
use Rattle.druid_segment_descriptor.specs.declared.reply.Body.{Body}
use Rattle.druid_inventory.specs.Step.{Reports}
use Rattle.druid_inventory.proofs.StepLemmas.{SomeStep, refused_exact}
use Rattle.druid_inventory.proofs.inventory.Inventory.advance.Goals as goal

pub returns-clause-refused : goal.returns-clause-refused
returns-clause-refused c =
    let ok : IfOk c.step_in_place.result (λ _. SomeStep c.args.self.now c.args.node c.body.result.now) =
    IfOk-weaker c.step_in_place.result _ _ (λ o h. (o, h.0, h.1)) c.step_in_place.ensures.ok in
    let ok' = subst (λ (b : Body). IfOk c.step_in_place.result (λ _. SomeStep c.args.self.now c.args.node b)) c.body.ensures.value ok in
    let reported = subst (λ (b : Body). IfErr c.step_in_place.result (Reports c.args.self.now c.args.node b)) c.body.ensures.value c.step_in_place.ensures.reported in
    refused_exact c.step_in_place.result c.args.self.now c.args.node c.args.reply.now ok' reported
