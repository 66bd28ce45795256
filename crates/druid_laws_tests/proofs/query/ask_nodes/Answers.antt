use Rattle.std.proofs.Common.{IfSome, subst, ◌∙◌}
use Rattle.druid_node.specs.State.{State}
use Rattle.druid_laws_tests.specs.Answers.{AnswersExactly}
use Rattle.druid_laws_tests.proofs.query.ask_nodes.Goals as goal

pub returns : goal.returns
returns g c =
    subst (λ (left : State). IfSome c.answer_over.result (λ written. AnswersExactly left c.args.right c.args.request.now written.items)) (c.in-Some-follow_two.ensures.left ∙ c.new-left.ensures)
    (subst (λ (right : State). IfSome c.answer_over.result (λ written. AnswersExactly c.follow_two.new.left right c.args.request.now written.items)) (c.in-Some-follow_two.ensures.right ∙ c.new-right.ensures)
    c.answer_over.ensures)
