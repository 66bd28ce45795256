use Rattle.std.proofs.Common.{◌∙◌}
use Rattle.druid_laws_tests.proofs.query.answer_over.Goals as goal

pub returns : goal.returns
returns g c =
    c.answer_two.ensures c.args.left c.args.right (c.deref_mut.ensures.value ∙ c.in-Ok.ensures.items) c.requires.left c.requires.right c.requires.followed
