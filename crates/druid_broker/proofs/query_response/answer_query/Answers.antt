use Rattle.std.proofs.Common.{length, inr}
use Rattle.druid_broker.proofs.PlanLemmas.{are_linked}
use Rattle.druid_broker.proofs.query_response.answer_query.Goals as goal

pub gather_within-requires-after_bounds : goal.gather_within-requires-after_bounds
gather_within-requires-after_bounds g c κs within =
    are_linked c.args.inventory.now (length c.args.links.now) c.requires c.args.query.now c.in-Ok.pairs c.in-Ok.ensures.ok

pub returns-in_default-gather_within : goal.returns-in_default-gather_within
returns-in_default-gather_within g c = λ bytes read.
    let made = c.in_default-gather_within.ensures.err in
    inr (
      inr (inr (c.args.query.now, read, inr (record { pairs = c.in-Ok.pairs; plan = c.in-Ok.ensures.ok; exchanges = made.0; made = made.1; asked = made.2 }))),
      c.out_of_memory-in_default-gather_within.ensures,
    )

pub returns : goal.returns
returns g c = λ bytes read.
    let made = c.in-Ok-gather_within.ensures.ok in
    inr (
      inr (inr (c.args.query.now, read, inr (record { pairs = c.in-Ok.pairs; plan = c.in-Ok.ensures.ok; exchanges = made.0; made = made.1; asked = made.2.asked }))),
      c.out_of_memory-in-Err.ensures,
    )
