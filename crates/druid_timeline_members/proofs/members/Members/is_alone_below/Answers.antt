use Rattle.druid_timeline_members.proofs.members.Members.is_alone_below.Goals as goal

pub returns-then-partition-bound : goal.returns-then-partition-bound
returns-then-partition-bound c =
    (λ alone. (c.if-partition-bound.true, c.is_alone.ensures.0 alone), λ both. c.is_alone.ensures.1 both.1)
