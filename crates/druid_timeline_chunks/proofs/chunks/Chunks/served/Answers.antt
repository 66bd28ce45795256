use Rattle.std.proofs.Common.{◌∙◌, ◌↔◌, ℕ, List, subst}
use Rattle.std.specs.List.{Contains}
use Rattle.druid_timeline_members.specs.Members.{Member, ServesPlace}
use Rattle.druid_timeline_chunks.proofs.chunks.Chunks.served.Goals as goal

pub returns-in-Some-clause-nodes : goal.returns-in-Some-clause-nodes
returns-in-Some-clause-nodes c n =
    subst (λ (p : List Member × ℕ). Contains c.served.result.now n ↔ ServesPlace p.0 p.1 n)
    (λ i. ((c.members.ensures ∙ c.in-Some.ensures.found) i, c.partition.ensures.value i)) (c.served.ensures.nodes n)
