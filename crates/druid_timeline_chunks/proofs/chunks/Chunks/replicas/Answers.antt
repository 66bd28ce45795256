use Rattle.std.proofs.Common.{◌∙◌, ◌↔◌, ℕ, List, subst}
use Rattle.std.specs.List.{Contains}
use Rattle.druid_timeline_members.specs.Members.{Member, HoldsPlace}
use Rattle.druid_timeline_chunks.proofs.chunks.Chunks.replicas.Goals as goal

pub returns-in-Some-clause-nodes : goal.returns-in-Some-clause-nodes
returns-in-Some-clause-nodes c n =
    subst (λ (p : List Member × ℕ). Contains c.replicas.result.now n ↔ HoldsPlace p.0 p.1 n)
    (λ i. ((c.members.ensures ∙ c.in-Some.ensures.found) i, c.partition.ensures.value i)) (c.replicas.ensures.nodes n)
