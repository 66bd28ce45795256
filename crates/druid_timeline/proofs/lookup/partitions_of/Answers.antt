use Rattle.std.proofs.Common.{List, [], sym, subst, ◌∙◌}
use Rattle.druid_timeline_members.specs.Members.{Member}
use Rattle.druid_timeline_chunks.proofs.ChunkLemmas.{members_at-of, members_at-none}
use Rattle.druid_timeline.specs.Pieces.{ArePartitions}
use Rattle.druid_timeline_chunks.proofs.EditLemmas.{if_ok_weaker}
use Rattle.druid_timeline.proofs.LookupLemmas.{no_partitions}
use Rattle.druid_timeline.proofs.lookup.partitions_of.Goals as goal

pub returns-in_ok-partitions-in-Some : goal.returns-in_ok-partitions-in-Some
returns-in_ok-partitions-in-Some c =
    let same = c.members.ensures ∙ members_at-of c.args.chunks.now c.find.ensures.chunks c.args.key.now c.in-Some.chunk.now c.in-Some.ensures.found.0 c.in-Some.ensures.found.1 in
    if_ok_weaker c.new.result _ _ c.new.ensures (λ parts e.
    subst (λ (ms : List Member). ArePartitions ms parts) same
    (subst (ArePartitions c.members.result.now) (sym e) (record { rising = c.in_ok-partitions-in-Some.ensures.rising; all = c.in_ok-partitions-in-Some.ensures.all })))

pub returns-in-None : goal.returns-in-None
returns-in-None c =
    let none = members_at-none c.args.chunks.now c.args.key.now c.in-None.ensures.found in
    if_ok_weaker c.new-in-None-2.result _ _ c.new-in-None-2.ensures (λ parts e.
    subst (λ (ms : List Member). ArePartitions ms parts) (sym none) (subst (ArePartitions []) (sym (e ∙ c.new-in-None.ensures.items)) no_partitions))
