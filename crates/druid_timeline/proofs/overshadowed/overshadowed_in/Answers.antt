use Rattle.std.specs.Bool.{IsTrue}
use Rattle.std.specs.HashSet as set
use Rattle.std.proofs.lemmas.List.Sorted.{Contains-permutation, IsPermutation-sym, IsPermutation-trans}
use Rattle.std.proofs.lemmas.Map.Keys.{IsDistinct-IsPermutation}
use Rattle.druid_segment_id.specs.Group.{same_group}
use Rattle.druid_timeline_chunks.specs.Chunks.{IsCompleteOf}
use Rattle.druid_timeline_chunks.proofs.ChunkLemmas.{same_group-equiv}
use Rattle.druid_timeline.proofs.PlaceLemmas.{strictly_sorted}
use Rattle.druid_timeline.proofs.UnseenLemmas.{IsShownBy, unseen_of}
use Rattle.druid_timeline.proofs.overshadowed.overshadowed_in.Goals as goal

pub returns-clause-all : goal.returns-clause-all
returns-clause-all c g =
    let whole = IsPermutation-trans c.in_ok-unseen.unseen.items c.sort_unstable_by.new.self.items c.in_ok-sorted.sorted.items c.sort_unstable_by.ensures.permutation c.in_ok-sorted.ensures.permutation in
    let all = c.in_ok-unseen.ensures.all g in
    let same = unseen_of (IsTrue (set.contains same_group c.in_ok-seen.seen g)) (IsShownBy c.args.runs.now g) (IsCompleteOf c.args.chunks.now g) (c.in_ok-seen.ensures g) in (
      λ there. same.0 (all.0 (Contains-permutation c.in_ok-sorted.sorted.items c.in_ok-unseen.unseen.items g (IsPermutation-sym _ _ whole) there)),
      λ h. Contains-permutation c.in_ok-unseen.unseen.items c.in_ok-sorted.sorted.items g whole (all.1 (same.1 h)),
    )

pub returns-clause-sorted : goal.returns-clause-sorted
returns-clause-sorted c =
    let whole = IsPermutation-trans c.in_ok-unseen.unseen.items c.sort_unstable_by.new.self.items c.in_ok-sorted.sorted.items c.sort_unstable_by.ensures.permutation c.in_ok-sorted.ensures.permutation in
    strictly_sorted c.in_ok-sorted.sorted.items
    (IsDistinct-IsPermutation same_group same_group-equiv.symm c.in_ok-unseen.unseen.items c.in_ok-sorted.sorted.items whole c.in_ok-unseen.ensures.once)
    c.in_ok-sorted.ensures.sorted
