use Rattle.std.proofs.Common.{◌≡◌, length, arith, rules, Bor}
use Rattle.std.proofs.lemmas.List.Sorted.{IsPermutation-sym, IsNonDecreasingBy-from_sort_by_key}
use Rattle.druid_segment_id.specs.Group.{Group}
use Rattle.druid_timeline.proofs.SkylineLemmas.{borrowed, borrowed_moved, borrowed_order, length-borrowed}
use Rattle.druid_timeline.proofs.WholeLemmas.{few_complete}
use Rattle.druid_timeline.proofs.visible_pieces.sorted_complete.Goals as goal

pub returns-clause-all : goal.returns-clause-all
returns-clause-all c g =
    let before = c.in_ok-found.found.items in
    let after = c.sort_unstable_by_key.new.self.items in
    let moved = c.sort_unstable_by_key.ensures.permutation in
    let all = c.in_ok-found.ensures.all g in (
      λ there. all.0 (borrowed_moved after before (IsPermutation-sym before after moved) g there),
      λ h. borrowed_moved before after moved g (all.1 h),
    )

pub returns-clause-sorted : goal.returns-clause-sorted
returns-clause-sorted c =
    borrowed_order c.sort_unstable_by_key.new.self.items
    (IsNonDecreasingBy-from_sort_by_key (λ (b : Bor Group). b.now.interval.start) _ c.sort_unstable_by_key.ensures.sorted (λ a r q k. search rules))

pub returns-clause-few : goal.returns-clause-few
returns-clause-few c complete has =
    let before = c.in_ok-found.found.items in
    let few = few_complete c.args.chunks.now (borrowed before) complete c.complete_in.ensures.chunks c.in_ok-found.ensures.once c.in_ok-found.ensures.all has in
    let l = length-borrowed before in
    let same : length c.sort_unstable_by_key.new.self.items ≡ length before = search rules in
    omega (arith, few, l, same)
