use Rattle.std.proofs.Common.{◌≡◌, ◌++◌, ◌∷◌, [], List, sym, subst, rules}
use Rattle.std.specs.List.{insert}
use Rattle.std.specs.List.Sorted.{IsSorted, IsPermutation}
use Rattle.druid_segment_id.specs.Group.{Group}
use Rattle.druid_timeline.specs.Overshadowed.{place_cmp}
use Rattle.druid_timeline.proofs.PlaceLemmas.{IsPermutation-one_more}
use Rattle.druid_timeline.proofs.overshadowed.sorted_by_place.Goals as goal

pub loop-key-preserved : goal.loop-key-preserved
loop-key-preserved c =
    let key : Group = c.in-Some.key in
    let old = c.loop-key.sorted.items in
    let place = c.place_among-place.result in
    let made : c.insert.new.self.items ≡ insert old place key = search rules in
    let sorted : IsSorted place_cmp old → IsSorted place_cmp (insert old place key) = subst (λ (xs : List Group). IsSorted place_cmp xs → IsSorted place_cmp (insert xs place key)) c.deref.ensures.value c.place_among-place.ensures.sorted in record {
      same = subst (λ (xs : List Group). IsPermutation (c.loop-key.yielded ++ key ∷ []) xs) (sym made) (IsPermutation-one_more c.loop-key.yielded old key place c.loop-key.invariant.same);
      sorted = subst (λ (xs : List Group). IsSorted place_cmp xs) (sym made) (sorted c.loop-key.invariant.sorted);
      counted = search rules;
    }
