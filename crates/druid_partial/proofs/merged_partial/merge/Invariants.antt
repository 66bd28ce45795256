use Rattle.std.proofs.Common.{◌≡◌, ◌≤◌, ◌+◌, ◌++◌, reverse, vec_len, vec_capacity}
use Rattle.druid_partial.specs.Joined.{merged}
use Rattle.druid_partial.proofs.merged_partial.merge.Given as goal

abbrev pub invariant-loop-group : goal.invariant-loop-group
invariant-loop-group l = record {
  room : vec_len l.groups + (vec_len l.mine + vec_len l.theirs) ≤ vec_capacity l.groups;
  whole : l.groups.items ++ merged l.kinds.items (reverse l.mine.items) (reverse l.theirs.items)
      ≡ merged l.kinds.items (reverse l.initial.mine.items) (reverse l.initial.theirs.items);
}

abbrev pub decreases-loop-group : goal.decreases-loop-group
decreases-loop-group l = vec_len l.mine + vec_len l.theirs
