use Rattle.std.proofs.Common.{◌≡◌, ◌++◌, All, length}
use Rattle.std.specs.List.{flat_map}
use Rattle.druid_query.specs.Query.{Query}
use Rattle.druid_partial_scan.specs.SliceGroups.{slice_groups}
use Rattle.druid_node.specs.Placed.{counted_at, IsWithin}
use Rattle.druid_node.proofs.answer.slices_of.Given as goal

abbrev pub invariant-loop-rest : goal.invariant-loop-rest
invariant-loop-rest l = record {
  reported : (query : Query) → flat_map (slice_groups query) l.slices.items ++ flat_map (counted_at query l.held) l.rest ≡ flat_map (counted_at query l.held) l.pieces;
  within : All (IsWithin l.held) l.rest;
}

abbrev pub decreases-loop-rest : goal.decreases-loop-rest
decreases-loop-rest l = length l.rest
