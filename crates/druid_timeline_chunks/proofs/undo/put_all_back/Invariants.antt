use Rattle.std.proofs.Common.{◌≡◌, ◌+◌, ◌≤◌, vec_len, vec_capacity}
use Rattle.std.specs.List.{All}
use Rattle.druid_segment_id.specs.Group.{Group}
use Rattle.druid_timeline_chunks.specs.Chunks.{members_at}
use Rattle.druid_timeline_chunks.specs.Edits.{IsSaved, chunks_before}
use Rattle.druid_timeline_chunks.specs.Places.{AreInOrder}
use Rattle.druid_timeline_chunks.proofs.undo.put_all_back.Given as goal

abbrev pub invariant-loop-entry : goal.invariant-loop-entry
invariant-loop-entry l = record {
  ordered : AreInOrder l.items.items;
  saved : All IsSaved l.saved.items;
  room : vec_len l.items + vec_len l.saved ≤ vec_capacity l.items;
  back : (g : Group) → members_at (chunks_before l.saved.items l.items.items) g ≡ members_at (chunks_before l.initial.saved.items l.initial.items.items) g;
}

abbrev pub decreases-loop-entry : goal.decreases-loop-entry
decreases-loop-entry l = vec_len l.saved
