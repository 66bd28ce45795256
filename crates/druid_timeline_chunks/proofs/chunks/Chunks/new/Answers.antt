use Rattle.std.proofs.Common.{sym, subst}
use Rattle.druid_timeline_chunks.specs.Places.{AreInOrder}
use Rattle.druid_timeline_chunks.proofs.PlaceLemmas.{AreInOrder-nil}
use Rattle.druid_timeline_chunks.proofs.chunks.Chunks.new.Goals as goal

pub invariant_of-result : goal.invariant_of-result
invariant_of-result c = subst AreInOrder (sym c.new.ensures.items) AreInOrder-nil
