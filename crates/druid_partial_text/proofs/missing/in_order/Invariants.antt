use Rattle.std.proofs.Common.{◌↔◌, IsTrue, Contains, take}
use Rattle.std.specs.BTreeSet.{contains}
use Rattle.druid_query.specs.Asked.{Asked}
use Rattle.druid_query.specs.PieceOrder.{piece_cmp}
use Rattle.druid_partial_text.proofs.missing.in_order.Given as goal

abbrev pub invariant-loop-piece : goal.invariant-loop-piece
invariant-loop-piece l = (a : Asked) → IsTrue (contains piece_cmp l.pieces a) ↔ Contains (take l.piece-index l.asked) a
