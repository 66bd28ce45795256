use Rattle.std.proofs.Common.{◌≡◌, ◌+◌, [], drop, slice_index_or}
use Rattle.std.specs.List.{list_any}
use Rattle.std.specs.Str.{bytes_eq}
use Rattle.druid_base.proofs.distinct.stands_later.Given as goal

abbrev pub invariant-loop-later : goal.invariant-loop-later
invariant-loop-later g l =
    list_any (bytes_eq (slice_index_or (g.T.TextList.texts l.texts) l.place [])) (drop l.later (g.T.TextList.texts l.texts))
    ≡ list_any (bytes_eq (slice_index_or (g.T.TextList.texts l.texts) l.place [])) (drop (l.place + 1) (g.T.TextList.texts l.texts))
