use Rattle.std.proofs.Common.{arith}
use Rattle.std.proofs.lemmas.List.{length-take}
use Rattle.druid_segment_file.proofs.TakenLemmas.{part_takes, full_front, whole_front}
use Rattle.druid_segment_file.proofs.reader.first_bytes.Goals as goal

pub returns-then-count-eq0-clause-front : goal.returns-then-count-eq0-clause-front
returns-then-count-eq0-clause-front g c =
    whole_front c.in-Ok.count c.loop-part.bytes.items _ _ _ _ c.loop-part.invariant c.in-Ok.ensures.taken (omega arith)
    (c.in-Ok.ensures.end (omega arith) (omega (arith, c.min-room.ensures, c.min-room.array_long, length-take c.min-room.result c.loop-part.part)))

pub returns-in_err-extend_from_slice-clause-taken : goal.returns-in_err-extend_from_slice-clause-taken
returns-in_err-extend_from_slice-clause-taken g c =
    part_takes c.in-Ok.count c.min-room.result c.loop-part.bytes.items _ _ _ _ c.loop-part.invariant c.in-Ok.ensures.taken (omega (arith, c.in-Ok.ensures.bound)) (omega (arith, c.in-Ok.ensures.room, c.min-room.ensures, c.min-room.array_long, length-take c.min-room.result c.loop-part.part)) (omega (arith, c.min-room.ensures))

pub returns-clause-front : goal.returns-clause-front
returns-clause-front g c = full_front c.loop-part.bytes.items _ _ c.loop-part.invariant (omega arith)
