use Rattle.std.proofs.Common.{◌≡◌, ◌-◌, ◌+◌, ◌++◌, ◌∙◌, List, ℕ, Ok, Err, length, subst, sym}
use Rattle.druid_segment_rows.specs.Rows.{Row, row_of}
use Rattle.druid_segment_rows.specs.Segment.{Segment, IsSegment, segment_of, with_row}
use Rattle.druid_segment_file.specs.Parts.{each_at, values_at}
use Rattle.druid_segment_file.specs.Builder.{HasRoom, with_read}
use Rattle.druid_segment_file.specs.Borrowed.{values_borrowed}
use Rattle.druid_segment_file.proofs.LoopLemmas.{goes_on, ends, is_done, is_read}
use Rattle.druid_segment_file.proofs.BuildLemmas.{room_for_row, borrowed_row}
use Rattle.druid_segment_file.proofs.rows.with_rows.Goals as goal

-- the rows with those that were read before them
abbrev made : Segment → List Row × List ℕ → Segment × List ℕ
made s x = (segment_of s.descriptor s.fields (s.rows ++ x.0), x.1)

pub unreachable-requires : goal.unreachable-requires
unreachable-requires c =
    let failed = subst (λ s. values_at s c.args.shape c.loop.cursor.rest ≡ Err c.in-Err.field-0) c.loop.invariant.short c.in-Err.ensures in
    let none = ends (segment_of c.loop.builder.descriptor c.loop.builder.fields) (values_at c.args.short c.args.shape) c.in-Err.field-0 c.loop.builder.rows c.args.count c.loop.counter c.loop.cursor.rest (with_read c.args.builder (each_at (values_at c.args.short c.args.shape) c.args.count c.args.bytes.now)) c.loop-test.true failed c.loop.invariant.reading in
    is_read (each_at (values_at c.args.short c.args.shape) c.args.count c.args.bytes.now) (made c.args.builder) c.in-Err.field-0 c.requires.judged none

pub want_of_memory-requires : goal.want_of_memory-requires
want_of_memory-requires c =
    let values = c.row.new.values in
    let after = c.row.new.self in
    let row : Row = row_of c.in-Ok.time (values_borrowed values.texts.items) values.numbers.items in
    let read = subst (λ s. values_at s c.args.shape c.loop.cursor.rest ≡ Ok (row, after.rest)) c.loop.invariant.short c.in-Ok.ensures.0 in
    let room = room_for_row c.args.short c.loop.builder c.args.shape c.args.count c.loop.counter c.loop.cursor.rest row after.rest c.loop.invariant.room c.loop-test.true c.loop.invariant.fits read in
    let same = borrowed_row c.in-Ok.time values.texts.items c.as_slice.result.now values.numbers.items c.as_slice-in-loop.result.now c.as_slice.ensures.value c.as_slice-in-loop.ensures.value in
    let valid : IsSegment (with_row c.loop.builder (row_of c.in-Ok.time (values_borrowed c.as_slice.result.now) c.as_slice-in-loop.result.now)) = subst (λ (r : Row). IsSegment (with_row c.loop.builder r)) (sym same) room.0.valid in
    c.in-Err-push_values.ensures.accepts valid

pub loop-preserved : goal.loop-preserved
loop-preserved c =
    let values = c.row.new.values in
    let after = c.row.new.self in
    let row : Row = row_of c.in-Ok.time (values_borrowed values.texts.items) values.numbers.items in
    let read = subst (λ s. values_at s c.args.shape c.loop.cursor.rest ≡ Ok (row, after.rest)) c.loop.invariant.short c.in-Ok.ensures.0 in
    let room = room_for_row c.args.short c.loop.builder c.args.shape c.args.count c.loop.counter c.loop.cursor.rest row after.rest c.loop.invariant.room c.loop-test.true c.loop.invariant.fits read in
    let on = goes_on (segment_of c.loop.builder.descriptor c.loop.builder.fields) (values_at c.args.short c.args.shape) c.loop.builder.rows c.args.count c.loop.counter c.loop.cursor.rest row after.rest (with_read c.args.builder (each_at (values_at c.args.short c.args.shape) c.args.count c.args.bytes.now)) c.loop-test.true read c.loop.invariant.reading in
    let same = borrowed_row c.in-Ok.time values.texts.items c.as_slice.result.now values.numbers.items c.as_slice-in-loop.result.now c.as_slice.ensures.value c.as_slice-in-loop.ensures.value in
    let pushed : c.push_values.new.self ≡ with_row c.loop.builder row = subst (λ (r : Row). c.push_values.new.self ≡ with_row c.loop.builder r) same c.in-Ok-push_values.ensures.ok in
    record {
      room = subst (λ (s : Segment). HasRoom s c.args.shape (c.args.count - (c.loop.counter + 1)) (length after.rest)) (sym pushed) room.0;
      fits = room.1;
      short = c.in-Ok.ensures.1 ∙ c.loop.invariant.short;
      reading = subst (λ (s : Segment). with_read s (each_at (values_at c.args.short c.args.shape) (c.args.count - (c.loop.counter + 1)) after.rest) ≡ with_read c.args.builder (each_at (values_at c.args.short c.args.shape) c.args.count c.args.bytes.now)) (sym pushed) on;
    }

pub returns : goal.returns
returns c =
    (c.loop.cursor.rest, is_done (segment_of c.loop.builder.descriptor c.loop.builder.fields) (values_at c.args.short c.args.shape) c.loop.builder.rows c.args.count c.loop.counter c.loop.cursor.rest (with_read c.args.builder (each_at (values_at c.args.short c.args.shape) c.args.count c.args.bytes.now)) c.loop-test.false c.loop.invariant.reading)
