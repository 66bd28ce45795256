use Rattle.std.proofs.Common.{◌≡◌, ◌++◌, ◌∷◌, ◌∙◌, [], List, Ok, IsOk, subst, sym, ap, map}
use Rattle.std.proofs.lemmas.List.{map_push}
use Rattle.druid_segment_file.specs.ColumnBytes.{Coded}
use Rattle.druid_segment_file.specs.Parts.{each_at}
use Rattle.druid_segment_file.specs.ColumnReader.{dimension_at, decoded}
use Rattle.druid_segment_file.proofs.LoopLemmas.{goes_on, is_done, reads_next}
use Rattle.druid_segment_file.proofs.cursor.Cursor.dimensions.Goals as goal

abbrev all : List Coded → List Coded
all columns = columns

pub dimension-requires : goal.dimension-requires
dimension-requires c =
    let short = c.args.self.now.short in
    let read = dimension_at short c.args.rows in
    let next = reads_next all read c.loop.invariant.front c.args.dimensions c.loop.counter c.loop.self.rest (each_at read c.args.dimensions c.args.self.now.rest) c.loop-test.true c.requires c.loop.invariant.reading in
    subst (λ s. IsOk (dimension_at s c.args.rows c.loop.self.rest)) (sym c.loop.invariant.short) next

pub loop-preserved : goal.loop-preserved
loop-preserved c =
    let short = c.args.self.now.short in
    let read = dimension_at short c.args.rows in
    let after = c.dimension.new.self in
    let made = c.in_ok-dimension.ensures in
    let one = made.0 in
    let here = subst (λ s. dimension_at s c.args.rows c.loop.self.rest ≡ Ok (one, after.rest)) c.loop.invariant.short made.1.is in
    record {
      front = c.loop.invariant.front ++ one ∷ [];
      made = c.in_ok-push.ensures.items ∙ ap (λ columns. columns ++ c.in_ok-dimension.field-0 ∷ []) c.loop.invariant.made ∙ ap (λ column. map decoded c.loop.invariant.front ++ column ∷ []) made.2 ∙ sym (map_push decoded c.loop.invariant.front one);
      short = made.1.short ∙ c.loop.invariant.short;
      reading = goes_on all read c.loop.invariant.front c.args.dimensions c.loop.counter c.loop.self.rest one after.rest (each_at read c.args.dimensions c.args.self.now.rest) c.loop-test.true here c.loop.invariant.reading;
    }

pub returns : goal.returns
returns c =
    let read = dimension_at c.args.self.now.short c.args.rows in (
      c.loop.invariant.front,
      record {
        is = is_done all read c.loop.invariant.front c.args.dimensions c.loop.counter c.loop.self.rest (each_at read c.args.dimensions c.args.self.now.rest) c.loop-test.false c.loop.invariant.reading;
        short = c.loop.invariant.short;
      },
      c.loop.invariant.made,
    )
