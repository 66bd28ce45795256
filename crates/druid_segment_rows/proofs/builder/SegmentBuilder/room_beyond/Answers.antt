use Rattle.std.proofs.Common.{◌∙◌, length, refl, sym, subst, arith}
use Rattle.std.proofs.lemmas.Bool.{false≢true}
use Rattle.std.proofs.lemmas.List.{get_or_push, length_push}
use Rattle.druid_segment_rows.specs.Rows.{HasShortValues}
use Rattle.druid_segment_rows.proofs.builder.SegmentBuilder.room_beyond.Goals as goal

pub returns-then-not-has_short_values-clause-value : goal.returns-then-not-has_short_values-clause-value
returns-then-not-has_short_values-clause-value g c = λ fine.
    let rows = c.args.self.now.rows in
    let row = c.args.row.now in
    let short = subst HasShortValues (get_or_push rows row row (length rows) refl) (fine.values (length rows) row (omega (arith, length_push rows row))) in
    false≢true (sym c.if-not-has_short_values.true ∙ c.has_short_values.ensures.1 short)
