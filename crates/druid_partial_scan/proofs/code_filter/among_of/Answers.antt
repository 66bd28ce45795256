use Rattle.std.proofs.Common.{◌∙◌, sym}
use Rattle.druid_segment_rows.specs.Rows.{nullable_texts_of}
use Rattle.druid_partial_scan.proofs.CodeLemmas.{null_among, marks_say}
use Rattle.druid_partial_scan.proofs.code_filter.among_of.Goals as goal

pub returns-in_default : goal.returns-in_default
returns-in_default c = λ row h.
    null_among c.args.segment.now row c.args.name.now c.has_null.result (nullable_texts_of c.args.wanted.now) (sym c.dimension_of.ensures.place ∙ c.in_default.is) c.has_null.ensures

pub returns : goal.returns
returns c = λ row h.
    marks_say c.args.segment.now row c.in-Some.place c.args.name.now c.values.result.now c.codes.result (nullable_texts_of c.args.wanted.now) c.in_ok-marks.marks h
    (sym c.dimension_of.ensures.place ∙ c.in-Some.is) (c.codes.ensures c.values.result.now c.values.ensures) (c.in_ok-marks.ensures c.values.ensures.rising)
