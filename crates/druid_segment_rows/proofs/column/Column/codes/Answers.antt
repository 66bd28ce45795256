use Rattle.std.proofs.Common.{subst, sym}
use Rattle.druid_segment_rows.specs.Columns.{AreCodes}
use Rattle.druid_segment_rows.proofs.ColumnLemmas.{AreCodes-here}
use Rattle.druid_segment_rows.proofs.column.Column.codes.Goals as goal

pub returns : goal.returns
returns c = λ texts h.
    let a = c.self.inside in
    subst (AreCodes texts c.args.self.now) (sym c.deref.ensures.value) (AreCodes-here a.values a.codes.items c.args.self.now c.self.view_is c.self.invariant.0 c.self.invariant.1 texts h)
