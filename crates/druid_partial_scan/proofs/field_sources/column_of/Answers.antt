use Rattle.std.proofs.Common.{ℕ, Option, sym, subst, arith}
use Rattle.druid_partial_scan.specs.Cells.{IsColumn}
use Rattle.druid_partial_scan.proofs.RankLemmas.{coded_column}
use Rattle.druid_partial_scan.proofs.field_sources.column_of.Goals as goal

pub returns-in-Some : goal.returns-in-Some
returns-in-Some c =
    let texts = c.values.result.now in
    let P : Option ℕ → Type 0 = λ place. IsColumn c.args.segment.now place c.new.result in
    subst P (sym c.in-Some.is) (coded_column c.args.segment.now c.in-Some.place _ texts c.codes.result.now c.new.result c.values.ensures (c.codes.ensures texts c.values.ensures)
    (omega arith) c.new.ensures)
