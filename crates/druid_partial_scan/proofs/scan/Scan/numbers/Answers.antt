use Rattle.std.proofs.Common.{◌≡◌, ◌∙◌, ◌<◌, ℤ, List, Option, Vec, Global, length, map, ap, sym, subst}
use Rattle.std.specs.Prelude.{All}
use Rattle.std.proofs.lemmas.Result.{IfOk-weaker}
use Rattle.druid_segment_rows.specs.Segment.{row_at}
use Rattle.druid_partial.specs.Groups.{AreWords}
use Rattle.druid_partial_scan.specs.Rows.{row_group}
use Rattle.druid_partial_scan.specs.Cells.{HasNumber, number_from}
use Rattle.druid_partial_scan.specs.Scans.{Scan}
use Rattle.druid_partial_scan.specs.declared.cells.NumberColumn.{NumberColumn}
use Rattle.druid_partial_scan.proofs.SourceLemmas.{numbers_have, row_numbers_are, row_words}
use Rattle.druid_partial_scan.proofs.scan.Scan.numbers.Goals as goal

pub numbers_at-requires : goal.numbers_at-requires
numbers_at-requires c =
    let segment = c.self.inside.segment.now in
    let R : Scan → Type 0 = λ p. c.args.row < length p.segment.rows in
    let P : List NumberColumn → Type 0 = All (HasNumber c.args.row) in
    subst P (sym c.deref.ensures.value) (numbers_have segment _ c.self.inside.numbers.items c.args.row c.self.invariant.numbers_are (subst R (sym c.self.view_is) c.requires))

pub returns-clause-value : goal.returns-clause-value
returns-clause-value c =
    let query = c.self.inside.query.now in
    let segment = c.self.inside.segment.now in
    let R : Scan → Type 0 = λ p. c.args.row < length p.segment.rows in
    let e : map (number_from c.args.row) c.deref.result.now ≡ (row_group query segment.fields (row_at segment c.args.row)).numbers =
    ap (map (number_from c.args.row)) c.deref.ensures.value ∙ row_numbers_are query segment c.self.inside.numbers.items c.args.row c.self.invariant.numbers_are (subst R (sym c.self.view_is) c.requires) in
    let P : Vec (Option ℤ) Global → Type 0 = λ numbers. numbers.items ≡ map (number_from c.args.row) c.deref.result.now in
    let Q : Vec (Option ℤ) Global → Type 0 = λ numbers. numbers.items ≡ (row_group query segment.fields (row_at segment c.args.row)).numbers in
    rw (← c.self.view_is) (IfOk-weaker c.numbers_at.result P Q (λ x h. h ∙ e) c.numbers_at.ensures)

pub returns-clause-words : goal.returns-clause-words
returns-clause-words c =
    let query = c.self.inside.query.now in
    let segment = c.self.inside.segment.now in
    let R : Scan → Type 0 = λ p. c.args.row < length p.segment.rows in
    let h = subst R (sym c.self.view_is) c.requires in
    let e : map (number_from c.args.row) c.deref.result.now ≡ (row_group query segment.fields (row_at segment c.args.row)).numbers =
    ap (map (number_from c.args.row)) c.deref.ensures.value ∙ row_numbers_are query segment c.self.inside.numbers.items c.args.row c.self.invariant.numbers_are h in
    let P : Vec (Option ℤ) Global → Type 0 = λ numbers. numbers.items ≡ map (number_from c.args.row) c.deref.result.now in
    let Q : Vec (Option ℤ) Global → Type 0 = λ numbers. AreWords numbers.items in
    let W : List (Option ℤ) → Type 0 = AreWords in
    IfOk-weaker c.numbers_at.result P Q (λ x s. subst W (sym (s ∙ e)) (row_words query segment c.args.row c.self.invariant.words h)) c.numbers_at.ensures
