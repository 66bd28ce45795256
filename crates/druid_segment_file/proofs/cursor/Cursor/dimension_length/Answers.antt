use Rattle.std.proofs.Common.{◌≡◌, ◌∙◌, ap, sym, refl, arith}
use Rattle.std.proofs.lemmas.List.Elements.{All-replicate}
use Rattle.druid_segment_file.specs.FileRules.{texts_length}
use Rattle.druid_segment_file.specs.ColumnReader.{coded_at, decoded}
use Rattle.druid_segment_file.proofs.PartLemmas.{at_most_ok}
use Rattle.druid_segment_file.proofs.JudgeLemmas.{finds_as, dimension_counted}
use Rattle.druid_segment_file.proofs.cursor.Cursor.dimension_length.Goals as goal

pub coded_length-requires-clause-lens : goal.coded_length-requires-clause-lens
coded_length-requires-clause-lens c = omega (arith, (at_most_ok c.args.rows c.in_ok-texts.field-0 c.in_ok-count.count c.in_ok-count.ensures).1, c.requires)

pub coded_length-requires-clause-marks : goal.coded_length-requires-clause-marks
coded_length-requires-clause-marks c = omega (arith, (at_most_ok c.args.rows c.in_ok-texts.field-0 c.in_ok-count.count c.in_ok-count.ensures).1, c.requires)

pub coded_length-requires-clause-none : goal.coded_length-requires-clause-none
coded_length-requires-clause-none c = All-replicate (λ mark. mark ≡ 0) 100000 0 refl

pub returns-clause-found : goal.returns-clause-found
returns-clause-found c =
    let mid = c.u32.new.self in
    let read = dimension_counted c.args.self.now.short c.args.rows c.in_ok-texts.field-0 c.in_ok-count.count c.args.self.now.rest mid.rest c.in_ok-texts.ensures.0 c.in_ok-count.ensures in
    finds_as (λ len coded. len ≡ texts_length (decoded coded)) mid c.args.self.now c.coded_length.new.self c.coded_length.result _ _ c.in_ok-texts.ensures.1 (read ∙ ap (λ s. coded_at s c.in_ok-count.count c.args.rows mid.rest) (sym c.in_ok-texts.ensures.1)) c.coded_length.ensures.found
