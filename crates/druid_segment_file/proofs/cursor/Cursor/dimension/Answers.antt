use Rattle.std.proofs.Common.{◌≡◌, ◌∙◌, ap, sym, subst, Ok, IsOk, List, [], ℕ, None}
use Rattle.druid_segment_file.specs.ColumnBytes.{Coded}
use Rattle.druid_segment_file.specs.Parts.{each_at}
use Rattle.druid_segment_file.specs.ColumnReader.{value_texts_at, code_at, dimension_at}
use Rattle.druid_segment_file.proofs.LoopLemmas.{not_read}
use Rattle.druid_segment_file.proofs.JudgeLemmas.{dimension_uncounted}
use Rattle.druid_segment_file.proofs.KeepLemmas.{ok_value, ok_from, dimension_parts, codes_are_ok, kept_dictionary, kept_bounded, kept_dimension}
use Rattle.druid_segment_file.proofs.cursor.Cursor.dimension.Goals as goal

pub unreachable-requires : goal.unreachable-requires
unreachable-requires c =
    not_read (dimension_at c.args.self.now.short c.args.rows c.args.self.now.rest) c.in-Err.field-0 c.requires (dimension_uncounted c.args.self.now.short c.in-Err.field-0 c.args.rows c.args.self.now.rest c.in-Err.ensures)

pub value_texts-requires : goal.value_texts-requires
value_texts-requires c =
    let short = c.args.self.now.short in
    let rows = c.args.rows in
    let n = c.in-Ok.count in
    let mid = c.u32.new.self in
    let x = ok_value (dimension_at short rows c.args.self.now.rest) c.requires in
    let d = dimension_parts short rows c.args.self.now.rest n mid.rest x.0 c.in-Ok.ensures.0 x.1 in
    subst (λ s. IsOk (value_texts_at s n None mid.rest)) (sym c.in-Ok.ensures.1) (ok_from (value_texts_at short n None mid.rest) (d.texts, d.between) d.texts_read)

pub codes-requires : goal.codes-requires
codes-requires c =
    let short = c.args.self.now.short in
    let rows = c.args.rows in
    let n = c.in-Ok.count in
    let mid = c.u32.new.self in
    let x = ok_value (dimension_at short rows c.args.self.now.rest) c.requires in
    let d = dimension_parts short rows c.args.self.now.rest n mid.rest x.0 c.in-Ok.ensures.0 x.1 in
    let texts = c.in_ok-values.values in
    let between = c.value_texts.new.self in
    let texts_read = subst (λ s. value_texts_at s n None mid.rest ≡ Ok (texts, between.rest)) c.in-Ok.ensures.1 c.in_ok-values.ensures.is in
    subst (λ s. IsOk (each_at (code_at s n) rows between.rest)) (sym (c.in_ok-values.ensures.short ∙ c.in-Ok.ensures.1)) (codes_are_ok short rows n mid.rest x.0 d texts between.rest [] [] texts_read)

pub new-requires-clause-dictionary : goal.new-requires-clause-dictionary
new-requires-clause-dictionary c =
    let short = c.args.self.now.short in
    let rows = c.args.rows in
    let n = c.in-Ok.count in
    let mid = c.u32.new.self in
    let x = ok_value (dimension_at short rows c.args.self.now.rest) c.requires in
    let d = dimension_parts short rows c.args.self.now.rest n mid.rest x.0 c.in-Ok.ensures.0 x.1 in
    let texts = c.in_ok-values.values in
    let between = c.value_texts.new.self in
    let texts_read = subst (λ s. value_texts_at s n None mid.rest ≡ Ok (texts, between.rest)) c.in-Ok.ensures.1 c.in_ok-values.ensures.is in
    let codes = c.in_ok-codes.codes.items in
    let after = c.codes.new.self in
    let codes_read = subst (λ s. each_at (code_at s n) rows between.rest ≡ Ok (codes, after.rest)) (c.in_ok-values.ensures.short ∙ c.in-Ok.ensures.1) c.in_ok-codes.ensures.is in
    kept_dictionary short rows n mid.rest x.0 d texts between.rest codes after.rest texts_read codes_read

pub new-requires-clause-bounded : goal.new-requires-clause-bounded
new-requires-clause-bounded c =
    let short = c.args.self.now.short in
    let rows = c.args.rows in
    let n = c.in-Ok.count in
    let mid = c.u32.new.self in
    let x = ok_value (dimension_at short rows c.args.self.now.rest) c.requires in
    let d = dimension_parts short rows c.args.self.now.rest n mid.rest x.0 c.in-Ok.ensures.0 x.1 in
    let texts = c.in_ok-values.values in
    let between = c.value_texts.new.self in
    let texts_read = subst (λ s. value_texts_at s n None mid.rest ≡ Ok (texts, between.rest)) c.in-Ok.ensures.1 c.in_ok-values.ensures.is in
    let codes = c.in_ok-codes.codes.items in
    let after = c.codes.new.self in
    let codes_read = subst (λ s. each_at (code_at s n) rows between.rest ≡ Ok (codes, after.rest)) (c.in_ok-values.ensures.short ∙ c.in-Ok.ensures.1) c.in_ok-codes.ensures.is in
    kept_bounded short rows n mid.rest x.0 d texts between.rest codes after.rest texts_read codes_read

pub returns : goal.returns
returns c =
    let short = c.args.self.now.short in
    let rows = c.args.rows in
    let n = c.in-Ok.count in
    let mid = c.u32.new.self in
    let x = ok_value (dimension_at short rows c.args.self.now.rest) c.requires in
    let d = dimension_parts short rows c.args.self.now.rest n mid.rest x.0 c.in-Ok.ensures.0 x.1 in
    let texts = c.in_ok-values.values in
    let between = c.value_texts.new.self in
    let texts_read = subst (λ s. value_texts_at s n None mid.rest ≡ Ok (texts, between.rest)) c.in-Ok.ensures.1 c.in_ok-values.ensures.is in
    let codes = c.in_ok-codes.codes.items in
    let after = c.codes.new.self in
    let codes_read = subst (λ s. each_at (code_at s n) rows between.rest ≡ Ok (codes, after.rest)) (c.in_ok-values.ensures.short ∙ c.in-Ok.ensures.1) c.in_ok-codes.ensures.is in
    let read = x.1 ∙ ap (λ (p : Coded × List ℕ). Ok p) (sym (kept_dimension short rows n mid.rest x.0 d texts between.rest codes after.rest texts_read codes_read)) in
    (record { texts = texts; codes = codes }, record { is = read; short = c.in_ok-codes.ensures.short ∙ c.in_ok-values.ensures.short ∙ c.in-Ok.ensures.1 }, c.new.ensures)
