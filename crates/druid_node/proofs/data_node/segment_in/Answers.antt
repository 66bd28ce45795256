use Rattle.std.proofs.Common.{◌≡◌, true, false, ap, sym, ◌∙◌, subst, bytes_eq}
use Rattle.druid_segment_descriptor.specs.Described.{Described}
use Rattle.druid_segment_id.specs.Identifier.{Identifier}
use Rattle.druid_node.specs.Files.{file_name, RefusesBytes}
use Rattle.druid_node.proofs.FileLemmas.{reported_bytes, under_name, under_other, is_read}
use Rattle.druid_node.proofs.data_node.segment_in.Goals as goal

pub returns-in-Err-clause-err : goal.returns-in-Err-clause-err
returns-in-Err-clause-err c =
    subst (RefusesBytes c.args.name.now c.args.bytes.now) (sym c.file_fault.ensures) (reported_bytes c.args.name.now c.args.bytes.now c.in-Err.fault c.in-Err.ensures.exact)

pub returns-in-Ok-true-clause-ok : goal.returns-in-Ok-true-clause-ok
returns-in-Ok-true-clause-ok c =
    let id = c.id.ensures.value ∙ ap (λ (d : Described). d.id) c.descriptor.ensures.value in
    let same : bytes_eq c.args.name.now (file_name c.in-Ok.segment.descriptor.id) ≡ true = ap (λ (k : Identifier). bytes_eq c.args.name.now (file_name k)) (sym id) ∙ sym c.in-Ok-true.ensures ∙ c.in-Ok-true.field-0-test in
    under_name c.args.name.now c.args.bytes.now c.in-Ok.segment c.in-Ok.ensures.exact same

pub returns-in-Ok-false-clause-err : goal.returns-in-Ok-false-clause-err
returns-in-Ok-false-clause-err c =
    let id = c.id.ensures.value ∙ ap (λ (d : Described). d.id) c.descriptor.ensures.value in
    let other : bytes_eq c.args.name.now (file_name c.in-Ok.segment.descriptor.id) ≡ false = ap (λ (k : Identifier). bytes_eq c.args.name.now (file_name k)) (sym id) ∙ sym c.in-Ok-false.ensures ∙ c.in-Ok-false.field-0-test in
    under_other c.args.name.now c.args.bytes.now c.in-Ok.segment c.in-Ok.ensures.exact other

pub returns-in-Err-is_file_of-clause-err : goal.returns-in-Err-is_file_of-clause-err
returns-in-Err-is_file_of-clause-err c = is_read c.args.bytes.now c.in-Ok.segment c.in-Ok.ensures.exact
