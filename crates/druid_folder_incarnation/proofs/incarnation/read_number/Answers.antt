use Rattle.std.proofs.Common.{ℕ, None, Some, refl, sym, ◌∙◌, ap}
use Rattle.std.proofs.lemmas.Result.{IfOk-weaker}
use Rattle.druid_folder.specs.Folder.{bytes_read}
use Rattle.druid_folder_incarnation.specs.Incarnation.{number_file, HasNumber}
use Rattle.druid_folder.specs.declared.fault.StoreFault.TheVariants.{BadNumber}
use Rattle.druid_folder_incarnation.proofs.NumberFile.{has_from_read, has_to_read, number_ok, number_bad}
use Rattle.druid_folder_incarnation.proofs.incarnation.read_number.Goals as goal

pub returns-in-None-clause-number : goal.returns-in-None-clause-number
returns-in-None-clause-number g c honest =
    has_from_read (g.F.Folder.content c.args.folder.now number_file) None 0 (sym (ap bytes_read c.in-None.is) ∙ c.in_ok-read.ensures.found honest) refl

pub returns-in-Some-clause-number : goal.returns-in-Some-clause-number
returns-in-Some-clause-number g c honest =
    let file = g.F.Folder.content c.args.folder.now number_file in
    let bytes = c.deref.result.now in
    let found = ap Some c.deref.ensures.value ∙ sym (ap bytes_read c.in-Some.is) ∙ c.in_ok-read.ensures.found honest in
    IfOk-weaker c.ok_or.result (HasNumber (Some bytes)) (HasNumber file) (λ n has. has_from_read file (Some bytes) n found has)
    (number_ok (HasNumber (Some bytes)) c.number_in.result BadNumber c.ok_or.result c.ok_or.ensures.value c.number_in.ensures.found)

pub returns-in-Some-clause-bad : goal.returns-in-Some-clause-bad
returns-in-Some-clause-bad g c honest bad n has =
    let file = g.F.Folder.content c.args.folder.now number_file in
    let bytes = c.deref.result.now in
    let found = ap Some c.deref.ensures.value ∙ sym (ap bytes_read c.in-Some.is) ∙ c.in_ok-read.ensures.found honest in
    number_bad ((n : ℕ) → HasNumber (Some bytes) n → ⊥) c.number_in.result BadNumber BadNumber c.ok_or.result c.ok_or.ensures.value bad c.number_in.ensures.none
    n (has_to_read file (Some bytes) n found has)
