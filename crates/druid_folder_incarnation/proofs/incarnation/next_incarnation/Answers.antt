use Rattle.std.proofs.Common.{inl, refl, ◌∙◌, ap}
use Rattle.druid_folder_incarnation.specs.Incarnation.{number_file, number_text, IsKeptOrNext}
use Rattle.druid_folder_incarnation.specs.KeptFile.{IsKeptOr}
use Rattle.druid_folder_incarnation.proofs.Moments.{leaves_both}
use Rattle.druid_folder_incarnation.proofs.NumberFile.{kept_or_next}
use Rattle.druid_folder_incarnation.proofs.incarnation.next_incarnation.Goals as goal

pub returns-in_err-keep-clause-any_moment : goal.returns-in_err-keep-clause-any_moment
returns-in_err-keep-clause-any_moment g c honest =
    let old = c.args.folder.now in
    let mid = c.read_number.new.folder in
    let read = c.in_ok-before.ensures in
    let between = c.keep.ensures.honest honest in
    leaves_both g.F.Folder.moment g.F.Folder.left_since g.F.Folder.may_leave
    (g.F.Folder.may_leave old) (IsKeptOr (g.F.Folder.may_leave mid) c.as_str.result.now)
    (IsKeptOrNext (g.F.Folder.may_leave old) (g.F.Folder.content old number_file)) old mid c.keep.new.folder
    (read.any_moment between) (c.keep.ensures.any_moment honest)
    (λ f now. inl (f, now, refl))
    (λ f kept. kept_or_next (g.F.Folder.may_leave old) (g.F.Folder.may_leave mid) (g.F.Folder.content old number_file) c.in_ok-before.before c.as_str.result.now f
    (read.stop between).1 (read.number between) (c.as_str.ensures.value ∙ c.in_ok-text.ensures ∙ ap number_text c.in_ok-number.ensures.next) kept)
