use Rattle.std.proofs.Common.{inl, ◌∙◌, ap}
use Rattle.druid_folder.specs.Folder.{Content, renamed, Torn, DoneOrNot}
use Rattle.druid_folder_incarnation.specs.Incarnation.{number_file, next_file}
use Rattle.druid_folder_incarnation.specs.KeptFile.{IsKeptOr}
use Rattle.druid_folder_incarnation.proofs.Answered.{then_also}
use Rattle.druid_folder_incarnation.proofs.Moments.{leaves_both}
use Rattle.druid_folder_incarnation.proofs.NumberFile.{same_or_text, kept_or_text}
use Rattle.druid_folder_incarnation.proofs.incarnation.keep.Goals as goal

pub returns-clause-kept : goal.returns-clause-kept
returns-clause-kept g c honest =
    same_or_text c.args.text.now (g.F.Folder.content c.args.folder.now) (g.F.Folder.content c.stage.new.folder) (g.F.Folder.content c.put_in_place.new.folder)
    (c.in_ok-stage.ensures.staged (c.put_in_place.ensures.honest honest)).0 (c.put_in_place.ensures.failed honest)

pub returns-clause-stored : goal.returns-clause-stored
returns-clause-stored g c honest =
    then_also c.put_in_place.result
    (λ placed. ap (λ files. files number_file) placed.0 ∙ ap (λ files. files next_file) (c.in_ok-stage.ensures.staged (c.put_in_place.ensures.honest honest)).0)
    (c.put_in_place.ensures.placed honest)

pub returns-clause-stable : goal.returns-clause-stable
returns-clause-stable g c honest =
    then_also c.put_in_place.result
    (λ placed left now.
    ap (λ files. files number_file) (placed.1 left now) ∙ ap (λ files. files number_file) placed.0
    ∙ ap (λ files. files next_file) (c.in_ok-stage.ensures.staged (c.put_in_place.ensures.honest honest)).0)
    (c.put_in_place.ensures.placed honest)

pub returns-clause-any_moment : goal.returns-clause-any_moment
returns-clause-any_moment g c honest =
    let old = c.args.folder.now in
    let mid = c.stage.new.folder in
    let new = c.put_in_place.new.folder in
    let between = c.put_in_place.ensures.honest honest in
    let was = c.stage.ensures.honest between in
    let staged = c.in_ok-stage.ensures.staged between in
    leaves_both g.F.Folder.moment g.F.Folder.left_since g.F.Folder.may_leave
    (λ (f : Content). (d : Content) × g.F.Folder.may_leave old d × Torn next_file d f)
    (λ (f : Content). (d : Content) × g.F.Folder.may_leave mid d × DoneOrNot (renamed next_file number_file) d f)
    (IsKeptOr (g.F.Folder.may_leave old) c.args.text.now) old mid new
    (c.stage.ensures.any_moment between) (c.put_in_place.ensures.any_moment honest)
    (λ f p. inl (p.0, p.1, ap (λ files. files number_file) p.2.1))
    (λ f q. kept_or_text (g.F.Folder.may_leave old) c.args.text.now (g.F.Folder.content old) q.0 f (g.met.F.Folder.may_stay old was) (staged.1 q.0 q.1 ∙ staged.0) q.2)
