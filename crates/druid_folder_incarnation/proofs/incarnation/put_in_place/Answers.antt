use Rattle.std.proofs.Common.{inl, refl}
use Rattle.druid_folder.specs.Folder.{Content, renamed, DoneOrNot}
use Rattle.druid_folder_incarnation.specs.Incarnation.{number_file, next_file}
use Rattle.druid_folder_incarnation.proofs.Moments.{leaves_one, leaves_synced}
use Rattle.druid_folder_incarnation.proofs.incarnation.put_in_place.Goals as goal

pub returns-in_err-rename-clause-any_moment : goal.returns-in_err-rename-clause-any_moment
returns-in_err-rename-clause-any_moment g c honest =
    let old = c.args.folder.now in
    let was = c.rename.ensures.honest honest in
    leaves_one g.F.Folder.moment g.F.Folder.left_since g.F.Folder.may_leave
    (λ f. (d : Content) × g.F.Folder.may_leave old d × DoneOrNot (renamed next_file number_file) d f) old c.rename.new.self
    (λ f left. g.met.F.Folder.only_now old f was left) (c.rename.ensures.time honest)
    (λ f now. (f, now, inl refl)) (λ f now. c.rename.ensures.stop honest f now)

pub returns-clause-any_moment : goal.returns-clause-any_moment
returns-clause-any_moment g c honest =
    let old = c.args.folder.now in
    let mid = c.rename.new.self in
    let between = c.sync.ensures.honest honest in
    let was = c.rename.ensures.honest between in
    leaves_synced g.F.Folder.moment g.F.Folder.left_since g.F.Folder.may_leave
    (λ f. (d : Content) × g.F.Folder.may_leave old d × DoneOrNot (renamed next_file number_file) d f) old mid c.sync.new.self
    (λ f left. g.met.F.Folder.only_now old f was left) (λ f left. g.met.F.Folder.only_now mid f between left)
    (c.rename.ensures.time between) (c.sync.ensures.time honest)
    (λ f now. (f, now, inl refl)) (λ f now. c.rename.ensures.stop between f now) (λ f now. c.sync.ensures.stop honest f now)
