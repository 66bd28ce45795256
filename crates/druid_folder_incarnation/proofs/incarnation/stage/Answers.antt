use Rattle.std.proofs.Common.{Some, ◌∙◌}
use Rattle.druid_folder.specs.Folder.{Content, Torn}
use Rattle.druid_folder_incarnation.specs.Incarnation.{next_file}
use Rattle.druid_folder.proofs.Files.{torn_same}
use Rattle.druid_folder_incarnation.proofs.Moments.{leaves_one, leaves_synced}
use Rattle.druid_folder_incarnation.proofs.incarnation.stage.Goals as goal

pub returns-in_err-write-clause-any_moment : goal.returns-in_err-write-clause-any_moment
returns-in_err-write-clause-any_moment g c honest =
    let old = c.args.folder.now in
    let was = c.write.ensures.honest honest in
    leaves_one g.F.Folder.moment g.F.Folder.left_since g.F.Folder.may_leave
    (λ f. (d : Content) × g.F.Folder.may_leave old d × Torn next_file d f) old c.write.new.self
    (λ f left. g.met.F.Folder.only_now old f was left) (c.write.ensures.time honest)
    (λ f now. (f, now, torn_same f next_file)) (λ f now. c.write.ensures.stop honest f now)

pub returns-clause-torn : goal.returns-clause-torn
returns-clause-torn g c honest =
    (Some c.as_bytes.result.now, c.sync.ensures.unchanged honest ∙ c.in_ok-write.ensures.written (c.sync.ensures.honest honest))

pub returns-clause-any_moment : goal.returns-clause-any_moment
returns-clause-any_moment g c honest =
    let old = c.args.folder.now in
    let mid = c.write.new.self in
    let between = c.sync.ensures.honest honest in
    let was = c.write.ensures.honest between in
    leaves_synced g.F.Folder.moment g.F.Folder.left_since g.F.Folder.may_leave
    (λ f. (d : Content) × g.F.Folder.may_leave old d × Torn next_file d f) old mid c.sync.new.self
    (λ f left. g.met.F.Folder.only_now old f was left) (λ f left. g.met.F.Folder.only_now mid f between left)
    (c.write.ensures.time between) (c.sync.ensures.time honest)
    (λ f now. (f, now, torn_same f next_file)) (λ f now. c.write.ensures.stop between f now) (λ f now. c.sync.ensures.stop honest f now)
