use Rattle.std.proofs.Common.{Result, ℕ, subst, refl}
use Rattle.druid_inventory.specs.Judged.{IsFound}
use Rattle.druid_inventory.proofs.LastLemmas.{held_loaded, held_dropped, last_within, none_last}
use Rattle.druid_inventory.proofs.ReplayedLemmas.{holder-stands, holder-absent}
use Rattle.druid_inventory.proofs.strict_changes.held_after.Goals as goal

pub bounds-changes-place : goal.bounds-changes-place
bounds-changes-place c =
    let r = c.requires.last in
    last_within c.args.changes.now c.args.last.now r.0 c.args.id.now c.in-Ok.at r.1
    (subst (λ (f : Result ℕ ℕ). IsFound r.0 c.args.id.now f) c.in-Ok.is r.2)

pub returns-in-Load : goal.returns-in-Load
returns-in-Load c t e =
    let r = c.requires.last in
    held_loaded c.args.set.now t c.args.changes.now c.args.last.now r.0 c.args.id.now c.in-Ok.at _ c.index-changes-place.result c.in-Load.descriptor c.requires.set e r.1
    (subst (λ (f : Result ℕ ℕ). IsFound r.0 c.args.id.now f) c.in-Ok.is r.2) refl c.index-changes-place.is c.in-Load.is

pub returns-in-Drop : goal.returns-in-Drop
returns-in-Drop c t e =
    let r = c.requires.last in
    held_dropped c.args.set.now t c.args.changes.now c.args.last.now r.0 c.args.id.now c.in-Ok.at _ c.index-changes-place.result c.in-Drop.field-0 c.requires.set e r.1
    (subst (λ (f : Result ℕ ℕ). IsFound r.0 c.args.id.now f) c.in-Ok.is r.2) refl c.index-changes-place.is c.in-Drop.is

pub returns-in-Ok-find_segment : goal.returns-in-Ok-find_segment
returns-in-Ok-find_segment c t e =
    let r = c.requires.last in
    let none = none_last c.args.changes.now c.args.last.now r.0 c.args.id.now c.in_default.field-0 r.1
    (subst (λ (f : Result ℕ ℕ). IsFound r.0 c.args.id.now f) c.in_default.is r.2) in
    holder-stands c.args.set.now t c.args.changes.now c.args.id.now c.in-Ok-find_segment.place c.index-set-place.result c.requires.set e none
    c.in-Ok-find_segment.ensures.found c.index-set-place.is

pub returns-in-Err : goal.returns-in-Err
returns-in-Err c t e =
    let r = c.requires.last in
    let none = none_last c.args.changes.now c.args.last.now r.0 c.args.id.now c.in_default.field-0 r.1
    (subst (λ (f : Result ℕ ℕ). IsFound r.0 c.args.id.now f) c.in_default.is r.2) in
    holder-absent c.args.set.now t c.args.changes.now c.args.id.now c.in-Err.field-0 c.requires.set e none c.in-Err.ensures.absent
