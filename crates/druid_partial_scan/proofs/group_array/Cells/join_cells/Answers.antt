use Rattle.std.proofs.Common.{◌≡◌, ◌∙◌, ◌<◌, ◌+◌, ◌*◌, ◌-◌, length, take, drop, get_or, ap, sym, refl, arith}
use Rattle.std.proofs.lemmas.List.{length-set}
use Rattle.druid_partial_scan.specs.Cells.{Cells}
use Rattle.druid_partial_scan.proofs.FlatLemmas.{groups_long, taken_is, none_is}
use Rattle.druid_partial_scan.proofs.JoinedLemmas.{none_joined, cell_joined, cell_passed, cells_joined, kept_left, left_more}
use Rattle.druid_partial_scan.proofs.group_array.Cells.join_cells.Goals.{in-Some, in_default}
use Rattle.druid_partial_scan.proofs.group_array.Cells.join_cells.Goals as goal

pub loop-cell-init : goal.loop-cell-init
loop-cell-init g c = record { width = refl; room = refl; groups = none_joined c.args.kinds.now c.args.self.now.groups; long = refl; left = refl }

pub join_group-requires-clause-cell : goal.join_group-requires-clause-cell
join_group-requires-clause-cell g c =
    let all = groups_long c.other.inside.width c.other.inside.kept.items c.other.inside.numbers.items in
    let same = ap (λ (v : Cells g.row.K.Denot). length v.groups) c.other.view_is in
    let end = c.len-cell-end.ensures in let n = c.other.inside.kept.ok.0 in
    let room = c.requires.room in let stays = c.loop-cell.invariant.room in let below = c.loop-cell-test.true in
    omega (arith, all, same, end, n, room, stays, below)

pub loop-cell-preserved : goal.loop-cell-preserved
loop-cell-preserved g c =
    let kinds = c.args.kinds.now in
    let mine = c.args.self.now.groups in
    let theirs = c.args.other.groups in
    let cell = c.loop-cell.cell in
    let width = c.other.inside.width in
    let kept = c.other.inside.kept.items in
    let numbers = c.other.inside.numbers.items in
    let e = ap (λ (v : Cells g.row.K.Denot). v.groups) c.other.view_is in
    let all = groups_long width kept numbers in
    let same = ap length e in
    let end = c.len-cell-end.ensures in let n = c.other.inside.kept.ok.0 in
    let room = c.requires.room in let below = c.loop-cell-test.true in
    let there : cell < length theirs = omega (arith, all, same, end, n, below) in
    let here : cell < length mine = omega (arith, there, room) in
    let long = length-set c.loop-cell.others.items cell c.take.new.self ∙ c.loop-cell.invariant.long in
    let left = left_more kept c.loop-cell.others.items cell c.take.new.self c.loop-cell.invariant.left in
    let found : c.index_mut.result.now ≡ get_or kept cell c.index_mut.result.now = c.index_mut.ensures.value ∙ kept_left kept c.loop-cell.others.items cell c.index_mut.result.now c.loop-cell.invariant.left in
    elim c.match-take.branch [
      | in-Some w ↦
          let from = cell * width in
          let own = take (from + width - from) (drop from w.deref.result.now) in
          let given = taken_is width c.other.inside.filled.items kept numbers own theirs cell c.index_mut.result.now c.index_mut.result.now w.in-Some.kept c.other.invariant e there found (sym c.take.ensures.value ∙ w.in-Some.is)
          (ap (λ l. take (from + width - from) (drop from l)) w.deref.ensures.value) in
          rw w.self-is (record {
            width = w.join_group.ensures.width ∙ c.loop-cell.invariant.width;
            room = ap length w.join_group.ensures.groups ∙ length-set c.loop-cell.self.groups cell _ ∙ c.loop-cell.invariant.room;
            groups = cell_joined kinds mine theirs c.loop-cell.self.groups w.join_group.new.self.groups cell (w.in-Some.kept, own) here there c.loop-cell.invariant.groups given w.join_group.ensures.groups;
            long = long;
            left = left;
          })
      | in_default w ↦
          let given = none_is width c.other.inside.filled.items kept numbers theirs cell c.index_mut.result.now c.index_mut.result.now c.other.invariant e there found (sym c.take.ensures.value ∙ w.in_default.is) in
          rw w.self-is (record {
            width = c.loop-cell.invariant.width;
            room = c.loop-cell.invariant.room;
            groups = cell_passed kinds mine theirs c.loop-cell.self.groups cell here there c.loop-cell.invariant.groups given;
            long = long;
            left = left;
          })
    ]

pub returns-clause-groups : goal.returns-clause-groups
returns-clause-groups g c =
    let all = groups_long c.other.inside.width c.other.inside.kept.items c.other.inside.numbers.items in
    let same = ap (λ (v : Cells g.row.K.Denot). length v.groups) c.other.view_is in
    let end = c.len-cell-end.ensures in let n = c.other.inside.kept.ok.0 in
    let done = c.loop-cell-test.false in let upto = c.loop-cell.auto.cell-end in
    cells_joined c.args.kinds.now c.args.self.now.groups c.args.other.groups c.loop-cell.self.groups c.loop-cell.cell (omega (arith, all, same, end, n, done, upto)) c.loop-cell.invariant.groups
