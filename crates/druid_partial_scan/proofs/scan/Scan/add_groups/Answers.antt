use Rattle.std.proofs.Common.{◌≡◌, ◌∙◌, ◌<◌, ℕ, ℤ, Option, Some, None, Vec, Global, length, get_or, ap, sym, refl, arith}
use Rattle.std.specs.Prelude.{option_map}
use Rattle.std.proofs.lemmas.List.{length-set}
use Rattle.druid_partial_scan.specs.Cells.{Cell, cell_of}
use Rattle.druid_partial_scan.proofs.FlatLemmas.{taken_left}
use Rattle.druid_partial_scan.proofs.PutLemmas.{group_pushed, group_skipped, group_same, kept_rest, kept_here}
use Rattle.druid_partial_scan.proofs.scan.Scan.add_groups.Goals.{in-Some+in_ok-group+in_ok-push, in_default}
use Rattle.druid_partial_scan.proofs.scan.Scan.add_groups.Goals as goal

pub group-requires-clause-row : goal.group-requires-clause-row
group-requires-clause-row c =
    let scan = c.args.self.now in
    let old = c.loop-cell.cells.groups in
    let new = c.take.new.self.groups in
    let inside : c.loop-cell.cell < length old = (let l = c.loop-cell.invariant.long in omega arith) in
    let left = taken_left cell_of old new c.loop-cell.cell inside c.in_ok-row.ensures.groups in
    let there : Some (c.in-Some.row, c.in-Some.numbers.items) ≡ get_or old c.loop-cell.cell None =
    ap (option_map (λ (g : ℕ × Vec (Option ℤ) Global). (g.0, g.1.items))) (sym c.in-Some.is) ∙ c.in_ok-row.ensures.found in
    let one : Cell = record { row = c.in-Some.row; numbers = c.in-Some.numbers.items } in
    let is : option_map cell_of (get_or old c.loop-cell.cell None) ≡ Some one = ap (option_map cell_of) (sym there) in
    (kept_here scan one _ _ _ left is c.loop-cell.invariant.kept).0

pub group-requires-clause-words : goal.group-requires-clause-words
group-requires-clause-words c =
    let scan = c.args.self.now in
    let old = c.loop-cell.cells.groups in
    let new = c.take.new.self.groups in
    let inside : c.loop-cell.cell < length old = (let l = c.loop-cell.invariant.long in omega arith) in
    let left = taken_left cell_of old new c.loop-cell.cell inside c.in_ok-row.ensures.groups in
    let there : Some (c.in-Some.row, c.in-Some.numbers.items) ≡ get_or old c.loop-cell.cell None =
    ap (option_map (λ (g : ℕ × Vec (Option ℤ) Global). (g.0, g.1.items))) (sym c.in-Some.is) ∙ c.in_ok-row.ensures.found in
    let one : Cell = record { row = c.in-Some.row; numbers = c.in-Some.numbers.items } in
    let is : option_map cell_of (get_or old c.loop-cell.cell None) ≡ Some one = ap (option_map cell_of) (sym there) in
    (kept_here scan one _ _ _ left is c.loop-cell.invariant.kept).1.words

pub loop-cell-preserved : goal.loop-cell-preserved
loop-cell-preserved c =
    let scan = c.args.self.now in
    let old = c.loop-cell.cells.groups in
    let new = c.take.new.self.groups in
    let inside : c.loop-cell.cell < length old = (let l = c.loop-cell.invariant.long in omega arith) in
    let left = taken_left cell_of old new c.loop-cell.cell inside c.in_ok-row.ensures.groups in
    elim c.match-branch-2.branch [
      | in-Some+in_ok-group+in_ok-push w ↦
          let there : Some (w.in-Some.row, w.in-Some.numbers.items) ≡ get_or old c.loop-cell.cell None =
          ap (option_map (λ (g : ℕ × Vec (Option ℤ) Global). (g.0, g.1.items))) (sym w.in-Some.is) ∙ c.in_ok-row.ensures.found in
          let one : Cell = record { row = w.in-Some.row; numbers = w.in-Some.numbers.items } in
          let is : option_map cell_of (get_or old c.loop-cell.cell None) ≡ Some one = ap (option_map cell_of) (sym there) in
          rw w.groups-is (record {
            long = ap length c.in_ok-row.ensures.groups ∙ length-set old c.loop-cell.cell None ∙ c.loop-cell.invariant.long;
            whole = group_pushed scan c.loop-cell.groups.items w.push.new.self.items _ w.in_ok-group.field-0 one _ _ _ left is
                (group_same scan one _ _ w.in_ok-group.field-0 refl refl w.in_ok-group.ensures) w.in_ok-push.ensures.items c.loop-cell.invariant.whole;
            kept = kept_rest scan _ _ _ left c.loop-cell.invariant.kept;
          })
      | in_default w ↦
          let there : None ≡ get_or old c.loop-cell.cell None =
          ap (option_map (λ (g : ℕ × Vec (Option ℤ) Global). (g.0, g.1.items))) (sym w.in_default.is) ∙ c.in_ok-row.ensures.found in
          rw w.groups-is (record {
            long = ap length c.in_ok-row.ensures.groups ∙ length-set old c.loop-cell.cell None ∙ c.loop-cell.invariant.long;
            whole = group_skipped scan c.loop-cell.groups.items _ _ _ _ left (ap (option_map cell_of) (sym there)) c.loop-cell.invariant.whole;
            kept = kept_rest scan _ _ _ left c.loop-cell.invariant.kept;
          })
    ]
