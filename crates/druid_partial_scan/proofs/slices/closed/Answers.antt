use Rattle.std.proofs.Common.{◌≡◌, ◌∙◌, ◌<◌, ℤ, Option, Some, None, Vec, Global, length, get_or, ap, sym, arith}
use Rattle.std.specs.Prelude.{option_map}
use Rattle.std.proofs.lemmas.List.{length-set}
use Rattle.druid_partial.specs.Groups.{Group, Key}
use Rattle.druid_partial_scan.specs.Slices.{group_of}
use Rattle.druid_partial_scan.proofs.FlatLemmas.{taken_left}
use Rattle.druid_partial_scan.proofs.SliceLemmas.{open_pushed, open_skipped, words_here, words_left}
use Rattle.druid_partial_scan.proofs.slices.closed.Goals.{in-Some+in_ok-push, in_default}
use Rattle.druid_partial_scan.proofs.slices.closed.Goals as goal

pub group-requires : goal.group-requires
group-requires c =
    let old = c.loop-cell.cells.groups in
    let new = c.take.new.self.groups in
    let inside : c.loop-cell.cell < length old = (let l = c.loop-cell.invariant.long in omega arith) in
    let left = taken_left group_of old new c.loop-cell.cell inside c.in_ok-key.ensures.groups in
    let there : Some (c.in-Some.key, c.in-Some.numbers.items) ≡ get_or old c.loop-cell.cell None =
    ap (option_map (λ (g : Key × Vec (Option ℤ) Global). (g.0, g.1.items))) (sym c.in-Some.is) ∙ c.in_ok-key.ensures.found in
    let one : Group = record { key = c.in-Some.key; numbers = c.in-Some.numbers.items } in
    let is : option_map group_of (get_or old c.loop-cell.cell None) ≡ Some one = ap (option_map group_of) (sym there) in
    words_here _ _ _ one left is c.loop-cell.invariant.words

pub loop-cell-preserved : goal.loop-cell-preserved
loop-cell-preserved c =
    let old = c.loop-cell.cells.groups in
    let new = c.take.new.self.groups in
    let inside : c.loop-cell.cell < length old = (let l = c.loop-cell.invariant.long in omega arith) in
    let left = taken_left group_of old new c.loop-cell.cell inside c.in_ok-key.ensures.groups in
    elim c.match-branch-2.branch [
      | in-Some+in_ok-push w ↦
          let there : Some (w.in-Some.key, w.in-Some.numbers.items) ≡ get_or old c.loop-cell.cell None =
          ap (option_map (λ (g : Key × Vec (Option ℤ) Global). (g.0, g.1.items))) (sym w.in-Some.is) ∙ c.in_ok-key.ensures.found in
          let one : Group = record { key = w.in-Some.key; numbers = w.in-Some.numbers.items } in
          let is : option_map group_of (get_or old c.loop-cell.cell None) ≡ Some one = ap (option_map group_of) (sym there) in
          rw w.groups-is (record {
            long = ap length c.in_ok-key.ensures.groups ∙ length-set old c.loop-cell.cell None ∙ c.loop-cell.invariant.long;
            whole = open_pushed c.loop-cell.groups.items w.push.new.self.items _ w.group.result one _ _ _ left is w.group.ensures w.in_ok-push.ensures.items c.loop-cell.invariant.whole;
            words = words_left _ _ _ left c.loop-cell.invariant.words;
          })
      | in_default w ↦
          let there : None ≡ get_or old c.loop-cell.cell None =
          ap (option_map (λ (g : Key × Vec (Option ℤ) Global). (g.0, g.1.items))) (sym w.in_default.is) ∙ c.in_ok-key.ensures.found in
          rw w.groups-is (record {
            long = ap length c.in_ok-key.ensures.groups ∙ length-set old c.loop-cell.cell None ∙ c.loop-cell.invariant.long;
            whole = open_skipped c.loop-cell.groups.items _ _ _ _ left (ap (option_map group_of) (sym there)) c.loop-cell.invariant.whole;
            words = words_left _ _ _ left c.loop-cell.invariant.words;
          })
    ]
