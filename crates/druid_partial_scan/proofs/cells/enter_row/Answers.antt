use Rattle.std.proofs.Common.{◌∙◌, ℕ, ℤ, List, Option, map, ap}
use Rattle.std.specs.Map.{set_value}
use Rattle.std.specs.Ordering.{nat_cmp}
use Rattle.std.specs.BTreeMap.{BTreeMap, insert_entry, is_at}
use Rattle.druid_partial_scan.specs.Cells.{Cell, number_from, entered_at}
use Rattle.druid_partial_scan.proofs.cells.enter_row.Goals as goal

pub returns-in-Some : goal.returns-in-Some
returns-in-Some c =
    let kinds = c.args.kinds.now in
    let row = c.args.row in
    let cell = c.args.cell in
    let numbers = map (number_from row) c.args.columns.now in
    let old = c.args.cells.now.entries in
    rw (c.get_mut.follows.holds c.join.new.self).0
    (record { sorted = c.len.ensures.ordered; is = ap (set_value (is_at (nat_cmp cell)) old) c.join.ensures ∙ ap (entered_at kinds row numbers cell old) c.in-Some.ensures.value })

pub returns : goal.returns
returns c =
    let kinds = c.args.kinds.now in
    let row = c.args.row in
    let cell = c.args.cell in
    let numbers = map (number_from row) c.args.columns.now in
    let old = c.args.cells.now.entries in
    record {
      sorted = c.len.ensures.ordered;
      is = c.in_ok-insert.ensures.entries
          ∙ ap (λ (m : BTreeMap ℕ Cell). insert_entry nat_cmp m.entries cell (record { row = row; numbers = c.in_ok-numbers.numbers.items })) c.get_mut.follows.holds-at-none
          ∙ ap (λ (xs : List (Option ℤ)). insert_entry nat_cmp old cell (record { row = row; numbers = xs })) c.in_ok-numbers.ensures
          ∙ ap (entered_at kinds row numbers cell old) c.in_default.ensures.value;
    }
