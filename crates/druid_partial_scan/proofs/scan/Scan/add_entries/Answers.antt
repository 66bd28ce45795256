use Rattle.std.proofs.Common.{◌<◌, ℕ, ℤ, List, Option, Some, length, sym, subst}
use Rattle.std.specs.Prelude.{All}
use Rattle.std.proofs.lemmas.List.Elements.{All-head, All-tail}
use Rattle.druid_partial.specs.Groups.{AreWords}
use Rattle.druid_partial_scan.specs.Cells.{Cell}
use Rattle.druid_partial_scan.specs.Scans.{IsKept}
use Rattle.druid_partial_scan.proofs.PutLemmas.{group_same}
use Rattle.druid_partial_scan.proofs.SparseLemmas.{entry_pushed}
use Rattle.druid_partial_scan.proofs.scan.Scan.add_entries.Goals as goal

pub group-requires-clause-row : goal.group-requires-clause-row
group-requires-clause-row c =
    let K : ℕ × Cell → Type 0 = λ e. IsKept c.args.self.now (Some e.1) in
    let P : List (ℕ × Cell) → Type 0 = All K in
    let R : ℕ → Type 0 = λ i. i < length c.args.self.now.segment.rows in
    subst R (sym c.into_parts-row.ensures.row) (All-head K _ _ (subst P c.in-Some.ensures.removal c.loop-cell.invariant.kept)).0

pub group-requires-clause-words : goal.group-requires-clause-words
group-requires-clause-words c =
    let K : ℕ × Cell → Type 0 = λ e. IsKept c.args.self.now (Some e.1) in
    let P : List (ℕ × Cell) → Type 0 = All K in
    let W : List (Option ℤ) → Type 0 = AreWords in
    subst W (sym c.into_parts-row.ensures.numbers) (All-head K _ _ (subst P c.in-Some.ensures.removal c.loop-cell.invariant.kept)).1.words

pub loop-cell-preserved : goal.loop-cell-preserved
loop-cell-preserved c =
    let scan = c.args.self.now in
    let K : ℕ × Cell → Type 0 = λ e. IsKept scan (Some e.1) in
    let P : List (ℕ × Cell) → Type 0 = All K in
    record {
      whole = entry_pushed scan c.loop-cell.groups.items c.push.new.self.items _ c.in_ok-group.field-0 (c.in-Some.field-0-0, c.in-Some.cell) c.loop-cell.cells.entries c.pop_first.new.self.entries c.in-Some.ensures.removal
          (group_same scan c.in-Some.cell _ _ c.in_ok-group.field-0 c.into_parts-row.ensures.row c.into_parts-row.ensures.numbers c.in_ok-group.ensures)
          c.in_ok-push.ensures.items c.loop-cell.invariant.whole;
      kept = All-tail K _ _ (subst P c.in-Some.ensures.removal c.loop-cell.invariant.kept);
    }
