use Rattle.std.proofs.Common.{◌≡◌, ◌∙◌, ◌<◌, ◌≤◌, ◌++◌, ℕ, List, Option, length, ap, sym, subst, arith}
use Rattle.std.proofs.lemmas.List.{length-replicate}
use Rattle.druid_partial_scan.specs.Cells.{Cell, Cells, cell_of, cells_in}
use Rattle.druid_partial_scan.specs.Scans.{Scan, AreUpto, AreCells, bucket_at, groups_in}
use Rattle.druid_partial_scan.proofs.FlatLemmas.{no_cells_map}
use Rattle.druid_partial_scan.proofs.SourceLemmas.{numbers_long}
use Rattle.druid_partial_scan.proofs.PutLemmas.{upto_asked, upto_passed, upto_none, none_in, no_cells}
use Rattle.druid_partial_scan.proofs.scan.Scan.tally_cells.Goals.{then-asks, else-asks}
use Rattle.druid_partial_scan.proofs.scan.Scan.tally_cells.Goals as goal

pub loop-row-init : goal.loop-row-init
loop-row-init c =
    let scan = c.args.self.now in
    let bucket = bucket_at scan c.args.from in
    let none = ap (λ (v : Cells ℕ). cells_in v.groups) c.in_ok-cells.ensures ∙ no_cells_map cell_of c.args.room in
    record {
      room = record {
        width = ap (λ (v : Cells ℕ). v.width) c.in_ok-cells.ensures ∙ c.len.ensures ∙ c.self.inside.numbers.ok.0
            ∙ numbers_long c.self.inside.query.now c.self.inside.segment.now c.self.inside.numbers.items c.self.invariant.numbers_are
            ∙ ap (λ (p : Scan). length p.query.aggregations) c.self.view_is;
        long = ap (λ (v : Cells ℕ). length v.groups) c.in_ok-cells.ensures ∙ length-replicate _ _ ∙ c.requires.room;
      };
      are = let P : List (Option Cell) → Type 0 = AreCells scan bucket in subst P (sym none) (no_cells scan bucket c.args.room);
      upto = λ groups before upto. upto_none scan c.args.interval c.args.from groups _ (ap (groups_in scan) none ∙ none_in scan c.args.room) upto;
    }

pub loop-row-preserved : goal.loop-row-preserved
loop-row-preserved c =
    let scan = c.args.self.now in
    let row = c.loop-row.row in
    let bucket = bucket_at scan c.args.from in
    let now = cells_in c.loop-row.cells.groups in
    let inside : row < c.args.to = c.loop-row-test.true in
    let end = c.requires.end in
    let below : row < length scan.segment.rows = omega (arith, inside, end) in
    let after : c.args.from ≤ row = omega arith in
    elim c.if-asks.branch [
      | then-asks w ↦
          let new = cells_in w.put.new.cells.groups in
          let same : bucket_at scan row ≡ bucket = c.requires.bucket row after inside in
          rw w.cells-is (record {
            room = w.put.ensures.room;
            are = w.put.ensures.joined.cells bucket same c.loop-row.invariant.are;
            upto = λ groups before upto. upto_asked scan c.args.interval c.args.from c.args.to row groups (groups_in scan now) (groups_in scan new) after inside below
                (let t = w.if-asks.true in let e = c.asks.ensures in cc) w.put.ensures.words (w.put.ensures.joined.groups bucket same c.loop-row.invariant.are) before (c.loop-row.invariant.upto groups before upto);
          })
      | else-asks w ↦
          rw w.cells-is (record {
            room = c.loop-row.invariant.room;
            are = c.loop-row.invariant.are;
            upto = λ groups before upto. upto_passed scan c.args.interval row (groups ++ groups_in scan now) below (let t = w.if-asks.false in let e = c.asks.ensures in cc) (c.loop-row.invariant.upto groups before upto);
          })
    ]

pub returns-clause-groups : goal.returns-clause-groups
returns-clause-groups c = λ groups before upto.
    let last : c.loop-row.row ≡ c.args.to = omega arith in
    let P : ℕ → Type 0 = λ i. AreUpto c.args.self.now c.args.interval i (groups ++ groups_in c.args.self.now (cells_in c.loop-row.cells.groups)) in
    subst P last (c.loop-row.invariant.upto groups before upto)
