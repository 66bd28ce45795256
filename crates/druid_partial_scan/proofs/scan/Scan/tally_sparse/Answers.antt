use Rattle.std.proofs.Common.{◌≡◌, ◌<◌, ◌≤◌, ◌++◌, ℕ, length, subst, arith}
use Rattle.druid_partial_scan.specs.Scans.{AreUpto, bucket_at, groups_by}
use Rattle.druid_partial_scan.proofs.PutLemmas.{upto_asked, upto_passed}
use Rattle.druid_partial_scan.proofs.scan.Scan.tally_sparse.Goals.{then-asks+in_ok-enter, else-asks}
use Rattle.druid_partial_scan.proofs.scan.Scan.tally_sparse.Goals as goal

pub loop-row-preserved : goal.loop-row-preserved
loop-row-preserved c =
    let scan = c.args.self.now in
    let row = c.loop-row.row in
    let bucket = bucket_at scan c.args.from in
    let now = groups_by scan c.loop-row.cells.entries in
    let inside : row < c.args.to = c.loop-row-test.true in
    let end = c.requires.end in
    let below : row < length scan.segment.rows = omega (arith, inside, end) in
    let after : c.args.from ≤ row = omega arith in
    elim c.if-asks.branch [
      | then-asks+in_ok-enter w ↦
          let same : bucket_at scan row ≡ bucket = c.requires.bucket row after inside in
          rw w.cells-is (record {
            are = w.in_ok-enter.ensures.joined.entries bucket same c.loop-row.invariant.are;
            upto = λ groups before upto. upto_asked scan c.args.interval c.args.from c.args.to row groups now _ after inside below
                (let t = w.if-asks.true in let e = c.asks.ensures in cc) w.enter.ensures.words (w.in_ok-enter.ensures.joined.groups bucket same c.loop-row.invariant.are) before (c.loop-row.invariant.upto groups before upto);
          })
      | else-asks w ↦
          rw w.cells-is (record {
            are = c.loop-row.invariant.are;
            upto = λ groups before upto. upto_passed scan c.args.interval row (groups ++ now) below (let t = w.if-asks.false in let e = c.asks.ensures in cc) (c.loop-row.invariant.upto groups before upto);
          })
    ]

pub returns-clause-groups : goal.returns-clause-groups
returns-clause-groups c = λ groups before upto.
    let last : c.loop-row.row ≡ c.args.to = omega arith in
    let P : ℕ → Type 0 = λ i. AreUpto c.args.self.now c.args.interval i (groups ++ groups_by c.args.self.now c.loop-row.cells.entries) in
    subst P last (c.loop-row.invariant.upto groups before upto)
