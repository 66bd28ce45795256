use Rattle.std.proofs.Common.{◌≡◌, ◌<◌, ◌≤◌, ◌++◌, ℕ, length, subst, arith}
use Rattle.druid_partial_scan.specs.Entries.{groups_of}
use Rattle.druid_partial_scan.specs.Scans.{AreUpto}
use Rattle.druid_partial_scan.proofs.PutLemmas.{upto_asked, upto_passed}
use Rattle.druid_partial_scan.proofs.scan.Scan.tally_keys.Goals.{then-asks+in_ok-count_row, else-asks}
use Rattle.druid_partial_scan.proofs.scan.Scan.tally_keys.Goals as goal

pub loop-row-preserved : goal.loop-row-preserved
loop-row-preserved c =
    let scan = c.args.self.now in
    let row = c.loop-row.row in
    let now = groups_of c.loop-row.found.entries in
    let inside : row < c.args.to = c.loop-row-test.true in
    let end = c.requires.end in
    let below : row < length scan.segment.rows = omega (arith, inside, end) in
    let after : c.args.from ≤ row = omega arith in
    elim c.if-asks.branch [
      | then-asks+in_ok-count_row w ↦
          rw w.found-is (λ groups before upto. upto_asked scan c.args.interval c.args.from c.args.to row groups now _ after inside below (let t = w.if-asks.true in let e = c.asks.ensures in cc)
          w.in_ok-count_row.ensures.words w.in_ok-count_row.ensures.reported before (c.loop-row.invariant groups before upto))
      | else-asks w ↦
          rw w.found-is (λ groups before upto. upto_passed scan c.args.interval row (groups ++ now) below (let t = w.if-asks.false in let e = c.asks.ensures in cc) (c.loop-row.invariant groups before upto))
    ]

pub returns : goal.returns
returns c = λ groups before upto.
    let last : c.loop-row.row ≡ c.args.to = omega arith in
    let P : ℕ → Type 0 = λ i. AreUpto c.args.self.now c.args.interval i (groups ++ groups_of c.loop-row.found.entries) in
    subst P last (c.loop-row.invariant groups before upto)
