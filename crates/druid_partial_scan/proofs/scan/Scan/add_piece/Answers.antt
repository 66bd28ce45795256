use Rattle.std.proofs.Common.{◌≡◌, ◌∙◌, ◌<◌, ◌≤◌, List, length, ap, sym, subst, arith}
use Rattle.druid_partial.specs.Groups.{Group}
use Rattle.druid_partial_scan.specs.Scans.{Scan, counted_upto}
use Rattle.druid_partial_scan.specs.Slices.{Adds, groups_held}
use Rattle.druid_partial_scan.proofs.RunLemmas.{StandIn, nothing_before, whole_upto}
use Rattle.druid_partial_scan.proofs.SliceLemmas.{adds_none, upto_adds, upto_skips}
use Rattle.druid_partial_scan.proofs.scan.Scan.add_piece.Goals.{then-asks+in_ok-put_open, else-asks}
use Rattle.druid_partial_scan.proofs.scan.Scan.add_piece.Goals as goal

pub loop-row-init : goal.loop-row-init
loop-row-init c =
    let scan = c.args.self.now in
    let start = c.places_in-start.result.0 in
    let end = c.places_in-start.result.1 in
    let S : Scan → Type 0 = λ p. StandIn p c.args.interval start end in
    let L : Scan → Type 0 = λ p. end ≤ length p.segment.rows in
    let last = subst L c.self.view_is c.places_in-start.ensures.end in
    let order = c.places_in-start.ensures.order in
    record {
      room = c.requires.room;
      adds = λ texts over. adds_none scan.query texts (counted_upto scan.query scan.segment c.args.interval start) (groups_held c.args.cells.now.groups)
          (nothing_before scan c.args.interval start end (subst S c.self.view_is c.places_in-start.ensures.all) (omega (arith, last, order)));
    }

pub loop-row-preserved : goal.loop-row-preserved
loop-row-preserved c =
    let scan = c.args.self.now in
    let row = c.loop-row.row in
    let end = c.places_in-start.result.1 in
    let L : Scan → Type 0 = λ p. end ≤ length p.segment.rows in
    let last = subst L c.self.view_is c.places_in-start.ensures.end in
    let inside : row < end = c.loop-row-test.true in
    let below : row < length scan.segment.rows = omega (arith, inside, last) in
    let old = groups_held c.args.cells.now.groups in
    let now = groups_held c.loop-row.cells.groups in
    elim c.if-asks.branch [
      | then-asks+in_ok-put_open w ↦
          rw w.cells-is (record {
            room = w.in_ok-put_open.ensures.room;
            adds = λ texts over. upto_adds texts scan c.args.interval row old now (groups_held w.put_open.new.cells.groups) below
                (let t = w.if-asks.true in let e = c.asks.ensures in cc) (c.loop-row.invariant.adds texts over) (w.in_ok-put_open.ensures.adds texts over);
          })
      | else-asks w ↦
          rw w.cells-is (record {
            room = c.loop-row.invariant.room;
            adds = λ texts over. upto_skips texts scan c.args.interval row old now below
                (let t = w.if-asks.false in let e = c.asks.ensures in cc) (c.loop-row.invariant.adds texts over);
          })
    ]

pub returns-clause-adds : goal.returns-clause-adds
returns-clause-adds c = λ texts over.
    let scan = c.args.self.now in
    let start = c.places_in-start.result.0 in
    let end = c.places_in-start.result.1 in
    let S : Scan → Type 0 = λ p. StandIn p c.args.interval start end in
    let L : Scan → Type 0 = λ p. end ≤ length p.segment.rows in
    let order = c.places_in-start.ensures.order in
    let done = c.loop-row-test.false in
    let within = c.loop-row.auto.row-end in
    let last : c.loop-row.row ≡ end = omega (arith, order, done, within) in
    let P : List Group → Type 0 = λ l. Adds scan.query texts l (groups_held c.args.cells.now.groups) (groups_held c.loop-row.cells.groups) in
    subst P (ap (counted_upto scan.query scan.segment c.args.interval) last
    ∙ sym (whole_upto scan c.args.interval start end (subst S c.self.view_is c.places_in-start.ensures.all) (subst L c.self.view_is c.places_in-start.ensures.end)))
    (c.loop-row.invariant.adds texts over)
