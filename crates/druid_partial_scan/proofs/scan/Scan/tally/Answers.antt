use Rattle.std.proofs.Common.{◌≤◌, length, refl, subst, arith}
use Rattle.druid_partial_scan.specs.Scans.{Scan}
use Rattle.druid_partial_scan.proofs.RunLemmas.{StandIn, upto_start, upto_end, come_before, apart_start}
use Rattle.druid_partial_scan.proofs.scan.Scan.tally.Goals as goal

pub add_keys-requires-clause-upto : goal.add_keys-requires-clause-upto
add_keys-requires-clause-upto c =
    let start = c.places_in-start.result.0 in
    let end = c.places_in-start.result.1 in
    let S : Scan → Type 0 = λ p. StandIn p c.args.interval start end in
    let L : Scan → Type 0 = λ p. end ≤ length p.segment.rows in
    let last = subst L c.self.view_is c.places_in-start.ensures.end in
    let order = c.places_in-start.ensures.order in
    upto_start c.args.self.now c.args.interval start end c.new-groups.result.items (subst S c.self.view_is c.places_in-start.ensures.all) (omega (arith, last, order)) c.new-groups.ensures.items

pub returns-then-not-buckets_rise : goal.returns-then-not-buckets_rise
returns-then-not-buckets_rise c =
    let start = c.places_in-start.result.0 in
    let end = c.places_in-start.result.1 in
    let S : Scan → Type 0 = λ p. StandIn p c.args.interval start end in
    let L : Scan → Type 0 = λ p. end ≤ length p.segment.rows in
    upto_end c.args.self.now c.args.interval start end end c.add_keys.new.groups.items (subst S c.self.view_is c.places_in-start.ensures.all) refl
    (subst L c.self.view_is c.places_in-start.ensures.end) c.in_ok-add_keys.ensures

pub loop-at-init : goal.loop-at-init
loop-at-init c =
    let start = c.places_in-start.result.0 in
    let end = c.places_in-start.result.1 in
    let S : Scan → Type 0 = λ p. StandIn p c.args.interval start end in
    let L : Scan → Type 0 = λ p. end ≤ length p.segment.rows in
    let last = subst L c.self.view_is c.places_in-start.ensures.end in
    let order = c.places_in-start.ensures.order in
    record {
      inside = order;
      upto = upto_start c.args.self.now c.args.interval start end c.new-groups.result.items (subst S c.self.view_is c.places_in-start.ensures.all) (omega (arith, last, order)) c.new-groups.ensures.items;
      apart = apart_start c.args.self.now start end;
    }

pub add_run-requires-clause-before : goal.add_run-requires-clause-before
add_run-requires-clause-before c =
    let start = c.places_in-start.result.0 in
    let end = c.places_in-start.result.1 in
    let S : Scan → Type 0 = λ p. StandIn p c.args.interval start end in
    let L : Scan → Type 0 = λ p. end ≤ length p.segment.rows in
    come_before c.args.self.now c.args.interval start c.loop-at.at end c.run_end-to.result c.loop-at.groups.items (subst S c.self.view_is c.places_in-start.ensures.all)
    c.loop-at.invariant.inside c.run_end-to.ensures.inside (subst L c.self.view_is c.places_in-start.ensures.end) c.loop-at.invariant.apart c.loop-at.invariant.upto

pub returns : goal.returns
returns c =
    let start = c.places_in-start.result.0 in
    let end = c.places_in-start.result.1 in
    let S : Scan → Type 0 = λ p. StandIn p c.args.interval start end in
    let L : Scan → Type 0 = λ p. end ≤ length p.segment.rows in
    let inside = c.loop-at.invariant.inside in
    let done = c.loop-at-test.false in
    upto_end c.args.self.now c.args.interval start end c.loop-at.at c.loop-at.groups.items (subst S c.self.view_is c.places_in-start.ensures.all) (omega (arith, inside, done))
    (subst L c.self.view_is c.places_in-start.ensures.end) c.loop-at.invariant.upto
