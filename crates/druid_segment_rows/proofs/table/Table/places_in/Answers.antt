use Rattle.std.proofs.Common.{◌≡◌, ◌<◌, length, arith, get_or, sym, subst, rules}
use Rattle.druid_time.specs.Extent.{Has}
use Rattle.druid_segment_rows.proofs.TableLemmas.{length_of_table, time_of_row}
use Rattle.druid_segment_rows.proofs.table.Table.places_in.Goals as goal

pub returns-then-self-clause-end : goal.returns-then-self-clause-end
returns-then-self-clause-end c =
    let a = c.self.inside in
    let long = length_of_table a.times.items a.dimensions.items a.metrics.items c.args.self.now c.self.view_is in
    omega (arith, long, c.places_among.ensures.end, c.deref.ensures.len)

pub returns-then-self-clause-all : goal.returns-then-self-clause-all
returns-then-self-clause-all c = λ place lt has.
    let a = c.self.inside in
    let long = length_of_table a.times.items a.dimensions.items a.metrics.items c.args.self.now c.self.view_is in
    let time = time_of_row a.times.items a.dimensions.items a.metrics.items c.args.self.now place c.self.view_is lt in
    let within : place < length a.times.items = omega (arith, long, lt) in
    let there = subst (λ ts. Has c.args.interval (get_or ts place 0)) (sym c.deref.ensures.value) (subst (Has c.args.interval) time has) in
    c.places_among.ensures.all place (omega (arith, within, c.deref.ensures.len)) there

pub returns-else-self-clause-end : goal.returns-else-self-clause-end
returns-else-self-clause-end c =
    let a = c.self.inside in
    let long = length_of_table a.times.items a.dimensions.items a.metrics.items c.args.self.now c.self.view_is in
    let len : c.len.result ≡ length a.times.items = search rules in
    omega (arith, long, len)

pub returns-else-self-clause-all : goal.returns-else-self-clause-all
returns-else-self-clause-all c = λ place lt has.
    let a = c.self.inside in
    let long = length_of_table a.times.items a.dimensions.items a.metrics.items c.args.self.now c.self.view_is in
    let len : c.len.result ≡ length a.times.items = search rules in
    (omega arith, omega (arith, long, len, lt))
