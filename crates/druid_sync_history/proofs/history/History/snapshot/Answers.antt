use Rattle.std.proofs.Common.{◌≡◌, ap, sym, arith, subst, length}
use Rattle.druid_segment_descriptor.specs.Reply.{HaveOwnIdentifiers}
use Rattle.druid_segment_descriptor.proofs.SortedLemmas.{AreSorted-own}
use Rattle.druid_sync_history.specs.Kept.{Kept}
use Rattle.druid_sync_history.proofs.HistoryLemmas.{no_fault, snapshot_of_view}
use Rattle.druid_sync_history.proofs.history.History.snapshot.Goals as goal

pub unreachable-requires : goal.unreachable-requires
unreachable-requires c =
    let items = c.in_ok-segments.ensures.value in
    let set = c.in_ok-segments.ensures.set in
    let long : length c.in_ok-segments.segments.items ≡ length c.self.inside.segments = ap length items in
    no_fault c.in_default.field-0
    (λ e. let many = c.in_default.ensures.too_many.0 e in absurd (omega (arith, set.few)))
    c.in_default.ensures.length
    (λ e. (c.in_default.ensures.doubled.0 e).1 (subst HaveOwnIdentifiers (sym items) (AreSorted-own c.self.inside.segments set.sorted)))
    c.in_default.ensures.page
    c.in_default.ensures.memory

pub returns : goal.returns
returns c =
    snapshot_of_view c.in-Ok.reply c.mark.result c.in_ok-segments.segments.items c.self.inside.segments c.args.self.now
    c.in_ok-segments.ensures.set c.in_ok-segments.ensures.value c.mark.ensures.value (ap (λ (k : Kept). k.set) c.self.view_is) c.in-Ok.ensures.ok
