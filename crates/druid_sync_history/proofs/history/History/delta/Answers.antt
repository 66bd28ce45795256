use Rattle.std.proofs.Common.{◌-◌, ◌≤◌, ap, sym, ◌∙◌, arith, subst, length, drop}
use Rattle.druid_segment_descriptor.specs.Mark.{Point}
use Rattle.druid_segment_descriptor.specs.Reply.{IsAsFar}
use Rattle.druid_segment_descriptor.specs.declared.reply.Body.TheVariants.{Delta}
use Rattle.druid_sync_history.specs.Kept.{Kept, IsKept}
use Rattle.druid_sync_history.proofs.HistoryLemmas.{IsWithin, no_fault, within-state, enough-kept, delta_of_view}
use Rattle.druid_sync_history.proofs.history.History.delta.Goals as goal

pub overflow_sub-beyond : goal.overflow_sub-beyond
overflow_sub-beyond c =
    let within : IsWithin c.self.inside.incarnation c.self.inside.count c.self.inside.changes.capacity c.args.mark = within-state _ c.args.self.now c.args.mark c.self.view_is c.requires in
    omega (arith, within.before)

pub overflow_sub-len : goal.overflow_sub-len
overflow_sub-len c =
    let within : IsWithin c.self.inside.incarnation c.self.inside.count c.self.inside.changes.capacity c.args.mark = within-state _ c.args.self.now c.args.mark c.self.view_is c.requires in
    let enough : c.self.inside.count - c.args.mark.count ≤ length c.self.inside.changes.items = enough-kept _ c.args.mark c.self.invariant within in
    omega (arith, c.len.ensures.len)

pub delta-requires-clause-from : goal.delta-requires-clause-from
delta-requires-clause-from c =
    let within : IsWithin c.self.inside.incarnation c.self.inside.count c.self.inside.changes.capacity c.args.mark = within-state _ c.args.self.now c.args.mark c.self.view_is c.requires in
    omega (arith, within.incarnation_is, c.self.invariant.incarnation)

pub unreachable-requires : goal.unreachable-requires
unreachable-requires c =
    let now = c.args.self.now in
    let kept = subst IsKept c.self.view_is c.self.invariant in
    let len = c.len.ensures.len ∙ ap (λ (k : Kept). length k.changes) c.self.view_is in
    let items = c.in_ok-changes.ensures ∙ ap (λ (k : Kept). drop (c.len.result - (k.count - c.count.result)) now.changes) c.self.view_is in
    let all = delta_of_view now c.args.mark c.count.result c.len.result c.in_ok-changes.changes.items kept c.requires c.count.ensures len items in
    let far : IsAsFar c.args.mark (record { incarnation = now.incarnation; count = now.count }) (length c.in_ok-changes.changes.items) =
    record { incarnation = sym all.within.incarnation_is; count = omega (arith, all.long, all.within.before) } in
    no_fault c.in_default.field-0
    (λ e. let many = c.in_default.ensures.too_many.0 e in absurd (omega (arith, all.long, all.within.near, kept.few)))
    (λ e. (c.in_default.ensures.length.0 e).1 (subst (λ (p : Point). IsAsFar c.args.mark p (length c.in_ok-changes.changes.items)) (sym c.mark.ensures.value) far))
    c.in_default.ensures.doubled
    c.in_default.ensures.page
    c.in_default.ensures.memory

pub returns : goal.returns
returns c history stands =
    let now = c.args.self.now in
    let kept = subst IsKept c.self.view_is c.self.invariant in
    let len = c.len.ensures.len ∙ ap (λ (k : Kept). length k.changes) c.self.view_is in
    let items = c.in_ok-changes.ensures ∙ ap (λ (k : Kept). drop (c.len.result - (k.count - c.count.result)) now.changes) c.self.view_is in
    let all = delta_of_view now c.args.mark c.count.result c.len.result c.in_ok-changes.changes.items kept c.requires c.count.ensures len items in
    c.in-Ok.ensures.ok ∙ (λ i. Delta c.args.mark (c.mark.ensures.beyond history stands i) (all.last history stands i))
