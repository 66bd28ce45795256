use Rattle.std.proofs.Common.{◌∙◌, true, false, sym, ap, inl, inr, arith}
use Rattle.druid_timeline_members.specs.Slots.{kept_below}
use Rattle.druid_timeline_members.proofs.CountLemmas.{beq_same, beq_other, kept_below-kept, kept_below-more, kept_below-most}
use Rattle.druid_timeline_members.proofs.members.within_after.Goals as goal

pub returns-then-is-was : goal.returns-then-is-was
returns-then-is-was c old kept had count =
    let same = beq_same c.contains_key-is.result c.args.was c.if-is-was.true in
    count ∙ ap (kept_below old) c.if-before-core.false ∙ sym (kept_below-kept old c.args.slots.now c.args.partition c.args.core kept (inr (sym c.contains_key-is.ensures ∙ same ∙ had)))

pub returns-then-partition-core : goal.returns-then-partition-core
returns-then-partition-core c old kept had count =
    count ∙ ap (kept_below old) c.if-before-core.false ∙ sym (kept_below-kept old c.args.slots.now c.args.partition c.args.core kept (inl c.if-partition-core.true))

pub returns-then-is : goal.returns-then-is
returns-then-is c old kept had count =
    let not = beq_other c.contains_key-is.result c.args.was true c.if-is-was.false c.if-is.true in
    let more = kept_below-more old c.args.slots.now c.args.partition c.args.core kept c.if-partition-core.false (sym had ∙ not) (sym c.contains_key-is.ensures ∙ c.if-is.true) in
    let most = kept_below-most c.args.slots.now c.args.core in
    let was = count ∙ ap (kept_below old) c.if-before-core.false in
    omega (arith, more, most, was, c.saturating_add.ensures, c.ranges.core.fits)

pub returns-else-is : goal.returns-else-is
returns-else-is c old kept had count =
    let not = beq_other c.contains_key-is.result c.args.was false c.if-is-was.false c.if-is.false in
    let more = kept_below-more c.args.slots.now old c.args.partition c.args.core (λ q other. sym (kept q other)) c.if-partition-core.false (sym c.contains_key-is.ensures ∙ c.if-is.false) (sym had ∙ not) in
    let was = count ∙ ap (kept_below old) c.if-before-core.false in
    omega (arith, more, was, c.saturating_sub.ensures)
