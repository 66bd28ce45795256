use Rattle.std.proofs.Common.{◌≡◌, ◌∙◌, ◌↔◌, Equal, Bool, sym, subst, rules}
use Rattle.std.specs.Bool.{IsTrue}
use Rattle.std.proofs.lemmas.Bool.{false≢true}
use Rattle.druid_segment_id.specs.Group.{Group, Outranks}
use Rattle.druid_timeline.proofs.PlaceLemmas.{place_cmp-below, place_cmp-level}
use Rattle.druid_timeline.proofs.overshadowed.place_order.Goals as goal

-- what a rank answers it answers of its chunk
answered : (reported : Bool) (mine theirs g h : Group) → mine ≡ g → theirs ≡ h → IsTrue reported ↔ Outranks mine theirs → IsTrue reported ↔ Outranks g h
answered reported mine theirs g h e f reported_of =
    subst (λ (k : Group). IsTrue reported ↔ Outranks k h) e (subst (λ (k : Group). IsTrue reported ↔ Outranks mine k) f reported_of)

pub returns-then-beats-2-clause-order : goal.returns-then-beats-2-clause-order
returns-then-beats-2-clause-order c =
    let same : c.interval_order-by_interval.result ≡ Equal = search rules in
    place_cmp-below c.args.one.now c.args.other.now (sym c.interval_order-by_interval.ensures ∙ same)
    ((answered c.beats-2.result c.rank-3.result c.rank-4.result c.args.other.now c.args.one.now c.rank-3.ensures.value c.rank-4.ensures.value c.beats-2.ensures.answer).0 c.if-beats-2.true)

pub returns-clause-order : goal.returns-clause-order
returns-clause-order c =
    place_cmp-level c.args.one.now c.args.other.now
    (λ above. false≢true (sym c.if-beats.false ∙ (answered c.beats.result c.rank.result c.rank-2.result c.args.one.now c.args.other.now c.rank.ensures.value c.rank-2.ensures.value c.beats.ensures.answer).1 above))
    (λ below. false≢true (sym c.if-beats-2.false ∙ (answered c.beats-2.result c.rank-3.result c.rank-4.result c.args.other.now c.args.one.now c.rank-3.ensures.value c.rank-4.ensures.value c.beats-2.ensures.answer).1 below))
