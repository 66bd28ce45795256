use Rattle.std.proofs.Common.{◌≡◌, ◌∙◌, List, sym, subst, arith, eq-eqb}
use borrow.Author.Tests.{eqb-true}
use Rattle.std.proofs.lemmas.Bool.{false≢true}
use Rattle.druid_timeline_members.specs.Members.{Member, AllAt, RemovesPlace, core_count}
use Rattle.druid_timeline_members.specs.Slots.{IsAlone}
use Rattle.druid_timeline_members.proofs.CompleteLemmas.{complete_without}
use Rattle.druid_timeline_members.proofs.members.Members.is_complete_without.Goals as goal

pub returns-then-is_only : goal.returns-then-is_only
returns-then-is_only c left removes = (
  λ f. absurd (false≢true f),
  λ whole.
      let was = (removes whole.some.0).0 whole.some.1 in absurd (was.1 (c.is_only.ensures.0 c.if-is_only.true whole.some.0 was.0)),
)

pub returns-then-is_alone_below : goal.returns-then-is_alone_below
returns-then-is_alone_below c left removes = (
  λ f. absurd (false≢true f),
  λ whole.
      let alone = c.is_alone_below.ensures.0 c.if-is_alone_below.true in
      let core : c.core_without-core.result ≡ core_count left = c.core_without-core.ensures left (subst (λ (ms : List Member). RemovesPlace ms left c.args.partition c.args.node) (sym c.self.view_is) removes) in
      let below = alone.0 in
      let x = whole.cores c.args.partition (omega (arith, below, core)) in
      let was = (removes x.0).0 x.1 in absurd (was.1 (x.2, alone.1.1 x.0 was.0 x.2)),
)

pub returns : goal.returns
returns c left removes =
    let inside = subst (λ (ms : List Member). RemovesPlace ms left c.args.partition c.args.node) (sym c.self.view_is) removes in
    let whole = complete_without c.self.inside.slots c.len.ensures.ordered c.self.invariant.2 left c.args.partition c.args.node c.core_without-core.result (c.core_without-core.ensures left inside) inside
    (λ all. false≢true (sym c.if-is_only.false ∙ c.is_only.ensures.1 (subst (λ (ms : List Member). AllAt ms c.args.partition c.args.node) c.self.view_is all)))
    (λ alone. false≢true (sym c.if-is_alone_below.false ∙ c.is_alone_below.ensures.1 (alone.0, subst (λ (ms : List Member). IsAlone ms c.args.partition c.args.node) c.self.view_is alone.1))) in
    (λ reported. whole.0 (sym c.count_within.ensures ∙ eqb-true _ _ reported), λ complete. eq-eqb _ _ (c.count_within.ensures ∙ whole.1 complete))
