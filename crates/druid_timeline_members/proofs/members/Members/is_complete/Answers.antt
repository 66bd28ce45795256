use Rattle.std.proofs.Common.{◌<◌, ◌↔◌, ◌∙◌, ℕ, List, sym, ap, subst, arith}
use Rattle.std.specs.Bool.{IsTrue}
use Rattle.std.proofs.lemmas.Bool.{false≢true}
use Rattle.druid_timeline_members.specs.Members.{Member, HasMember, HasPartition, core_count}
use Rattle.druid_timeline_members.proofs.CountLemmas.{kept_below-all, kept_below-whole}
use Rattle.druid_timeline_members.proofs.SlotLemmas.{kept-HasPartition}
use Rattle.druid_timeline_members.proofs.members.Members.is_complete.Goals as goal

pub returns-then-self : goal.returns-then-self
returns-then-self c = (
  λ f. absurd (false≢true f),
  λ whole.
      let e = c.self.invariant.0 ∙ ap core_count c.self.view_is in
      let each : (p : ℕ) → p < c.self.inside.core → HasPartition c.args.self.now p = λ p l. whole.cores p (omega (arith, e, l)) in
      absurd (c.if-self.true (c.self.invariant.3 ∙ kept_below-whole c.self.inside.slots c.self.inside.core (λ p l.
      (kept-HasPartition c.self.inside.slots p c.len.ensures.ordered c.self.invariant.2).1 (subst (λ (ms : List Member). HasPartition ms p) (sym c.self.view_is) (each p l))))),
)

pub returns : goal.returns
returns c =
    let e = c.self.invariant.0 ∙ ap core_count c.self.view_is in
    let any = subst (λ (ms : List Member). IsTrue c.self.inside.has_member ↔ HasMember ms) c.self.view_is c.self.invariant.1 in
    let all = kept_below-all c.self.inside.slots c.self.inside.core (sym c.self.invariant.3 ∙ c.if-self.false) in (
      λ reported. record {
        some = any.0 reported;
        cores = λ p l.
            subst (λ (ms : List Member). HasPartition ms p) c.self.view_is ((kept-HasPartition c.self.inside.slots p c.len.ensures.ordered c.self.invariant.2).0 (all p (omega (arith, e, l))));
      },
      λ whole. any.1 whole.some,
    )
