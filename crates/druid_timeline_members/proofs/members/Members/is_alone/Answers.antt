use Rattle.std.proofs.Common.{◌↔◌, List, sym, subst}
use Rattle.std.specs.Bool.{IsTrue}
use Rattle.std.proofs.lemmas.Bool.{false≢true}
use Rattle.druid_timeline_members.specs.Members.{Member}
use Rattle.druid_timeline_members.specs.Slots.{IsAlone}
use Rattle.druid_timeline_members.proofs.SlotLemmas.{IsAlone-slot, IsAlone-none}
use Rattle.druid_timeline_members.proofs.members.Members.is_alone.Goals as goal

pub returns-in-Some : goal.returns-in-Some
returns-in-Some c =
    let alone = IsAlone-slot c.self.inside.slots c.args.partition c.args.node c.in-Some.slot.now c.len.ensures.ordered c.self.invariant.2 (sym c.in-Some.ensures.value) in
    subst (λ (ms : List Member). IsTrue c.is_only.result ↔ IsAlone ms c.args.partition c.args.node) c.self.view_is
    (λ only. alone.0 (c.is_only.ensures.value.0 only), λ h. c.is_only.ensures.value.1 (alone.1 h))

pub returns-in-None : goal.returns-in-None
returns-in-None c = (
  λ f. absurd (false≢true f),
  λ alone.
      absurd (IsAlone-none c.self.inside.slots c.args.partition c.args.node c.len.ensures.ordered c.self.invariant.2 (sym c.in-None.ensures.value)
      (subst (λ (ms : List Member). IsAlone ms c.args.partition c.args.node) (sym c.self.view_is) alone)),
)
