use Rattle.std.proofs.Common.{◌∙◌, ◌↔◌, IsTrue, ap, sym, subst}
use Rattle.druid_timeline.specs.Holding.{Serving, HoldsNothing}
use Rattle.druid_inventory.specs.Ways.{serving_in}
use Rattle.druid_inventory.proofs.changing_timeline.ChangingTimeline.is_empty.Goals as goal

pub returns-in-Edited : goal.returns-in-Edited
returns-in-Edited c =
    subst (λ (s : Serving). IsTrue c.is_empty.result ↔ HoldsNothing s.held) (c.as_timeline.ensures ∙ sym (ap serving_in c.in-Edited.is) ∙ c.self.view_is) c.is_empty.ensures

pub returns-in-Swept : goal.returns-in-Swept
returns-in-Swept c =
    subst (λ (s : Serving). IsTrue c.is_empty-in-Swept.result ↔ HoldsNothing s.held) (sym (ap serving_in c.in-Swept.is) ∙ c.self.view_is) c.is_empty-in-Swept.ensures
