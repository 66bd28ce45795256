use Rattle.std.proofs.Common.{◌↔◌, ℕ, List, map, sym, subst}
use Rattle.std.specs.Arc.{arc_value}
use Rattle.std.specs.List.{Contains}
use Rattle.std.proofs.lemmas.Result.{IfOk-weaker}
use Rattle.druid_inventory.specs.Sources.{HasSource}
use Rattle.druid_inventory.proofs.TimelineLemmas.{IsInventory-same, key_served}
use Rattle.druid_inventory.proofs.inventory.Inventory.sources.Goals as goal

pub returns-clause-all : goal.returns-clause-all
returns-clause-all c =
    let kept = IsInventory-same (map arc_value (arc_value c.self.inside.entries).items) c.args.self.now (arc_value c.self.inside.timelines) c.deref.result.now
    (sym c.self.view_is) c.deref.ensures c.self.invariant in
    IfOk-weaker c.names_of.result _ _
    (λ sources e source. subst (λ (names : List (List ℕ)). Contains names source ↔ HasSource c.args.self.now source) (sym e)
    (key_served c.args.self.now c.deref.result.now kept.over source))
    c.names_of.ensures.names
