use Rattle.std.proofs.Common.{sym, subst, refl}
use Rattle.druid_base.proofs.ListLemmas.{set-found}
use Rattle.druid_inventory.specs.Plan.{Leads}
use Rattle.druid_inventory.specs.declared.plan.Plan.{Plan}
use Rattle.druid_inventory.proofs.inventory.Inventory.carry_out.Goals as goal

-- the entry is put back
pub returns-in-Stay-clause-ok : goal.returns-in-Stay-clause-ok
returns-in-Stay-clause-ok c =
    let e = c.requires.0 in
    let found = c.requires.1 in
    (e, e, found, subst (λ (p : Plan). Leads p e e) (sym c.in-Stay.is) refl, sym (set-found c.args.self.now c.args.node e found))
