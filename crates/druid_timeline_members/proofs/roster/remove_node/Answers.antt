use Rattle.std.proofs.Common.{◌≡◌, ◌↔◌, ◌<◌, ℕ, List, length, get_or, sym, subst}
use Rattle.std.specs.List.{Contains}
use Rattle.druid_timeline_members.proofs.PairLemmas.{Contains-removed}
use Rattle.druid_timeline_members.proofs.roster.remove_node.Goals as goal

pub returns-in-Ok-clause-all : goal.returns-in-Ok-clause-all
returns-in-Ok-clause-all c n =
    let place = subst (λ (xs : List ℕ). (c.in-Ok.at < length xs) × (get_or xs c.in-Ok.at 0 ≡ c.args.node)) c.deref.ensures.value c.in-Ok.ensures.place in
    subst (λ (xs : List ℕ). Contains xs n ↔ (Contains c.args.nodes.now.items n × (n ≡ c.args.node → ⊥))) (sym c.remove.ensures.items)
    (Contains-removed c.args.nodes.now.items c.in-Ok.at c.args.node c.requires place.0 place.1 n)
