use Rattle.std.proofs.Common.{refl, arith}
use Rattle.std.proofs.lemmas.List.{same_lists}
use Rattle.druid_inventory.proofs.known.are_same.Goals as goal

-- each element is the other's at its place
pub returns : goal.returns
returns c =
    (λ _. same_lists c.args.a.now c.args.b.now (omega arith) (λ k d l. c.loop-i.invariant k d (omega arith)), λ _. refl)
