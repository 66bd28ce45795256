use Rattle.std.proofs.Common.{◌≡◌, ℕ, List, Result, Ok, Err}
use Rattle.std.specs.BTreeMap as tree
use Rattle.std.specs.List.{AllZip}
use Rattle.std.specs.Result.{IfOk, MatchResult}
use Rattle.std.proofs.lemmas.List.Elements.{same_from_all_zip}
use Rattle.druid_timeline_members.specs.Slots.{Replica, SlotMap}
use Rattle.druid_timeline_members.proofs.members.copy_of.Goals as goal

abbrev copied_entry : (ℕ × List Replica) → (ℕ × List Replica) → Type 0
copied_entry p q = (q.0 ≡ p.0) × (q.1 ≡ p.1)

if_copied : {E : Type 0} (r : Result SlotMap E) (m : SlotMap) (Q : E → Type 0) → MatchResult r (λ n. AllZip copied_entry m.entries n.entries) Q → IfOk r (tree.IsUnchanged m)
if_copied (Ok n) m Q h = same_from_all_zip copied_entry m.entries n.entries h (λ x y r i. (r.0 i, r.1 i))
if_copied (Err e) m Q h = tt

pub returns : goal.returns
returns c = if_copied c.clone.result c.args.slots.now _ c.clone.ensures.cases
