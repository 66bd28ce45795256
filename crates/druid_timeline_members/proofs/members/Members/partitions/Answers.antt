use Rattle.std.proofs.Common.{ℕ, List, sym, subst}
use Rattle.std.specs.BTreeMap as tree
use Rattle.std.specs.Cmp.{nat_cmp_total}
use Rattle.std.specs.List.{Contains}
use Rattle.std.specs.List.Sorted.{IsStrictlyIncreasing}
use Rattle.std.proofs.lemmas.Map.Keys.{IsStrictlyIncreasing-from_sorted}
use Rattle.std.proofs.lemmas.Map.Lookups.{exact_unsigned}
use Rattle.std.proofs.lemmas.Map.Views.{btree_map_contains_key_iff}
use Rattle.druid_timeline_members.specs.Members.{Member, HasPartition}
use Rattle.druid_timeline_members.proofs.SlotLemmas.{kept-HasPartition}
use Rattle.druid_timeline_members.proofs.members.Members.partitions.Goals as goal

pub returns-clause-rising : goal.returns-clause-rising
returns-clause-rising c =
    subst IsStrictlyIncreasing (sym c.in_ok-keys.ensures) (IsStrictlyIncreasing-from_sorted (tree.keys c.self.inside.slots) c.len.ensures.ordered)

pub returns-clause-all : goal.returns-clause-all
returns-clause-all c p =
    let found = btree_map_contains_key_iff nat_cmp_total exact_unsigned c.self.inside.slots p in
    let kept = kept-HasPartition c.self.inside.slots p c.len.ensures.ordered c.self.invariant.2 in (
      λ there. subst (λ (ms : List Member). HasPartition ms p) c.self.view_is (kept.0 (found.1 (subst (λ (xs : List ℕ). Contains xs p) c.in_ok-keys.ensures there))),
      λ has. subst (λ (xs : List ℕ). Contains xs p) (sym c.in_ok-keys.ensures) (found.0 (kept.1 (subst (λ (ms : List Member). HasPartition ms p) (sym c.self.view_is) has))),
    )
