use Rattle.std.proofs.Common.{◌≡◌, ◌↔◌, ◌⊎◌, ℕ, List, sym, subst, inl, inr}
use Rattle.std.specs.Bool.{IsTrue}
use Rattle.std.specs.List.{Contains, insert}
use Rattle.druid_base.proofs.MemberLemmas.{Contains-insert}
use Rattle.druid_timeline_members.proofs.roster.insert_node.Goals as goal

-- of a node that serves
serving : (now old : List ℕ) (i n k : ℕ) (serves : Type 0) → serves → now ≡ insert old i n → Contains now k ↔ (((k ≡ n) × serves) ⊎ Contains old k)
serving now old i n k serves does e =
    let at = Contains-insert old i n k in (
      λ there. elim (at.0 (subst (λ (xs : List ℕ). Contains xs k) e there)) [
        | inl same ↦ inl (same, does)
        | inr before ↦ inr before
      ],
      λ either. subst (λ (xs : List ℕ). Contains xs k) (sym e) (at.1 (either_way either)),
    ) where
      either_way : ((k ≡ n) × serves) ⊎ Contains old k → (k ≡ n) ⊎ Contains old k
      either_way (inl both) = inl both.0
      either_way (inr before) = inr before

pub returns-in_ok-insert-clause-all : goal.returns-in_ok-insert-clause-all
returns-in_ok-insert-clause-all c n =
    serving c.insert.new.self.items c.args.nodes.now.items c.in-Err.at c.args.node n (IsTrue c.args.serves) c.if-not-serves.false c.in_ok-insert.ensures.items
