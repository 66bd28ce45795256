use Rattle.std.proofs.Common.{◌∙◌, ℕ, IsSome, sym, subst, inl, inr, arith, eq-eqb}
use borrow.Author.Tests.{eqb-true}
use Rattle.std.specs.Ordering.{nat_cmp}
use Rattle.std.specs.BTreeMap as tree
use Rattle.druid_timeline_members.proofs.CountLemmas.{kept_below-all, kept_below-whole}
use Rattle.druid_timeline_members.proofs.CompleteLemmas.{kept_below-but, kept_below-but_back, kept_below-less}
use Rattle.druid_timeline_members.proofs.members.are_all_but.Goals as goal
use Rattle.druid_timeline_members.proofs.members.are_all_but.Goals.{else-partition-bound-via-then-partition-bound+else-not-contains_key, else-partition-bound-via-else-partition-bound}

pub returns-then-not-contains_key : goal.returns-then-not-contains_key
returns-then-not-contains_key c =
    let m = c.args.slots.now in
    let below = c.if-partition-bound.true in
    let out = sym c.contains_key.ensures ∙ c.if-not-contains_key.true in
    let less = kept_below-less m c.args.partition c.args.bound below out in
    let more = c.saturating_add.ensures in
    let fits = c.ranges.bound.fits in
    let count = c.requires in (
      λ e q l. let is = eqb-true _ _ e in kept_below-but_back m c.args.partition c.args.bound below out (omega (arith, less, more, fits, count, is)) q l,
      λ h. let all = kept_below-but m c.args.partition c.args.bound below out h in eq-eqb _ _ (omega (arith, less, more, fits, count, all)),
    )

pub returns : goal.returns
returns c =
    let m = c.args.slots.now in (
      λ e q l. inr (kept_below-all m c.args.bound (sym c.requires ∙ eqb-true _ _ e) q l),
      λ h. eq-eqb _ _ (c.requires ∙ kept_below-whole m c.args.bound (λ q l. elim (h q l) [
        | inr there ↦ there
        | inl is ↦ elim c.else-partition-bound.branch [
          | else-partition-bound-via-then-partition-bound+else-not-contains_key w ↦ subst (λ (k : ℕ). IsSome (tree.get nat_cmp m k)) (sym is) (sym w.contains_key.ensures ∙ w.if-not-contains_key.false)
          | else-partition-bound-via-else-partition-bound w ↦ let beyond = w.if-partition-bound.false in absurd (omega (arith, beyond, is, l))
        ]
      ])),
    )
