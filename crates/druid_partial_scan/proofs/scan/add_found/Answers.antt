use Rattle.std.proofs.Common.{◌≡◌, ◌∙◌, ℤ, List, [], ◌∷◌, ◌++◌, Option, Vec, Global, ap, sym, subst, append_assoc}
use Rattle.std.specs.Prelude.{All}
use Rattle.std.proofs.lemmas.List.Elements.{All-head, All-tail}
use Rattle.druid_partial.specs.Groups.{Key, Group, AreWords}
use Rattle.druid_partial_scan.specs.Entries.{groups_of}
use Rattle.druid_partial_scan.proofs.PlaceLemmas.{group_is}
use Rattle.druid_partial_scan.proofs.scan.add_found.Goals as goal

pub new-requires : goal.new-requires
new-requires c =
    let P : List (Key × Vec (Option ℤ) Global) → Type 0 = λ es. All (λ (g : Group). AreWords g.numbers) (groups_of es) in
    All-head (λ (g : Group). AreWords g.numbers) _ _ (subst P c.in-Some.ensures.removal c.loop-key.invariant.words)

pub loop-key-preserved : goal.loop-key-preserved
loop-key-preserved c =
    let P : List (Key × Vec (Option ℤ) Global) → Type 0 = λ es. All (λ (g : Group). AreWords g.numbers) (groups_of es) in
    let group : c.new.result ≡ record { key = c.in-Some.key; numbers = c.in-Some.numbers.items } =
    c.new.ensures ∙ group_is c.in-Some.key _ _ c.in-Some.numbers.items c.bucket.ensures c.in_ok-values.ensures in
    record {
      whole =
          ap (λ l. l ++ groups_of c.pop_first.new.self.entries) (c.in_ok-push.ensures.items ∙ ap (λ g. c.loop-key.groups.items ++ g ∷ []) group)
          ∙ append_assoc c.loop-key.groups.items _ _
          ∙ ap (λ es. c.loop-key.groups.items ++ groups_of es) (sym c.in-Some.ensures.removal) ∙ c.loop-key.invariant.whole;
      words = All-tail (λ (g : Group). AreWords g.numbers) _ _ (subst P c.in-Some.ensures.removal c.loop-key.invariant.words);
    }
