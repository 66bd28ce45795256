use Rattle.std.proofs.Common.{◌≡◌, ℕ, List, arith, [], ◌∷◌, codes, string_bytes, rules, ap, sym, ◌∙◌}
use Rattle.druid_program.proofs.WordLemmas.{two_words, first_of}
use Rattle.druid_program.proofs.words.asks_for_serve.Goals as goal

pub returns-then-words-eq2-clause-asked : goal.returns-then-words-eq2-clause-asked
returns-then-words-eq2-clause-asked c =
    let first = string_bytes c.index-words-0.result in
    let two = two_words c.args.words.now c.index-words-0.result (omega arith) c.index-words-0.is in (
      λ h.
          let same : first ≡ codes "serve" = search rules in
          (two.0, two.1 ∙ ap (λ (t : List ℕ). t ∷ two.0 ∷ []) same),
      λ asked.
          let same : first ≡ codes "serve" = first_of first (codes "serve") (two.0 ∷ []) (asked.0 ∷ []) (sym two.1 ∙ asked.1) in
          search rules,
    )
