use Rattle.std.proofs.Common.{◌≡◌, ℕ, List, arith, [], ◌∷◌, codes, string_bytes, rules, ap, ◌∙◌}
use Rattle.druid_program.proofs.WordLemmas.{one_word}
use Rattle.druid_program.proofs.words.asks_for_replay.Goals as goal

pub returns : goal.returns
returns c =
    let one = one_word c.args.words.now c.index-words-0.result (omega arith) c.index-words-0.is in (
      λ h.
          let same : string_bytes c.index-words-0.result ≡ codes "replay" = search rules in
          one ∙ ap (λ (t : List ℕ). t ∷ []) same,
      λ e.
          let same : string_bytes c.index-words-0.result ≡ codes "replay" = cc in
          search rules,
    )
