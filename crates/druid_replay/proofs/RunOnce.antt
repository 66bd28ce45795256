-- Two runs over one input are one, where no device fails.
use Rattle.std.proofs.Common.{◌≡◌, ℕ, ◌+◌, List, [], ◌∷◌, ◌++◌, Option, ◌⊎◌, inl, inr, ap, sym, subst, ◌∙◌}
use Rattle.druid_inventory.specs.Entry.{Entry}
use Rattle.druid_replay.specs.Answers.{line_text}
use Rattle.druid_replay.specs.Runs.{End, done, bad_at, broken_at, NoDeviceFails, Runs}
use Rattle.druid_replay.proofs.AnswerOnce.{answered_once, answered_not_bad, bad_once}

ended : (end : End) (n : ℕ) → NoDeviceFails end → (end ≡ done) ⊎ (end ≡ broken_at n) → end ≡ done
ended end n whole (inl all) = all
ended end n whole (inr broken) = absurd (whole n broken)

pub runs_once : (state : Option (List (List Entry))) (n : ℕ) (lines : List (List ℕ)) (out other : List ℕ) (end last : End)
    → Runs state n lines out end → Runs state n lines other last → NoDeviceFails end → NoDeviceFails last → (out ≡ other) × (end ≡ last)
runs_once state n [] out other end last x y whole too =
    (x.0 ∙ sym y.0, ended end n whole x.1 ∙ sym (ended last n too y.1))
runs_once state n (line ∷ more) out other end last (inl x) (inl y) whole too = (x.2 ∙ sym y.2, x.3 ∙ ap (bad_at n) (bad_once state line x.0 y.0 x.1 y.1) ∙ sym y.3)
runs_once state n (line ∷ more) out other end last (inl x) (inr (inl y)) whole too = absurd (too n y.1)
runs_once state n (line ∷ more) out other end last (inl x) (inr (inr y)) whole too =
    absurd (answered_not_bad state y.1 line y.0 y.2 (x.0, x.1))
runs_once state n (line ∷ more) out other end last (inr (inl x)) y whole too = absurd (whole n x.1)
runs_once state n (line ∷ more) out other end last (inr (inr x)) (inl y) whole too =
    absurd (answered_not_bad state x.1 line x.0 x.2 (y.0, y.1))
runs_once state n (line ∷ more) out other end last (inr (inr x)) (inr (inl y)) whole too = absurd (too n y.1)
runs_once state n (line ∷ more) out other end last (inr (inr x)) (inr (inr y)) whole too =
    let one = answered_once state line x.0 y.0 x.1 y.1 x.2 y.2 in
    let there = subst (λ (s : Option (List (List Entry))). Runs s (n + 1) more y.3 last) (sym one.1) y.5 in
    let rest = runs_once x.1 (n + 1) more x.3 y.3 end last x.5 there whole too in
    (x.4 ∙ (λ i. line_text (one.0 i) ++ rest.0 i) ∙ sym y.4, rest.1)
