use Rattle.std.proofs.Common.{List, ℕ, Result, Ok, Err, MatchResult, IsOk, refl, subst, sym}
use Rattle.std.specs.Str.{IsUtf8}
use Rattle.druid_time.proofs.TextLemmas.{IsUtf8-instant_text}
use Rattle.druid_partial_text.proofs.results.push_label.Goals as goal

-- bytes that are text are read as text
is_text : {T E : Type 0} (r : Result T E) (bs : List ℕ) (P : T → Type 0) (Q : E → Type 0) → MatchResult r P (λ e. ¬ IsUtf8 bs × Q e) → IsUtf8 bs → IsOk r
is_text (Ok x) bs P Q h text = refl
is_text (Err e) bs P Q h text = absurd (h.0 text)

pub unwrap-requires : goal.unwrap-requires
unwrap-requires c =
    is_text c.from_utf8.result c.write.new.out _ _ c.from_utf8.ensures.cases (subst IsUtf8 (sym c.write.ensures) (IsUtf8-instant_text c.args.bucket))
