-- A request that comes part by part.
use Rattle.std.proofs.Common.{◌≡◌, ℕ, ◌+◌, ◌≤◌, List, [], ◌∷◌, ◌++◌, length, append-nil, Option, refl, sym, ap, subst, ◌∙◌, arith}
use Rattle.std.proofs.KnownBytes.{Consumes-trans}
use Rattle.std.specs.Io.KnownBytes.{Consumes}
use Rattle.druid_http_wire.specs.Limits.{max_head, max_body}
use Rattle.druid_http_wire.specs.Missing.{IsAnswerable, LacksMore}
use Rattle.druid_serve_front.specs.Requests.{Awaits}

-- nothing is missing
pub awaits_nothing : (bytes : List ℕ) → IsAnswerable bytes → length bytes ≤ max_head + max_body → Awaits bytes 0
awaits_nothing bytes is fits = record {
  few = omega (arith, fits);
  whole = λ more none. subst IsAnswerable (sym (ap (λ (l : List ℕ). bytes ++ l) (empty more none) ∙ append-nil bytes)) is;
} where
  empty : (l : List ℕ) → length l ≡ 0 → l ≡ []
  empty [] e = refl
  empty (x ∷ xs) e = absurd cc

-- some of the body is
pub awaits_more : (bytes : List ℕ) (count : ℕ) → LacksMore bytes count → Awaits bytes count
awaits_more bytes count lacks = record { few = lacks.few; whole = lacks.whole }

-- more was taken, and appended
pub took_more : (old new more : List ℕ) (a b c : Option (List ℕ)) → new ≡ old ++ more → Consumes a b old → Consumes b c more → Consumes a c new
took_more old new more a b c is first second = subst (Consumes a c) (sym is) (Consumes-trans a b c old more first second)
