-- Pieces of a text: only private contracts use this.
use Rattle.std.specs.Prelude.{ℕ, List, flat_map}
use Rattle.std.specs.Borrow.{Bor}

abbrev pub joined : List (Bor (List ℕ)) → List ℕ
joined = flat_map (λ (p : Bor (List ℕ)). p.now)
