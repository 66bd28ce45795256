-- A request, and the parts of its target.
use Rattle.std.specs.Prelude.{◌==◌, ℕ, List}
use Rattle.std.specs.List.{before_first, after_first}

-- a request, as it is sent and read
pub record RequestValue : Type 0 where
  pub method : List ℕ
  pub target : List ℕ
  pub body : List ℕ

-- what stands before the first `?` of a target
abbrev pub path_of : List ℕ → List ℕ
path_of target = before_first (λ b. b == 63) target

-- what follows it, and nothing where there is none
abbrev pub parameters_of : List ℕ → List ℕ
parameters_of target = after_first (λ b. b == 63) target
