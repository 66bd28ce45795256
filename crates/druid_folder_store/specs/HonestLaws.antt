-- For proofs alone: the laws of a folder, of one of the operating system.
use Rattle.std.specs.Prelude.{ℕ, ◌≤◌, List, [], ◌∷◌, length}
use Rattle.std.proofs.Common.{◌≡◌, inl, inr, subst, arith}
use Rattle.druid_folder_store.specs.Event.{Event}
use Rattle.druid_folder.specs.Folder.{Content}
use Rattle.druid_folder_store.specs.Honest.{HonestIn, LeftFrom}

-- a stop may leave what is read
pub honest_content : (content : ℕ → Content) (left during : ℕ → Content → Type 0) (calls : List Event)
    → HonestIn content left during calls → left (length calls) (content (length calls))
honest_content content left during [] honest = honest
honest_content content left during (event ∷ earlier) honest = honest.2

module _ (left during : ℕ → Content → Type 0) (n t : ℕ) (c : Content) where
  -- the state now is one of those since an earlier call
  pub left_counts : t ≤ n → left n c → LeftFrom left during n t c
  left_counts le now = inl (n, le, omega arith, now)

-- since the last call there is no other
pub left_alone : (left during : ℕ → Content → Type 0) (n : ℕ) (c : Content) → LeftFrom left during n n c → left n c
left_alone left during n c (inl since) = subst (λ k. left k c) (let same : since.0 ≡ n = omega (arith, since.1, since.2) in same) since.3
left_alone left during n c (inr since) = absurd (omega (arith, since.1, since.2))
