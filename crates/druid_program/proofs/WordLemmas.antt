-- The program's arguments.
use Rattle.std.proofs.Common.{◌≡◌, ℕ, List, [], ◌∷◌, length, get_or, map, string_bytes, Global, String, arith, sym, ap}

-- where there is one word
pub one_word : (ws : List (String Global)) (w : String Global) → length ws ≡ 1 → w ≡ get_or ws 0 w → map string_bytes ws ≡ string_bytes w ∷ []
one_word [] w one is = absurd (omega arith)
one_word (x ∷ []) w one is = ap (λ (s : String Global). string_bytes s ∷ []) (sym is)
one_word (x ∷ y ∷ ws) w one is = absurd (omega arith)

-- where there are two words
pub two_words : (ws : List (String Global)) (w : String Global) → length ws ≡ 2 → w ≡ get_or ws 0 w
    → (second : List ℕ) × (map string_bytes ws ≡ string_bytes w ∷ second ∷ [])
two_words [] w two is = absurd (omega arith)
two_words (x ∷ []) w two is = absurd (omega arith)
two_words (x ∷ y ∷ []) w two is = (string_bytes y, ap (λ (s : String Global). string_bytes s ∷ string_bytes y ∷ []) (sym is))
two_words (x ∷ y ∷ z ∷ ws) w two is = absurd (omega arith)

-- texts that stand first in equal lists are equal
pub first_of : (a b : List ℕ) (xs ys : List (List ℕ)) → a ∷ xs ≡ b ∷ ys → a ≡ b
first_of a b xs ys same = ap (λ (words : List (List ℕ)). get_or words 0 a) same
