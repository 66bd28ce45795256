-- Where the head of a message begins and ends, whatever stands in it: after blank lines, and with the first empty line.
use Rattle.std.specs.Prelude.{◌≡◌, ◌≢◌, ◌+◌, ◌≤◌, ◌<◌, ◌⊎◌, ℕ, List, [], ◌∷◌, ◌++◌, All, length}
use Rattle.std.specs.List.{flat_map}
use Rattle.druid_http_wire.specs.Limits.{max_head}

-- the bytes of a line, which ends at its line feed, have none
abbrev pub IsPlain : List ℕ → Type 0
IsPlain line = All (λ b. b ≢ 10) line

-- nothing, or a carriage return alone
abbrev pub IsBlank : List ℕ → Type 0
IsBlank line = (line ≡ []) ⊎ (line ≡ 13 ∷ [])

-- a line that is not blank
abbrev pub IsTextLine : List ℕ → Type 0
IsTextLine line = IsPlain line × (¬ (IsBlank line))

-- lines, each with its line feed
abbrev pub text_of : List (List ℕ) → List ℕ
text_of lines = flat_map (λ line. line ++ 10 ∷ []) lines

-- lines that are not blank, one at least, and then the blank line that ends them
pub record IsHead (head : List ℕ) : Type 0 where
  pub lines : List (List ℕ)
  pub last : List ℕ
  pub some : 0 < length lines
  pub each : All IsTextLine lines
  pub empty : IsBlank last
  pub is : head ≡ text_of lines ++ (last ++ 10 ∷ [])

-- the input is a head after blank lines, and then the rest; the limit counts the blank lines too
pub record IsFramed (input head rest : List ℕ) : Type 0 where
  pub blank : List (List ℕ)
  pub blanks : All IsBlank blank
  pub is : input ≡ text_of blank ++ (head ++ rest)
  pub framed : IsHead head
  pub short : length (text_of blank) + length head ≤ max_head

-- blank lines, lines that are not, and a last one that has no line feed
pub record IsBegun (input front : List ℕ) : Type 0 where
  pub blank : List (List ℕ)
  pub lines : List (List ℕ)
  pub line : List ℕ
  pub blanks : All IsBlank blank
  pub each : All IsTextLine lines
  pub plain : IsPlain line
  pub front_is : front ≡ text_of lines ++ line
  pub is : input ≡ text_of blank ++ front

-- the input ends before the head does, and within the limit
abbrev pub EndsInHead : List ℕ → Type 0
EndsInHead input = (front : List ℕ) × IsBegun input front × (length input ≤ max_head)

-- as many bytes as the limit has, blank lines and a head whose last line has no line feed yet, and one byte more at least
pub record IsLongHead (input : List ℕ) : Type 0 where
  pub begun : List ℕ
  pub front : List ℕ
  pub rest : List ℕ
  pub is : input ≡ begun ++ rest
  pub begins : IsBegun begun front
  pub long : max_head ≤ length begun
  pub over : max_head < length input
