-- A part of a line, and what is at hand of it.
use Rattle.std.proofs.Common.{◌≡◌, ℕ, List, [], ◌∷◌, ◌++◌, length, length-append, append-nil, Option, None, Some, IfSome, refl, ap, subst, ◌∙◌, arith}
use Rattle.std.proofs.KnownBytes.{Consumes-trans}
use Rattle.std.specs.Io.KnownBytes.{Consumes, IsAtEnd}
use Rattle.druid_stream.specs.Parts.{feed_of, IsPart}
use Rattle.druid_stream.specs.declared.lines.Part.{Part}
use Rattle.druid_stream.specs.declared.lines.Part.TheVariants.{More, Feed, Ended}

-- nothing is at hand only at the end
pub shown_end : (a : Option (List ℕ)) (shown : List ℕ) → IfSome a (λ xs. length shown ≡ 0 → xs ≡ []) → length shown ≡ 0 → IsAtEnd a
shown_end None shown end none = tt
shown_end (Some xs) shown end none = end none

-- no byte was at hand
pub still : (part : Part) (old new : List ℕ) (room : ℕ) (b c : Option (List ℕ)) → part ≡ More → length new ≡ length old → IsPart part old new room b c → (new ≡ old) × Consumes b c []
still More old new room b c e same p =
    let none : p.front ≡ [] = nothing p.front (omega (arith, ap length p.grown, length-append old p.front)) in
    (p.grown ∙ ap (λ l. old ++ l) none ∙ append-nil old, subst (λ (l : List ℕ). Consumes b c (l ++ [])) none p.taken)
  where
    nothing : (l : List ℕ) → length l ≡ 0 → l ≡ []
    nothing [] h = refl
    nothing (x ∷ l) h = absurd (omega arith)
still Feed old new room b c e same p = absurd cc
still Ended old new room b c e same p = absurd cc

end_before : (a b : Option (List ℕ)) → Consumes a b [] → IsAtEnd b → IsAtEnd a
end_before None b none end = tt
end_before (Some xs) None none end = absurd none
end_before (Some xs) (Some ys) none end = none ∙ end

-- a part after tries that brought nothing
pub resumed : (part : Part) (start old new : List ℕ) (room : ℕ) (a b c : Option (List ℕ)) → old ≡ start → Consumes a b [] → IsPart part old new room b c → IsPart part start new room a c
resumed part start old new room a b c same none p = record {
  front = p.front;
  grown = p.grown ∙ ap (λ l. l ++ p.front) same;
  plain = p.plain;
  short = p.short;
  taken = Consumes-trans a b c [] (p.front ++ feed_of part) none p.taken;
  ended = λ e. end_before a b none (p.ended e);
}
