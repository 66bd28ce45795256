-- A body, read as it comes.
use Rattle.std.proofs.Common.{◌≡◌, ℕ, ◌<◌, ◌≤◌, Bool, true, false, List, [], ◌∷◌, ◌++◌, length, length-append, append-nil, Option, None, Some, IfSome, refl, ap, subst, ◌∙◌, arith}
use Rattle.std.proofs.KnownBytes.{Consumes-trans}
use Rattle.std.specs.Io.KnownBytes.{Consumes, IsAtEnd}
use Rattle.druid_http_wire.specs.Bodies.{IsTaken, EndsBody}

nil : (l : List ℕ) → length l ≡ 0 → l ≡ []
nil [] h = refl
nil (x ∷ l) h = absurd (omega (arith, h))

end_before : (a b : Option (List ℕ)) → Consumes a b [] → IsAtEnd b → IsAtEnd a
end_before None b none end = tt
end_before (Some xs) None none end = absurd none
end_before (Some xs) (Some ys) none end = none ∙ end

-- tries that brought nothing
pub nothing_taken : (more : Bool) (old new : List ℕ) (room : ℕ) (b c : Option (List ℕ)) → more ≡ true → length new ≡ length old → IsTaken more old new room b c
    → (new ≡ old) × Consumes b c []
nothing_taken more old new room b c e same w =
    let none : w.front ≡ [] = nil w.front (omega (arith, same, ap length w.grown, length-append old w.front)) in
    (w.grown ∙ ap (λ l. old ++ l) none ∙ append-nil old, subst (Consumes b c) none w.taken)

-- bytes after tries that brought nothing
pub taken_again : (more is : Bool) (start old new : List ℕ) (room : ℕ) (a b c : Option (List ℕ)) → more ≡ is → old ≡ start → Consumes a b [] → IsTaken more old new room b c
    → IsTaken is start new room a c
taken_again more is start old new room a b c e same none w = subst (λ m. IsTaken m start new room a c) e (record {
  front = w.front;
  grown = w.grown ∙ ap (λ l. l ++ w.front) same;
  short = w.short;
  taken = Consumes-trans a b c [] w.front none w.taken;
  ended = λ e. end_before a b none (w.ended e);
})

-- ---- the whole

-- so far no more than was asked for
pub record HasBody (body : List ℕ) (count : ℕ) (a b : Option (List ℕ)) : Type 0 where
  pub taken : Consumes a b body
  pub within : length body ≤ count

pub body_cut : (more : Bool) (old new : List ℕ) (room count : ℕ) (a b c : Option (List ℕ)) → more ≡ false → HasBody old count a b → IsTaken more old new room b c
    → length old < count → IfSome a (λ input. EndsBody false input count new c)
body_cut more old new room count None b c e h w short = tt
body_cut more old new room count (Some input) None c e h w short = absurd h.taken
body_cut more old new room count (Some input) (Some left) c e h w short =
    omega (arith, short, ap length h.taken, length-append old left, ap length (w.ended e))
