-- Asks, read: how often a parameter is given.
use Rattle.std.proofs.Common.{◌≡◌, ℕ, Bool, true, false, List, [], ◌∷◌, ◌++◌, append_assoc, sym, ap, ◌∙◌, subst, cond, map, filter, Bor}
use Rattle.std.specs.Str.{bytes_eq}
use Rattle.druid_sync_text.specs.Asks.{values_at}
use Rattle.druid_sync_text.specs.Given.{IsGiven}
use Rattle.druid_sync_text.specs.declared.ask.Given.{Given}
use Rattle.druid_sync_text.specs.declared.ask.Given.TheVariants.{Once, Twice}

-- ---- parameters

choose : (b : Bool) (name : List ℕ) (p : List ℕ × List ℕ) (ps : List (List ℕ × List ℕ)) → b ≡ bytes_eq p.0 name
    → values_at name (p ∷ ps) ≡ map (λ q. q.1) (cond b (p ∷ filter (λ q. bytes_eq q.0 name) ps) (filter (λ q. bytes_eq q.0 name) ps))
choose b name p ps e = ap (λ (c : Bool). map (λ q. q.1) (cond c (p ∷ filter (λ q. bytes_eq q.0 name) ps) (filter (λ q. bytes_eq q.0 name) ps))) (sym e)

-- a pair of that name is next
pub given_more : (name key value : List ℕ) (ps qs : List (List ℕ × List ℕ)) (done all : List (List ℕ))
    → ps ≡ (key, value) ∷ qs → bytes_eq key name ≡ true → done ++ values_at name ps ≡ all → (done ++ value ∷ []) ++ values_at name qs ≡ all
given_more name key value ps qs done all next is before =
    append_assoc done (value ∷ []) (values_at name qs)
    ∙ ap (λ l. done ++ l) (sym (ap (values_at name) next ∙ choose true name (key, value) qs (sym is)))
    ∙ before

-- one of another name
pub given_other : (name key value : List ℕ) (ps qs : List (List ℕ × List ℕ)) (done all : List (List ℕ))
    → ps ≡ (key, value) ∷ qs → bytes_eq key name ≡ false → done ++ values_at name ps ≡ all → done ++ values_at name qs ≡ all
given_other name key value ps qs done all next is before =
    ap (λ l. done ++ l) (sym (ap (values_at name) next ∙ choose false name (key, value) qs (sym is)))
    ∙ before

-- a value after the only one
pub given_twice : (given : Given) (values : List (List ℕ)) (v : Bor (List ℕ)) (w : List ℕ) → given ≡ Once v → IsGiven given values
    → (a b : List ℕ) × (rest : List (List ℕ)) × (values ++ w ∷ [] ≡ a ∷ b ∷ rest)
given_twice given values v w e is =
    let once : values ≡ v.now ∷ [] = subst (λ g. IsGiven g values) e is in
    (v.now, w, [], ap (λ l. l ++ w ∷ []) once)

-- a value after more
pub given_thrice : (given : Given) (values : List (List ℕ)) (w : List ℕ) → given ≡ Twice → IsGiven given values
    → (a b : List ℕ) × (rest : List (List ℕ)) × (values ++ w ∷ [] ≡ a ∷ b ∷ rest)
given_thrice given values w e is =
    let two : (a b : List ℕ) × (rest : List (List ℕ)) × (values ≡ a ∷ b ∷ rest) = subst (λ g. IsGiven g values) e is in
    (two.0, two.1, two.2 ++ w ∷ [], ap (λ l. l ++ w ∷ []) two.3)
