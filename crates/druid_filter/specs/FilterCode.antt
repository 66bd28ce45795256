-- Filters, each a constructor, so that a value may contain them: only proofs use this.
use Rattle.std.specs.Prelude.{◌≡◌, ℕ, List, Option}
use Rattle.std.specs.Coded.{Coded, coded_ℕ, coded_list, coded_option}
use Rattle.std.proofs.Common.{◌<◌, ◌⊎◌, inl, inr, ap, refl, arith}
use base.Stored.{Gv, gnil, gnum, gcons}
use Rattle.druid_filter.specs.Filters.{Condition, has, has_among, all_of, any_of, is_not, Conditions, no_conditions, condition}

abbrev left : Gv → Gv
left gnil = gnil
left (gnum n) = gnil
left (gcons a b) = a

abbrev right : Gv → Gv
right gnil = gnil
right (gnum n) = gnil
right (gcons a b) = b

abbrev kind : Gv → ℕ
kind gnil = 0
kind (gnum n) = 0
kind (gcons gnil b) = 0
kind (gcons (gnum n) b) = n
kind (gcons (gcons a c) b) = 0

abbrev coded_text : Coded (List ℕ)
coded_text = coded_list coded_ℕ

abbrev coded_value : Coded (Option (List ℕ))
coded_value = coded_option coded_text

abbrev coded_values : Coded (List (Option (List ℕ)))
coded_values = coded_list coded_value

abbrev mutual
  pub code : Condition → Gv
  code (has dimension value) = gcons (gnum 1) (gcons (coded_text.code dimension) (coded_value.code value))
  code (has_among dimension values) = gcons (gnum 2) (gcons (coded_text.code dimension) (coded_values.code values))
  code (all_of cs) = gcons (gnum 3) (codes cs)
  code (any_of cs) = gcons (gnum 4) (codes cs)
  code (is_not c) = gcons (gnum 5) (code c)

  pub codes : Conditions → Gv
  codes no_conditions = gnil
  codes (condition c cs) = gcons (gnum 1) (gcons (code c) (codes cs))

apart : (m n : ℕ) → (m < n) ⊎ (n < m) → m ≡ n → ⊥
apart m n (inl lt) e = omega (arith, lt, e)
apart m n (inr lt) e = omega (arith, lt, e)

mutual
  pub inj : (x y : Condition) → code x ≡ code y → x ≡ y
  inj (has d v) (has e w) p = λ i. has (coded_text.inj d e (ap (λ g. left (right g)) p) i) (coded_value.inj v w (ap (λ g. right (right g)) p) i)
  inj (has_among d v) (has_among e w) p = λ i. has_among (coded_text.inj d e (ap (λ g. left (right g)) p) i) (coded_values.inj v w (ap (λ g. right (right g)) p) i)
  inj (all_of cs) (all_of ds) p = λ i. all_of (injs cs ds (ap right p) i)
  inj (any_of cs) (any_of ds) p = λ i. any_of (injs cs ds (ap right p) i)
  inj (is_not c) (is_not e) p = λ i. is_not (inj c e (ap right p) i)
  inj (has d v) (has_among e w) p = absurd (apart 1 2 (inl (omega arith)) (ap kind p))
  inj (has d v) (all_of ds) p = absurd (apart 1 3 (inl (omega arith)) (ap kind p))
  inj (has d v) (any_of ds) p = absurd (apart 1 4 (inl (omega arith)) (ap kind p))
  inj (has d v) (is_not e) p = absurd (apart 1 5 (inl (omega arith)) (ap kind p))
  inj (has_among d v) (has e w) p = absurd (apart 2 1 (inr (omega arith)) (ap kind p))
  inj (has_among d v) (all_of ds) p = absurd (apart 2 3 (inl (omega arith)) (ap kind p))
  inj (has_among d v) (any_of ds) p = absurd (apart 2 4 (inl (omega arith)) (ap kind p))
  inj (has_among d v) (is_not e) p = absurd (apart 2 5 (inl (omega arith)) (ap kind p))
  inj (all_of cs) (has e w) p = absurd (apart 3 1 (inr (omega arith)) (ap kind p))
  inj (all_of cs) (has_among e w) p = absurd (apart 3 2 (inr (omega arith)) (ap kind p))
  inj (all_of cs) (any_of ds) p = absurd (apart 3 4 (inl (omega arith)) (ap kind p))
  inj (all_of cs) (is_not e) p = absurd (apart 3 5 (inl (omega arith)) (ap kind p))
  inj (any_of cs) (has e w) p = absurd (apart 4 1 (inr (omega arith)) (ap kind p))
  inj (any_of cs) (has_among e w) p = absurd (apart 4 2 (inr (omega arith)) (ap kind p))
  inj (any_of cs) (all_of ds) p = absurd (apart 4 3 (inr (omega arith)) (ap kind p))
  inj (any_of cs) (is_not e) p = absurd (apart 4 5 (inl (omega arith)) (ap kind p))
  inj (is_not c) (has e w) p = absurd (apart 5 1 (inr (omega arith)) (ap kind p))
  inj (is_not c) (has_among e w) p = absurd (apart 5 2 (inr (omega arith)) (ap kind p))
  inj (is_not c) (all_of ds) p = absurd (apart 5 3 (inr (omega arith)) (ap kind p))
  inj (is_not c) (any_of ds) p = absurd (apart 5 4 (inr (omega arith)) (ap kind p))

  pub injs : (x y : Conditions) → codes x ≡ codes y → x ≡ y
  injs no_conditions no_conditions p = refl
  injs (condition c cs) (condition d ds) p = λ i. condition (inj c d (ap (λ g. left (right g)) p) i) (injs cs ds (ap (λ g. right (right g)) p) i)
  injs no_conditions (condition d ds) p = absurd (apart 0 1 (inl (omega arith)) (ap kind p))
  injs (condition c cs) no_conditions p = absurd (apart 1 0 (inr (omega arith)) (ap kind p))

abbrev pub coded_condition : Coded Condition
coded_condition = record { code = code; inj = inj }
