-- Lists place by place.
use Rattle.std.proofs.Common.{◌≡◌, ◌<◌, ℕ, zero, suc, List, [], ◌∷◌, ◌++◌, length, replicate, set, Some, refl, sym, ap, ◌∙◌, subst, arith}
use Rattle.std.specs.List.{AllByRecursion, AllZip, slice_get}
use Rattle.std.proofs.lemmas.Option.{same_Some, none-some}

-- ---- each

pub each_get : {X : Type 0} (P : X → Type 0) (xs : List X) (i : ℕ) (x : X) → AllByRecursion P xs → slice_get xs i ≡ Some x → P x
each_get P [] i x all e = absurd (none-some x e)
each_get P (y ∷ ys) zero x all e = subst P (same_Some y x e) all.0
each_get P (y ∷ ys) (suc i) x all e = each_get P ys i x all.1 e

pub each_set : {X : Type 0} (P : X → Type 0) (xs : List X) (i : ℕ) (y : X) → AllByRecursion P xs → P y → AllByRecursion P (set xs i y)
each_set P [] i y all h = tt
each_set P (x ∷ xs) zero y all h = (h, all.1)
each_set P (x ∷ xs) (suc i) y all h = (all.0, each_set P xs i y all.1 h)

pub each_more : {X : Type 0} (P : X → Type 0) (xs : List X) (y : X) → AllByRecursion P xs → P y → AllByRecursion P (xs ++ y ∷ [])
each_more P [] y all h = (h, tt)
each_more P (x ∷ xs) y all h = (all.0, each_more P xs y all.1 h)

pub each_front : {X : Type 0} (P : X → Type 0) (xs ys : List X) → AllByRecursion P (xs ++ ys) → AllByRecursion P xs
each_front P [] ys all = tt
each_front P (x ∷ xs) ys all = (all.0, each_front P xs ys all.1)

pub each_last : {X : Type 0} (P : X → Type 0) (xs : List X) (y : X) → AllByRecursion P (xs ++ y ∷ []) → P y
each_last P [] y all = all.0
each_last P (x ∷ xs) y all = each_last P xs y all.1

pub each_weaker : {X : Type 0} (P Q : X → Type 0) (xs : List X) → ((x : X) → P x → Q x) → AllByRecursion P xs → AllByRecursion Q xs
each_weaker P Q [] h all = tt
each_weaker P Q (x ∷ xs) h all = (h x all.0, each_weaker P Q xs h all.1)

pub each_replicate : {X : Type 0} (P : X → Type 0) (n : ℕ) (x : X) → P x → AllByRecursion P (replicate n x)
each_replicate P zero x h = tt
each_replicate P (suc n) x h = (h, each_replicate P n x h)

-- ---- a place

pub get_below : {X : Type 0} (xs : List X) (i : ℕ) → i < length xs → (x : X) × (slice_get xs i ≡ Some x)
get_below [] i l = absurd (omega arith)
get_below (x ∷ xs) zero l = (x, refl)
get_below (x ∷ xs) (suc i) l = get_below xs i (omega arith)

pub below_get : {X : Type 0} (xs : List X) (i : ℕ) (x : X) → slice_get xs i ≡ Some x → i < length xs
below_get [] i x e = absurd (none-some x e)
below_get (y ∷ ys) zero x e = omega arith
below_get (y ∷ ys) (suc i) x e = let l = below_get ys i x e in omega arith

pub length_set : {X : Type 0} (xs : List X) (i : ℕ) (y : X) → length (set xs i y) ≡ length xs
length_set [] i y = refl
length_set (x ∷ xs) zero y = refl
length_set (x ∷ xs) (suc i) y = ap suc (length_set xs i y)

-- ---- two lists

pub pairs_get : {A B : Type 0} (R : A → B → Type 0) (xs : List A) (ys : List B) (i : ℕ) (y : B) → AllZip R xs ys → slice_get ys i ≡ Some y
    → (x : A) × (slice_get xs i ≡ Some x) × R x y
pairs_get R [] [] i y all e = absurd (none-some y e)
pairs_get R [] (z ∷ ys) i y all e = absurd all
pairs_get R (x ∷ xs) [] i y all e = absurd all
pairs_get R (x ∷ xs) (z ∷ ys) zero y all e = (x, refl, subst (R x) (same_Some z y e) all.0)
pairs_get R (x ∷ xs) (z ∷ ys) (suc i) y all e = pairs_get R xs ys i y all.1 e

pub pairs_at : {A B : Type 0} (R : A → B → Type 0) (xs : List A) (ys : List B) (i : ℕ) (x : A) (y : B) → AllZip R xs ys
    → slice_get xs i ≡ Some x → slice_get ys i ≡ Some y → R x y
pairs_at R xs ys i x y all e f =
    let found = pairs_get R xs ys i y all f in
    subst (λ z. R z y) (same_Some found.0 x (sym found.1 ∙ e)) found.2

pub pairs_set : {A B : Type 0} (R : A → B → Type 0) (xs : List A) (ys : List B) (i : ℕ) (x : A) (y : B) → AllZip R xs ys
    → slice_get xs i ≡ Some x → R x y → AllZip R xs (set ys i y)
pairs_set R [] [] i x y all e h = tt
pairs_set R [] (z ∷ ys) i x y all e h = absurd all
pairs_set R (w ∷ xs) [] i x y all e h = absurd all
pairs_set R (w ∷ xs) (z ∷ ys) zero x y all e h = (subst (λ v. R v y) (sym (same_Some w x e)) h, all.1)
pairs_set R (w ∷ xs) (z ∷ ys) (suc i) x y all e h = (all.0, pairs_set R xs ys i x y all.1 e h)

pub pairs_self : {A : Type 0} (R : A → A → Type 0) (xs : List A) → ((x : A) → R x x) → AllZip R xs xs
pairs_self R [] h = tt
pairs_self R (x ∷ xs) h = (h x, pairs_self R xs h)

-- what holds of the pairs goes over to a list whose members took the place of the first ones
pub pairs_over : {A B : Type 0} (R : A → A → Type 0) (S : A → B → Type 0) (xs zs : List A) (ys : List B)
    → ((x z : A) (y : B) → R x z → S x y → S z y) → AllZip R xs zs → AllZip S xs ys → AllZip S zs ys
pairs_over R S [] [] ys h all more = more
pairs_over R S [] (z ∷ zs) ys h all more = absurd all
pairs_over R S (x ∷ xs) [] ys h all more = absurd all
pairs_over R S (x ∷ xs) (z ∷ zs) [] h all more = absurd more
pairs_over R S (x ∷ xs) (z ∷ zs) (y ∷ ys) h all more = (h x z y all.0 more.0, pairs_over R S xs zs ys h all.1 more.1)

pub pairs_find : {A B : Type 0} (R : A → B → Type 0) (xs : List A) (ys : List B) (i : ℕ) (x : A) → AllZip R xs ys → slice_get xs i ≡ Some x
    → (y : B) × (slice_get ys i ≡ Some y) × R x y
pairs_find R [] [] i x all e = absurd (none-some x e)
pairs_find R [] (z ∷ ys) i x all e = absurd all
pairs_find R (w ∷ xs) [] i x all e = absurd all
pairs_find R (w ∷ xs) (z ∷ ys) zero x all e = (z, refl, subst (λ v. R v z) (same_Some w x e) all.0)
pairs_find R (w ∷ xs) (z ∷ ys) (suc i) x all e = pairs_find R xs ys i x all.1 e

pub pairs_join : {A : Type 0} (R : A → A → Type 0) (xs ys zs : List A) → ((x y z : A) → R x y → R y z → R x z) → AllZip R xs ys → AllZip R ys zs → AllZip R xs zs
pairs_join R [] [] zs h all more = more
pairs_join R [] (y ∷ ys) zs h all more = absurd all
pairs_join R (x ∷ xs) [] zs h all more = absurd all
pairs_join R (x ∷ xs) (y ∷ ys) [] h all more = absurd more
pairs_join R (x ∷ xs) (y ∷ ys) (z ∷ zs) h all more = (h x y z all.0 more.0, pairs_join R xs ys zs h all.1 more.1)

pub pairs_replicate : {A B : Type 0} (R : A → B → Type 0) (n : ℕ) (x : A) (y : B) → R x y → AllZip R (replicate n x) (replicate n y)
pairs_replicate R zero x y h = tt
pairs_replicate R (suc n) x y h = (h, pairs_replicate R n x y h)
