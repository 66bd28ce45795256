-- JSON lists read item by item.
use Rattle.std.proofs.Common.{◌≡◌, ℕ, zero, suc, subst, ◌+◌, ◌<◌, ◌≤◌, List, [], ◌∷◌, ◌++◌, length, get_or, drop, Option, Some, None, option_map, refl, sym, ap, ◌∙◌, append_assoc, drop_of_length-le, true, false, Bool, ◌&&◌, is_some, arith, map, Contains}
use Rattle.std.specs.List.{list_all}
use Rattle.std.proofs.lemmas.Option.{same_Some}
use Rattle.std.proofs.lemmas.List.{drop_more}
use Rattle.serde_json.specs.Data.{Data, Items, no_items, item}
use Rattle.serde_json.specs.View.{view, items_view, items_of}
use Rattle.serde_json.specs.declared.value.Value.{Value}
use Rattle.druid_base.specs.Options.{◌>>=◌}
use Rattle.druid_base.specs.Each.{each_of}
use Rattle.druid_base.proofs.MemberLemmas.{Contains-later, Contains-nil}

-- what was read, and then what the rest reads as
abbrev pub with_front : {A : Type 0} → List A → Option (List A) → Option (List A)
with_front front rest = option_map (λ xs. front ++ xs) rest

front_of_one : {A : Type 0} (front : List A) (x : A) (rest : Option (List A)) → with_front (front ++ x ∷ []) rest ≡ with_front front (Some x >>= λ y. rest >>= λ ys. Some (y ∷ ys))
front_of_one front x None = refl
front_of_one front x (Some xs) = ap Some (append_assoc front (x ∷ []) xs)

-- one more item was read
pub each_of_more : {A : Type 0} (f : Data → Option A) (front : List A) (vs : List Value) (i : ℕ) (v : Value) (x : A) → i < length vs → v ≡ get_or vs i v → f (view v) ≡ Some x → with_front (front ++ x ∷ []) (each_of f (items_view (drop (i + 1) vs))) ≡ with_front front (each_of f (items_view (drop i vs)))
each_of_more f front vs i v x h is read =
    front_of_one front x (each_of f (items_view (drop (i + 1) vs)))
    ∙ ap (λ o. with_front front (o >>= λ y. each_of f (items_view (drop (i + 1) vs)) >>= λ ys. Some (y ∷ ys))) (sym read ∙ ap (λ w. f (view w)) is)
    ∙ sym (ap (λ (ws : List Value). with_front front (each_of f (items_view ws))) (drop_more vs i v h))

-- an item does not read
pub each_of_refused : {A : Type 0} (f : Data → Option A) (front : List A) (vs : List Value) (i : ℕ) (v : Value) → i < length vs → v ≡ get_or vs i v → f (view v) ≡ None → with_front front (each_of f (items_view (drop i vs))) ≡ None
each_of_refused f front vs i v h is read =
    ap (λ (ws : List Value). with_front front (each_of f (items_view ws))) (drop_more vs i v h)
    ∙ ap (λ o. with_front front (o >>= λ y. each_of f (items_view (drop (i + 1) vs)) >>= λ ys. Some (y ∷ ys))) (ap (λ w. f (view w)) (sym is) ∙ read)

-- whether each reads
abbrev pub Reads : {A : Type 0} → (Data → Option A) → List Value → Bool
Reads f vs = list_all (λ v. is_some (f (view v))) vs

some_or_not : {A : Type 0} (f : Data → Option A) (o : Option A) (vs : List Value) → (Reads f vs ≡ true → (xs : List A) × (each_of f (items_view vs) ≡ Some xs))
    → (is_some o && Reads f vs) ≡ true → (xs : List A) × ((o >>= λ y. each_of f (items_view vs) >>= λ ys. Some (y ∷ ys)) ≡ Some xs)
some_or_not f None vs rest all = absurd cc
some_or_not f (Some x) vs rest all = let r = rest all in (x ∷ r.0, ap (λ q. q >>= λ ys. Some (x ∷ ys)) r.1)

pub all_read : {A : Type 0} (f : Data → Option A) (vs : List Value) → Reads f vs ≡ true → (xs : List A) × (each_of f (items_view vs) ≡ Some xs)
all_read f [] all = ([], refl)
all_read f (v ∷ vs) all = some_or_not f (f (view v)) vs (all_read f vs) all

none_of : {A : Type 0} (f : Data → Option A) (o : Option A) (vs : List Value) → (Reads f vs ≡ false → each_of f (items_view vs) ≡ None)
    → (is_some o && Reads f vs) ≡ false → (o >>= λ y. each_of f (items_view vs) >>= λ ys. Some (y ∷ ys)) ≡ None
none_of f None vs rest all = refl
none_of f (Some x) vs rest all = ap (λ q. q >>= λ ys. Some (x ∷ ys)) (rest all)

pub not_all_read : {A : Type 0} (f : Data → Option A) (vs : List Value) → Reads f vs ≡ false → each_of f (items_view vs) ≡ None
not_all_read f [] all = absurd cc
not_all_read f (v ∷ vs) all = none_of f (f (view v)) vs (not_all_read f vs) all

length_next : {A : Type 0} (o : Option A) (rest : Option (List A)) (n : ℕ) (xs : List A) → ((ys : List A) → rest ≡ Some ys → length ys ≡ n)
    → (o >>= λ y. rest >>= λ ys. Some (y ∷ ys)) ≡ Some xs → length xs ≡ n + 1
length_next None rest n xs again read = absurd cc
length_next (Some x) None n xs again read = absurd cc
length_next (Some x) (Some ys) n xs again read =
    let same : x ∷ ys ≡ xs = same_Some (x ∷ ys) xs read in omega (arith, ap length same, again ys refl)

-- there are as many as items
pub each_of_length : {A : Type 0} (f : Data → Option A) (vs : List Value) (xs : List A) → each_of f (items_view vs) ≡ Some xs → length xs ≡ length vs
each_of_length f [] xs read = ap length (sym (same_Some [] xs read))
each_of_length f (v ∷ vs) xs read =
    omega (arith, length_next (f (view v)) (each_of f (items_view vs)) (length vs) xs (λ ys r. each_of_length f vs ys r) read)

-- all items were read
pub each_of_last : {A : Type 0} (f : Data → Option A) (front : List A) (vs : List Value) (i : ℕ) → length vs ≤ i → with_front front (each_of f (items_view (drop i vs))) ≡ Some (front ++ [])
each_of_last f front vs i h = ap (λ (ws : List Value). with_front front (each_of f (items_view ws))) (drop_of_length-le vs h)

-- each reads as what it was written for
pub each_back : {A : Type 0} (f : A → Data) (g : Data → Option A) (xs : List A) → ((x : A) → Contains xs x → g (f x) ≡ Some x) → each_of g (items_of (map f xs)) ≡ Some xs
each_back f g [] all = refl
each_back f g (x ∷ xs) all =
    ap (λ o. o >>= λ y. each_of g (items_of (map f xs)) >>= λ ys. Some (y ∷ ys)) (all x (0, omega arith, refl))
    ∙ ap (λ o. o >>= λ ys. Some (x ∷ ys)) (each_back f g xs (λ y in_it. all y (Contains-later x xs y in_it)))

all_next : {A : Type 0} (first : Option A) (rest : Option (List A)) → (is_some first && is_some rest) ≡ is_some (first >>= λ x. rest >>= λ xs. Some (x ∷ xs))
all_next None rest = refl
all_next (Some x) None = refl
all_next (Some x) (Some xs) = refl

-- each item reads
pub all_reads : {A : Type 0} (f : Data → Option A) (vs : List Value) → list_all (λ v. is_some (f (view v))) vs ≡ is_some (each_of f (items_view vs))
all_reads f [] = refl
all_reads f (v ∷ vs) = ap (λ b. is_some (f (view v)) && b) (all_reads f vs) ∙ all_next (f (view v)) (each_of f (items_view vs))

sound_next : {A : Type 0} (P : A → Type 0) (first : Option A) (rest : Option (List A)) (xs : List A) → ((x : A) → first ≡ Some x → P x) → ((ys : List A) → rest ≡ Some ys → (y : A) → Contains ys y → P y)
    → (first >>= λ y. rest >>= λ ys. Some (y ∷ ys)) ≡ Some xs → (x : A) → Contains xs x → P x
sound_next P None rest xs one more h = absurd cc
sound_next P (Some x) None xs one more h = absurd cc
sound_next {A} P (Some x) (Some ys) xs one more h = subst (λ (zs : List A). (z : A) → Contains zs z → P z) (same_Some (x ∷ ys) xs h) each
  where
    each : (z : A) → Contains (x ∷ ys) z → P z
    each z (zero, below, at) = subst P at (one x refl)
    each z (suc k, below, at) = more ys refl z (k, omega arith, at)

-- what each item reads as, each of the list is
pub each_sound : {A : Type 0} (P : A → Type 0) (f : Data → Option A) → ((d : Data) (x : A) → f d ≡ Some x → P x) → (ds : Items) (xs : List A) → each_of f ds ≡ Some xs → (x : A) → Contains xs x → P x
each_sound P f one no_items xs h x there = absurd (Contains-nil x (subst (λ zs. Contains zs x) (sym (same_Some [] xs h)) there))
each_sound P f one (item d ds) xs h x there = sound_next P (f d) (each_of f ds) xs (one d) (λ ys r. each_sound P f one ds ys r) h x there
