-- What a part has of the servers that were looked at so far.
use Rattle.std.proofs.Common.{All, map, ◌≡◌, ◌∙◌, ◌++◌, ℕ, suc, ◌+◌, ◌<◌, List, [], ◌∷◌, Option, Bool, true, false, cond, filter, length, take, get_or, count_by, ap, sym, refl, subst, arith}
use Rattle.std.specs.Io.KnownBytes.{Appends}
use Rattle.std.proofs.KnownBytes.{Appends-trans}
use Rattle.std.proofs.lemmas.List.Sums.{count_by_more_yes, count_by_more_no}
use Rattle.druid_serve_base.specs.Printed.{ArePrinted}
use Rattle.druid_serve.specs.Served.{PrintsIf}
use Rattle.std.specs.List.{range_with_len}
use Rattle.std.proofs.lemmas.List.{map-id, map-append, append-nil}
use Rattle.std.proofs.lemmas.List.{length-map}
use Rattle.druid_serve.specs.declared.cluster.Listening.{Listening}
use Rattle.std.proofs.lemmas.List.FromFn.{filter_of_map_range_with_len_more}

more : (p : ℕ → Bool) (k : ℕ) → filter p (range_with_len 0 (k + 1)) ≡ filter p (range_with_len 0 k) ++ cond (p k) (k ∷ []) []
more p k =
    ap (λ xs. filter p xs) (sym (map-id (range_with_len 0 (k + 1))))
    ∙ filter_of_map_range_with_len_more p (λ x. x) 0 k k (omega arith)
    ∙ ap (λ xs. filter p xs ++ cond (p k) (k ∷ []) []) (map-id (range_with_len 0 k))

-- one more that it has
pub taken : (p : ℕ → Bool) (k : ℕ) (xs : List ℕ) → xs ≡ filter p (range_with_len 0 k) → p k ≡ true
    → xs ++ k ∷ [] ≡ filter p (range_with_len 0 (k + 1))
taken p k xs sofar has =
    ap (λ ys. ys ++ k ∷ []) sofar ∙ sym (more p k ∙ ap (λ b. filter p (range_with_len 0 k) ++ cond b (k ∷ []) []) has)

-- one more that it has not
pub passed : (p : ℕ → Bool) (k : ℕ) (xs : List ℕ) → xs ≡ filter p (range_with_len 0 k) → p k ≡ false
    → xs ≡ filter p (range_with_len 0 (k + 1))
passed p k xs sofar has =
    sofar ∙ sym (append-nil (filter p (range_with_len 0 k)))
    ∙ sym (more p k ∙ ap (λ b. filter p (range_with_len 0 k) ++ cond b (k ∷ []) []) has)

-- what is printed of one query more
one_more : (n : ℕ) → suc n ≡ n + 1
one_more n = omega arith

asked : (count : ℕ) (old mid new : Option (List ℕ)) (b : Bool) → ((text : List ℕ) × ArePrinted count text × Appends old mid text)
    → PrintsIf b mid new → (text : List ℕ) × ArePrinted (count + cond b 1 0) text × Appends old new text
asked count old mid new true (before, printed, sofar) (came, last, is, more) =
    (before ++ last, subst (λ (n : ℕ). ArePrinted n (before ++ last)) (one_more count) (before, last, came, printed, is, refl), Appends-trans old mid new before last sofar more)
asked count old mid new false (before, printed, sofar) same =
    (before, subst (λ (n : ℕ). ArePrinted n before) (omega arith) printed, subst (λ o. Appends old o before) (sym same) sofar)

counted : {X : Type 0} (p : X → Bool) (xs : List X) (k : ℕ) (d : X) (b : Bool) → k < length xs → p (get_or xs k d) ≡ b
    → count_by p (take k xs) + cond b 1 0 ≡ count_by p (take (k + 1) xs)
counted p xs k d true within is = sym (count_by_more_yes p xs k d within is)
counted p xs k d false within is = omega arith ∙ sym (count_by_more_no p xs k d within is)

pub one_asked : {X : Type 0} (p : X → Bool) (xs : List X) (k : ℕ) (d x : X) (old mid new : Option (List ℕ)) → k < length xs → x ≡ get_or xs k d
    → ((text : List ℕ) × ArePrinted (count_by p (take k xs)) text × Appends old mid text) → PrintsIf (p x) mid new
    → (text : List ℕ) × ArePrinted (count_by p (take (k + 1) xs)) text × Appends old new text
one_asked p xs k d x old mid new within is sofar prints =
    subst (λ (n : ℕ). (text : List ℕ) × ArePrinted n text × Appends old new text) (counted p xs k d (p x) within (ap p (sym is)))
    (asked (count_by p (take k xs)) old mid new (p x) sofar prints)

-- the brokers that listen are those of the part, of those that were looked at so far
pub one_listens : (p : ℕ → Bool) (k : ℕ) (xs ys : List Listening) (x : Listening) → ys ≡ xs ++ x ∷ [] → x.place ≡ k → p k ≡ true
    → map (λ l. l.place) xs ≡ filter p (range_with_len 0 k) → map (λ l. l.place) ys ≡ filter p (range_with_len 0 (k + 1))
one_listens p k xs ys x is at has sofar =
    ap (map (λ l. l.place)) is ∙ map-append (λ l. l.place) xs (x ∷ []) ∙ ap (λ m. map (λ l. l.place) xs ++ m ∷ []) at
    ∙ taken p k (map (λ l. l.place) xs) sofar has

pub one_passed : (p : ℕ → Bool) (k : ℕ) (xs ys : List Listening) → ys ≡ xs → p k ≡ false
    → map (λ l. l.place) xs ≡ filter p (range_with_len 0 k) → map (λ l. l.place) ys ≡ filter p (range_with_len 0 (k + 1))
one_passed p k xs ys is has sofar = ap (map (λ l. l.place)) is ∙ passed p k (map (λ l. l.place) xs) sofar has

-- as many as those
pub many : (xs : List Listening) (places : List ℕ) → map (λ l. l.place) xs ≡ places → length xs ≡ length places
many xs places is = sym (length-map xs (λ l. l.place)) ∙ ap (λ ys. length ys) is
