-- Lists that have a member, each of which reads.
use Rattle.std.proofs.Common.{◌≡◌, ◌==◌, List, [], ◌∷◌, length, Option, Some, None, refl, sym, ap, ◌∙◌, true, false, Bool, is_some, arith, if◌then◌else◌}
use Rattle.std.specs.List.{list_all}
use Rattle.std.proofs.lemmas.Bool.Decides.{nat_tests}
use Rattle.serde_json.specs.Data.{Data, Items}
use Rattle.serde_json.specs.View.{view, items_view}
use Rattle.serde_json.specs.declared.value.Value.{Value}
use Rattle.druid_base.specs.Each.{each_of}
use Rattle.druid_base.proofs.EachLemmas.{all_reads}
use Rattle.druid_query.specs.Fields.{each_among}
use Rattle.druid_query.specs.Asked.{spelled_at}

pub some_of : {A : Type 0} (x : A) (xs : List A) → (length (x ∷ xs) == 0) ≡ false
some_of x xs = grind (arith, nat_tests)

chosen : {A : Type 0} (o : Option (List A)) (items : Items) (b : Bool) → is_some o ≡ b → (if is_some o then Some items else None) ≡ (if b then Some items else None)
chosen o items b h = ap (λ t. if t then Some items else None) h

pub among : {A : Type 0} (f : Data → Option A) (vs : List Value) → (length vs == 0) ≡ false → list_all (λ v. is_some (f (view v))) vs ≡ true → Some (items_view vs) ≡ each_among f (items_view vs)
among f [] some each = absurd (cc)
among f (v ∷ vs) some each =
    sym (chosen (each_of f (items_view (v ∷ vs))) (items_view (v ∷ vs)) true (sym (all_reads f (v ∷ vs)) ∙ each))

pub none_among : {A : Type 0} (f : Data → Option A) (vs : List Value) → (length vs == 0) ≡ true → None ≡ each_among f (items_view vs)
none_among f [] none = refl
none_among f (v ∷ vs) none = let some = some_of v vs in absurd (cc)

pub not_among : {A : Type 0} (f : Data → Option A) (vs : List Value) → list_all (λ v. is_some (f (view v))) vs ≡ false → None ≡ each_among f (items_view vs)
not_among f [] each = refl
not_among f (v ∷ vs) each =
    sym (chosen (each_of f (items_view (v ∷ vs))) (items_view (v ∷ vs)) false (sym (all_reads f (v ∷ vs)) ∙ each))

pub pieces_there : (vs : List Value) → (length vs == 0) ≡ false → list_all (λ v. is_some (spelled_at (view v))) vs ≡ true → Some (items_view vs) ≡ each_among spelled_at (items_view vs)
pieces_there vs some each = among spelled_at vs some each

pub no_pieces : (vs : List Value) → (length vs == 0) ≡ true → None ≡ each_among spelled_at (items_view vs)
no_pieces vs none = none_among spelled_at vs none

pub not_pieces : (vs : List Value) → list_all (λ v. is_some (spelled_at (view v))) vs ≡ false → None ≡ each_among spelled_at (items_view vs)
not_pieces vs each = not_among spelled_at vs each
