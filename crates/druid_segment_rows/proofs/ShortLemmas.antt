-- Texts that are short, one more at a time.
use Rattle.std.proofs.Common.{◌≡◌, ◌∙◌, ℕ, ◌+◌, ◌<◌, ◌≤◌, List, [], ◌∷◌, ◌++◌, length, take, get_or, Option, IfSome, option_map, sym, ap, subst}
use Rattle.std.proofs.lemmas.List.{map_push, get_or-map, length-map, take_more}
use Rattle.std.proofs.lemmas.List.Elements.{All-nil, All-push}
use Rattle.druid_segment_rows.specs.Rows.{texts_by, max_value, AreShort}

-- the texts of one more value
pub texts_more : {T : Type 0} (text : T → List ℕ) (values : List (Option T)) (i : ℕ) (value : Option T) → i < length values → value ≡ get_or values i value → texts_by text (take (i + 1) values) ≡ texts_by text (take i values) ++ option_map text value ∷ []
texts_more {T} text values i value h e =
    ap (texts_by text) (take_more values i value h) ∙ map_push (option_map text) (take i values) (get_or values i value) ∙ ap (λ (v : Option T). texts_by text (take i values) ++ option_map text v ∷ []) (sym e)

pub none_short : AreShort []
none_short = All-nil (λ value. IfSome value (λ text. length text ≤ max_value))

pub one_short : {T : Type 0} (text : T → List ℕ) (values : List (Option T)) (i : ℕ) (value : Option T) → i < length values → value ≡ get_or values i value → AreShort (texts_by text (take i values)) → IfSome (option_map text value) (λ t. length t ≤ max_value) → AreShort (texts_by text (take (i + 1) values))
one_short text values i value lt is all this =
    subst AreShort (sym (texts_more text values i value lt is)) (All-push (λ value. IfSome value (λ t. length t ≤ max_value)) (texts_by text (take i values)) (option_map text value) all this)

pub one_long : {T : Type 0} (text : T → List ℕ) (values : List (Option T)) (i : ℕ) (value : Option T) → i < length values → value ≡ get_or values i value → AreShort (texts_by text values) → ¬ (IfSome (option_map text value) (λ t. length t ≤ max_value)) → ⊥
one_long {T} text values i value lt is all long =
    long (subst (λ v. IfSome v (λ t. length t ≤ max_value)) (get_or-map (option_map text) values i value (option_map text value) lt ∙ ap (option_map text) (sym is)) (all i (option_map text value) (rw length-map lt)))
