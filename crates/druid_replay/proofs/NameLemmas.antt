-- Names that are borrowed.
use Rattle.std.proofs.Common.{◌≡◌, ℕ, ◌+◌, ◌<◌, ◌≤◌, List, [], ◌∷◌, ◌++◌, length, take, get_or, All, subst, ap, ◌∙◌, arith, take_all}
use Rattle.std.proofs.lemmas.Grind.{common_steps}
use Rattle.std.proofs.lemmas.List.{take_more, get_or-map, length-map}
use Rattle.std.proofs.lemmas.List.Elements.{All-get_or, All-same, All-push}
use Rattle.serde_json.specs.declared.value.Value.{Value}
use Rattle.druid_segment_id.specs.Names.{IsName}
use Rattle.druid_replay.specs.Seen.{text_in, texts_in}

-- one of them is no name
pub not_all : (vs : List Value) (i : ℕ) (v : Value) → i < length vs → (IsName (text_in (get_or vs i v)) → ⊥) → All IsName (texts_in vs) → ⊥
not_all vs i v h bad all =
    bad (subst IsName (get_or-map text_in vs i v (text_in v) h) (All-get_or IsName (texts_in vs) i (text_in v) (omega (arith, length-map vs text_in)) all))

-- one more
pub names_more : (vs : List Value) (i : ℕ) (v : Value) → i < length vs → texts_in (take (i + 1) vs) ≡ texts_in (take i vs) ++ text_in (get_or vs i v) ∷ []
names_more vs i v h = rw (take_more vs i v h) (grind (arith, common_steps))

pub one_more : (vs : List Value) (i : ℕ) (v : Value) (t : List ℕ) → i < length vs → v ≡ get_or vs i v → t ≡ text_in v → IsName t → All IsName (texts_in (take i vs)) → All IsName (texts_in (take (i + 1) vs))
one_more vs i v t h is text name all =
    All-same IsName (texts_in (take (i + 1) vs)) (texts_in (take i vs) ++ text_in (get_or vs i v) ∷ []) (names_more vs i v h)
    (All-push IsName (texts_in (take i vs)) (text_in (get_or vs i v)) all (subst IsName (text ∙ ap text_in is) name))

pub all_of : (vs : List Value) (i : ℕ) → length vs ≤ i → All IsName (texts_in (take i vs)) → All IsName (texts_in vs)
all_of vs i h all = subst (λ (ws : List Value). All IsName (texts_in ws)) (take_all i vs h) all
