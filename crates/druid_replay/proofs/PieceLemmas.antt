-- The line of pieces, part by part.
use Rattle.std.proofs.Common.{◌≡◌, ℕ, ◌+◌, ◌<◌, ◌≤◌, Bool, true, false, nat_lt, List, [], ◌∷◌, ◌++◌, length, get_or, drop, map, codes, append_assoc, length-append, drop_of_length-le, arith, sym, ap, ◌∙◌}
use Rattle.std.proofs.lemmas.List.{drop_more}
use Rattle.std.proofs.lemmas.Bool.{lt-ltb}
use Rattle.serde_json.proofs.OnLiterals.{serde_json_on_literals}
use Rattle.serde_json.specs.View.{items_of}
use Rattle.serde_json.specs.Written.{compact_text, items_text, comma_if}
use Rattle.druid_timeline.specs.Pieces.{Reported}
use Rattle.druid_replay.specs.Answers.{piece_data, pieces_data, answer_data, line_text}
use Rattle.druid_replay.specs.declared.answer.CommandAnswer.TheVariants.{Found}

-- the line from these pieces on
abbrev pub rest_of : Bool → List Reported → List ℕ
rest_of later ps = items_text later (items_of (map piece_data ps)) ++ 125 ∷ 10 ∷ []

pub found_line : (ps : List Reported) → line_text (Found ps) ≡ codes "{\"pieces\":[" ++ rest_of false ps
unfolding answer_data pieces_data serde_json_on_literals
found_line ps = ap (λ (l : List ℕ). codes "{\"pieces\":[" ++ l) (append_assoc (items_text false (items_of (map piece_data ps))) (125 ∷ []) (10 ∷ []))

first_piece : (later : Bool) (p : Reported) (ps : List Reported) → rest_of later (p ∷ ps) ≡ (comma_if later ++ compact_text (piece_data p)) ++ rest_of true ps
first_piece later p ps =
    append_assoc (comma_if later) (compact_text (piece_data p) ++ items_text true (items_of (map piece_data ps))) (125 ∷ 10 ∷ [])
    ∙ ap (λ (l : List ℕ). comma_if later ++ l) (append_assoc (compact_text (piece_data p)) (items_text true (items_of (map piece_data ps))) (125 ∷ 10 ∷ []))
    ∙ sym (append_assoc (comma_if later) (compact_text (piece_data p)) (rest_of true ps))

-- the piece at a place, and what is after it
pub piece_next : (later : Bool) (ps : List Reported) (i : ℕ) (p : Reported) → i < length ps → p ≡ get_or ps i p → rest_of later (drop i ps) ≡ (comma_if later ++ compact_text (piece_data p)) ++ rest_of (nat_lt 0 (i + 1)) (drop (i + 1) ps)
piece_next later ps i p h is =
    ap (rest_of later) (drop_more ps i p h)
    ∙ first_piece later (get_or ps i p) (drop (i + 1) ps)
    ∙ ap (λ (q : Reported). (comma_if later ++ compact_text (piece_data q)) ++ rest_of true (drop (i + 1) ps)) (sym is)
    ∙ ap (λ (b : Bool). (comma_if later ++ compact_text (piece_data p)) ++ rest_of b (drop (i + 1) ps)) (sym (lt-ltb 0 (i + 1) (omega arith)))

pub piece_last : (later : Bool) (ps : List Reported) (i : ℕ) → length ps ≤ i → rest_of later (drop i ps) ≡ codes "]}\n"
piece_last later ps i h = ap (rest_of later) (drop_of_length-le ps h)

-- the text of a piece has a byte
pub piece_some : (later : Bool) (p : Reported) → 0 < length (comma_if later ++ compact_text (piece_data p))
unfolding piece_data
piece_some later p = omega (arith, length-append (comma_if later) (compact_text (piece_data p)))
