-- Pieces, token by token.
use Rattle.std.proofs.Common.{◌≡◌, ℕ, ◌+◌, ◌<◌, ◌≤◌, List, [], ◌∷◌, ◌++◌, length, get_or, drop, map, codes, decimal, ap, append_assoc, drop_of_length-le}
use Rattle.std.proofs.lemmas.List.{drop_more}
use Rattle.json.specs.Token.{Token, begin_array, end_array, begin_object, end_object, key, string, number}
use Rattle.json.specs.Print.{print}
use Rattle.serde_json.specs.Data as json_data
use Rattle.serde_json.specs.View.{items_of}
use Rattle.serde_json.specs.Written.{compact_text}
use Rattle.serde_json.proofs.Texts.{print-outline}
use Rattle.druid_time.specs.Texts.{extent_text}
use Rattle.druid_timeline.specs.Pieces.{Reported}
use Rattle.druid_segment_text.specs.Tokens.{tokens_of, rest_of}
use Rattle.druid_segment_text.proofs.TokenLemmas.{begun, more, ended}
use Rattle.druid_replay.specs.Answers.{parts_data, piece_data}

-- ---- the partitions

abbrev pub part_items : List ℕ → json_data.Items
part_items parts = items_of (map (λ p. json_data.number (json_data.unsigned p)) parts)

pub parts_first : (front : List Token) (parts : List ℕ) → (front ++ begin_array ∷ []) ++ rest_of (part_items parts) ≡ front ++ tokens_of (parts_data parts)
unfolding parts_data
parts_first front parts = begun front (part_items parts)

pub part_next : (front : List Token) (parts : List ℕ) (i part : ℕ) → i < length parts → part ≡ get_or parts i part
    → (front ++ number (decimal part) ∷ []) ++ rest_of (part_items (drop (i + 1) parts)) ≡ front ++ rest_of (part_items (drop i parts))
part_next front parts i part h is =
    more front (number (decimal part) ∷ []) (json_data.number (json_data.unsigned (get_or parts i part))) (part_items (drop (i + 1) parts)) (part_items (drop i parts))
    (ap part_items (drop_more parts i part h)) (ap (λ p. number (decimal p) ∷ []) is)

pub parts_last : (front : List Token) (parts : List ℕ) (i : ℕ) → length parts ≤ i → front ++ end_array ∷ [] ≡ front ++ rest_of (part_items (drop i parts))
parts_last front parts i h = ended front (part_items (drop i parts)) (ap part_items (drop_of_length-le parts h))

-- ---- a piece

pub piece_steps : (a : Reported) (t0 t1 t2 t3 t4 t5 t6 t7 t8 t9 t10 : List Token) → t1 ≡ t0 ++ begin_object ∷ [] → t2 ≡ t1 ++ key (codes "chunk") ∷ [] → t3 ≡ t2 ++ string (extent_text a.group.interval) ∷ []
    → t4 ≡ t3 ++ key (codes "interval") ∷ [] → t5 ≡ t4 ++ string (extent_text a.interval) ∷ [] → t6 ≡ t5 ++ key (codes "parts") ∷ [] → t7 ≡ t6 ++ tokens_of (parts_data a.parts)
    → t8 ≡ t7 ++ key (codes "version") ∷ [] → t9 ≡ t8 ++ string a.group.version ∷ [] → t10 ≡ t9 ++ end_object ∷ [] → t10 ≡ t0 ++ tokens_of (piece_data a)
unfolding piece_data
piece_steps a t0 t1 t2 t3 t4 t5 t6 t7 t8 t9 t10 e1 e2 e3 e4 e5 e6 e7 e8 e9 e10 =
    rw (e10, e9, e8, e7, e6, e5, e4, e3, e2, e1) (simp append_assoc)

pub piece_printed : (a : Reported) → print (tokens_of (piece_data a)) ≡ compact_text (piece_data a)
piece_printed a = print-outline (piece_data a)
