-- Answers of nodes, part by part.
use Rattle.std.proofs.Common.{◌≡◌, ℕ, ◌+◌, ◌<◌, ◌≤◌, arith, List, [], ◌∷◌, ◌++◌, length, get_or, drop, codes, decimal, ap, append_assoc, drop_of_length-le}
use Rattle.std.proofs.lemmas.List.{drop_more}
use Rattle.json.specs.Token.{Token, begin_array, end_array, begin_object, end_object, key, string, number}
use Rattle.json.specs.Print.{print}
use Rattle.serde_json.specs.Data.{Data, array}
use Rattle.serde_json.proofs.Texts.{print-outline}
use Rattle.druid_time.specs.Texts.{extent_text}
use Rattle.druid_query.specs.Asked.{Asked, asked_data}
use Rattle.druid_query.specs.SubQuery.{pieces_data}
use Rattle.druid_partial.specs.Groups.{Group}
use Rattle.druid_partial_text.specs.Written.{partial_data}
use Rattle.druid_partial.specs.Answer.{Answer}
use Rattle.druid_partial_text.specs.Answers.{answer_data, answer_text, shortfall_of}
use Rattle.std.specs.List.{AllWithin}
use Rattle.std.proofs.lemmas.List.Elements.{at_read}
use borrow.Author.Count.{below_more}
use Rattle.druid_partial_text.specs.Missed.{IsOfSegment}
use Rattle.druid_partial_text.specs.Tokens.{tokens_of, rest_of}
use Rattle.druid_partial_text.proofs.TokenLemmas.{begun, more, ended, two_joined}

-- ---- a piece

asked_joined : (t : List Token) (b c d i j p q v w e : Token)
    → (((((((((t ++ b ∷ []) ++ c ∷ []) ++ d ∷ []) ++ i ∷ []) ++ j ∷ []) ++ p ∷ []) ++ q ∷ []) ++ v ∷ []) ++ w ∷ []) ++ e ∷ [] ≡ t ++ b ∷ c ∷ d ∷ i ∷ j ∷ p ∷ q ∷ v ∷ w ∷ e ∷ []
asked_joined t b c d i j p q v w e = simp append_assoc

pub asked_steps : (a : Asked) (t0 t1 t2 t3 t4 t5 t6 t7 t8 t9 t10 : List Token) → t1 ≡ t0 ++ begin_object ∷ [] → t2 ≡ t1 ++ key (codes "chunk") ∷ [] → t3 ≡ t2 ++ string (extent_text a.0.interval) ∷ []
    → t4 ≡ t3 ++ key (codes "itvl") ∷ [] → t5 ≡ t4 ++ string (extent_text a.1) ∷ [] → t6 ≡ t5 ++ key (codes "part") ∷ [] → t7 ≡ t6 ++ number (decimal a.0.partition) ∷ []
    → t8 ≡ t7 ++ key (codes "ver") ∷ [] → t9 ≡ t8 ++ string a.0.version ∷ [] → t10 ≡ t9 ++ end_object ∷ [] → t10 ≡ t0 ++ tokens_of (asked_data a)
unfolding asked_data
asked_steps a t0 t1 t2 t3 t4 t5 t6 t7 t8 t9 t10 e1 e2 e3 e4 e5 e6 e7 e8 e9 e10 =
    rw (e10, e9, e8, e7, e6, e5, e4, e3, e2, e1)
    (asked_joined t0 begin_object (key (codes "chunk")) (string (extent_text a.0.interval)) (key (codes "itvl")) (string (extent_text a.1)) (key (codes "part")) (number (decimal a.0.partition))
    (key (codes "ver")) (string a.0.version) end_object)

-- ---- pieces

pub pieces_first : (front : List Token) (asked : List Asked) → (front ++ begin_array ∷ []) ++ rest_of (pieces_data asked) ≡ front ++ tokens_of (array (pieces_data asked))
pieces_first front asked = begun front (pieces_data asked)

pub piece_next : (front : List Token) (asked : List Asked) (i : ℕ) (a : Asked) → i < length asked → a ≡ get_or asked i a
    → (front ++ tokens_of (asked_data a)) ++ rest_of (pieces_data (drop (i + 1) asked)) ≡ front ++ rest_of (pieces_data (drop i asked))
piece_next front asked i a h is =
    more front (tokens_of (asked_data a)) (asked_data (get_or asked i a)) (pieces_data (drop (i + 1) asked)) (pieces_data (drop i asked))
    (ap pieces_data (drop_more asked i a h)) (ap (λ y. tokens_of (asked_data y)) is)

pub pieces_last : (front : List Token) (asked : List Asked) (i : ℕ) → length asked ≤ i → front ++ end_array ∷ [] ≡ front ++ rest_of (pieces_data (drop i asked))
pieces_last front asked i h = ended front (pieces_data (drop i asked)) (ap pieces_data (drop_of_length-le asked h))

-- ---- an answer

pub answer_steps : (missing : List Asked) (groups : List Group) (t0 t1 t2 t3 t4 t5 t6 : List Token) → t1 ≡ t0 ++ begin_object ∷ [] → t2 ≡ t1 ++ key (codes "missing") ∷ []
    → t3 ≡ t2 ++ tokens_of (array (pieces_data missing)) → t4 ≡ t3 ++ key (codes "rows") ∷ [] → t5 ≡ t4 ++ tokens_of (partial_data groups) → t6 ≡ t5 ++ end_object ∷ []
    → t6 ≡ t0 ++ tokens_of (answer_data missing groups)
answer_steps missing groups t0 t1 t2 t3 t4 t5 t6 e1 e2 e3 e4 e5 e6 =
    rw (e6, e5, e4, e3, e2, e1)
    (two_joined t0 begin_object (key (codes "missing")) (key (codes "rows")) end_object (tokens_of (array (pieces_data missing))) (tokens_of (partial_data groups)))

pub answer_printed : (a : Answer) → print (tokens_of (answer_data a.missing a.partial.groups)) ≡ answer_text a
answer_printed a = print-outline (answer_data a.missing a.partial.groups)

-- one more piece is of a segment
pub within_more : (asked : List Asked) (i : ℕ) (a : Asked) → i < length asked → a ≡ get_or asked i a → IsOfSegment a → AllWithin IsOfSegment asked 0 i → AllWithin IsOfSegment asked 0 (i + 1)
within_more asked i a h is one before k d low below =
    below_more (λ (n : ℕ). (e : Asked) → IsOfSegment (get_or asked n e)) i (λ n l e. before n e (omega arith) l) (at_read asked IsOfSegment i a h is one) k below d

-- ---- what a client gets where pieces are missing

shortfall_joined : (t : List Token) (b k s m r e : Token) (p g : List Token)
    → (((((((t ++ b ∷ []) ++ k ∷ []) ++ s ∷ []) ++ m ∷ []) ++ p) ++ r ∷ []) ++ g) ++ e ∷ [] ≡ t ++ b ∷ k ∷ s ∷ m ∷ (p ++ r ∷ (g ++ e ∷ []))
shortfall_joined t b k s m r e p g = simp append_assoc

pub shortfall_steps : (missing : List Asked) (rows : Data) (t0 t1 t2 t3 t4 t5 t6 t7 t8 : List Token) → t1 ≡ t0 ++ begin_object ∷ [] → t2 ≡ t1 ++ key (codes "error") ∷ []
    → t3 ≡ t2 ++ string (codes "SegmentsMissing") ∷ [] → t4 ≡ t3 ++ key (codes "missing") ∷ [] → t5 ≡ t4 ++ tokens_of (array (pieces_data missing))
    → t6 ≡ t5 ++ key (codes "partial") ∷ [] → t7 ≡ t6 ++ tokens_of rows → t8 ≡ t7 ++ end_object ∷ [] → t8 ≡ t0 ++ tokens_of (shortfall_of missing rows)
shortfall_steps missing rows t0 t1 t2 t3 t4 t5 t6 t7 t8 e1 e2 e3 e4 e5 e6 e7 e8 =
    rw (e8, e7, e6, e5, e4, e3, e2, e1)
    (shortfall_joined t0 begin_object (key (codes "error")) (string (codes "SegmentsMissing")) (key (codes "missing")) (key (codes "partial")) end_object
    (tokens_of (array (pieces_data missing))) (tokens_of rows))
