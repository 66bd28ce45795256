-- The text of an answer of a node is JSON that reads as the answer's.
use Rattle.std.proofs.Common.{◌≡◌, ℕ, ◌≤◌, arith, List, All, Some, option_map, codes, refl, ap}
use Rattle.json.specs.Lex.{tokens}
use Rattle.json.specs.Tree as tree
use Rattle.serde_json.specs.Data.{Data, array, object, member, no_members}
use Rattle.serde_json.specs.Read.{read, of_json}
use Rattle.serde_json.specs.Written.{outline}
use Rattle.serde_json.proofs.Numbers.{number_of-decimal}
use Rattle.druid_query.specs.Asked.{Asked, asked_data}
use Rattle.druid_query.specs.SubQuery.{pieces_data}
use Rattle.druid_partial.specs.Groups.{Group}
use Rattle.druid_partial_text.specs.Written.{IsHeld, partial_data}
use Rattle.druid_partial_text.specs.Answers.{answer_data}
use Rattle.druid_partial_text.specs.Tokens.{tokens_of}
use Rattle.druid_partial_text.specs.Missed.{IsOfSegment}
use Rattle.druid_segment_text.proofs.WrittenLemmas.{read_tokens}
use Rattle.druid_partial_text.proofs.TextBackLemmas.{items_read, items_shallow, partial_reads, partial_shallow}

asked_reads : (a : Asked) → IsOfSegment a → of_json (outline (asked_data a)) ≡ Some (asked_data a)
unfolding asked_data
asked_reads a id = let part = number_of-decimal a.0.partition (omega (arith, id.identified.partition)) in rw part refl

asked_shallow : (a : Asked) → tree.depth (outline (asked_data a)) ≤ 1
unfolding asked_data
asked_shallow a = omega arith

pieces_read : (missing : List Asked) → All IsOfSegment missing → of_json (outline (array (pieces_data missing))) ≡ Some (array (pieces_data missing))
pieces_read missing ids = ap (option_map array) (items_read asked_data IsOfSegment asked_reads missing ids)

pieces_shallow : (missing : List Asked) → tree.depth (outline (array (pieces_data missing))) ≤ 2
pieces_shallow missing = omega (arith, items_shallow asked_data 1 asked_shallow missing)

two_read : (a b : Data) → of_json (outline a) ≡ Some a → of_json (outline b) ≡ Some b
    → of_json (outline (object (member (codes "missing") a (member (codes "rows") b no_members)))) ≡ Some (object (member (codes "missing") a (member (codes "rows") b no_members)))
two_read a b first second = rw (first, second) refl

two_shallow : (a b : Data) → tree.depth (outline a) ≤ 2 → tree.depth (outline b) ≤ 3 → tree.depth (outline (object (member (codes "missing") a (member (codes "rows") b no_members)))) ≤ 4
two_shallow a b first second = omega arith

-- what was written of an answer is read as it
pub answer_read : (missing : List Asked) (groups : List Group) (text : List ℕ) → All IsOfSegment missing → All IsHeld groups → tokens text ≡ tokens_of (answer_data missing groups)
    → read text ≡ Some (answer_data missing groups)
answer_read missing groups text ids held same =
    let shallow = two_shallow (array (pieces_data missing)) (partial_data groups) (pieces_shallow missing) (partial_shallow groups) in
    read_tokens (answer_data missing groups) text same
    (two_read (array (pieces_data missing)) (partial_data groups) (pieces_read missing ids) (partial_reads groups held))
    (omega (arith, shallow))
