use Rattle.std.proofs.Common.{◌≡◌, ◌++◌, drop}
use Rattle.std.specs.List.{AllWithin}
use Rattle.druid_partial_text.specs.Missed.{IsOfSegment}
use Rattle.serde_json.specs.Data.{array}
use Rattle.druid_query.specs.SubQuery.{pieces_data}
use Rattle.druid_partial_text.specs.Tokens.{tokens_of, rest_of}
use Rattle.druid_partial_text.proofs.answer_writer.push_pieces.Given as goal

abbrev pub invariant-loop-piece : goal.invariant-loop-piece
invariant-loop-piece l =
    (l.out.before ≡ l.fn.out.before) × AllWithin IsOfSegment l.asked 0 l.piece-index
    × (l.out.tokens ++ rest_of (pieces_data (drop l.piece-index l.asked)) ≡ l.fn.out.tokens ++ tokens_of (array (pieces_data l.asked)))
