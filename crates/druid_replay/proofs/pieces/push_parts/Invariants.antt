use Rattle.std.proofs.Common.{◌≡◌, ◌++◌, drop}
use Rattle.druid_segment_text.specs.Tokens.{tokens_of, rest_of}
use Rattle.druid_replay.specs.Answers.{parts_data}
use Rattle.druid_replay.proofs.TokenLemmas.{part_items}
use Rattle.druid_replay.proofs.pieces.push_parts.Given as goal

abbrev pub invariant-loop-part : goal.invariant-loop-part
invariant-loop-part l =
    (l.out.before ≡ l.fn.out.before)
    × (l.out.tokens ++ rest_of (part_items (drop l.part-index l.parts)) ≡ l.fn.out.tokens ++ tokens_of (parts_data l.parts))
