-- No answer has a float.
use Rattle.std.proofs.Common.{◌≡◌, List, [], ◌∷◌, map, false, refl}
use Rattle.serde_json.specs.View.{items_of}
use Rattle.serde_json.specs.Written.{has_float, items_have_float}
use Rattle.druid_timeline.specs.Pieces.{Reported}
use Rattle.druid_segment_descriptor.specs.Mark.{Point}
use Rattle.druid_segment_text.specs.Json.{mark_data}
use Rattle.druid_replay.specs.Answers.{marks_data, answer_data}
use Rattle.druid_replay.specs.Seen.{HasNoPieces}
use Rattle.druid_replay.specs.declared.answer.CommandAnswer.{CommandAnswer}
use Rattle.druid_replay.specs.declared.answer.CommandAnswer.TheVariants.{Refused, Taken, Stepped, Found, Marked, Joined, Compared}

marks_plain : (ms : List Point) → items_have_float (items_of (map mark_data ms)) ≡ false
unfolding mark_data
marks_plain [] = refl
marks_plain (m ∷ ms) = marks_plain ms

pub answer_plain : (a : CommandAnswer) → HasNoPieces a → has_float (answer_data a) ≡ false
unfolding answer_data mark_data marks_data
answer_plain (Refused refusal) h = refl
answer_plain (Taken count) h = refl
answer_plain (Stepped mark outcome) h = refl
answer_plain (Found pieces) h = absurd h
answer_plain (Marked marks) h = rw (marks_plain marks) refl
answer_plain (Joined broker) h = refl
answer_plain (Compared same) h = refl

-- an answer that is none of pieces
pub no_pieces : (a : CommandAnswer) → ((pieces : List Reported) → a ≡ Found pieces → ⊥) → HasNoPieces a
no_pieces (Refused refusal) h = tt
no_pieces (Taken count) h = tt
no_pieces (Stepped mark outcome) h = tt
no_pieces (Found pieces) h = h pieces refl
no_pieces (Marked marks) h = tt
no_pieces (Joined broker) h = tt
no_pieces (Compared same) h = tt
