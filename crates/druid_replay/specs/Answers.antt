-- The JSON that answers a command.
use Rattle.std.specs.Prelude.{ℕ, List, [], ◌∷◌, ◌++◌, map, codes}
use Rattle.serde_json.specs.Data.{Data, object, member, no_members, array, boolean, number, unsigned, string}
use Rattle.serde_json.specs.View.{items_of}
use Rattle.serde_json.specs.Written.{compact_text}
use Rattle.druid_time.specs.Texts.{extent_text}
use Rattle.druid_segment_descriptor.specs.Mark.{Point}
use Rattle.druid_segment_text.specs.Json.{mark_data}
use Rattle.druid_timeline.specs.Pieces.{Reported}
use Rattle.druid_inventory.specs.declared.fault.Outcome.{Outcome}
use Rattle.druid_inventory.specs.declared.fault.Outcome.TheVariants.{Moved, AlreadyHave, AskWhole, AskPages}
use Rattle.druid_replay.specs.declared.answer.Refusal.{Refusal}
use Rattle.druid_replay.specs.declared.answer.Refusal.TheVariants as refusals
use Rattle.druid_replay.specs.declared.answer.CommandAnswer.{CommandAnswer}
use Rattle.druid_replay.specs.declared.answer.CommandAnswer.TheVariants.{Refused, Taken, Stepped, Found, Marked, Joined, Compared}

-- the code that tells a refusal
abbrev pub code_of : Refusal → List ℕ
code_of refusals.NotATime = codes "C1"
code_of refusals.OutOfRange = codes "C2"
code_of refusals.Empty = codes "C3"
code_of refusals.BadName = codes "I1"
code_of refusals.DoubledNode = codes "V1"
code_of refusals.Shape = codes "Y2"
code_of refusals.TooMany = codes "Y5"
code_of refusals.LengthOfDelta = codes "Y3"
code_of refusals.DoubledSegment = codes "Y4"
code_of refusals.BadPage = codes "Y7"
code_of refusals.UnknownNode = codes "A1"
code_of refusals.OtherIncarnation = codes "A3"
code_of refusals.Gap = codes "A2"
code_of refusals.NotStrict = codes "A4"
code_of refusals.TooManySegments = codes "A6"
code_of refusals.Conflict = codes "A5"
code_of refusals.PageConflict = codes "A7"
code_of refusals.OtherNodes = codes "J1"
code_of refusals.OtherSets = codes "J2"

abbrev pub outcome_text : Outcome → List ℕ
outcome_text Moved = codes "Moved"
outcome_text AlreadyHave = codes "AlreadyHave"
outcome_text AskWhole = codes "AskWhole"
outcome_text AskPages = codes "AskPages"

-- an object of one member
abbrev pub lone : List ℕ → Data → Data
lone key d = object (member key d no_members)

unfoldable pub parts_data : List ℕ → Data
parts_data parts = array (items_of (map (λ p. number (unsigned p)) parts))

-- `chunk` is the interval of the chunk that is visible, and `interval` the stretch where it is
unfoldable pub piece_data : Reported → Data
piece_data piece =
    object (member (codes "chunk") (string (extent_text piece.group.interval))
    (member (codes "interval") (string (extent_text piece.interval))
    (member (codes "parts") (parts_data piece.parts)
    (member (codes "version") (string piece.group.version) no_members))))

unfoldable pub pieces_data : List Reported → Data
pieces_data pieces = array (items_of (map piece_data pieces))

unfoldable pub marks_data : List Point → Data
marks_data marks = array (items_of (map mark_data marks))

unfoldable pub answer_data : CommandAnswer → Data
answer_data (Refused refusal) = lone (codes "refused") (string (code_of refusal))
answer_data (Taken count) = lone (codes "brokers") (number (unsigned count))
answer_data (Stepped mark outcome) =
    object (member (codes "mark") (mark_data mark)
    (member (codes "outcome") (string (outcome_text outcome)) no_members))
answer_data (Found pieces) = lone (codes "pieces") (pieces_data pieces)
answer_data (Marked marks) = lone (codes "marks") (marks_data marks)
answer_data (Joined broker) = lone (codes "joined") (number (unsigned broker))
answer_data (Compared equal) = lone (codes "equal") (boolean equal)

-- the line of an answer, with its line feed
abbrev pub line_text : CommandAnswer → List ℕ
line_text answer = compact_text (answer_data answer) ++ 10 ∷ []
