-- What contracts of private functions see of commands and of values that are borrowed. Only proofs use these words.
use Rattle.std.specs.Prelude.{ℕ, ◌<◌, ⊤, List, [], map, unwrap_or}
use Rattle.serde_json.specs.Find.{as_str}
use Rattle.serde_json.specs.declared.value.Value.{Value}
use Rattle.serde_json.specs.View.{view}
use Rattle.druid_replay.specs.Commands as spec
use Rattle.druid_replay.specs.declared.answer.CommandAnswer.{CommandAnswer}
use Rattle.druid_replay.specs.declared.answer.CommandAnswer.TheVariants.{Found}
use Rattle.druid_replay.specs.declared.command.Command.{Command}
use Rattle.druid_replay.specs.declared.command.Command.TheVariants.{Reply, Lookup, Marks, Join, Equal}
use Rattle.druid_replay.specs.declared.command.Opening.{Opening}

-- the text of a value, and nothing where it is no text
abbrev pub text_in : Value → List ℕ
text_in v = unwrap_or (as_str (view v)) []

-- those of a list, in order
abbrev pub texts_in : List Value → List (List ℕ)
texts_in values = map text_in values

-- what a command that was read asks for
abbrev pub command_seen : Command → spec.Command
command_seen (Reply broker node reply) = spec.reply broker node (view reply.now)
command_seen (Lookup broker interval source) = spec.lookup broker interval.now source.now
command_seen (Marks broker) = spec.marks broker
command_seen (Join from into) = spec.join from into
command_seen (Equal left right) = spec.equal left right

-- its brokers stand, of which there are this many
abbrev pub AreAmong : ℕ → spec.Command → Type 0
AreAmong count (spec.reply broker node body) = broker < count
AreAmong count (spec.lookup broker interval source) = broker < count
AreAmong count (spec.marks broker) = broker < count
AreAmong count (spec.join from into) = (from < count) × (into < count)
AreAmong count (spec.equal left right) = (left < count) × (right < count)

-- what an opening that was read asks for
abbrev pub opening_seen : Opening → spec.Opening
opening_seen o = record { count = o.count; names = texts_in o.nodes.now }

-- an answer is not of visible pieces
abbrev pub HasNoPieces : CommandAnswer → Type 0
HasNoPieces (Found pieces) = ⊥
HasNoPieces answer = ⊤
