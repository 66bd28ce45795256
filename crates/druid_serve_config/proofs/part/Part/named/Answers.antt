use Rattle.std.proofs.Common.{rules, ◌∙◌, Some, ap}
use Rattle.druid_serve_config.specs.Parts.{words_of}
use Rattle.druid_serve_config.proofs.WordLemmas.{known}
use Rattle.druid_serve_config.proofs.part.Part.named.Goals as goal

pub returns-then-are_known : goal.returns-then-are_known
returns-then-are_known c = (
  ap (λ words. Some words) c.in_ok-words.ensures,
  known c.args.config.now.nodes c.args.config.now.brokers c.in_ok-words.words.items c.args.text.now c.are_known.result c.in_ok-words.ensures (search rules) ∙ search rules,
)

pub returns : goal.returns
returns c = known c.args.config.now.nodes c.args.config.now.brokers c.in_ok-words.words.items c.args.text.now c.are_known.result c.in_ok-words.ensures (search rules) ∙ search rules
