use Rattle.std.proofs.Common.{◌∙◌, ap}
use Rattle.druid_serve_node.specs.Looks.{state_of}
use Rattle.druid_serve_node.proofs.KnownLemmas.{state_found}
use Rattle.druid_serve_node.proofs.known_files.KnownFiles.state.Goals as goal

pub returns : goal.returns
returns c = c.get.ensures.value ∙ state_found c.self.inside.files.entries c.args.name.now ∙ ap (λ files. state_of files c.args.name.now) c.self.view_is
