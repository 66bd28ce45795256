use Rattle.std.proofs.Common.{Some, string_bytes}
use Rattle.druid_serve_node.proofs.KnownLemmas.{noted_as}
use Rattle.druid_serve_node.proofs.known_files.KnownFiles.note.Goals as goal

pub returns-clause-noted : goal.returns-clause-noted
returns-clause-noted c =
    noted_as c.args.name.now (string_bytes c.in_ok-name.name) c.args.self.now c.self.inside.files c.insert.new.self (Some c.args.state) c.in_ok-name.ensures.ok c.self.view_is c.in_ok-insert.ensures.updates
