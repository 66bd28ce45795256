use Rattle.std.proofs.Common.{◌∙◌, ◌++◌, ap}
use Rattle.std.specs.List.{filter}
use Rattle.druid_folder.specs.Folder.{names_of}
use Rattle.druid_serve_node.specs.Looks.{is_gone, known_names}
use Rattle.druid_serve_node.proofs.KnownLemmas.{keys_named}
use Rattle.druid_serve_node.proofs.known_files.KnownFiles.gone_names.Goals as goal

pub loop-name-init : goal.loop-name-init
loop-name-init c =
    let found = names_of c.args.found.now in
    ap (λ gone. names_of gone ++ filter (is_gone found) (names_of c.into_iter-name-iterator.result)) c.new-gone.ensures.items
    ∙ ap (filter (is_gone found))
    (ap names_of (c.into_iter-name-iterator.ensures.into_iter_gives ∙ c.keys-names.ensures.rest)
    ∙ keys_named c.self.inside.files.entries ∙ ap known_names c.self.view_is)
