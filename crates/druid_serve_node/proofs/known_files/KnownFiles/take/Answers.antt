use Rattle.std.proofs.Common.{◌∙◌, refl, sym, ap, Some, is_some}
use Rattle.std.specs.Option.{option_copied_mut}
use Rattle.druid_serve_node.specs.declared.known_files.FileState.TheVariants.{Loaded}
use Rattle.druid_serve_node.proofs.KnownLemmas.{noted_as, is_kept}
use Rattle.druid_serve_node.proofs.known_files.KnownFiles.take.Goals as goal

pub unreachable-requires : goal.unreachable-requires
unreachable-requires c =
    is_kept c.self.inside.files.entries c.args.self.now c.args.name.now c.self.view_is c.requires (sym (ap option_copied_mut c.in-None.is) ∙ c.get_mut.ensures.value)

pub returns : goal.returns
returns c =
    let state = Loaded c.args.file in
    noted_as c.args.name.now c.args.name.now c.args.self.now c.self.inside.files (c.get_mut.follows.lender state) (Some state) refl c.self.view_is
    ((c.get_mut.follows.holds state).3 (ap is_some (sym c.get_mut.ensures.value ∙ ap option_copied_mut c.in-Some.is)))
