use Rattle.std.proofs.Common.{zero, true, ◌≡◌, ℕ, List, IfSome, subst}
use Rattle.std.proofs.lemmas.Result.{on_ok_weaker}
use Rattle.druid_folder.specs.Folder.{names_of}
use Rattle.druid_node.specs.declared.fault.NodeFault.TheVariants.{Memory}
use Rattle.druid_serve_base.specs.Faults.{NamesFile}
use Rattle.druid_serve_node.specs.Files.{is_segment_file, IsTaken}
use Rattle.druid_serve_node.specs.declared.segment_files.DecodedFile.{DecodedFile}
use Rattle.druid_serve_node.proofs.SegmentFileLemmas.{of_names, to_names, all_taken, cause_of_load}
use Rattle.druid_serve_node.proofs.segment_files.load_front.Goals as goal

pub returns-in_default-clause-cause : goal.returns-in_default-clause-cause
returns-in_default-clause-cause g c =
    cause_of_load c.args.names.now zero c.index-names-0.result c.of_file.result.fault c.of_file.result.cause Memory c.requires.some c.index-names-0.is c.requires.named c.of_file.ensures.fault
    (subst (λ (name : List ℕ). IfSome c.of_file.result.cause (NamesFile name Memory)) c.as_str.ensures.value c.of_file.ensures.cause)

pub load_decoded-requires : goal.load_decoded-requires
load_decoded-requires g c =
    record { named = of_names (λ (d : DecodedFile). d.name.now) (λ n. is_segment_file n ≡ true) c.in-Ok.files.items (names_of c.args.names.now) c.in-Ok.ensures.names c.requires.named }

pub returns-clause-ok : goal.returns-clause-ok
returns-clause-ok g c honest =
    let files = g.F.Folder.content c.args.folder.now in
    on_ok_weaker c.load_decoded.result
    (λ ok. to_names (λ (d : DecodedFile). d.name.now) (IsTaken files) c.in-Ok.files.items (names_of c.args.names.now) c.in-Ok.ensures.names (all_taken files c.in-Ok.files.items (c.in-Ok.ensures.found honest) ok))
    c.load_decoded.ensures.ok
