use Rattle.std.proofs.Common.{◌≡◌, true, All, List, IsSome, string_bytes, ◌∙◌, sym, subst}
use Rattle.std.specs.List.{filter}
use Rattle.std.specs.declared.alloc.Global.{Global}
use Rattle.std.specs.declared.string.String.{String}
use Rattle.std.proofs.lemmas.List.Elements.{All-contains}
use Rattle.std.proofs.lemmas.Result.{on_ok_weaker}
use Rattle.druid_folder.specs.Folder.{Content, names_of}
use Rattle.druid_serve_node.specs.Files.{is_segment_file, IsTaken, HoldsSegments}
use Rattle.druid_serve_node.proofs.SegmentFileLemmas.{left_named, left_taken}
use Rattle.druid_serve_node.proofs.node.load_files.Goals as goal

pub load_named-requires-after_bounds : goal.load_named-requires-after_bounds
load_named-requires-after_bounds g c κs within =
    subst (λ (names : List (String Global)). All (λ n. is_segment_file n ≡ true) (names_of names)) (sym (c.deref.ensures.value ∙ c.keep_segment_files.ensures)) (left_named c.in-Ok.names.items)

pub returns-clause-ok : goal.returns-clause-ok
returns-clause-ok g c honest =
    let before = g.F.Folder.content c.list.new.self in
    let names = c.in-Ok.names.items in
    let same : c.deref.result.now ≡ filter (λ (n : String Global). is_segment_file (string_bytes n)) names = c.deref.ensures.value ∙ c.keep_segment_files.ensures in
    let first = c.load_named.ensures.honest honest in
    on_ok_weaker c.load_named.result
    (λ (taken : All (IsTaken before) (names_of c.deref.result.now)). subst HoldsSegments (sym (c.load_named.ensures.content honest))
    (λ name there. All-contains (IsTaken before) (names_of names) name (left_taken before names (subst (λ (xs : List (String Global)). All (IsTaken before) (names_of xs)) same taken))
    (((c.in-Ok.ensures.names first).each name).1 (subst (λ (files : Content). IsSome (files name)) (c.in-Ok.ensures.unchanged first) there))))
    (c.load_named.ensures.ok honest)
