-- What a data node takes of its folder.
use Rattle.std.proofs.Common.{subst, ◌≡◌, ◌+◌, ◌<◌, ℕ, All, List, Ok, length, take, slice_index_or, string_bytes, sym, ap, ◌∙◌}
use Rattle.std.specs.declared.alloc.Global.{Global}
use Rattle.std.specs.declared.string.String.{String}
use Rattle.std.proofs.lemmas.List.{map_more}
use Rattle.std.proofs.lemmas.List.Elements.{All-push}
use Rattle.druid_segment_rows.specs.Segment.{Segment}
use Rattle.druid_folder.specs.Folder.{Content, names_of, read_part}
use Rattle.druid_node.specs.Files.{file_at}
use Rattle.druid_serve_node.specs.Files.{IsTaken}

-- one name more
pub named_more : (P : List ℕ → Type 0) (names : List (String Global)) (i : ℕ) (item : String Global) → i < length names → item ≡ slice_index_or names i item
    → All P (names_of (take i names)) → P (string_bytes item) → All P (names_of (take (i + 1) names))
named_more P names i item l is h p =
    let at = subst P (ap string_bytes is) p in
    subst (All P) (sym (map_more string_bytes names i item l)) (All-push P (names_of (take i names)) _ h at)

-- a file that was loaded is taken
pub taken : (files start : Content) (name bytes : List ℕ) → files ≡ start → name ≡ bytes → (s : Segment) × (file_at name (read_part (files name)) ≡ Ok s) → IsTaken start bytes
taken files start name bytes same is it some = (it.0, sym (λ i. file_at (is i) (read_part (same i (is i)))) ∙ it.1)
