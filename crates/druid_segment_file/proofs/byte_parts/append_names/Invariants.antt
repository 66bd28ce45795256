use Rattle.std.proofs.Common.{◌≡◌, ◌++◌, ◌∷◌, [], length, take}
use Rattle.std.specs.List.{flat_map}
use Rattle.druid_segment_rows.specs.Rows.{texts_of}
use Rattle.druid_segment_file.specs.ByteParts.{short_text}
use Rattle.druid_segment_file.proofs.byte_parts.append_names.Given as goal

abbrev pub invariant-loop-text : goal.invariant-loop-text
invariant-loop-text l =
    l.out.items ≡ (l.fn.out.items ++ length l.texts ∷ []) ++ flat_map short_text (texts_of (take l.text-index l.texts))
