-- What a look does to the files of a list, one after another.
use Rattle.std.proofs.Common.{◌≡◌, ◌+◌, ◌<◌, ℕ, List, length, take, slice_index_or, string_bytes, sym, ap, subst, ◌∙◌, Result, Ok, Err, OnOk}
use Rattle.std.specs.List.{FoldsTo}
use Rattle.std.specs.Result.{result_and}
use Rattle.std.specs.declared.alloc.Global.{Global}
use Rattle.std.specs.declared.string.String.{String}
use Rattle.std.proofs.lemmas.Fn.{FoldsTo-push}
use Rattle.std.proofs.lemmas.List.{map_more}
use Rattle.std.proofs.lemmas.Result.{on_ok_weaker}
use Rattle.druid_folder.specs.Folder.{names_of}

-- one name more
pub fold_more : {W : Type 0} (R : W → List ℕ → W → Type 0) (names : List (String Global)) (i : ℕ) (item : String Global) (start before after : W) (name : List ℕ)
    → i < length names → item ≡ slice_index_or names i item → name ≡ string_bytes item → FoldsTo R start (names_of (take i names)) before → R before name after
    → FoldsTo R start (names_of (take (i + 1) names)) after
fold_more R names i item start before after name below is named ran step =
    subst (λ ns. FoldsTo R start ns after) (sym (map_more string_bytes names i item below))
    (FoldsTo-push R start (names_of (take i names)) before _ after ran (subst (λ n. R before n after) (named ∙ ap string_bytes is) step))

-- what both of two calls that succeed make
pub both : {X E P Q R : Type 0} (a b c : Result X E) → c ≡ result_and a b → (P → Q → R) → OnOk a P → OnOk b Q → OnOk c R
both {R = R} (Ok x) b c is make p q = subst (λ r. OnOk r R) (sym is) (on_ok_weaker b (make p) q)
both {R = R} (Err e) b c is make p q = subst (λ r. OnOk r R) (sym is) tt
