-- Marks, in the order of their nodes.
use Rattle.std.proofs.Common.{◌≡◌, ◌+◌, ◌++◌, ℕ, zero, suc, List, [], ◌∷◌, map, take, Some, ap, ◌∙◌, arith}
use Rattle.std.specs.List.{slice_get}
use Rattle.std.specs.Option.{option_map}
use Rattle.std.proofs.lemmas.Option.{same_Some, none-some}
use Rattle.druid_segment_descriptor.specs.Mark.{Point}
use Rattle.druid_inventory.specs.Entry.{Entry}

next_mark : (es : List Entry) (n : ℕ) (m : Point) → option_map (λ e. e.mark) (slice_get es n) ≡ Some m
    → map (λ (e : Entry). e.mark) (take (suc n) es) ≡ map (λ (e : Entry). e.mark) (take n es) ++ m ∷ []
next_mark [] n m e = absurd (none-some m e)
next_mark (x ∷ es) zero m e = ap (λ (p : Point). p ∷ []) (same_Some x.mark m e)
next_mark (x ∷ es) (suc n) m e = ap (λ (ps : List Point). x.mark ∷ ps) (next_mark es n m e)

-- one node more
pub marks_more : (es : List Entry) (n : ℕ) (m : Point) → option_map (λ e. e.mark) (slice_get es n) ≡ Some m
    → map (λ (e : Entry). e.mark) (take (n + 1) es) ≡ map (λ (e : Entry). e.mark) (take n es) ++ m ∷ []
marks_more es n m e =
    let next : n + 1 ≡ suc n = omega arith in
    ap (λ (k : ℕ). map (λ (x : Entry). x.mark) (take k es)) next ∙ next_mark es n m e
