-- Reading a JSON list of texts.
use Rattle.std.proofs.Common.{◌≡◌, ℕ, List, [], ◌∷◌, Option, Some, None, refl, ap, true, false, ◌&&◌, is_some, unwrap_or}
use Rattle.serde_json.specs.Find.{as_str}
use Rattle.serde_json.specs.View.{view, items_view}
use Rattle.serde_json.specs.declared.value.Value.{Value}
use Rattle.druid_base.specs.Options.{◌>>=◌}
use Rattle.druid_base.specs.Each.{each_of}
use Rattle.druid_base.proofs.EachLemmas.{Reads, not_all_read}
use Rattle.druid_replay.specs.Seen.{texts_in}

text_first : (o : Option (List ℕ)) (vs : List Value) → (Reads as_str vs ≡ true → each_of as_str (items_view vs) ≡ Some (texts_in vs))
    → (is_some o && Reads as_str vs) ≡ true → (o >>= λ y. each_of as_str (items_view vs) >>= λ ys. Some (y ∷ ys)) ≡ Some (unwrap_or o [] ∷ texts_in vs)
text_first None vs rest all = absurd cc
text_first (Some x) vs rest all = ap (λ q. q >>= λ ys. Some (x ∷ ys)) (rest all)

-- each value is a text, or one is none
pub texts_read : (vs : List Value) → Reads as_str vs ≡ true → each_of as_str (items_view vs) ≡ Some (texts_in vs)
texts_read [] all = refl
texts_read (v ∷ vs) all = text_first (as_str (view v)) vs (texts_read vs) all

pub texts_unread : (vs : List Value) → Reads as_str vs ≡ false → each_of as_str (items_view vs) ≡ None
texts_unread vs all = not_all_read as_str vs all
