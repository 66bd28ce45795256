-- The names of the nodes are names, and no two are the same.
use Rattle.std.proofs.Common.{◌≡◌, ◌<◌, ◌≤◌, ℕ, true, List, [], ◌∷◌, codes, decimal, refl, sym, ◌∙◌, arith, le-leb}
use Rattle.std.specs.Bool.{IsTrue}
use Rattle.std.specs.List.{All}
use Rattle.std.specs.Char.{digit_value}
use Rattle.std.specs.Str.Parse.{AllDigits}
use Rattle.std.proofs.lemmas.Fmt.{decimal_is_IsNumeral, decimal_injective, length-decimal-le}
use Rattle.std.proofs.lemmas.List.{append_cancel_left}
use Rattle.std.proofs.lemmas.List.Elements.{All-nil, All-cons}
use Rattle.std.proofs.lemmas.List.FromFn.{length-map-range_with_len, get_or-map-range_with_len}
use Rattle.std.proofs.lemmas.Str.Parse.{digit_from_value}
use Rattle.druid_segment_id.specs.Names.{is_name_byte, IsName}
use Rattle.druid_base.specs.Distinct.{AreDistinct}
use Rattle.druid_laws_world.specs.Run.{node_name, node_names}

digit_byte : (c : ℕ) → digit_value c < 10 → is_name_byte c ≡ true
digit_byte c h = let range = digit_from_value c h in rw (le-leb 48 c range.0, le-leb c 57 range.1) refl

digit_bytes : (ds : List ℕ) → AllDigits 10 ds → All (λ b. IsTrue (is_name_byte b)) ds
digit_bytes [] h = All-nil (λ b. IsTrue (is_name_byte b))
digit_bytes (d ∷ ds) h = All-cons (λ b. IsTrue (is_name_byte b)) d ds (digit_byte d h.0) (digit_bytes ds h.1)

pub node_name-valid : (i : ℕ) → i < 64 → IsName (node_name i)
node_name-valid i l =
    let digits = (decimal_is_IsNumeral i (omega arith)).0 in
    let short = length-decimal-le 2 i (omega arith) (omega arith) (omega arith) in
    record {
      not_empty = omega arith;
      short = omega arith;
      bytes = All-cons (λ b. IsTrue (is_name_byte b)) 110 (decimal i) refl (digit_bytes (decimal i) digits.1);
    }

pub node_names-own : (n : ℕ) → n ≤ 64 → AreDistinct (node_names n)
node_names-own n few i j d li lj e =
    let long = length-map-range_with_len node_name 0 n in
    let at_i = get_or-map-range_with_len node_name 0 n i i d (omega arith) (omega arith) in
    let at_j = get_or-map-range_with_len node_name 0 n j j d (omega arith) (omega arith) in
    let names : node_name i ≡ node_name j = sym at_i ∙ e ∙ at_j in
    decimal_injective i j (omega arith) (omega arith) (append_cancel_left (codes "n") (decimal i) (decimal j) names)
