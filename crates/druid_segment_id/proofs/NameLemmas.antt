-- The tests of names and versions.
use Rattle.std.proofs.Common.{◌≡◌, ℕ, true, List, [], ◌∷◌, length, refl, le-leb}
use Rattle.std.proofs.lemmas.Bool.{and_parts, leb-true}
use Rattle.std.proofs.lemmas.List.Sums.{AllPass-from_list_all, list_all-from_AllPass}
use Rattle.druid_segment_id.specs.Names.{is_name_byte, is_name, IsName, is_version_byte, is_version, IsVersion}

pub is_name-true : (text : List ℕ) → IsName text → is_name text ≡ true
is_name-true text h =
    let low = le-leb 1 (length text) h.not_empty in
    let high = le-leb (length text) 100 h.short in
    let each = list_all-from_AllPass is_name_byte text h.bytes in
    rw (low, high, each) refl

pub is_version-true : (text : List ℕ) → IsVersion text → is_version text ≡ true
is_version-true text h =
    let low = le-leb 1 (length text) h.not_empty in
    let high = le-leb (length text) 64 h.short in
    let each = list_all-from_AllPass is_version_byte text h.bytes in
    rw (low, high, each) refl

pub is_name-to : (text : List ℕ) → is_name text ≡ true → IsName text
is_name-to text h =
    let each = and_parts _ _ h in
    let bounds = and_parts _ _ each.0 in
    record { not_empty = leb-true _ _ bounds.0; short = leb-true _ _ bounds.1; bytes = AllPass-from_list_all is_name_byte text each.1 }

pub is_version-to : (text : List ℕ) → is_version text ≡ true → IsVersion text
is_version-to text h =
    let each = and_parts _ _ h in
    let bounds = and_parts _ _ each.0 in
    record { not_empty = leb-true _ _ bounds.0; short = leb-true _ _ bounds.1; bytes = AllPass-from_list_all is_version_byte text each.1 }
