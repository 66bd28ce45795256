-- Files that were refused, kept in a map.
use Rattle.std.proofs.Common.{◌≡◌, ℕ, List, [], ◌∷◌, Bool, true, false, cond, Option, Some, option_map, refl, sym, ap, ◌∙◌, subst, string_bytes}
use Rattle.std.specs.BTreeMap as tree
use Rattle.std.specs.BTreeMap.{BTreeMap, is_at}
use Rattle.std.specs.Cmp.Lexicographic.{slice_cmp}
use Rattle.std.specs.Map.{lookup}
use Rattle.std.specs.Ordering.{nat_cmp, is_eq}
use Rattle.std.specs.Str.{bytes_eq}
use Rattle.std.specs.String.{string_cmp}
use Rattle.std.specs.declared.alloc.Global.{Global}
use Rattle.std.specs.declared.string.String.{String}
use Rattle.std.proofs.lemmas.Map.Text.{is_eq-slice_cmp, btree_map_updates_text}
use Rattle.druid_telemetry_log.specs.Refusals.{Refused, Notes, code_of, files_of}

abbrev pub bytes_of : Option (String Global) → Option (List ℕ)
bytes_of o = option_map (string_bytes {Z = Global}) o

one_of : (b : Bool) (code : String Global) (rest : Option (String Global)) → bytes_of (cond b (Some code) rest) ≡ cond b (Some (string_bytes code)) (bytes_of rest)
one_of true code rest = refl
one_of false code rest = refl

two_of : (b : Bool) (x y : Option (String Global)) → bytes_of (cond b x y) ≡ cond b (bytes_of x) (bytes_of y)
two_of true x y = refl
two_of false x y = refl

-- what the map has at a name is the code of that file
pub code_found : (entries : List (String Global × String Global)) (name : List ℕ)
    → bytes_of (lookup (is_at (λ k. slice_cmp nat_cmp name (string_bytes k))) entries) ≡ code_of (files_of entries) name
code_found [] name = refl
code_found (e ∷ entries) name =
    one_of (is_eq (slice_cmp nat_cmp name (string_bytes e.0))) e.1 (lookup (is_at (λ k. slice_cmp nat_cmp name (string_bytes k))) entries)
    ∙ (λ i. cond (is_eq-slice_cmp name (string_bytes e.0) i) (Some (string_bytes e.1)) (code_found entries name i))

-- a change of the map at a name
pub noted : (name : List ℕ) (old new : BTreeMap (String Global) (String Global)) (code : Option (String Global)) → tree.UpdatesBy string_cmp (λ k. slice_cmp nat_cmp name (string_bytes k)) old new code
    → Notes name (bytes_of code) (files_of old.entries) (files_of new.entries)
noted name old new code h other =
    sym (code_found new.entries other)
    ∙ ap bytes_of (btree_map_updates_text name old new code h other)
    ∙ two_of (bytes_eq name other) code (lookup (is_at (λ k. slice_cmp nat_cmp other (string_bytes k))) old.entries)
    ∙ ap (cond (bytes_eq name other) (bytes_of code)) (code_found old.entries other)

-- the same of a name that is spelled so, and of the files that were noted
pub noted_as : (name bytes code : List ℕ) (files : List Refused) (old new : BTreeMap (String Global) (String Global)) (text : String Global)
    → bytes ≡ name → string_bytes text ≡ code → files_of old.entries ≡ files
    → tree.UpdatesBy string_cmp (λ k. slice_cmp nat_cmp bytes (string_bytes k)) old new (Some text) → Notes name (Some code) files (files_of new.entries)
noted_as name bytes code files old new text same spelled is h =
    subst (λ n. Notes n (Some code) files (files_of new.entries)) same
    (subst (λ c. Notes bytes (Some c) files (files_of new.entries)) spelled
    (subst (λ (fs : List Refused). Notes bytes (Some (string_bytes text)) fs (files_of new.entries)) is (noted bytes old new (Some text) h)))
