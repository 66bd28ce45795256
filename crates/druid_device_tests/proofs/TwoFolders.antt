-- A file that a folder keeps.
use Rattle.std.proofs.Common.{◌≡◌, ℕ, ◌+◌, ◌≤◌, true, List, [], ◌∷◌, Some, refl, sym, ◌∙◌, ap, subst, length}
use Rattle.std.proofs.lemmas.List.Elements.{All-nil, All-cons}
use Rattle.druid_folder.specs.Folder.{Content, max_file}
use Rattle.druid_folder.proofs.ReadPart.{read_part-whole}
use Rattle.druid_folder_store.specs.Event.{Event, did_write}
use Rattle.druid_folder_store.specs.Honest.{HonestIn, AreKept, is_kept}
use Rattle.druid_folder_store.specs.Model.{AreRight}
use Rattle.druid_device_tests.specs.TwoFolders.{file_name, keeping, Keeps}

-- the read is right
pub right_keeping : (bytes : List ℕ) → length bytes ≤ max_file + 1 → AreRight (keeping bytes [])
right_keeping bytes short = (sym (read_part-whole bytes short), (tt, (tt, tt)))

-- a folder that was new before these calls is honest where its device is, and keeps the file
pub keeps_after : (content : ℕ → Content) (left during : ℕ → Content → Type 0) (bytes : List ℕ) (old new : List Event)
    → old ≡ [] → new ≡ keeping bytes old → HonestIn content left during (keeping bytes [])
    → Keeps (HonestIn content left during new) (content (length new)) (left (length new)) bytes
keeps_after content left during bytes old new none is honest =
    let did_read = honest.1 in
    let did_sync = honest.0.1 in
    let first = honest.0.0.1 in
    let written : content 1 file_name ≡ Some bytes = ap (λ (f : Content). f file_name) first.0 in
    let succeeded : AreKept (did_write file_name bytes true ∷ []) =
    All-cons (λ event. is_kept event ≡ true) (did_write file_name bytes true) [] refl (All-nil (λ event. is_kept event ≡ true)) in
    let kept : Keeps (HonestIn content left during (keeping bytes [])) (content 3) (left 3) bytes = record {
      honest = honest;
      read = ap (λ (f : Content). f file_name) (did_read.1 ∙ did_sync.1) ∙ written;
      stable = λ c now. ap (λ (f : Content). f file_name) (did_sync.0 succeeded c (did_read.2.1 c now)) ∙ written;
    } in
    subst (λ (calls : List Event). Keeps (HonestIn content left during calls) (content (length calls)) (left (length calls)) bytes)
    (sym (is ∙ ap (keeping bytes) none)) kept
