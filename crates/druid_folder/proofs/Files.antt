-- What is read after a file was put in a place.
use Rattle.std.proofs.Common.{◌≡◌, ℕ, Bool, true, false, cond, List, Option, refl, sym, ap}
use Rattle.std.proofs.lemmas.Slice.Eq.{bytes_eq-Decides}
use Rattle.std.specs.Str.{bytes_eq}
use Rattle.druid_folder.specs.Folder.{Content, with_file, Torn}

cond_same : (b : Bool) (x y : Option (List ℕ)) → (b ≡ true → x ≡ y) → y ≡ cond b x y
cond_same true x y h = sym (h refl)
cond_same false x y h = refl

-- a file in the place of itself
pub with_file-same : (files : Content) (name : List ℕ) → files ≡ with_file files name (files name)
with_file-same files name = λ i other. cond_same (bytes_eq other name) (files name) (files other) (λ t. ap files (sym ((bytes_eq-Decides other name).0 t))) i

pub torn_same : (files : Content) (name : List ℕ) → Torn name files files
torn_same files name = (files name, with_file-same files name)
