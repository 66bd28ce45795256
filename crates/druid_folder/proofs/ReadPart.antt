-- What a read gives of a file.
use Rattle.std.proofs.Common.{◌≡◌, ℕ, ◌+◌, ◌≤◌, List, Some, None, Result, Ok, Err, Vec, IfOk, length, take, refl, sym, ◌∙◌, ap, arith}
use Rattle.std.proofs.lemmas.List.{take_all, length-take-le}
use Rattle.std.specs.declared.alloc.Global.{Global}
use Rattle.std.specs.Option.{option_map}
use Rattle.druid_folder.specs.Folder.{max_file, read_part}

map_take-all : (n : ℕ) (bytes : List ℕ) → length bytes ≤ n → option_map (take n) (Some bytes) ≡ Some bytes
map_take-all n bytes short = ap Some (take_all n bytes short)

-- nothing is read of a file that is not there
pub read_part-None : read_part None ≡ None
unfolding read_part
read_part-None = refl

-- a file that is no longer than a file is to be is read whole, and so is one that is longer by a byte
pub read_part-whole : (bytes : List ℕ) → length bytes ≤ max_file + 1 → read_part (Some bytes) ≡ Some bytes
unfolding read_part
read_part-whole bytes short = map_take-all (max_file + 1) bytes short

-- of any other as many bytes are read, and no more
pub read_part-cut : (bytes : List ℕ) → read_part (Some bytes) ≡ Some (take (max_file + 1) bytes)
unfolding read_part
read_part-cut bytes = refl

pub whole_read : {E : Type 0} (r : Result (Vec ℕ Global) E) (bytes : List ℕ) → length bytes ≤ max_file + 1 → IfOk r (λ v. v.items ≡ bytes) → IfOk r (λ v. Some v.items ≡ read_part (Some bytes))
whole_read (Ok v) bytes short is = ap Some is ∙ sym (read_part-whole bytes short)
whole_read (Err e) bytes short is = tt

pub cut_read : {E : Type 0} (r : Result (Vec ℕ Global) E) (n : ℕ) (bytes : List ℕ) → IfOk r (λ v. v.items ≡ take n bytes) → n ≡ max_file + 1 → IfOk r (λ v. Some v.items ≡ read_part (Some bytes))
cut_read (Ok v) n bytes is same = ap Some (is ∙ ap (λ (k : ℕ). take k bytes) same) ∙ sym (read_part-cut bytes)
cut_read (Err e) n bytes is same = tt

pub cut_length : {E : Type 0} (r : Result (Vec ℕ Global) E) (n : ℕ) (bytes : List ℕ) → IfOk r (λ v. v.items ≡ take n bytes) → n ≤ length bytes → IfOk r (λ v. length v.items ≤ n)
cut_length (Ok v) n bytes is long = omega (arith, ap length is, length-take-le n bytes long)
cut_length (Err e) n bytes is long = tt
