-- The file that has the number, while another is written.
use Rattle.std.proofs.Common.{◌≡◌, ◌⊎◌, inl, inr, ⊎_elim, ℕ, ◌+◌, ◌^◌, ◌<◌, ◌≤◌, List, [], ◌∷◌, Option, Some, None, IfSome, Result, Err, IfOk, length, take, sym, ◌∙◌, ap, subst, arith, length-append}
use Rattle.std.proofs.lemmas.Bool.{cases_lt}
use Rattle.std.proofs.lemmas.Fmt.{length-decimal-le, decimal_injective}
use Rattle.std.proofs.lemmas.List.{length-take-le, append_cancel_right}
use Rattle.std.specs.Fmt.{decimal}
use Rattle.std.specs.Option.{IfNone, ok_or}
use Rattle.druid_folder.proofs.ReadPart.{read_part-None, read_part-whole, read_part-cut}
use Rattle.druid_folder.specs.Folder.{Content, with_file, renamed, DoneOrNot, max_file, read_part}
use Rattle.druid_folder_incarnation.specs.Incarnation.{number_file, next_file, number_text, HasNumber, IsKeptOrNext}
use Rattle.druid_folder_incarnation.specs.KeptFile.{IsKeptOr}

-- what the file holds once the text stands in the other and that was to take its place
pub same_or_text : (text : List ℕ) (files mid new : Content) → mid ≡ with_file files next_file (Some text) → DoneOrNot (renamed next_file number_file) mid new
    → (new number_file ≡ files number_file) ⊎ (new number_file ≡ Some text)
same_or_text text files mid new is (inl same) = inl (ap (λ (f : Content). f number_file) (same ∙ is))
same_or_text text files mid new is (inr done) = inr (ap (λ (f : Content). f number_file) done ∙ ap (λ (f : Content). f next_file) is)

-- d is the folder with a text in the file that is never read; c is that, or that file stands in the place of the number's
pub kept_or_text : (left : Content → Type 0) (text : List ℕ) (files d c : Content) → left files → d ≡ with_file files next_file (Some text)
    → DoneOrNot (renamed next_file number_file) d c → IsKeptOr left text c
kept_or_text left text files d c stays is (inl same) = inl (files, stays, ap (λ (f : Content). f number_file) (same ∙ is))
kept_or_text left text files d c stays is (inr done) = inr (ap (λ (f : Content). f number_file) done ∙ ap (λ (f : Content). f next_file) is)

number_text_short : (n : ℕ) → n < 2 ^ 64 → length (number_text n) ≤ 21
number_text_short n high = omega (arith, length-append (decimal n) (10 ∷ []), length-decimal-le 20 n (omega arith) (omega arith) high)

long_text : (k n : ℕ) (bytes : List ℕ) → 21 < k → k ≤ length bytes → HasNumber (Some bytes) n → ⊥
long_text k n bytes low long has = omega (arith, number_text_short n has.1, ap length has.2)

cut_text : (k n : ℕ) (bytes : List ℕ) → 21 < k → k ≤ length bytes → HasNumber (Some (take k bytes)) n → ⊥
cut_text k n bytes low long has = omega (arith, number_text_short n has.1, ap length has.2, length-take-le k bytes long)

-- a number is read whole, and what is read of a longer file is none
has_from_cut : (n : ℕ) (bytes : List ℕ) → HasNumber (read_part (Some bytes)) n → HasNumber (Some bytes) n
has_from_cut n bytes has = ⊎_elim
    (λ (long : max_file + 1 < length bytes). absurd (cut_text (max_file + 1) n bytes (omega arith) (omega arith) (subst (λ f. HasNumber f n) (read_part-cut bytes) has)))
    (λ (short : length bytes ≤ max_file + 1). subst (λ f. HasNumber f n) (read_part-whole bytes short) has)
    (cases_lt (max_file + 1) (length bytes))

has_to_cut : (n : ℕ) (bytes : List ℕ) → HasNumber (Some bytes) n → HasNumber (read_part (Some bytes)) n
has_to_cut n bytes has =
    subst (λ f. HasNumber f n) (sym (read_part-whole bytes (omega (arith, number_text_short n has.1, ap length has.2)))) has

pub has_from_read : (file found : Option (List ℕ)) (n : ℕ) → found ≡ read_part file → HasNumber found n → HasNumber file n
has_from_read None found n is has = subst (λ f. HasNumber f n) (is ∙ read_part-None) has
has_from_read (Some bytes) found n is has = has_from_cut n bytes (subst (λ f. HasNumber f n) is has)

pub has_to_read : (file found : Option (List ℕ)) (n : ℕ) → found ≡ read_part file → HasNumber file n → HasNumber found n
has_to_read None found n is has = subst (λ f. HasNumber f n) (sym (is ∙ read_part-None)) has
has_to_read (Some bytes) found n is has = subst (λ f. HasNumber f n) (sym is) (has_to_cut n bytes has)

-- what `ok_or` makes of the number that was found
pub number_ok : {E : Type 0} (P : ℕ → Type 0) (o : Option ℕ) (e : E) (r : Result ℕ E) → r ≡ ok_or o e → IfSome o P → IfOk r P
number_ok P None e r is h = subst (λ r. IfOk r P) (sym is) tt
number_ok P (Some n) e r is h = subst (λ r. IfOk r P) (sym is) h

pub number_bad : {E : Type 0} (Q : Type 0) (o : Option ℕ) (e d : E) (r : Result ℕ E) → r ≡ ok_or o e → r ≡ Err d → IfNone o Q → Q
number_bad Q None e d r is bad h = h
number_bad Q (Some n) e d r is bad h = absurd (cc (is, bad))

-- a text that is kept is that of the next number, and what a stop leaves after a read it might have left before
pub kept_or_next : (old mid : Content → Type 0) (read : Option (List ℕ)) (n : ℕ) (text : List ℕ) (c : Content) → ((d : Content) → mid d → old d)
    → HasNumber read n → text ≡ number_text (n + 1) → IsKeptOr mid text c → IsKeptOrNext old read c
kept_or_next old mid read n text c same has is (inl kept) = inl (kept.0, same kept.0 kept.1, kept.2)
kept_or_next old mid read n text c same has is (inr next) = inr (n, has, next ∙ ap Some is)

one_text : (m n : ℕ) → m < 2 ^ 64 → n < 2 ^ 64 → number_text m ≡ number_text n → m ≡ n
one_text m n small_m small_n same = decimal_injective m n small_m small_n (append_cancel_right (decimal m) (decimal n) (10 ∷ []) same)

-- a file has one number at most
pub one_number_lem : (file : Option (List ℕ)) (m n : ℕ) → HasNumber file m → HasNumber file n → m ≡ n
one_number_lem None m n is_m is_n = is_m ∙ sym is_n
one_number_lem (Some bytes) m n is_m is_n = one_text m n is_m.1 is_n.1 (sym is_m.2 ∙ is_n.2)
