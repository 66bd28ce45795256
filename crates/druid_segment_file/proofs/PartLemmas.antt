-- A part that is read is the part that was written, and what was written is read again.
use Rattle.std.proofs.Common.{◌≡◌, ℕ, ℤ, zero, suc, ◌+◌, ◌^◌, ◌<◌, ◌≤◌, Bool, true, false, cond, ltb, List, [], ◌∷◌, ◌++◌, length, get_or, take, drop, Result, Ok, Err, refl, sym, ap, subst, ◌∙◌, append_assoc, arith, inl, inr}
use Rattle.std.specs.Prelude.{FitsSigned, All}
use Rattle.std.specs.List.{flat_map}
use Rattle.std.specs.Str.{IsUtf8, is_utf8}
use Rattle.std.proofs.lemmas.Str.{IsUtf8-from_is_utf8, is_utf8-from_IsUtf8}
use Rattle.druid_segment_rows.specs.Rows.{max_value}
use Rattle.std.specs.Int.{Width, w16, w32, w64, byte_len, from_be_bytes, to_be_bytes, cast_signed, cast_unsigned}
use Rattle.std.proofs.lemmas.Bool.{cases_lt, ltb-false, le-ltb}
use Rattle.std.proofs.lemmas.List.{take_at, drop_at, take-append-drop, length-append, length-take, get_or-drop, get_or-take, get_or_past}
use Rattle.std.proofs.lemmas.List.Concat.{flat_map-cons}
use Rattle.std.proofs.lemmas.List.Elements.{All-nil, All-cons, All-head, All-tail}
use Rattle.std.proofs.lemmas.Int.{to_z-of_z, of_z-to_z, ints}
use Rattle.std.proofs.lemmas.Nat.{be_bytes_2, be_bytes_4, be_bytes_8, from_be_bytes-to_be_bytes_2, from_be_bytes-to_be_bytes_4, from_be_bytes-to_be_bytes_8}
use Rattle.druid_segment_file.specs.declared.fault.FileFault.{FileFault}
use Rattle.druid_segment_file.specs.declared.fault.FileFault.TheVariants.{Field, TooLong}
use Rattle.druid_segment_file.specs.ByteParts.{number, short_text}
use Rattle.druid_time.specs.Results.{◌>>=◌}
use Rattle.druid_segment_file.specs.Parts.{bytes_at, byte_at, number_at, signed_at, at_most, accepted, short_text_at, text_at, each_at}

-- ---- steps

-- the value of a step that did not fail
pub bind_ok : {A B : Type 0} (r : Result A FileFault) (f : A → Result B FileFault) (y : B) → (r >>= f) ≡ Ok y → (x : A) × (r ≡ Ok x) × (f x ≡ Ok y)
bind_ok (Ok x) f y e = (x, refl, e)
bind_ok (Err d) f y e = absurd cc

-- a test that did not fail
pub guard_ok : {A : Type 0} (b : Bool) (d : FileFault) (x y : A) → cond b (Err d) (Ok x) ≡ Ok y → (b ≡ false) × (x ≡ y)
guard_ok true d x y e = absurd cc
guard_ok false d x y e = (refl, cc)

pub passed_ok : {A : Type 0} (b : Bool) (d : FileFault) (x y : A) → cond b (Ok x) (Err d) ≡ Ok y → (b ≡ true) × (x ≡ y)
passed_ok true d x y e = (refl, cc)
passed_ok false d x y e = absurd cc

abbrev done : {A : Type 0} → A → Result A FileFault
done x = Ok x

pub ok_is : {A : Type 0} (x y : A) → done x ≡ done y → x ≡ y
ok_is x y e = cc

pub at_most_ok : (limit n m : ℕ) → at_most limit n ≡ Ok m → (n ≡ m) × (m ≤ limit)
unfolding at_most
at_most_ok limit n m e =
    let g = guard_ok (ltb limit n) TooLong n m e in
    (g.1, omega (arith, ltb-false limit n g.0, g.1))

pub at_most_within : (limit n : ℕ) → n ≤ limit → at_most limit n ≡ Ok n
unfolding at_most
at_most_within limit n h = rw (le-ltb limit n h) refl

pub accepted_ok : {A : Type 0} (test : A → Bool) (x y : A) → accepted test x ≡ Ok y → (x ≡ y) × (test y ≡ true)
unfolding accepted
accepted_ok test x y e =
    let g = passed_ok (test x) Field x y e in
    (g.1, subst (λ z. test z ≡ true) g.1 g.0)

pub accepted_true : {A : Type 0} (test : A → Bool) (x : A) → test x ≡ true → accepted test x ≡ Ok x
unfolding accepted
accepted_true test x h = rw h refl

-- ---- bytes

abbrev pub IsBytes : List ℕ → Type 0
IsBytes bytes = (i : ℕ) → get_or bytes i 0 < 256

pub IsBytes-drop : (n : ℕ) (bytes : List ℕ) → IsBytes bytes → IsBytes (drop n bytes)
IsBytes-drop n bytes h i = rw get_or-drop (h (n + i))

pub IsBytes-take : (n : ℕ) (bytes : List ℕ) → IsBytes bytes → IsBytes (take n bytes)
IsBytes-take n bytes h i =
    elim (cases_lt i n) [
      | inl lt ↦ rw (get_or-take n bytes i 0 lt) (h i)
      | inr le ↦ rw (get_or_past (take n bytes) i 0 (omega (arith, length-take n bytes))) (omega arith)
    ]

pub IsBytes-rest : (b : ℕ) (bytes : List ℕ) → IsBytes (b ∷ bytes) → IsBytes bytes
IsBytes-rest b bytes h i = h (suc i)

-- what a reader took from the front
pub record Takes (bytes text rest : List ℕ) : Type 0 where
  pub parts : bytes ≡ text ++ rest
  pub rest_fits : IsBytes rest

pub Takes-then : (a x b y c : List ℕ) → Takes a x b → Takes b y c → Takes a (x ++ y) c
Takes-then a x b y c p q = record { parts = p.parts ∙ ap (λ (t : List ℕ). x ++ t) q.parts ∙ sym (append_assoc x y c); rest_fits = q.rest_fits }

-- A reader of good values: it takes what the value that it reads is spelled with, and reads each good value again.
pub record Reads (A : Type 0) (read : List ℕ → Result (A × List ℕ) FileFault) (spell : A → List ℕ) (Good : A → Type 0) : Type 0 where
  pub takes : (bytes : List ℕ) (x : A × List ℕ) → IsBytes bytes → read bytes ≡ Ok x → Takes bytes (spell x.0) x.1 × Good x.0
  pub again : (value : A) (rest : List ℕ) → Good value → read (spell value ++ rest) ≡ Ok (value, rest)

-- the first step of a reader, and the steps after it
pub step_takes : {A B : Type 0} {read : List ℕ → Result (A × List ℕ) FileFault} {spell : A → List ℕ} {Good : A → Type 0} → Reads A read spell Good → (f : A × List ℕ → Result B FileFault) (bytes : List ℕ) (y : B) → IsBytes bytes → (read bytes >>= f) ≡ Ok y
    → (x : A × List ℕ) × Takes bytes (spell x.0) x.1 × Good x.0 × (f x ≡ Ok y)
step_takes {A} {B} {read} {spell} {Good} reads f bytes y fits e =
    let b = bind_ok (read bytes) f y e in
    let t = reads.takes bytes b.0 fits b.1 in
    (b.0, t.0, t.1, b.2)

pub step_again : {A B : Type 0} {read : List ℕ → Result (A × List ℕ) FileFault} {spell : A → List ℕ} {Good : A → Type 0} → Reads A read spell Good → (f : A × List ℕ → Result B FileFault) (value : A) (rest : List ℕ) → Good value
    → (read (spell value ++ rest) >>= f) ≡ f (value, rest)
step_again {A} {B} {read} {spell} {Good} reads f value rest good = ap (λ r. r >>= f) (reads.again value rest good)

-- a reader whose value has to pass a test
pub accepted_read : {A : Type 0} {read : List ℕ → Result (A × List ℕ) FileFault} {spell : A → List ℕ} {Fine : A → Type 0} (test : A → Bool) (Good : A → Type 0) → Reads A read spell Fine → ((x : A) → test x ≡ true → Fine x → Good x) → ((x : A) → Good x → Fine x × (test x ≡ true))
    → Reads A (λ bytes. read bytes >>= λ part. accepted test part.0 >>= λ value. Ok (value, part.1)) spell Good
accepted_read {A} {read} {spell} {Fine} test Good reads good fine = record {
  takes = λ bytes x fits e.
      let s = step_takes reads (λ part. accepted test part.0 >>= λ value. Ok (value, part.1)) bytes x fits e in
      let m = bind_ok (accepted test s.0.0) (λ value. Ok (value, s.0.1)) x s.3 in
      let g = accepted_ok test s.0.0 m.0 m.1 in
      let took : Takes bytes (spell m.0) s.0.1 = subst (λ (v : A). Takes bytes (spell v) s.0.1) g.0 s.1 in
      subst (λ (p : A × List ℕ). Takes bytes (spell p.0) p.1 × Good p.0) (ok_is (m.0, s.0.1) x m.2) (took, good m.0 g.1 (subst Fine g.0 s.2));
  again = λ value rest h.
      step_again reads (λ part. accepted test part.0 >>= λ value. Ok (value, part.1)) value rest (fine value h).0
      ∙ ap (λ r. r >>= λ value. Ok (value, rest)) (accepted_true test value (fine value h).1);
}

-- ---- bytes and numbers

pub bytes_read : (short : FileFault) (n : ℕ) → Reads (List ℕ) (bytes_at short n) (λ text. text) (λ text. length text ≡ n)
unfolding bytes_at
bytes_read short n = record {
  takes = λ bytes x fits e.
      let g = guard_ok (ltb (length bytes) n) short (take n bytes, drop n bytes) x e in
      let long : n ≤ length bytes = ltb-false _ _ g.0 in
      let took : Takes bytes (take n bytes) (drop n bytes) = record { parts = sym (take-append-drop n bytes); rest_fits = IsBytes-drop n bytes fits } in
      let len : length (take n bytes) ≡ n = omega (arith, length-take n bytes) in
      subst (λ (p : List ℕ × List ℕ). Takes bytes p.0 p.1 × (length p.0 ≡ n)) g.1 (took, len);
  again = λ text rest len.
      let long : ltb (length (text ++ rest)) n ≡ false = le-ltb _ _ (omega (arith, length-append text rest)) in
      rw (long, take_at text rest n len, drop_at text rest n len) refl;
}

byte_takes : (short : FileFault) (bytes : List ℕ) (x : ℕ × List ℕ) → IsBytes bytes → byte_at short bytes ≡ Ok x → Takes bytes (x.0 ∷ []) x.1 × (x.0 < 256)
unfolding byte_at
byte_takes short [] x fits e = absurd cc
byte_takes short (b ∷ bytes) x fits e =
    subst (λ (p : ℕ × List ℕ). Takes (b ∷ bytes) (p.0 ∷ []) p.1 × (p.0 < 256)) (ok_is (b, bytes) x e) (record { parts = refl; rest_fits = IsBytes-rest b bytes fits }, fits 0)

pub byte_read : (short : FileFault) → Reads ℕ (byte_at short) (λ b. b ∷ []) (λ b. b < 256)
unfolding byte_at
byte_read short = record { takes = byte_takes short; again = λ b rest lt. refl }

pub record IsWide (w : Width) (limit : ℕ) : Type 0 where
  pub len : (n : ℕ) → length (to_be_bytes w n) ≡ byte_len w
  pub back : (bytes : List ℕ) → length bytes ≡ byte_len w → IsBytes bytes → to_be_bytes w (from_be_bytes w bytes) ≡ bytes
  pub again : (n : ℕ) → n < limit → from_be_bytes w (to_be_bytes w n) ≡ n
  pub below : (bytes : List ℕ) → IsBytes bytes → from_be_bytes w bytes < limit

pub wide16 : IsWide w16 (2 ^ 16)
wide16 = record {
  len = λ n. refl;
  back = λ bytes len fits. be_bytes_2 bytes _ len fits refl;
  again = λ n lt. from_be_bytes-to_be_bytes_2 n lt;
  below = λ bytes fits. omega (arith, fits 0, fits 1);
}

pub wide32 : IsWide w32 (2 ^ 32)
wide32 = record {
  len = λ n. refl;
  back = λ bytes len fits. be_bytes_4 bytes _ len fits refl;
  again = λ n lt. from_be_bytes-to_be_bytes_4 n lt;
  below = λ bytes fits. omega (arith, fits 0, fits 1, fits 2, fits 3);
}

pub wide64 : IsWide w64 (2 ^ 64)
wide64 = record {
  len = λ n. refl;
  back = λ bytes len fits. be_bytes_8 bytes _ len fits refl;
  again = λ n lt. from_be_bytes-to_be_bytes_8 n lt;
  below = λ bytes fits. omega (arith, fits 0, fits 1, fits 2, fits 3, fits 4, fits 5, fits 6, fits 7);
}

IsBytes-front : (bytes text rest : List ℕ) → IsBytes bytes → bytes ≡ text ++ rest → IsBytes text
IsBytes-front bytes text rest fits e = subst IsBytes (ap (take (length text)) e ∙ take_at text rest (length text) refl) (IsBytes-take (length text) bytes fits)

pub number_read : (short : FileFault) (w : Width) (limit : ℕ) → IsWide w limit → Reads ℕ (number_at short w) (to_be_bytes w) (λ n. n < limit)
unfolding number_at
number_read short w limit wide = record {
  takes = λ bytes x fits e.
      let s = step_takes (bytes_read short (byte_len w)) (λ part. Ok (from_be_bytes w part.0, part.1)) bytes x fits e in
      let text_fits = IsBytes-front bytes s.0.0 s.0.1 fits s.1.parts in
      let back = wide.back s.0.0 s.2 text_fits in
      let took : Takes bytes (to_be_bytes w (from_be_bytes w s.0.0)) s.0.1 = record { parts = rw back s.1.parts; rest_fits = s.1.rest_fits } in
      subst (λ (p : ℕ × List ℕ). Takes bytes (to_be_bytes w p.0) p.1 × (p.0 < limit)) (ok_is (from_be_bytes w s.0.0, s.0.1) x s.3) (took, wide.below s.0.0 text_fits);
  again = λ n rest lt.
      step_again (bytes_read short (byte_len w)) (λ part. Ok (from_be_bytes w part.0, part.1)) (to_be_bytes w n) rest (wide.len n) ∙ ap (λ (m : ℕ). Ok (m, rest)) (wide.again n lt);
}

fits_read : (n : ℕ) → n < 2 ^ 64 → FitsSigned w64 (cast_signed w64 n)
fits_read n h = omega (arith, ints)

bits_below : (z : ℤ) → FitsSigned w64 z → cast_unsigned w64 z < 2 ^ 64
bits_below z h = omega (arith, ints)

pub signed_read : (short : FileFault) → Reads ℤ (signed_at short) number (FitsSigned w64)
unfolding signed_at
signed_read short = record {
  takes = λ bytes x fits e.
      let s = step_takes (number_read short w64 (2 ^ 64) wide64) (λ part. Ok (cast_signed w64 part.0, part.1)) bytes x fits e in
      let took : Takes bytes (number (cast_signed w64 s.0.0)) s.0.1 = record { parts = s.1.parts ∙ ap (λ (n : ℕ). to_be_bytes w64 n ++ s.0.1) (sym (of_z-to_z w64 s.0.0 s.2)); rest_fits = s.1.rest_fits } in
      subst (λ (p : ℤ × List ℕ). Takes bytes (number p.0) p.1 × FitsSigned w64 p.0) (ok_is (cast_signed w64 s.0.0, s.0.1) x s.3) (took, fits_read s.0.0 s.2);
  again = λ z rest fits.
      step_again (number_read short w64 (2 ^ 64) wide64) (λ part. Ok (cast_signed w64 part.0, part.1)) (cast_unsigned w64 z) rest (bits_below z fits) ∙ ap (λ (m : ℤ). Ok (m, rest)) (to_z-of_z w64 z fits);
}

-- ---- texts after their lengths

pub short_text_read : (short : FileFault) (limit : ℕ) → limit < 256 → Reads (List ℕ) (short_text_at short limit) short_text (λ text. length text ≤ limit)
unfolding short_text_at
short_text_read short limit small = record {
  takes = λ bytes x fits e.
      let s = step_takes (byte_read short) (λ part. at_most limit part.0 >>= λ len. bytes_at short len part.1) bytes x fits e in
      let m = bind_ok (at_most limit s.0.0) (λ len. bytes_at short len s.0.1) x s.3 in
      let a = at_most_ok limit s.0.0 m.0 m.1 in
      let t = (bytes_read short m.0).takes s.0.1 x s.1.rest_fits m.2 in
      let both = Takes-then bytes (s.0.0 ∷ []) s.0.1 x.0 x.1 s.1 t.0 in
      (subst (λ (n : ℕ). Takes bytes (n ∷ x.0) x.1) (a.0 ∙ sym t.1) both, omega (arith, a.1, t.1));
  again = λ text rest h.
      step_again (byte_read short) (λ part. at_most limit part.0 >>= λ len. bytes_at short len part.1) (length text) (text ++ rest) (omega arith)
      ∙ ap (λ r. r >>= λ len. bytes_at short len (text ++ rest)) (at_most_within limit (length text) h)
      ∙ (bytes_read short (length text)).again text rest refl;
}

-- what the value of a dimension is spelled with after its mark
abbrev pub text : List ℕ → List ℕ
text bytes = to_be_bytes w16 (length bytes) ++ bytes

abbrev pub IsText : List ℕ → Type 0
IsText bytes = (length bytes ≤ max_value) × IsUtf8 bytes

pub text_read : (short : FileFault) → Reads (List ℕ) (text_at short) text IsText
unfolding text_at
text_read short = record {
  takes = λ bytes x fits e.
      let s = step_takes (number_read short w16 (2 ^ 16) wide16) (λ part. at_most max_value part.0 >>= λ len. bytes_at short len part.1 >>= λ beyond. accepted is_utf8 beyond.0 >>= λ value. Ok (value, beyond.1)) bytes x fits e in
      let m = bind_ok (at_most max_value s.0.0) (λ len. bytes_at short len s.0.1 >>= λ beyond. accepted is_utf8 beyond.0 >>= λ value. Ok (value, beyond.1)) x s.3 in
      let a = at_most_ok max_value s.0.0 m.0 m.1 in
      let t = step_takes (bytes_read short m.0) (λ beyond. accepted is_utf8 beyond.0 >>= λ value. Ok (value, beyond.1)) s.0.1 x s.1.rest_fits m.2 in
      let u = bind_ok (accepted is_utf8 t.0.0) (λ value. Ok (value, t.0.1)) x t.3 in
      let g = accepted_ok is_utf8 t.0.0 u.0 u.1 in
      let both = Takes-then bytes (to_be_bytes w16 s.0.0) s.0.1 t.0.0 t.0.1 s.1 t.1 in
      let whole : Takes bytes (text t.0.0) t.0.1 = subst (λ (n : ℕ). Takes bytes (to_be_bytes w16 n ++ t.0.0) t.0.1) (a.0 ∙ sym t.2) both in
      let utf8 : IsUtf8 t.0.0 = IsUtf8-from_is_utf8 t.0.0 (subst (λ (v : List ℕ). is_utf8 v ≡ true) (sym g.0) g.1) in
      let len : length t.0.0 ≤ max_value = omega (arith, a.1, t.2) in
      subst (λ (p : List ℕ × List ℕ). Takes bytes (text p.0) p.1 × IsText p.0) (ap (λ (v : List ℕ). (v, t.0.1)) g.0 ∙ ok_is (u.0, t.0.1) x u.2) (whole, (len, utf8));
  again = λ value rest h.
      ap (text_at short) (append_assoc (to_be_bytes w16 (length value)) value rest)
      ∙ step_again (number_read short w16 (2 ^ 16) wide16) (λ part. at_most max_value part.0 >>= λ len. bytes_at short len part.1 >>= λ beyond. accepted is_utf8 beyond.0 >>= λ value. Ok (value, beyond.1)) (length value) (value ++ rest) (omega (arith, h.0))
      ∙ ap (λ r. r >>= λ len. bytes_at short len (value ++ rest) >>= λ beyond. accepted is_utf8 beyond.0 >>= λ value. Ok (value, beyond.1)) (at_most_within max_value (length value) h.0)
      ∙ step_again (bytes_read short (length value)) (λ beyond. accepted is_utf8 beyond.0 >>= λ value. Ok (value, beyond.1)) value rest refl
      ∙ ap (λ r. r >>= λ v. Ok (v, rest)) (accepted_true is_utf8 value (is_utf8-from_IsUtf8 value h.1));
}

-- ---- that many parts

abbrev pub AreEach : {A : Type 0} → (A → Type 0) → ℕ → List A → Type 0
AreEach Good n xs = (length xs ≡ n) × All Good xs

each_takes : {A : Type 0} (read : List ℕ → Result (A × List ℕ) FileFault) (spell : A → List ℕ) (Good : A → Type 0) → Reads A read spell Good → (n : ℕ) (bytes : List ℕ) (x : List A × List ℕ) → IsBytes bytes → each_at read n bytes ≡ Ok x → Takes bytes (flat_map spell x.0) x.1 × AreEach Good n x.0
unfolding each_at
each_takes {A} read spell Good reads zero bytes x fits e =
    subst (λ (p : List A × List ℕ). Takes bytes (flat_map spell p.0) p.1 × AreEach Good 0 p.0) (ok_is ([], bytes) x e) (record { parts = refl; rest_fits = fits }, (refl, All-nil Good))
each_takes {A} read spell Good reads (suc n) bytes x fits e =
    let a = step_takes reads (λ first. each_at read n first.1 >>= λ others. Ok (first.0 ∷ others.0, others.1)) bytes x fits e in
    let b = bind_ok (each_at read n a.0.1) (λ others. Ok (a.0.0 ∷ others.0, others.1)) x a.3 in
    let second = each_takes read spell Good reads n a.0.1 b.0 a.1.rest_fits b.1 in
    let both = Takes-then bytes (spell a.0.0) a.0.1 (flat_map spell b.0.0) b.0.1 a.1 second.0 in
    let made : List A × List ℕ = (a.0.0 ∷ b.0.0, b.0.1) in
    subst (λ (p : List A × List ℕ). Takes bytes (flat_map spell p.0) p.1 × AreEach Good (suc n) p.0) (ok_is made x b.2) (rw flat_map-cons both, (ap suc second.1.0, All-cons Good a.0.0 b.0.0 a.2 second.1.1))

each_again : {A : Type 0} (read : List ℕ → Result (A × List ℕ) FileFault) (spell : A → List ℕ) (Good : A → Type 0) → Reads A read spell Good → (xs : List A) (rest : List ℕ) → All Good xs → each_at read (length xs) (flat_map spell xs ++ rest) ≡ Ok (xs, rest)
unfolding each_at
each_again read spell Good reads [] rest h = refl
each_again read spell Good reads (x ∷ xs) rest h =
    let regrouped : flat_map spell (x ∷ xs) ++ rest ≡ spell x ++ (flat_map spell xs ++ rest) = ap (λ (t : List ℕ). t ++ rest) (flat_map-cons spell x xs) ∙ append_assoc (spell x) (flat_map spell xs) rest in
    ap (each_at read (suc (length xs))) regrouped
    ∙ step_again reads (λ first. each_at read (length xs) first.1 >>= λ others. Ok (first.0 ∷ others.0, others.1)) x (flat_map spell xs ++ rest) (All-head Good x xs h)
    ∙ ap (λ r. r >>= λ others. Ok (x ∷ others.0, others.1)) (each_again read spell Good reads xs rest (All-tail Good x xs h))

pub each_read : {A : Type 0} (read : List ℕ → Result (A × List ℕ) FileFault) (spell : A → List ℕ) (Good : A → Type 0) → Reads A read spell Good → (n : ℕ) → Reads (List A) (each_at read n) (flat_map spell) (AreEach Good n)
each_read read spell Good reads n = record {
  takes = λ bytes x fits e. each_takes read spell Good reads n bytes x fits e;
  again = λ xs rest h. subst (λ (k : ℕ). each_at read k (flat_map spell xs ++ rest) ≡ Ok (xs, rest)) h.0 (each_again read spell Good reads xs rest h.1);
}
