-- A text of 24 bytes that names an instant is the printed form of that instant.
use Rattle.std.proofs.Common.{◌≡◌, ℕ, ◌+◌, ◌-◌, ◌*◌, ◌/◌, ◌%◌, ◌++◌, ◌<◌, ◌≤◌, true, false, List, [], ◌∷◌, length, nat_eq, refl, sym, ap, subst, ◌∙◌, arith, inl, inr, codes, Result, Ok}
use Rattle.std.proofs.lemmas.Bool.{and_parts, leb-true, eqb-true, cases_Bool}
use Rattle.druid_time.specs.declared.fault.TimeFault.{TimeFault}
use Rattle.druid_time.specs.Civil.{is_civil, instant_of, civil_of}
use Rattle.druid_time.specs.Texts.{fits_form, has_form, digits_value, two_digits, three_digits, four_digits, civil_parts, civil_text, instant_text, instant_at}
use Rattle.druid_time.proofs.CivilLemmas.{civil_of-instant_of}
use Rattle.druid_time.proofs.ReadLemmas.{has_form-24}
use Rattle.druid_time.proofs.TextLemmas.{is_civil_to}

-- a text that fits begins with a digit, and fits on
with_digit : (form text : List ℕ) (P : List ℕ → Type 0) → fits_form (100 ∷ form) text ≡ true
    → ((d : ℕ) (more : List ℕ) → d < 10 → fits_form form more ≡ true → P ((48 + d) ∷ more)) → P text
unfolding fits_form
with_digit form [] P h go = absurd (cc)
with_digit form (b ∷ bs) P h go =
    let parts = and_parts _ _ h in
    let range = and_parts _ _ parts.0 in
    let low : 48 ≤ b = leb-true _ _ range.0 in
    let high : b ≤ 57 = leb-true _ _ range.1 in
    let same : 48 + (b - 48) ≡ b = omega arith in
    subst (λ (x : ℕ). P (x ∷ bs)) same (go (b - 48) bs (omega arith) parts.1)

-- the same of a byte that stands for itself
with_byte : (byte : ℕ) (form text : List ℕ) (P : List ℕ → Type 0) → nat_eq byte 100 ≡ false → fits_form (byte ∷ form) text ≡ true
    → ((more : List ℕ) → fits_form form more ≡ true → P (byte ∷ more)) → P text
unfolding fits_form
with_byte byte form [] P plain h go = absurd (cc)
with_byte byte form (b ∷ bs) P plain h go =
    let parts = and_parts _ _ (rw plain at h) in
    subst (λ (x : ℕ). P (x ∷ bs)) (sym (eqb-true b byte parts.0)) (go bs parts.1)

-- and where the form ends
with_end : (text : List ℕ) (P : List ℕ → Type 0) → fits_form [] text ≡ true → P [] → P text
unfolding fits_form
with_end [] P h here = here
with_end (b ∷ bs) P h here = absurd (cc)

-- the digits of a number are those that spell it
two_again : (a b : ℕ) → a < 10 → b < 10 → two_digits (digits_value ((48 + a) ∷ (48 + b) ∷ [])) ≡ (48 + a) ∷ (48 + b) ∷ []
two_again a b ha hb =
    let a_same : 48 + (((0 * 10 + (48 + a - 48)) * 10 + (48 + b - 48)) / 10) % 10 ≡ 48 + a = omega arith in
    let b_same : 48 + ((0 * 10 + (48 + a - 48)) * 10 + (48 + b - 48)) % 10 ≡ 48 + b = omega arith in
    λ i. a_same i ∷ b_same i ∷ []

three_again : (a b c : ℕ) → a < 10 → b < 10 → c < 10 → three_digits (digits_value ((48 + a) ∷ (48 + b) ∷ (48 + c) ∷ [])) ≡ (48 + a) ∷ (48 + b) ∷ (48 + c) ∷ []
three_again a b c ha hb hc =
    let a_same : 48 + ((((0 * 10 + (48 + a - 48)) * 10 + (48 + b - 48)) * 10 + (48 + c - 48)) / 100) % 10 ≡ 48 + a = omega arith in
    let b_same : 48 + ((((0 * 10 + (48 + a - 48)) * 10 + (48 + b - 48)) * 10 + (48 + c - 48)) / 10) % 10 ≡ 48 + b = omega arith in
    let c_same : 48 + (((0 * 10 + (48 + a - 48)) * 10 + (48 + b - 48)) * 10 + (48 + c - 48)) % 10 ≡ 48 + c = omega arith in
    λ i. a_same i ∷ b_same i ∷ c_same i ∷ []

four_again : (a b c d : ℕ) → a < 10 → b < 10 → c < 10 → d < 10 → four_digits (digits_value ((48 + a) ∷ (48 + b) ∷ (48 + c) ∷ (48 + d) ∷ [])) ≡ (48 + a) ∷ (48 + b) ∷ (48 + c) ∷ (48 + d) ∷ []
four_again a b c d ha hb hc hd =
    let a_same : 48 + (((((0 * 10 + (48 + a - 48)) * 10 + (48 + b - 48)) * 10 + (48 + c - 48)) * 10 + (48 + d - 48)) / 1000) % 10 ≡ 48 + a = omega arith in
    let b_same : 48 + (((((0 * 10 + (48 + a - 48)) * 10 + (48 + b - 48)) * 10 + (48 + c - 48)) * 10 + (48 + d - 48)) / 100) % 10 ≡ 48 + b = omega arith in
    let c_same : 48 + (((((0 * 10 + (48 + a - 48)) * 10 + (48 + b - 48)) * 10 + (48 + c - 48)) * 10 + (48 + d - 48)) / 10) % 10 ≡ 48 + c = omega arith in
    let d_same : 48 + ((((0 * 10 + (48 + a - 48)) * 10 + (48 + b - 48)) * 10 + (48 + c - 48)) * 10 + (48 + d - 48)) % 10 ≡ 48 + d = omega arith in
    λ i. a_same i ∷ b_same i ∷ c_same i ∷ d_same i ∷ []

digits_again : (a0 a1 a2 a3 a4 a5 a6 a7 a8 a9 a10 a11 a12 a13 a14 a15 a16 : ℕ) → a0 < 10 → a1 < 10 → a2 < 10 → a3 < 10 → a4 < 10 → a5 < 10 → a6 < 10 → a7 < 10 → a8 < 10 → a9 < 10 → a10 < 10 → a11 < 10 → a12 < 10 → a13 < 10 → a14 < 10 → a15 < 10 → a16 < 10
    → civil_text (civil_parts ((48 + a0) ∷ (48 + a1) ∷ (48 + a2) ∷ (48 + a3) ∷ 45 ∷ (48 + a4) ∷ (48 + a5) ∷ 45 ∷ (48 + a6) ∷ (48 + a7) ∷ 84 ∷ (48 + a8) ∷ (48 + a9) ∷ 58 ∷ (48 + a10) ∷ (48 + a11) ∷ 58 ∷ (48 + a12) ∷ (48 + a13) ∷ 46 ∷ (48 + a14) ∷ (48 + a15) ∷ (48 + a16) ∷ 90 ∷ [])) ≡ (48 + a0) ∷ (48 + a1) ∷ (48 + a2) ∷ (48 + a3) ∷ 45 ∷ (48 + a4) ∷ (48 + a5) ∷ 45 ∷ (48 + a6) ∷ (48 + a7) ∷ 84 ∷ (48 + a8) ∷ (48 + a9) ∷ 58 ∷ (48 + a10) ∷ (48 + a11) ∷ 58 ∷ (48 + a12) ∷ (48 + a13) ∷ 46 ∷ (48 + a14) ∷ (48 + a15) ∷ (48 + a16) ∷ 90 ∷ []
unfolding civil_text civil_parts
digits_again a0 a1 a2 a3 a4 a5 a6 a7 a8 a9 a10 a11 a12 a13 a14 a15 a16 h0 h1 h2 h3 h4 h5 h6 h7 h8 h9 h10 h11 h12 h13 h14 h15 h16 =
    λ i. four_again a0 a1 a2 a3 h0 h1 h2 h3 i ++ codes "-" ++ two_again a4 a5 h4 h5 i ++ codes "-" ++ two_again a6 a7 h6 h7 i ++ codes "T" ++ two_again a8 a9 h8 h9 i ++ codes ":" ++ two_again a10 a11 h10 h11 i ++ codes ":" ++ two_again a12 a13 h12 h13 i ++ codes "." ++ three_again a14 a15 a16 h14 h15 h16 i ++ codes "Z"

-- it is what its parts print
record Again (text : List ℕ) : Type 0 where
  same : civil_text (civil_parts text) ≡ text

-- a text of the whole form is what its parts print
spelled_again : (text : List ℕ) → fits_form (codes "dddd-dd-ddTdd:dd:dd.dddZ") text ≡ true → Again text
spelled_again text f =
    with_digit (codes "ddd-dd-ddTdd:dd:dd.dddZ") text Again f (λ d0 r0 s0 f0.
    with_digit (codes "dd-dd-ddTdd:dd:dd.dddZ") r0 (λ (r : List ℕ). Again ((48 + d0) ∷ r)) f0 (λ d1 r1 s1 f1.
    with_digit (codes "d-dd-ddTdd:dd:dd.dddZ") r1 (λ (r : List ℕ). Again ((48 + d0) ∷ (48 + d1) ∷ r)) f1 (λ d2 r2 s2 f2.
    with_digit (codes "-dd-ddTdd:dd:dd.dddZ") r2 (λ (r : List ℕ). Again ((48 + d0) ∷ (48 + d1) ∷ (48 + d2) ∷ r)) f2 (λ d3 r3 s3 f3.
    with_byte 45 (codes "dd-ddTdd:dd:dd.dddZ") r3 (λ (r : List ℕ). Again ((48 + d0) ∷ (48 + d1) ∷ (48 + d2) ∷ (48 + d3) ∷ r)) refl f3 (λ r4 f4.
    with_digit (codes "d-ddTdd:dd:dd.dddZ") r4 (λ (r : List ℕ). Again ((48 + d0) ∷ (48 + d1) ∷ (48 + d2) ∷ (48 + d3) ∷ 45 ∷ r)) f4 (λ d4 r5 s4 f5.
    with_digit (codes "-ddTdd:dd:dd.dddZ") r5 (λ (r : List ℕ). Again ((48 + d0) ∷ (48 + d1) ∷ (48 + d2) ∷ (48 + d3) ∷ 45 ∷ (48 + d4) ∷ r)) f5 (λ d5 r6 s5 f6.
    with_byte 45 (codes "ddTdd:dd:dd.dddZ") r6 (λ (r : List ℕ). Again ((48 + d0) ∷ (48 + d1) ∷ (48 + d2) ∷ (48 + d3) ∷ 45 ∷ (48 + d4) ∷ (48 + d5) ∷ r)) refl f6 (λ r7 f7.
    with_digit (codes "dTdd:dd:dd.dddZ") r7 (λ (r : List ℕ). Again ((48 + d0) ∷ (48 + d1) ∷ (48 + d2) ∷ (48 + d3) ∷ 45 ∷ (48 + d4) ∷ (48 + d5) ∷ 45 ∷ r)) f7 (λ d6 r8 s6 f8.
    with_digit (codes "Tdd:dd:dd.dddZ") r8 (λ (r : List ℕ). Again ((48 + d0) ∷ (48 + d1) ∷ (48 + d2) ∷ (48 + d3) ∷ 45 ∷ (48 + d4) ∷ (48 + d5) ∷ 45 ∷ (48 + d6) ∷ r)) f8 (λ d7 r9 s7 f9.
    with_byte 84 (codes "dd:dd:dd.dddZ") r9 (λ (r : List ℕ). Again ((48 + d0) ∷ (48 + d1) ∷ (48 + d2) ∷ (48 + d3) ∷ 45 ∷ (48 + d4) ∷ (48 + d5) ∷ 45 ∷ (48 + d6) ∷ (48 + d7) ∷ r)) refl f9 (λ r10 f10.
    with_digit (codes "d:dd:dd.dddZ") r10 (λ (r : List ℕ). Again ((48 + d0) ∷ (48 + d1) ∷ (48 + d2) ∷ (48 + d3) ∷ 45 ∷ (48 + d4) ∷ (48 + d5) ∷ 45 ∷ (48 + d6) ∷ (48 + d7) ∷ 84 ∷ r)) f10 (λ d8 r11 s8 f11.
    with_digit (codes ":dd:dd.dddZ") r11 (λ (r : List ℕ). Again ((48 + d0) ∷ (48 + d1) ∷ (48 + d2) ∷ (48 + d3) ∷ 45 ∷ (48 + d4) ∷ (48 + d5) ∷ 45 ∷ (48 + d6) ∷ (48 + d7) ∷ 84 ∷ (48 + d8) ∷ r)) f11 (λ d9 r12 s9 f12.
    with_byte 58 (codes "dd:dd.dddZ") r12 (λ (r : List ℕ). Again ((48 + d0) ∷ (48 + d1) ∷ (48 + d2) ∷ (48 + d3) ∷ 45 ∷ (48 + d4) ∷ (48 + d5) ∷ 45 ∷ (48 + d6) ∷ (48 + d7) ∷ 84 ∷ (48 + d8) ∷ (48 + d9) ∷ r)) refl f12 (λ r13 f13.
    with_digit (codes "d:dd.dddZ") r13 (λ (r : List ℕ). Again ((48 + d0) ∷ (48 + d1) ∷ (48 + d2) ∷ (48 + d3) ∷ 45 ∷ (48 + d4) ∷ (48 + d5) ∷ 45 ∷ (48 + d6) ∷ (48 + d7) ∷ 84 ∷ (48 + d8) ∷ (48 + d9) ∷ 58 ∷ r)) f13 (λ d10 r14 s10 f14.
    with_digit (codes ":dd.dddZ") r14 (λ (r : List ℕ). Again ((48 + d0) ∷ (48 + d1) ∷ (48 + d2) ∷ (48 + d3) ∷ 45 ∷ (48 + d4) ∷ (48 + d5) ∷ 45 ∷ (48 + d6) ∷ (48 + d7) ∷ 84 ∷ (48 + d8) ∷ (48 + d9) ∷ 58 ∷ (48 + d10) ∷ r)) f14 (λ d11 r15 s11 f15.
    with_byte 58 (codes "dd.dddZ") r15 (λ (r : List ℕ). Again ((48 + d0) ∷ (48 + d1) ∷ (48 + d2) ∷ (48 + d3) ∷ 45 ∷ (48 + d4) ∷ (48 + d5) ∷ 45 ∷ (48 + d6) ∷ (48 + d7) ∷ 84 ∷ (48 + d8) ∷ (48 + d9) ∷ 58 ∷ (48 + d10) ∷ (48 + d11) ∷ r)) refl f15 (λ r16 f16.
    with_digit (codes "d.dddZ") r16 (λ (r : List ℕ). Again ((48 + d0) ∷ (48 + d1) ∷ (48 + d2) ∷ (48 + d3) ∷ 45 ∷ (48 + d4) ∷ (48 + d5) ∷ 45 ∷ (48 + d6) ∷ (48 + d7) ∷ 84 ∷ (48 + d8) ∷ (48 + d9) ∷ 58 ∷ (48 + d10) ∷ (48 + d11) ∷ 58 ∷ r)) f16 (λ d12 r17 s12 f17.
    with_digit (codes ".dddZ") r17 (λ (r : List ℕ). Again ((48 + d0) ∷ (48 + d1) ∷ (48 + d2) ∷ (48 + d3) ∷ 45 ∷ (48 + d4) ∷ (48 + d5) ∷ 45 ∷ (48 + d6) ∷ (48 + d7) ∷ 84 ∷ (48 + d8) ∷ (48 + d9) ∷ 58 ∷ (48 + d10) ∷ (48 + d11) ∷ 58 ∷ (48 + d12) ∷ r)) f17 (λ d13 r18 s13 f18.
    with_byte 46 (codes "dddZ") r18 (λ (r : List ℕ). Again ((48 + d0) ∷ (48 + d1) ∷ (48 + d2) ∷ (48 + d3) ∷ 45 ∷ (48 + d4) ∷ (48 + d5) ∷ 45 ∷ (48 + d6) ∷ (48 + d7) ∷ 84 ∷ (48 + d8) ∷ (48 + d9) ∷ 58 ∷ (48 + d10) ∷ (48 + d11) ∷ 58 ∷ (48 + d12) ∷ (48 + d13) ∷ r)) refl f18 (λ r19 f19.
    with_digit (codes "ddZ") r19 (λ (r : List ℕ). Again ((48 + d0) ∷ (48 + d1) ∷ (48 + d2) ∷ (48 + d3) ∷ 45 ∷ (48 + d4) ∷ (48 + d5) ∷ 45 ∷ (48 + d6) ∷ (48 + d7) ∷ 84 ∷ (48 + d8) ∷ (48 + d9) ∷ 58 ∷ (48 + d10) ∷ (48 + d11) ∷ 58 ∷ (48 + d12) ∷ (48 + d13) ∷ 46 ∷ r)) f19 (λ d14 r20 s14 f20.
    with_digit (codes "dZ") r20 (λ (r : List ℕ). Again ((48 + d0) ∷ (48 + d1) ∷ (48 + d2) ∷ (48 + d3) ∷ 45 ∷ (48 + d4) ∷ (48 + d5) ∷ 45 ∷ (48 + d6) ∷ (48 + d7) ∷ 84 ∷ (48 + d8) ∷ (48 + d9) ∷ 58 ∷ (48 + d10) ∷ (48 + d11) ∷ 58 ∷ (48 + d12) ∷ (48 + d13) ∷ 46 ∷ (48 + d14) ∷ r)) f20 (λ d15 r21 s15 f21.
    with_digit (codes "Z") r21 (λ (r : List ℕ). Again ((48 + d0) ∷ (48 + d1) ∷ (48 + d2) ∷ (48 + d3) ∷ 45 ∷ (48 + d4) ∷ (48 + d5) ∷ 45 ∷ (48 + d6) ∷ (48 + d7) ∷ 84 ∷ (48 + d8) ∷ (48 + d9) ∷ 58 ∷ (48 + d10) ∷ (48 + d11) ∷ 58 ∷ (48 + d12) ∷ (48 + d13) ∷ 46 ∷ (48 + d14) ∷ (48 + d15) ∷ r)) f21 (λ d16 r22 s16 f22.
    with_byte 90 [] r22 (λ (r : List ℕ). Again ((48 + d0) ∷ (48 + d1) ∷ (48 + d2) ∷ (48 + d3) ∷ 45 ∷ (48 + d4) ∷ (48 + d5) ∷ 45 ∷ (48 + d6) ∷ (48 + d7) ∷ 84 ∷ (48 + d8) ∷ (48 + d9) ∷ 58 ∷ (48 + d10) ∷ (48 + d11) ∷ 58 ∷ (48 + d12) ∷ (48 + d13) ∷ 46 ∷ (48 + d14) ∷ (48 + d15) ∷ (48 + d16) ∷ r)) refl f22 (λ r23 f23.
    with_end r23 (λ (r : List ℕ). Again ((48 + d0) ∷ (48 + d1) ∷ (48 + d2) ∷ (48 + d3) ∷ 45 ∷ (48 + d4) ∷ (48 + d5) ∷ 45 ∷ (48 + d6) ∷ (48 + d7) ∷ 84 ∷ (48 + d8) ∷ (48 + d9) ∷ 58 ∷ (48 + d10) ∷ (48 + d11) ∷ 58 ∷ (48 + d12) ∷ (48 + d13) ∷ 46 ∷ (48 + d14) ∷ (48 + d15) ∷ (48 + d16) ∷ 90 ∷ r)) f23 (record { same = digits_again d0 d1 d2 d3 d4 d5 d6 d7 d8 d9 d10 d11 d12 d13 d14 d15 d16 s0 s1 s2 s3 s4 s5 s6 s7 s8 s9 s10 s11 s12 s13 s14 s15 s16 })))))))))))))))))))))))))

abbrev ok : ℕ → Result ℕ TimeFault
ok t = Ok t

ok_same : (s t : ℕ) → ok s ≡ ok t → s ≡ t
ok_same s t e = cc

has_form-true : (text : List ℕ) (t : ℕ) → instant_at text ≡ Ok t → (has_form text ≡ true) × (is_civil (civil_parts text) ≡ true) × (t ≡ instant_of (civil_parts text))
unfolding instant_at
has_form-true text t e =
    elim (cases_Bool (has_form text)) [
      | inl form ↦ elim (cases_Bool (is_civil (civil_parts text))) [
        | inl date ↦ let same : ok (instant_of (civil_parts text)) ≡ ok t = rw (form, date) at e in (form, date, sym (ok_same _ _ same))
        | inr none ↦ let other = rw (form, none) at e in absurd (cc)
      ]
      | inr none ↦ let other = rw none at e in absurd (cc)
    ]

-- a text of 24 bytes that names an instant is its printed form
pub instant_text-instant_at : (text : List ℕ) (t : ℕ) → length text ≡ 24 → instant_at text ≡ Ok t → instant_text t ≡ text
unfolding instant_text
instant_text-instant_at text t long e =
    let found = has_form-true text t e in
    let civil = is_civil_to (civil_parts text) found.1 in
    ap (λ (s : ℕ). civil_text (civil_of s)) found.2
    ∙ ap civil_text (civil_of-instant_of (civil_parts text) civil)
    ∙ (spelled_again text (sym (has_form-24 text long) ∙ found.0)).same
