-- How the code walks along a text.
use Rattle.std.proofs.Common.{◌≡◌, ◌≢◌, ℕ, zero, suc, ◌+◌, ◌<◌, ◌≤◌, ◌^◌, nat_eq, Bool, true, false, ◌&&◌, List, [], ◌∷◌, length, get_or, take, drop, refl, sym, ap, ◌∙◌, arith, add-one, drop-cons, codes, ◌||◌, Fits, w8}
use Rattle.std.proofs.lemmas.Bool.{and_left, and_right, eqb-false}
use Rattle.std.proofs.Math.ListN.{drop_of_length-le}
use Rattle.std.proofs.Math.Bool.{or-false}
use Rattle.druid_time.specs.Texts.{fits_form, has_form, byte_fits, digits_value}

pub fits_form-length : (fs bs : List ℕ) → length fs ≢ length bs → fits_form fs bs ≡ false
unfolding fits_form
fits_form-length [] [] h = absurd (h refl)
fits_form-length [] (b ∷ bs) h = refl
fits_form-length (f ∷ fs) [] h = refl
fits_form-length (f ∷ fs) (b ∷ bs) h = and_right (byte_fits f b) (fits_form fs bs) (fits_form-length fs bs (λ e. h (ap suc e)))

fits_form-cons : (f b : ℕ) (fs bs : List ℕ) → fits_form (f ∷ fs) (b ∷ bs) ≡ (byte_fits f b && fits_form fs bs)
unfolding fits_form
fits_form-cons f b fs bs = refl

fits_form-nil : fits_form [] [] ≡ true
unfolding fits_form
fits_form-nil = refl

pub fits_form-end : (fs bs : List ℕ) (i : ℕ) → length fs ≤ i → length bs ≤ i → fits_form (drop i fs) (drop i bs) ≡ true
fits_form-end fs bs i h k = rw (drop_of_length-le fs h, drop_of_length-le bs k) fits_form-nil

-- one place further
pub fits_form-more : (fs bs : List ℕ) (i : ℕ) → i < length fs → i < length bs → fits_form (drop i fs) (drop i bs) ≡ (byte_fits (get_or fs i 0) (get_or bs i 0) && fits_form (drop (i + 1) fs) (drop (i + 1) bs))
fits_form-more fs bs i h k =
    rw (drop-cons fs i 0 h, drop-cons bs i 0 k, add-one) (fits_form-cons _ _ _ _)

pub fits_form-stops : (fs bs : List ℕ) (i : ℕ) (b : Bool) → i < length fs → i < length bs → b ≡ byte_fits (get_or fs i 0) (get_or bs i 0) → b ≡ false → fits_form (drop i fs) (drop i bs) ≡ false
fits_form-stops fs bs i b h k is other = fits_form-more fs bs i h k ∙ and_left _ _ (sym is ∙ other)

pub fits_form-goes : (fs bs : List ℕ) (i : ℕ) (b : Bool) → i < length fs → i < length bs → b ≡ byte_fits (get_or fs i 0) (get_or bs i 0) → b ≡ true → fits_form (drop i fs) (drop i bs) ≡ fits_form (drop (i + 1) fs) (drop (i + 1) bs)
fits_form-goes fs bs i b h k is fitting = fits_form-more fs bs i h k ∙ ap (λ x. x && fits_form (drop (i + 1) fs) (drop (i + 1) bs)) (sym is ∙ fitting)

-- three digits and fewer spell a small number
pub digits_value-small : (bs : List ℕ) (i : ℕ) → i ≤ 3 → ((k : ℕ) → Fits w8 (get_or bs k 0)) → digits_value (take i bs) < 2 ^ 20
digits_value-small bs zero h small = omega arith
digits_value-small [] (suc i) h small = omega arith
digits_value-small (a ∷ bs) (suc zero) h small = let first : Fits w8 a = small 0 in omega arith
digits_value-small (a ∷ []) (suc (suc i)) h small = let first : Fits w8 a = small 0 in omega arith
digits_value-small (a ∷ b ∷ bs) (suc (suc zero)) h small =
    let first : Fits w8 a = small 0 in
    let second : Fits w8 b = small 1 in
    omega arith
digits_value-small (a ∷ b ∷ []) (suc (suc (suc i))) h small =
    let first : Fits w8 a = small 0 in
    let second : Fits w8 b = small 1 in
    omega arith
digits_value-small (a ∷ b ∷ d ∷ bs) (suc (suc (suc zero))) h small =
    let first : Fits w8 a = small 0 in
    let second : Fits w8 b = small 1 in
    let third : Fits w8 d = small 2 in
    omega arith
digits_value-small (a ∷ b ∷ d ∷ bs) (suc (suc (suc (suc i)))) h small = absurd (omega arith)

lit_ne : (a b : ℕ) → nat_eq a b ≡ false → a ≢ b
lit_ne a b h e = eqb-false a b h e

-- the forms have different lengths
has_form-cases : (text : List ℕ) (a b c d e f g : Bool) → fits_form (codes "dddd-dd-dd") text ≡ a → fits_form (codes "dddd-dd-ddTdd:dd") text ≡ b → fits_form (codes "dddd-dd-ddTdd:ddZ") text ≡ c → fits_form (codes "dddd-dd-ddTdd:dd:dd") text ≡ d → fits_form (codes "dddd-dd-ddTdd:dd:ddZ") text ≡ e → fits_form (codes "dddd-dd-ddTdd:dd:dd.ddd") text ≡ f → fits_form (codes "dddd-dd-ddTdd:dd:dd.dddZ") text ≡ g → has_form text ≡ (a || (b || (c || (d || (e || (f || (g || false)))))))
unfolding has_form
has_form-cases text a b c d e f g ha hb hc hd he hf hg = rw (ha, hb, hc, hd, he, hf, hg) refl

pub has_form-10 : (text : List ℕ) → length text ≡ 10 → has_form text ≡ fits_form (codes "dddd-dd-dd") text
has_form-10 text h =
    has_form-cases text _ false false false false false false refl (fits_form-length (codes "dddd-dd-ddTdd:dd") text (λ e. lit_ne 16 10 refl (e ∙ h))) (fits_form-length (codes "dddd-dd-ddTdd:ddZ") text (λ e. lit_ne 17 10 refl (e ∙ h))) (fits_form-length (codes "dddd-dd-ddTdd:dd:dd") text (λ e. lit_ne 19 10 refl (e ∙ h))) (fits_form-length (codes "dddd-dd-ddTdd:dd:ddZ") text (λ e. lit_ne 20 10 refl (e ∙ h))) (fits_form-length (codes "dddd-dd-ddTdd:dd:dd.ddd") text (λ e. lit_ne 23 10 refl (e ∙ h))) (fits_form-length (codes "dddd-dd-ddTdd:dd:dd.dddZ") text (λ e. lit_ne 24 10 refl (e ∙ h))) ∙ or-false _

pub has_form-16 : (text : List ℕ) → length text ≡ 16 → has_form text ≡ fits_form (codes "dddd-dd-ddTdd:dd") text
has_form-16 text h =
    has_form-cases text false _ false false false false false (fits_form-length (codes "dddd-dd-dd") text (λ e. lit_ne 10 16 refl (e ∙ h))) refl (fits_form-length (codes "dddd-dd-ddTdd:ddZ") text (λ e. lit_ne 17 16 refl (e ∙ h))) (fits_form-length (codes "dddd-dd-ddTdd:dd:dd") text (λ e. lit_ne 19 16 refl (e ∙ h))) (fits_form-length (codes "dddd-dd-ddTdd:dd:ddZ") text (λ e. lit_ne 20 16 refl (e ∙ h))) (fits_form-length (codes "dddd-dd-ddTdd:dd:dd.ddd") text (λ e. lit_ne 23 16 refl (e ∙ h))) (fits_form-length (codes "dddd-dd-ddTdd:dd:dd.dddZ") text (λ e. lit_ne 24 16 refl (e ∙ h))) ∙ or-false _

pub has_form-17 : (text : List ℕ) → length text ≡ 17 → has_form text ≡ fits_form (codes "dddd-dd-ddTdd:ddZ") text
has_form-17 text h =
    has_form-cases text false false _ false false false false (fits_form-length (codes "dddd-dd-dd") text (λ e. lit_ne 10 17 refl (e ∙ h))) (fits_form-length (codes "dddd-dd-ddTdd:dd") text (λ e. lit_ne 16 17 refl (e ∙ h))) refl (fits_form-length (codes "dddd-dd-ddTdd:dd:dd") text (λ e. lit_ne 19 17 refl (e ∙ h))) (fits_form-length (codes "dddd-dd-ddTdd:dd:ddZ") text (λ e. lit_ne 20 17 refl (e ∙ h))) (fits_form-length (codes "dddd-dd-ddTdd:dd:dd.ddd") text (λ e. lit_ne 23 17 refl (e ∙ h))) (fits_form-length (codes "dddd-dd-ddTdd:dd:dd.dddZ") text (λ e. lit_ne 24 17 refl (e ∙ h))) ∙ or-false _

pub has_form-19 : (text : List ℕ) → length text ≡ 19 → has_form text ≡ fits_form (codes "dddd-dd-ddTdd:dd:dd") text
has_form-19 text h =
    has_form-cases text false false false _ false false false (fits_form-length (codes "dddd-dd-dd") text (λ e. lit_ne 10 19 refl (e ∙ h))) (fits_form-length (codes "dddd-dd-ddTdd:dd") text (λ e. lit_ne 16 19 refl (e ∙ h))) (fits_form-length (codes "dddd-dd-ddTdd:ddZ") text (λ e. lit_ne 17 19 refl (e ∙ h))) refl (fits_form-length (codes "dddd-dd-ddTdd:dd:ddZ") text (λ e. lit_ne 20 19 refl (e ∙ h))) (fits_form-length (codes "dddd-dd-ddTdd:dd:dd.ddd") text (λ e. lit_ne 23 19 refl (e ∙ h))) (fits_form-length (codes "dddd-dd-ddTdd:dd:dd.dddZ") text (λ e. lit_ne 24 19 refl (e ∙ h))) ∙ or-false _

pub has_form-20 : (text : List ℕ) → length text ≡ 20 → has_form text ≡ fits_form (codes "dddd-dd-ddTdd:dd:ddZ") text
has_form-20 text h =
    has_form-cases text false false false false _ false false (fits_form-length (codes "dddd-dd-dd") text (λ e. lit_ne 10 20 refl (e ∙ h))) (fits_form-length (codes "dddd-dd-ddTdd:dd") text (λ e. lit_ne 16 20 refl (e ∙ h))) (fits_form-length (codes "dddd-dd-ddTdd:ddZ") text (λ e. lit_ne 17 20 refl (e ∙ h))) (fits_form-length (codes "dddd-dd-ddTdd:dd:dd") text (λ e. lit_ne 19 20 refl (e ∙ h))) refl (fits_form-length (codes "dddd-dd-ddTdd:dd:dd.ddd") text (λ e. lit_ne 23 20 refl (e ∙ h))) (fits_form-length (codes "dddd-dd-ddTdd:dd:dd.dddZ") text (λ e. lit_ne 24 20 refl (e ∙ h))) ∙ or-false _

pub has_form-23 : (text : List ℕ) → length text ≡ 23 → has_form text ≡ fits_form (codes "dddd-dd-ddTdd:dd:dd.ddd") text
has_form-23 text h =
    has_form-cases text false false false false false _ false (fits_form-length (codes "dddd-dd-dd") text (λ e. lit_ne 10 23 refl (e ∙ h))) (fits_form-length (codes "dddd-dd-ddTdd:dd") text (λ e. lit_ne 16 23 refl (e ∙ h))) (fits_form-length (codes "dddd-dd-ddTdd:ddZ") text (λ e. lit_ne 17 23 refl (e ∙ h))) (fits_form-length (codes "dddd-dd-ddTdd:dd:dd") text (λ e. lit_ne 19 23 refl (e ∙ h))) (fits_form-length (codes "dddd-dd-ddTdd:dd:ddZ") text (λ e. lit_ne 20 23 refl (e ∙ h))) refl (fits_form-length (codes "dddd-dd-ddTdd:dd:dd.dddZ") text (λ e. lit_ne 24 23 refl (e ∙ h))) ∙ or-false _

pub has_form-24 : (text : List ℕ) → length text ≡ 24 → has_form text ≡ fits_form (codes "dddd-dd-ddTdd:dd:dd.dddZ") text
has_form-24 text h =
    has_form-cases text false false false false false false _ (fits_form-length (codes "dddd-dd-dd") text (λ e. lit_ne 10 24 refl (e ∙ h))) (fits_form-length (codes "dddd-dd-ddTdd:dd") text (λ e. lit_ne 16 24 refl (e ∙ h))) (fits_form-length (codes "dddd-dd-ddTdd:ddZ") text (λ e. lit_ne 17 24 refl (e ∙ h))) (fits_form-length (codes "dddd-dd-ddTdd:dd:dd") text (λ e. lit_ne 19 24 refl (e ∙ h))) (fits_form-length (codes "dddd-dd-ddTdd:dd:ddZ") text (λ e. lit_ne 20 24 refl (e ∙ h))) (fits_form-length (codes "dddd-dd-ddTdd:dd:dd.ddd") text (λ e. lit_ne 23 24 refl (e ∙ h))) refl ∙ or-false _

pub has_form-other : (text : List ℕ) → length text ≢ 10 → length text ≢ 16 → length text ≢ 17 → length text ≢ 19 → length text ≢ 20 → length text ≢ 23 → length text ≢ 24 → has_form text ≡ false
has_form-other text h10 h16 h17 h19 h20 h23 h24 =
    has_form-cases text false false false false false false false (fits_form-length (codes "dddd-dd-dd") text (λ e. h10 (sym e))) (fits_form-length (codes "dddd-dd-ddTdd:dd") text (λ e. h16 (sym e))) (fits_form-length (codes "dddd-dd-ddTdd:ddZ") text (λ e. h17 (sym e))) (fits_form-length (codes "dddd-dd-ddTdd:dd:dd") text (λ e. h19 (sym e))) (fits_form-length (codes "dddd-dd-ddTdd:dd:ddZ") text (λ e. h20 (sym e))) (fits_form-length (codes "dddd-dd-ddTdd:dd:dd.ddd") text (λ e. h23 (sym e))) (fits_form-length (codes "dddd-dd-ddTdd:dd:dd.dddZ") text (λ e. h24 (sym e)))
