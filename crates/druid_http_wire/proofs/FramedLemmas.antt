-- An input is framed in one way.
use Rattle.std.proofs.Common.{◌≡◌, ◌≢◌, ℕ, ◌+◌, ◌<◌, ◌≤◌, List, [], ◌∷◌, ◌++◌, All, length, length-append, append_assoc, append-nil, refl, sym, ap, subst, ◌∙◌, arith, inl, inr}
use Rattle.std.proofs.lemmas.List.Elements.{All-nil, All-cons, All-head, All-tail}
use Rattle.druid_http_wire.specs.Frame.{IsPlain, IsBlank, IsTextLine, text_of, IsFramed, IsBegun, EndsInHead, IsLongHead}

-- ---- lines

-- the first of some lines, and what is after it
pub first_line : (line : List ℕ) (lines : List (List ℕ)) (rest : List ℕ) → text_of (line ∷ lines) ++ rest ≡ line ++ 10 ∷ (text_of lines ++ rest)
first_line line lines rest = append_assoc (line ++ 10 ∷ []) (text_of lines) rest ∙ append_assoc line (10 ∷ []) (text_of lines ++ rest)

-- a line ends at its first line feed
pub line_once : (x y a b : List ℕ) → IsPlain x → IsPlain y → x ++ 10 ∷ a ≡ y ++ 10 ∷ b → (x ≡ y) × (a ≡ b)
line_once [] [] a b p q e = (refl, cc)
line_once [] (c ∷ y) a b p q e = absurd (All-head (λ n. n ≢ 10) c y q (cc))
line_once (c ∷ x) [] a b p q e = absurd (All-head (λ n. n ≢ 10) c x p (cc))
line_once (c ∷ x) (d ∷ y) a b p q e =
    let tails = line_once x y a b (All-tail (λ n. n ≢ 10) c x p) (All-tail (λ n. n ≢ 10) d y q) (cc) in
    (cc, tails.1)

not_feed : ◌≡◌ {A = ℕ} 13 10 → ⊥
not_feed e = omega arith

pub blank_plain : (line : List ℕ) → IsBlank line → IsPlain line
blank_plain line blank =
    elim blank [
      | inl e ↦ subst IsPlain (sym e) (All-nil (λ n. n ≢ 10))
      | inr e ↦ subst IsPlain (sym e) (All-cons (λ n. n ≢ 10) 13 [] not_feed (All-nil (λ n. n ≢ 10)))
    ]

pub blank_short : (line : List ℕ) → IsBlank line → length line ≤ 1
blank_short line blank =
    elim blank [
      | inl e ↦ omega (arith, ap length e)
      | inr e ↦ omega (arith, ap length e)
    ]

-- where the first line is not blank, no blank line comes first
pub text_not_blank : (lines : List (List ℕ)) (blank beyond rest : List ℕ) → All IsTextLine lines → 0 < length lines → IsBlank blank
    → text_of lines ++ rest ≡ blank ++ 10 ∷ beyond → ⊥
text_not_blank [] blank beyond rest texts some is e = omega arith
text_not_blank (l ∷ lines) blank beyond rest texts some is e =
    let first = All-head IsTextLine l lines texts in
    let same = line_once l blank (text_of lines ++ rest) beyond first.0 (blank_plain blank is) (sym (first_line l lines rest) ∙ e) in
    first.1 (subst IsBlank (sym same.0) is)

-- the lines after as many blank ones
pub same_blanks : (bs cs xs ys : List (List ℕ)) (a b : List ℕ) → All IsBlank bs → All IsBlank cs → All IsTextLine xs → All IsTextLine ys
    → 0 < length xs → 0 < length ys → text_of bs ++ (text_of xs ++ a) ≡ text_of cs ++ (text_of ys ++ b) → text_of xs ++ a ≡ text_of ys ++ b
same_blanks [] [] xs ys a b p q tx ty sx sy e = e
same_blanks [] (d ∷ cs) xs ys a b p q tx ty sx sy e =
    absurd (text_not_blank xs d (text_of cs ++ (text_of ys ++ b)) a tx sx (All-head IsBlank d cs q) (e ∙ first_line d cs (text_of ys ++ b)))
same_blanks (c ∷ bs) [] xs ys a b p q tx ty sx sy e =
    absurd (text_not_blank ys c (text_of bs ++ (text_of xs ++ a)) b ty sy (All-head IsBlank c bs p) (sym e ∙ first_line c bs (text_of xs ++ a)))
same_blanks (c ∷ bs) (d ∷ cs) xs ys a b p q tx ty sx sy e =
    same_blanks bs cs xs ys a b (All-tail IsBlank c bs p) (All-tail IsBlank d cs q) tx ty sx sy
    (line_once c d (text_of bs ++ (text_of xs ++ a)) (text_of cs ++ (text_of ys ++ b)) (blank_plain c (All-head IsBlank c bs p)) (blank_plain d (All-head IsBlank d cs q))
    (sym (first_line c bs (text_of xs ++ a)) ∙ e ∙ first_line d cs (text_of ys ++ b))).1

-- the lines of a text, up to the blank line after them
same_lines : (xs ys : List (List ℕ)) (x y a b : List ℕ) → All IsTextLine xs → All IsTextLine ys → IsBlank x → IsBlank y
    → text_of xs ++ (x ++ 10 ∷ a) ≡ text_of ys ++ (y ++ 10 ∷ b) → (text_of xs ++ (x ++ 10 ∷ []) ≡ text_of ys ++ (y ++ 10 ∷ [])) × (a ≡ b)
same_lines [] [] x y a b tx ty p q e =
    let same = line_once x y a b (blank_plain x p) (blank_plain y q) e in
    (ap (λ (l : List ℕ). l ++ 10 ∷ []) same.0, same.1)
same_lines [] (m ∷ ys) x y a b tx ty p q e = absurd (text_not_blank (m ∷ ys) x a (y ++ 10 ∷ b) ty (omega arith) p (sym e))
same_lines (l ∷ xs) [] x y a b tx ty p q e = absurd (text_not_blank (l ∷ xs) y b (x ++ 10 ∷ a) tx (omega arith) q e)
same_lines (l ∷ xs) (m ∷ ys) x y a b tx ty p q e =
    let first = line_once l m (text_of xs ++ (x ++ 10 ∷ a)) (text_of ys ++ (y ++ 10 ∷ b)) (All-head IsTextLine l xs tx).0 (All-head IsTextLine m ys ty).0
    (sym (first_line l xs (x ++ 10 ∷ a)) ∙ e ∙ first_line m ys (y ++ 10 ∷ b)) in
    let later = same_lines xs ys x y a b (All-tail IsTextLine l xs tx) (All-tail IsTextLine m ys ty) p q first.1 in (
      first_line l xs (x ++ 10 ∷ []) ∙ ap (λ (t : List ℕ). t ++ 10 ∷ (text_of xs ++ (x ++ 10 ∷ []))) first.0 ∙ ap (λ (t : List ℕ). m ++ 10 ∷ t) later.0
          ∙ sym (first_line m ys (y ++ 10 ∷ [])),
      later.1,
    )

-- ---- one head

-- the lines of a framed input
pub lines_in : (input head rest : List ℕ) (f : IsFramed input head rest) → input ≡ text_of f.blank ++ (text_of f.framed.lines ++ (f.framed.last ++ 10 ∷ rest))
lines_in input head rest f =
    f.is ∙ ap (λ (l : List ℕ). text_of f.blank ++ l) (ap (λ (l : List ℕ). l ++ rest) f.framed.is ∙ append_assoc (text_of f.framed.lines) (f.framed.last ++ 10 ∷ []) rest
    ∙ ap (λ (l : List ℕ). text_of f.framed.lines ++ l) (append_assoc f.framed.last (10 ∷ []) rest))

pub one_head : (input a b r s : List ℕ) → IsFramed input a r → IsFramed input b s → (a ≡ b) × (r ≡ s)
one_head input a b r s f g =
    let beyond = same_blanks f.blank g.blank f.framed.lines g.framed.lines (f.framed.last ++ 10 ∷ r) (g.framed.last ++ 10 ∷ s) f.blanks g.blanks f.framed.each g.framed.each
    f.framed.some g.framed.some (sym (lines_in input a r f) ∙ lines_in input b s g) in
    let same = same_lines f.framed.lines g.framed.lines f.framed.last g.framed.last r s f.framed.each g.framed.each f.framed.empty g.framed.empty beyond in
    (f.framed.is ∙ same.0 ∙ sym g.framed.is, same.1)

-- ---- an input that is begun

-- bytes with no line feed lie before the first one
inside : (x line a more : List ℕ) → IsPlain line → x ++ 10 ∷ a ≡ line ++ more → length line ≤ length x
inside x [] a more p e = omega arith
inside [] (c ∷ line) a more p e = absurd (All-head (λ n. n ≢ 10) c line p (cc))
inside (d ∷ x) (c ∷ line) a more p e =
    let later = inside x line a more (All-tail (λ n. n ≢ 10) c line p) (cc) in
    omega (arith, later)

length_first : (line : List ℕ) (lines : List (List ℕ)) (rest : List ℕ) → length (text_of (line ∷ lines) ++ rest) ≡ length line + 1 + length (text_of lines ++ rest)
length_first line lines rest = omega (arith, ap length (first_line line lines rest), length-append line (10 ∷ (text_of lines ++ rest)))

-- lines that are begun end before the blank line after them does
begun_lines : (xs ys : List (List ℕ)) (x a line more : List ℕ) → All IsTextLine xs → IsBlank x → All IsTextLine ys → IsPlain line
    → text_of xs ++ (x ++ 10 ∷ a) ≡ text_of ys ++ (line ++ more) → length (text_of ys ++ line) ≤ length (text_of xs ++ x)
begun_lines [] [] x a line more tx p ty q e = inside x line a more q e
begun_lines [] (m ∷ ys) x a line more tx p ty q e = absurd (text_not_blank (m ∷ ys) x a (line ++ more) ty (omega arith) p (sym e))
begun_lines (l ∷ xs) [] x a line more tx p ty q e =
    let fits = inside l line (text_of xs ++ (x ++ 10 ∷ a)) more q (sym (first_line l xs (x ++ 10 ∷ a)) ∙ e) in
    omega (arith, fits, length_first l xs x)
begun_lines (l ∷ xs) (m ∷ ys) x a line more tx p ty q e =
    let first = line_once l m (text_of xs ++ (x ++ 10 ∷ a)) (text_of ys ++ (line ++ more)) (All-head IsTextLine l xs tx).0 (All-head IsTextLine m ys ty).0
    (sym (first_line l xs (x ++ 10 ∷ a)) ∙ e ∙ first_line m ys (line ++ more)) in
    let later = begun_lines xs ys x a line more (All-tail IsTextLine l xs tx) p (All-tail IsTextLine m ys ty) q first.1 in
    omega (arith, later, length_first l xs x, length_first m ys line, ap length first.0)

-- text that is begun where blank lines are to come is part of the first of them
begun_in_blank : (c : List ℕ) (bs xs ys : List (List ℕ)) (x a line more : List ℕ) → IsBlank c → All IsTextLine xs → 0 < length xs → All IsTextLine ys → IsPlain line
    → text_of (c ∷ bs) ++ (text_of xs ++ (x ++ 10 ∷ a)) ≡ text_of ys ++ (line ++ more)
    → length (text_of ys ++ line) ≤ length (text_of (c ∷ bs) ++ (text_of xs ++ x))
begun_in_blank c bs [] ys x a line more p tx some ty q e = absurd (omega arith)
begun_in_blank c bs (l ∷ xs) [] x a line more p tx some ty q e =
    let fits = inside c line (text_of bs ++ (text_of (l ∷ xs) ++ (x ++ 10 ∷ a))) more q (sym (first_line c bs (text_of (l ∷ xs) ++ (x ++ 10 ∷ a))) ∙ e) in
    omega (arith, fits, length_first c bs (text_of (l ∷ xs) ++ x))
begun_in_blank c bs (l ∷ xs) (m ∷ ys) x a line more p tx some ty q e =
    absurd (text_not_blank (m ∷ ys) c (text_of bs ++ (text_of (l ∷ xs) ++ (x ++ 10 ∷ a))) (line ++ more) ty (omega arith) p
    (sym e ∙ first_line c bs (text_of (l ∷ xs) ++ (x ++ 10 ∷ a))))

-- what is begun ends before the head does
begun_within : (bs cs xs ys : List (List ℕ)) (x a line more : List ℕ) → All IsBlank bs → All IsTextLine xs → 0 < length xs → IsBlank x → All IsBlank cs → All IsTextLine ys → IsPlain line
    → text_of bs ++ (text_of xs ++ (x ++ 10 ∷ a)) ≡ text_of cs ++ (text_of ys ++ (line ++ more))
    → length (text_of cs ++ (text_of ys ++ line)) ≤ length (text_of bs ++ (text_of xs ++ x))
begun_within [] [] xs ys x a line more p tx some q r ty s e = begun_lines xs ys x a line more tx q ty s e
begun_within [] (d ∷ cs) xs ys x a line more p tx some q r ty s e =
    absurd (text_not_blank xs d (text_of cs ++ (text_of ys ++ (line ++ more))) (x ++ 10 ∷ a) tx some (All-head IsBlank d cs r) (e ∙ first_line d cs (text_of ys ++ (line ++ more))))
begun_within (c ∷ bs) [] xs ys x a line more p tx some q r ty s e = begun_in_blank c bs xs ys x a line more (All-head IsBlank c bs p) tx some ty s e
begun_within (c ∷ bs) (d ∷ cs) xs ys x a line more p tx some q r ty s e =
    let first = line_once c d (text_of bs ++ (text_of xs ++ (x ++ 10 ∷ a))) (text_of cs ++ (text_of ys ++ (line ++ more))) (blank_plain c (All-head IsBlank c bs p))
    (blank_plain d (All-head IsBlank d cs r)) (sym (first_line c bs (text_of xs ++ (x ++ 10 ∷ a))) ∙ e ∙ first_line d cs (text_of ys ++ (line ++ more))) in
    let later = begun_within bs cs xs ys x a line more (All-tail IsBlank c bs p) tx some q (All-tail IsBlank d cs r) ty s first.1 in
    omega (arith, later, length_first c bs (text_of xs ++ x), length_first d cs (text_of ys ++ line), ap length first.0)

begun_is : (input begun front rest : List ℕ) (b : IsBegun begun front) → input ≡ begun ++ rest → input ≡ text_of b.blank ++ (text_of b.lines ++ (b.line ++ rest))
begun_is input begun front rest b e =
    e ∙ ap (λ (l : List ℕ). l ++ rest) (b.is ∙ ap (λ (l : List ℕ). text_of b.blank ++ l) b.front_is) ∙ append_assoc (text_of b.blank) (text_of b.lines ++ b.line) rest
    ∙ ap (λ (l : List ℕ). text_of b.blank ++ l) (append_assoc (text_of b.lines) b.line rest)

-- with one byte more than a and b
one_more : (a b : List ℕ) → length (a ++ (b ++ 10 ∷ [])) ≡ length (a ++ b) + 1
one_more a b = omega (arith, length-append a (b ++ 10 ∷ []), length-append b (10 ∷ []), length-append a b)

pub begun_is_short : (input head rest begun front more : List ℕ) (f : IsFramed input head rest) → input ≡ begun ++ more → IsBegun begun front
    → (length begun < length (text_of f.blank) + length head) × (length begun < length input)
begun_is_short input head rest begun front more f e b =
    let fits = begun_within f.blank b.blank f.framed.lines b.lines f.framed.last rest b.line more f.blanks f.framed.each f.framed.some f.framed.empty b.blanks b.each b.plain
    (sym (lines_in input head rest f) ∙ begun_is input begun front more b e) in
    let long = ap length f.framed.is ∙ one_more (text_of f.framed.lines) f.framed.last in
    let within : length begun < length (text_of f.blank) + length head =
    omega (
      arith,
      fits,
      long,
      ap length (b.is ∙ ap (λ (l : List ℕ). text_of b.blank ++ l) b.front_is),
      length-append (text_of f.blank) (text_of f.framed.lines ++ f.framed.last),
    ) in
    (within, omega (arith, within, ap length f.is, length-append (text_of f.blank) (head ++ rest), length-append head rest))

pub not_cut : (input head rest : List ℕ) → IsFramed input head rest → ¬ (EndsInHead input)
not_cut input head rest f ends =
    let short = begun_is_short input head rest input ends.0 [] f (sym (append-nil input)) ends.1 in
    omega (arith, short.1)

pub not_long : (input head rest : List ℕ) → IsFramed input head rest → ¬ (IsLongHead input)
not_long input head rest f l =
    let short = begun_is_short input head rest l.begun l.front l.rest f l.is l.begins in
    omega (arith, short.0, l.long, f.short)
