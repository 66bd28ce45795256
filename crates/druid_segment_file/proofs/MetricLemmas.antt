-- A metric, read and written: a mark for each row, and then the numbers that there are.
use Rattle.std.proofs.Common.{◌≡◌, ℕ, ℤ, zero, suc, Bool, true, false, List, [], ◌∷◌, ◌++◌, length, map, Option, Some, None, is_some, Ok, refl, sym, ap, subst, ◌∙◌, append_assoc}
use Rattle.std.specs.Prelude.{All}
use Rattle.std.specs.List.{flat_map}
use Rattle.std.proofs.lemmas.List.{length-map}
use Rattle.std.proofs.lemmas.List.Concat.{flat_map-cons}
use Rattle.std.proofs.lemmas.List.Elements.{All-nil, All-cons, All-head, All-tail}
use Rattle.druid_segment_file.specs.declared.fault.FileFault.{FileFault}
use Rattle.druid_segment_file.specs.ByteParts.{number}
use Rattle.druid_segment_file.specs.ColumnBytes.{mark, present, metric}
use Rattle.druid_time.specs.Results.{◌>>=◌}
use Rattle.druid_segment_file.specs.ColumnReader.{mark_at, present_at, metric_at}
use Rattle.druid_segment_file.proofs.PartLemmas.{bind_ok, ok_is, IsBytes, IsBytes-rest, Takes, Takes-then, Reads, step_takes, step_again, signed_read, AreEach, each_read}
use Rattle.druid_segment_file.proofs.RowLemmas.{IsNumberValue}

-- ---- the marks

-- the mark of a row that has a number, or has none
abbrev mark_of : Bool → List ℕ
mark_of false = 0 ∷ []
mark_of true = 1 ∷ []

abbrev IsMark : Bool → Type 0
IsMark b = Unit {0}

mark_takes : (short : FileFault) (bytes : List ℕ) (x : Bool × List ℕ) → IsBytes bytes → mark_at short bytes ≡ Ok x → Takes bytes (mark_of x.0) x.1 × IsMark x.0
unfolding mark_at
mark_takes short [] x fits e = absurd cc
mark_takes short (zero ∷ bytes) x fits e =
    subst (λ (p : Bool × List ℕ). Takes (0 ∷ bytes) (mark_of p.0) p.1 × IsMark p.0) (ok_is (false, bytes) x e) (record { parts = refl; rest_fits = IsBytes-rest 0 bytes fits }, tt)
mark_takes short (suc zero ∷ bytes) x fits e =
    subst (λ (p : Bool × List ℕ). Takes (1 ∷ bytes) (mark_of p.0) p.1 × IsMark p.0) (ok_is (true, bytes) x e) (record { parts = refl; rest_fits = IsBytes-rest 1 bytes fits }, tt)
mark_takes short (suc (suc m) ∷ bytes) x fits e = absurd cc

mark_again : (short : FileFault) (b : Bool) (rest : List ℕ) → IsMark b → mark_at short (mark_of b ++ rest) ≡ Ok (b, rest)
unfolding mark_at
mark_again short false rest h = refl
mark_again short true rest h = refl

mark_read : (short : FileFault) → Reads Bool (mark_at short) mark_of IsMark
mark_read short = record { takes = mark_takes short; again = mark_again short }

abbrev pub marks_of : List (Option ℤ) → List Bool
marks_of numbers = map is_some numbers

marks_text : (numbers : List (Option ℤ)) → flat_map mark numbers ≡ flat_map mark_of (marks_of numbers)
marks_text [] = refl
marks_text (None ∷ numbers) = ap (λ (t : List ℕ). 0 ∷ t) (marks_text numbers)
marks_text (Some n ∷ numbers) = ap (λ (t : List ℕ). 1 ∷ t) (marks_text numbers)

-- ---- the numbers

present_takes : (short : FileFault) (marks : List Bool) (bytes : List ℕ) (x : List (Option ℤ) × List ℕ) → IsBytes bytes → present_at short marks bytes ≡ Ok x → Takes bytes (flat_map present x.0) x.1 × (marks_of x.0 ≡ marks) × All IsNumberValue x.0
unfolding present_at
present_takes short [] bytes x fits e =
    subst (λ (p : List (Option ℤ) × List ℕ). Takes bytes (flat_map present p.0) p.1 × (marks_of p.0 ≡ []) × All IsNumberValue p.0) (ok_is ([], bytes) x e) (record { parts = refl; rest_fits = fits }, refl, All-nil IsNumberValue)
present_takes short (false ∷ marks) bytes x fits e =
    let b = bind_ok (present_at short marks bytes) (λ others. Ok (None ∷ others.0, others.1)) x e in
    let t = present_takes short marks bytes b.0 fits b.1 in
    let made : List (Option ℤ) × List ℕ = (None ∷ b.0.0, b.0.1) in
    subst (λ (p : List (Option ℤ) × List ℕ). Takes bytes (flat_map present p.0) p.1 × (marks_of p.0 ≡ false ∷ marks) × All IsNumberValue p.0) (ok_is made x b.2) (t.0, ap (λ ms. false ∷ ms) t.1, All-cons IsNumberValue None b.0.0 tt t.2)
present_takes short (true ∷ marks) bytes x fits e =
    let a = step_takes (signed_read short) (λ n. present_at short marks n.1 >>= λ others. Ok (Some n.0 ∷ others.0, others.1)) bytes x fits e in
    let b = bind_ok (present_at short marks a.0.1) (λ others. Ok (Some a.0.0 ∷ others.0, others.1)) x a.3 in
    let t = present_takes short marks a.0.1 b.0 a.1.rest_fits b.1 in
    let both = Takes-then bytes (number a.0.0) a.0.1 (flat_map present b.0.0) b.0.1 a.1 t.0 in
    let made : List (Option ℤ) × List ℕ = (Some a.0.0 ∷ b.0.0, b.0.1) in
    subst (λ (p : List (Option ℤ) × List ℕ). Takes bytes (flat_map present p.0) p.1 × (marks_of p.0 ≡ true ∷ marks) × All IsNumberValue p.0) (ok_is made x b.2) (rw flat_map-cons both, ap (λ ms. true ∷ ms) t.1, All-cons IsNumberValue (Some a.0.0) b.0.0 a.2 t.2)

present_again : (short : FileFault) (numbers : List (Option ℤ)) (rest : List ℕ) → All IsNumberValue numbers → present_at short (marks_of numbers) (flat_map present numbers ++ rest) ≡ Ok (numbers, rest)
unfolding present_at
present_again short [] rest h = refl
present_again short (None ∷ numbers) rest h =
    ap (λ r. r >>= λ others. Ok (None ∷ others.0, others.1)) (present_again short numbers rest (All-tail IsNumberValue None numbers h))
present_again short (Some n ∷ numbers) rest h =
    let regrouped : flat_map present (Some n ∷ numbers) ++ rest ≡ number n ++ (flat_map present numbers ++ rest) = ap (λ (t : List ℕ). t ++ rest) (flat_map-cons present (Some n) numbers) ∙ append_assoc (number n) (flat_map present numbers) rest in
    ap (present_at short (true ∷ marks_of numbers)) regrouped
    ∙ step_again (signed_read short) (λ m. present_at short (marks_of numbers) m.1 >>= λ others. Ok (Some m.0 ∷ others.0, others.1)) n (flat_map present numbers ++ rest) (All-head IsNumberValue (Some n) numbers h)
    ∙ ap (λ r. r >>= λ others. Ok (Some n ∷ others.0, others.1)) (present_again short numbers rest (All-tail IsNumberValue (Some n) numbers h))

-- ---- a metric

abbrev pub IsMetric : ℕ → List (Option ℤ) → Type 0
IsMetric rows numbers = AreEach IsNumberValue rows numbers

pub metric_read : (short : FileFault) (rows : ℕ) → Reads (List (Option ℤ)) (metric_at short rows) metric (IsMetric rows)
unfolding metric_at
metric_read short rows = record {
  takes = λ bytes x fits e.
      let s = step_takes (each_read (mark_at short) mark_of IsMark (mark_read short) rows) (λ marks. present_at short marks.0 marks.1) bytes x fits e in
      let t = present_takes short s.0.0 s.0.1 x s.1.rest_fits s.3 in
      let marks : flat_map mark_of s.0.0 ≡ flat_map mark x.0 = ap (flat_map mark_of) (sym t.1) ∙ sym (marks_text x.0) in
      let first : Takes bytes (flat_map mark x.0) s.0.1 = subst (λ (m : List ℕ). Takes bytes m s.0.1) marks s.1 in
      let long : length x.0 ≡ rows = sym (length-map x.0 is_some) ∙ ap length t.1 ∙ s.2.0 in
      (Takes-then bytes (flat_map mark x.0) s.0.1 (flat_map present x.0) x.1 first t.0, (long, t.2));
  again = λ numbers rest h.
      let after = flat_map present numbers ++ rest in
      let long : length (marks_of numbers) ≡ rows = length-map numbers is_some ∙ h.0 in
      ap (metric_at short rows) (append_assoc (flat_map mark numbers) (flat_map present numbers) rest ∙ ap (λ (m : List ℕ). m ++ after) (marks_text numbers))
      ∙ step_again (each_read (mark_at short) mark_of IsMark (mark_read short) rows) (λ marks. present_at short marks.0 marks.1) (marks_of numbers) after (long, λ i d lt. tt)
      ∙ present_again short numbers rest h.1;
}
