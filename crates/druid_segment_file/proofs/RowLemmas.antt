-- Rows, read and written.
use Rattle.std.proofs.Common.{◌≡◌, ℕ, ℤ, zero, suc, ◌^◌, ◌≤◌, ◌&&◌, ltb, leb, List, [], ◌∷◌, ◌++◌, length, Option, Some, None, Ok, refl, sym, ap, subst, ◌∙◌, append_assoc, arith}
use Rattle.std.specs.Prelude.{ok_or, IfSome, FitsSigned, All}
use Rattle.std.specs.List.{flat_map}
use Rattle.std.specs.Int.{w32, w64, to_be_bytes}
use Rattle.std.proofs.lemmas.Bool.{and_parts, ltb-true, lt-ltb, leb-true, le-leb}
use Rattle.std.proofs.lemmas.Option.{cond_some}
use Rattle.druid_time.specs.Extent.{Extent, Has}
use Rattle.druid_time.specs.Instant.{unix_ms, IsInstant}
use Rattle.druid_segment_rows.specs.Rows.{Row}
use Rattle.druid_segment_rows.specs.Segment.{max_rows}
use Rattle.druid_segment_file.specs.declared.fault.FileFault.{FileFault}
use Rattle.druid_segment_file.specs.declared.fault.FileFault.TheVariants.{RowOutside}
use Rattle.druid_segment_file.specs.ByteParts.{number, instant, text_value, number_value, row, rows}
use Rattle.druid_time.specs.Results.{◌>>=◌}
use Rattle.druid_segment_file.specs.Parts.{at_most, each_at, instant_of, instant_in, row_time_at, text_value_at, number_value_at, Shape, values_at, rows_at}
use Rattle.druid_segment_file.proofs.MomentLemmas.{instant_of-unix_ms, of_instant, FitsSigned-unix_ms}
use Rattle.druid_segment_file.proofs.PartLemmas.{bind_ok, ok_is, at_most_ok, at_most_within, IsBytes, IsBytes-rest, Takes, Takes-then, Reads, step_takes, step_again, wide32, number_read, signed_read, IsText, text_read, AreEach, each_read}
use Rattle.druid_segment_file.proofs.HeadLemmas.{ok_or_ok}

-- ---- the instant of a row

instant_in_has : (interval : Extent) (o : Option ℕ) (t : ℕ) → instant_in interval o ≡ Some t → (o ≡ Some t) × Has interval t
instant_in_has interval None t e = absurd cc
instant_in_has interval (Some s) t e =
    let c = cond_some (leb interval.start s && ltb s interval.end) s t e in
    let both = and_parts (leb interval.start s) (ltb s interval.end) c.0 in
    (ap Some c.1, (omega (arith, c.1, leb-true interval.start s both.0), omega (arith, c.1, ltb-true s interval.end both.1)))

instant_in_kept : (interval : Extent) (t : ℕ) → Has interval t → instant_in interval (Some t) ≡ Some t
instant_in_kept interval t h =
    let low = le-leb interval.start t h.0 in
    let high = lt-ltb t interval.end h.1 in
    rw (low, high) refl

abbrev pub IsRowTime : Extent → ℕ → Type 0
IsRowTime interval t = Has interval t × IsInstant t

pub row_time_read : (short : FileFault) (interval : Extent) → Reads ℕ (row_time_at short interval) instant (IsRowTime interval)
unfolding row_time_at
row_time_read short interval = record {
  takes = λ bytes x fits e.
      let s = step_takes (signed_read short) _ bytes x fits e in
      let m = bind_ok (ok_or (instant_in interval (instant_of s.0.0)) RowOutside) (λ time. Ok (time, s.0.1)) x s.3 in
      let h = instant_in_has interval (instant_of s.0.0) m.0 (ok_or_ok (instant_in interval (instant_of s.0.0)) RowOutside m.0 m.1) in
      let i = of_instant s.0.0 m.0 h.0 in
      let took : Takes bytes (instant m.0) s.0.1 = subst (λ z. Takes bytes (number z) s.0.1) (sym i.0) s.1 in
      subst (λ (p : ℕ × List ℕ). Takes bytes (instant p.0) p.1 × IsRowTime interval p.0) (ok_is (m.0, s.0.1) x m.2) (took, (h.1, i.1));
  again = λ t rest h.
      step_again (signed_read short) _ (unix_ms t) rest (FitsSigned-unix_ms t h.1)
      ∙ ap (λ o. ok_or (instant_in interval o) RowOutside >>= λ time. Ok (time, rest)) (instant_of-unix_ms t h.1)
      ∙ ap (λ o. ok_or o RowOutside >>= λ time. Ok (time, rest)) (instant_in_kept interval t h.0);
}

-- ---- values

abbrev pub IsTextValue : Option (List ℕ) → Type 0
IsTextValue value = IfSome value IsText

abbrev pub IsNumberValue : Option ℤ → Type 0
IsNumberValue value = IfSome value (FitsSigned w64)

text_value_takes : (short : FileFault) (bytes : List ℕ) (x : Option (List ℕ) × List ℕ) → IsBytes bytes → text_value_at short bytes ≡ Ok x → Takes bytes (text_value x.0) x.1 × IsTextValue x.0
unfolding text_value_at
text_value_takes short [] x fits e = absurd cc
text_value_takes short (zero ∷ bytes) x fits e =
    subst (λ (p : Option (List ℕ) × List ℕ). Takes (0 ∷ bytes) (text_value p.0) p.1 × IsTextValue p.0) (ok_is (None, bytes) x e) (record { parts = refl; rest_fits = IsBytes-rest 0 bytes fits }, tt)
text_value_takes short (suc zero ∷ bytes) x fits e =
    let s = step_takes (text_read short) (λ part. Ok (Some part.0, part.1)) bytes x (IsBytes-rest 1 bytes fits) e in
    let took : Takes (1 ∷ bytes) (text_value (Some s.0.0)) s.0.1 = record { parts = ap (λ (t : List ℕ). 1 ∷ t) s.1.parts; rest_fits = s.1.rest_fits } in
    subst (λ (p : Option (List ℕ) × List ℕ). Takes (1 ∷ bytes) (text_value p.0) p.1 × IsTextValue p.0) (ok_is (Some s.0.0, s.0.1) x s.3) (took, s.2)
text_value_takes short (suc (suc mark) ∷ bytes) x fits e = absurd cc

text_value_again : (short : FileFault) (value : Option (List ℕ)) (rest : List ℕ) → IsTextValue value → text_value_at short (text_value value ++ rest) ≡ Ok (value, rest)
unfolding text_value_at
text_value_again short None rest h = refl
text_value_again short (Some bytes) rest h = step_again (text_read short) (λ part. Ok (Some part.0, part.1)) bytes rest h

pub text_value_read : (short : FileFault) → Reads (Option (List ℕ)) (text_value_at short) text_value IsTextValue
text_value_read short = record { takes = text_value_takes short; again = text_value_again short }

number_value_takes : (short : FileFault) (bytes : List ℕ) (x : Option ℤ × List ℕ) → IsBytes bytes → number_value_at short bytes ≡ Ok x → Takes bytes (number_value x.0) x.1 × IsNumberValue x.0
unfolding number_value_at
number_value_takes short [] x fits e = absurd cc
number_value_takes short (zero ∷ bytes) x fits e =
    subst (λ (p : Option ℤ × List ℕ). Takes (0 ∷ bytes) (number_value p.0) p.1 × IsNumberValue p.0) (ok_is (None, bytes) x e) (record { parts = refl; rest_fits = IsBytes-rest 0 bytes fits }, tt)
number_value_takes short (suc zero ∷ bytes) x fits e =
    let s = step_takes (signed_read short) (λ part. Ok (Some part.0, part.1)) bytes x (IsBytes-rest 1 bytes fits) e in
    let took : Takes (1 ∷ bytes) (number_value (Some s.0.0)) s.0.1 = record { parts = ap (λ (t : List ℕ). 1 ∷ t) s.1.parts; rest_fits = s.1.rest_fits } in
    subst (λ (p : Option ℤ × List ℕ). Takes (1 ∷ bytes) (number_value p.0) p.1 × IsNumberValue p.0) (ok_is (Some s.0.0, s.0.1) x s.3) (took, s.2)
number_value_takes short (suc (suc mark) ∷ bytes) x fits e = absurd cc

number_value_again : (short : FileFault) (value : Option ℤ) (rest : List ℕ) → IsNumberValue value → number_value_at short (number_value value ++ rest) ≡ Ok (value, rest)
unfolding number_value_at
number_value_again short None rest h = refl
number_value_again short (Some z) rest h = step_again (signed_read short) (λ part. Ok (Some part.0, part.1)) z rest h

pub number_value_read : (short : FileFault) → Reads (Option ℤ) (number_value_at short) number_value IsNumberValue
number_value_read short = record { takes = number_value_takes short; again = number_value_again short }

-- ---- rows

-- a row that has this shape, and whose values have a spelling
pub record IsRow (shape : Shape) (values : Row) : Type 0 where
  pub time : IsRowTime shape.interval values.time
  pub texts : AreEach IsTextValue shape.dimensions values.dimensions
  pub numbers : AreEach IsNumberValue shape.metrics values.metrics

abbrev values_of : ℕ → List (Option (List ℕ)) → List (Option ℤ) → Row
values_of time dimensions metrics = record { time = time; dimensions = dimensions; metrics = metrics }

texts_read : (short : FileFault) (n : ℕ) → Reads (List (Option (List ℕ))) (each_at (text_value_at short) n) (flat_map text_value) (AreEach IsTextValue n)
texts_read short n = each_read (text_value_at short) text_value IsTextValue (text_value_read short) n

numbers_read : (short : FileFault) (n : ℕ) → Reads (List (Option ℤ)) (each_at (number_value_at short) n) (flat_map number_value) (AreEach IsNumberValue n)
numbers_read short n = each_read (number_value_at short) number_value IsNumberValue (number_value_read short) n

row_joins : (a b c d : List ℕ) (time : ℕ) (dimensions : List (Option (List ℕ))) (metrics : List (Option ℤ)) → Takes a (instant time) b → Takes b (flat_map text_value dimensions) c → Takes c (flat_map number_value metrics) d
    → Takes a (row (values_of time dimensions metrics)) d
row_joins a b c d time dimensions metrics t1 t2 t3 =
    Takes-then a (instant time ++ flat_map text_value dimensions) c (flat_map number_value metrics) d (Takes-then a (instant time) b (flat_map text_value dimensions) c t1 t2) t3

values_takes : (short : FileFault) (shape : Shape) (bytes : List ℕ) (x : Row × List ℕ) → IsBytes bytes → values_at short shape bytes ≡ Ok x → Takes bytes (row x.0) x.1 × IsRow shape x.0
unfolding values_at
values_takes short shape bytes x fits e =
    let s1 = step_takes (row_time_read short shape.interval) _ bytes x fits e in
    let s2 = step_takes (texts_read short shape.dimensions) _ s1.0.1 x s1.1.rest_fits s1.3 in
    let s3 = step_takes (numbers_read short shape.metrics) _ s2.0.1 x s2.1.rest_fits s2.3 in
    let joined = row_joins bytes s1.0.1 s2.0.1 s3.0.1 s1.0.0 s2.0.0 s3.0.0 s1.1 s2.1 s3.1 in
    subst (λ (p : Row × List ℕ). Takes bytes (row p.0) p.1 × IsRow shape p.0) (ok_is (values_of s1.0.0 s2.0.0 s3.0.0, s3.0.1) x s3.3)
    (joined, record { time = s1.2; texts = s2.2; numbers = s3.2 })

row_regroups : (v : Row) (rest : List ℕ) → row v ++ rest ≡ instant v.time ++ (flat_map text_value v.dimensions ++ (flat_map number_value v.metrics ++ rest))
row_regroups v rest =
    append_assoc (instant v.time ++ flat_map text_value v.dimensions) (flat_map number_value v.metrics) rest
    ∙ append_assoc (instant v.time) (flat_map text_value v.dimensions) (flat_map number_value v.metrics ++ rest)

values_again : (short : FileFault) (shape : Shape) (v : Row) (rest : List ℕ) → IsRow shape v → values_at short shape (row v ++ rest) ≡ Ok (v, rest)
unfolding values_at
values_again short shape v rest h =
    ap (values_at short shape) (row_regroups v rest)
    ∙ step_again (row_time_read short shape.interval) _ v.time (flat_map text_value v.dimensions ++ (flat_map number_value v.metrics ++ rest)) h.time
    ∙ step_again (texts_read short shape.dimensions) _ v.dimensions (flat_map number_value v.metrics ++ rest) h.texts
    ∙ step_again (numbers_read short shape.metrics) _ v.metrics rest h.numbers

pub values_read : (short : FileFault) (shape : Shape) → Reads Row (values_at short shape) row (IsRow shape)
values_read short shape = record {
  takes = λ bytes x fits e. values_takes short shape bytes x fits e;
  again = λ v rest h. values_again short shape v rest h;
}

abbrev pub AreRows : Shape → List Row → Type 0
AreRows shape all = (length all ≤ max_rows) × All (IsRow shape) all

pub rows_read : (short : FileFault) (shape : Shape) → Reads (List Row) (rows_at short shape) rows (AreRows shape)
unfolding rows_at
rows_read short shape = record {
  takes = λ bytes x fits e.
      let s = step_takes (number_read short w32 (2 ^ 32) wide32) _ bytes x fits e in
      let m = bind_ok (at_most max_rows s.0.0) (λ count. each_at (values_at short shape) count s.0.1) x s.3 in
      let a = at_most_ok max_rows s.0.0 m.0 m.1 in
      let t = (each_read (values_at short shape) row (IsRow shape) (values_read short shape) m.0).takes s.0.1 x s.1.rest_fits m.2 in
      let both = Takes-then bytes (to_be_bytes w32 s.0.0) s.0.1 (flat_map row x.0) x.1 s.1 t.0 in
      (subst (λ (n : ℕ). Takes bytes (to_be_bytes w32 n ++ flat_map row x.0) x.1) (a.0 ∙ sym t.1.0) both, (omega (arith, a.1, t.1.0), t.1.1));
  again = λ all rest h.
      ap (rows_at short shape) (append_assoc (to_be_bytes w32 (length all)) (flat_map row all) rest)
      ∙ step_again (number_read short w32 (2 ^ 32) wide32) _ (length all) (flat_map row all ++ rest) (omega (arith, h.0))
      ∙ ap (λ r. r >>= λ count. each_at (values_at short shape) count (flat_map row all ++ rest)) (at_most_within max_rows (length all) h.0)
      ∙ (each_read (values_at short shape) row (IsRow shape) (values_read short shape) (length all)).again all rest (refl, h.1);
}
