-- A text that is written part by part.
use Rattle.std.proofs.Common.{◌≡◌, ℕ, ◌<◌, List, [], ◌++◌, length, append_assoc, append-nil, length-append, Option, None, Some, arith, refl, sym, ap, subst, ◌∙◌, Result, Ok, Err, OnErr}
use Rattle.std.proofs.KnownBytes.{Appends-nil, Appends-trans, Keeps-trans}
use Rattle.std.specs.Io.KnownBytes.{Appends, Keeps}
use Rattle.druid_stream.specs.Fronts.{AppendsFront}

pub kept_twice : (a b c : Option (List ℕ)) → Keeps a b → Keeps b c → Keeps a c
kept_twice a b c first second = Keeps-trans a b c first second

pub kept_appends : (a b c : Option (List ℕ)) (bs : List ℕ) → Keeps a b → Appends b c bs → Appends a c bs
kept_appends None b c bs kept grown = tt
kept_appends (Some xs) None c bs kept grown = absurd kept
kept_appends (Some xs) (Some ys) None bs kept grown = absurd grown
kept_appends (Some xs) (Some ys) (Some zs) bs kept grown = grown ∙ ap (λ (l : List ℕ). l ++ bs) kept

-- a front of the text is written, and the rest of it is left
pub record IsUnderWay (text rest : List ℕ) (old now : Option (List ℕ)) : Type 0 where
  pub front : List ℕ
  pub whole : text ≡ front ++ rest
  pub grown : Appends old now front

pub begins : (text : List ℕ) (a : Option (List ℕ)) → IsUnderWay text text a a
begins text a = record { front = []; whole = refl; grown = Appends-nil a }

-- one more part is written
pub goes_on : (text rest part next : List ℕ) (a b c : Option (List ℕ)) → IsUnderWay text rest a b → rest ≡ part ++ next → Appends b c part → IsUnderWay text next a c
goes_on text rest part next a b c way is grown = record {
  front = way.front ++ part;
  whole = way.whole ∙ ap (λ (r : List ℕ). way.front ++ r) is ∙ sym (append_assoc way.front part next);
  grown = Appends-trans a b c way.front part way.grown grown;
}

-- nothing is left
pub all_written : (text rest : List ℕ) (a b : Option (List ℕ)) → IsUnderWay text rest a b → rest ≡ [] → Appends a b text
all_written text rest a b way none =
    subst (Appends a b) (sym (way.whole ∙ ap (λ (r : List ℕ). way.front ++ r) none ∙ append-nil way.front)) way.grown

-- the writer fails before the rest
pub stops : (text rest : List ℕ) (a b : Option (List ℕ)) → IsUnderWay text rest a b → 0 < length rest → AppendsFront a b text
stops text rest a b way some = (way.front, rest, way.whole, some, way.grown)

-- the writer fails in a part
pub stops_inside : (text rest part next : List ℕ) (a b c : Option (List ℕ)) → IsUnderWay text rest a b → rest ≡ part ++ next → AppendsFront b c part → AppendsFront a c text
stops_inside text rest part next a b c way is fails = (
  way.front ++ fails.0,
  fails.1 ++ next,
  way.whole ∙ ap (λ (r : List ℕ). way.front ++ r) (is ∙ ap (λ (p : List ℕ). p ++ next) fails.2 ∙ append_assoc fails.0 fails.1 next) ∙ sym (append_assoc way.front fails.0 (fails.1 ++ next)),
  omega (arith, fails.3, length-append fails.1 next),
  Appends-trans a b c way.front fails.0 way.grown fails.4,
)

-- the last part
pub ends : (text rest : List ℕ) (a b c : Option (List ℕ)) → IsUnderWay text rest a b → Appends b c rest → Appends a c text
ends text rest a b c way grown = all_written text [] a c (goes_on text rest rest [] a b c way (sym (append-nil rest)) grown) refl

-- what holds at an error
pub any_err : {T E : Type 0} (r : Result T E) (P : Type 0) → P → OnErr r P
any_err (Ok x) P p = tt
any_err (Err e) P p = p

pub err_more : {T E : Type 0} (r : Result T E) (P Q : Type 0) → (P → Q) → OnErr r P → OnErr r Q
err_more (Ok x) P Q f h = tt
err_more (Err e) P Q f h = f h
