-- Addresses, and the numbers that they name.
use Rattle.std.proofs.Common.{◌≡◌, ℕ, suc, ◌+◌, ◌<◌, ◌≤◌, ◌==◌, ◌++◌, List, [], ◌∷◌, decimal, length, get_or, take, drop, Option, Some, None, option_and_then, IsTrue, Bool, true, false, ◌&&◌, nat_le, nat_lt, refl, sym, subst, ap, ◌∙◌, arith, lit≤}
use native.Mathlib.Numerals.{unary_clauses}
use Rattle.std.specs.Char.{digit_value}
use Rattle.std.specs.Fmt.{digits}
use Rattle.std.specs.List.{position_or_len, before_first, after_first}
use Rattle.std.specs.Str.{bytes_eq}
use Rattle.std.specs.Str.Parse.{AllDigits}
use Rattle.std.proofs.lemmas.Bool.{leb-true, le-leb, ltb-true, lt-ltb, eqb-true, eq-eqb, ne_eqb, and_parts, and_from}
use Rattle.std.proofs.lemmas.Fmt.{decimal_is_IsNumeral}
use Rattle.std.proofs.lemmas.List.{take-append-drop}
use Rattle.std.proofs.lemmas.List.Sums.{split_at_first, passes_at_first}
use Rattle.std.proofs.lemmas.Option.{cond_some}
use Rattle.std.proofs.lemmas.Slice.Eq.{bytes_eq-Decides}
use Rattle.druid_base.specs.Numbers as numbers
use Rattle.druid_base.specs.Options.{◌>>=◌}
use Rattle.druid_base.proofs.NumberLemmas.{number_at-found, number_at-to}
use Rattle.druid_base.proofs.OptionLemmas.{chained}
use Rattle.druid_base.proofs.StepLemmas.{stepped}
use Rattle.druid_serve_config.specs.Limits.{max_port, max_octet}
use Rattle.druid_serve_config.specs.Addresses.{loopback, dot, colon, is_port, is_octet, is_local, NamesPort, after_octet, after_host, is_host_port, NamesHostPort, is_address, IsAddress, IsLocal}

-- ---- ports

port_in : (o : Option ℕ) → is_port o ≡ true → (port : ℕ) × (o ≡ Some port) × (1 ≤ port) × (port ≤ max_port)
port_in None h = absurd cc
port_in (Some n) h =
    let both = and_parts (nat_le 1 n) (nat_le n max_port) h in
    (n, refl, leb-true 1 n both.0, leb-true n max_port both.1)

is_port_so : (n : ℕ) → 1 ≤ n → n ≤ max_port → is_port (Some n) ≡ true
is_port_so n some few = and_from (nat_le 1 n) (nat_le n max_port) (le-leb 1 n some) (le-leb n max_port few)

port_read : (port : ℕ) → 1 ≤ port → port ≤ max_port → is_port (numbers.number_at (decimal port)) ≡ true
port_read port some few = ap is_port (number_at-found (decimal port) port (omega (arith, few)) refl) ∙ is_port_so port some few

-- ---- this machine

pub names_port : (text : List ℕ) → IsTrue (is_local text) → NamesPort text
names_port text h =
    let both = and_parts (bytes_eq (take 10 text) loopback) (is_port (numbers.number_at (drop 10 text))) h in
    let port = port_in (numbers.number_at (drop 10 text)) both.1 in
    let front : take 10 text ≡ loopback = (bytes_eq-Decides (take 10 text) loopback).0 both.0 in
    let back : drop 10 text ≡ decimal port.0 = (number_at-to (drop 10 text) port.0 port.1).1 in
    (port.0, port.2, port.3, sym (take-append-drop 10 text) ∙ ap (λ f. f ++ drop 10 text) front ∙ ap (λ b. loopback ++ b) back)

pub is_named : (text : List ℕ) → NamesPort text → IsTrue (is_local text)
is_named text (port, some, few, is) =
    subst (λ t. is_local t ≡ true) (sym is)
    (and_from (bytes_eq (take 10 (loopback ++ decimal port)) loopback) (is_port (numbers.number_at (drop 10 (loopback ++ decimal port))))
    ((bytes_eq-Decides loopback loopback).1 refl)
    (port_read port some few))

-- ---- one number of a host

octet_in : (o : Option ℕ) → is_octet o ≡ true → (n : ℕ) × (o ≡ Some n) × (n ≤ max_octet)
octet_in None h = absurd cc
octet_in (Some n) h = (n, refl, leb-true n max_octet h)

-- a text begins with a number, and goes on after a byte
record Begins (byte : ℕ) (text rest : List ℕ) : Type 0 where
  number : ℕ
  few : number ≤ max_octet
  is : text ≡ decimal number ++ (byte ∷ rest)

octet_begins : (byte : ℕ) (text rest : List ℕ) → after_octet byte text ≡ Some rest → Begins byte text rest
octet_begins byte text rest e =
    let here = λ (b : ℕ). b == byte in
    let place = position_or_len here text in
    let kept = cond_some (nat_lt place (length text) && is_octet (numbers.number_at (before_first here text))) (after_first here text) rest e in
    let both = and_parts (nat_lt place (length text)) (is_octet (numbers.number_at (before_first here text))) kept.0 in
    let below = ltb-true place (length text) both.0 in
    let octet = octet_in (numbers.number_at (before_first here text)) both.1 in
    let front : before_first here text ≡ decimal octet.0 = (number_at-to (before_first here text) octet.0 octet.1).1 in
    let same : get_or text place 0 ≡ byte = eqb-true (get_or text place 0) byte (passes_at_first here text 0 below) in
    record {
      number = octet.0;
      few = octet.2;
      is =
          split_at_first here text 0 below
          ∙ ap (λ f. f ++ (get_or text place 0 ∷ after_first here text)) front
          ∙ ap (λ b. decimal octet.0 ++ (b ∷ after_first here text)) same
          ∙ ap (λ r. decimal octet.0 ++ (byte ∷ r)) kept.1;
    }

-- a byte that is no digit stands first after digits
first_after : (byte : ℕ) (ds rest : List ℕ) → (digit_value byte < 10 → ⊥) → AllDigits 10 ds → position_or_len (λ b. b == byte) (ds ++ (byte ∷ rest)) ≡ length ds
first_after byte [] rest odd digits = rw (eq-eqb byte byte refl) refl
first_after byte (d ∷ ds) rest odd digits =
    let other = ne_eqb d byte (λ same. odd (subst (λ x. digit_value x < 10) same digits.0)) in
    let more = first_after byte ds rest odd digits.1 in
    rw (other) (omega (arith, more))

front_is : (ds rest : List ℕ) → take (length ds) (ds ++ rest) ≡ ds
front_is [] rest = refl
front_is (d ∷ ds) rest = ap (λ more. d ∷ more) (front_is ds rest)

back_after : (byte : ℕ) (ds rest : List ℕ) → drop (suc (length ds)) (ds ++ (byte ∷ rest)) ≡ rest
back_after byte [] rest = refl
back_after byte (d ∷ ds) rest = back_after byte ds rest

back_is : (byte : ℕ) (ds rest : List ℕ) → drop (length ds + 1) (ds ++ (byte ∷ rest)) ≡ rest
back_is byte ds rest = simp unary_clauses (back_after byte ds rest)

longer : (byte : ℕ) (ds rest : List ℕ) → length ds < length (ds ++ (byte ∷ rest))
longer byte [] rest = omega arith
longer byte (d ∷ ds) rest = let more = longer byte ds rest in omega (arith, more)

octet_found : (byte : ℕ) → (digit_value byte < 10 → ⊥) → (n : ℕ) (rest : List ℕ) → n ≤ max_octet → after_octet byte (decimal n ++ (byte ∷ rest)) ≡ Some rest
octet_found byte odd n rest few =
    let place = first_after byte (decimal n) rest odd (decimal_is_IsNumeral n (omega (arith, few))).0.1 in
    let below = lt-ltb (length (decimal n)) (length (decimal n ++ (byte ∷ rest))) (longer byte (decimal n) rest) in
    let number = number_at-found (decimal n) n (omega (arith, few)) refl in
    rw (place, below, front_is (decimal n) (byte ∷ rest), number, le-leb n max_octet few, back_is byte (decimal n) rest) refl

-- ---- any machine

pub names_host : (text : List ℕ) → IsTrue (is_host_port text) → NamesHostPort text
unfolding after_host
names_host text h =
    let port = port_in (option_and_then numbers.number_at (after_host text)) h in
    let digits = chained numbers.number_at (after_host text) port.0 port.1 in
    let second = stepped (λ s. after_octet dot s >>= λ t. after_octet dot t >>= after_octet colon) (after_octet dot text) digits.0 digits.1 in
    let third = stepped (λ t. after_octet dot t >>= after_octet colon) (after_octet dot second.0) digits.0 second.2 in
    let fourth = stepped (after_octet colon) (after_octet dot third.0) digits.0 third.2 in
    let a = octet_begins dot text second.0 second.1 in
    let b = octet_begins dot second.0 third.0 third.1 in
    let c = octet_begins dot third.0 fourth.0 fourth.1 in
    let d = octet_begins colon fourth.0 digits.0 fourth.2 in
    let last : digits.0 ≡ decimal port.0 = (number_at-to digits.0 port.0 digits.2).1 in (
      a.number,
      b.number,
      c.number,
      d.number,
      port.0,
      a.few,
      b.few,
      c.few,
      d.few,
      port.2,
      port.3,
      a.is
          ∙ ap (λ s. decimal a.number ++ (dot ∷ s)) b.is
          ∙ ap (λ s. decimal a.number ++ (dot ∷ (decimal b.number ++ (dot ∷ s)))) c.is
          ∙ ap (λ s. decimal a.number ++ (dot ∷ (decimal b.number ++ (dot ∷ (decimal c.number ++ (dot ∷ s)))))) d.is
          ∙ ap (λ s. decimal a.number ++ (dot ∷ (decimal b.number ++ (dot ∷ (decimal c.number ++ (dot ∷ (decimal d.number ++ (colon ∷ s)))))))) last,
    )

no_dot : digit_value dot < 10 → ⊥
no_dot h = omega (arith, h)

no_colon : digit_value colon < 10 → ⊥
no_colon h = omega (arith, h)

host_found : (a b c d : ℕ) (digits : List ℕ) → a ≤ max_octet → b ≤ max_octet → c ≤ max_octet → d ≤ max_octet
    → after_host (decimal a ++ (dot ∷ (decimal b ++ (dot ∷ (decimal c ++ (dot ∷ (decimal d ++ (colon ∷ digits)))))))) ≡ Some digits
unfolding after_host
host_found a b c d digits few_a few_b few_c few_d =
    ap (λ o. o >>= λ s. after_octet dot s >>= λ t. after_octet dot t >>= after_octet colon) (octet_found dot no_dot a (decimal b ++ (dot ∷ (decimal c ++ (dot ∷ (decimal d ++ (colon ∷ digits)))))) few_a)
    ∙ ap (λ o. o >>= λ t. after_octet dot t >>= after_octet colon) (octet_found dot no_dot b (decimal c ++ (dot ∷ (decimal d ++ (colon ∷ digits)))) few_b)
    ∙ ap (λ o. o >>= after_octet colon) (octet_found dot no_dot c (decimal d ++ (colon ∷ digits)) few_c)
    ∙ octet_found colon no_colon d digits few_d

pub is_named_host : (text : List ℕ) → NamesHostPort text → IsTrue (is_host_port text)
is_named_host text (a, b, c, d, port, few_a, few_b, few_c, few_d, some, few, is) =
    subst (λ t. is_host_port t ≡ true) (sym is)
    (ap (λ o. is_port (option_and_then numbers.number_at o)) (host_found a b c d (decimal port) few_a few_b few_c few_d)
    ∙ port_read port some few)

-- ---- both

local_any : (text : List ℕ) → IsLocal text → IsAddress text
unfolding digits
local_any text h =
    let port = names_port text h in
    is_named_host text (127, 0, 0, 1, port.0, lit≤ tt, lit≤ tt, lit≤ tt, lit≤ tt, port.1, port.2, port.3)

-- an address of a config is one, and without a network it is one of this machine
pub any_address : (network : Bool) (text : List ℕ) → is_address network text ≡ true → IsAddress text
any_address true text h = h
any_address false text h = local_any text h

pub local_address : (network : Bool) (text : List ℕ) → network ≡ false → is_address network text ≡ true → IsLocal text
local_address network text none h = subst (λ n. is_address n text ≡ true) none h
