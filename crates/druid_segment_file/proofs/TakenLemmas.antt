-- The front of a reader's bytes, read part by part.
use Rattle.std.proofs.Common.{◌≡◌, ℕ, ◌+◌, ◌≤◌, List, [], ◌++◌, length, take, append-nil, Option, None, Some, IfSome, sym, ap, ◌∙◌, arith}
use Rattle.std.proofs.lemmas.List.{length-take, take_all, take_at}
use Rattle.std.proofs.KnownBytes.{Keeps-trans}
use Rattle.std.specs.Io.KnownBytes.{Consumes, IsAtEnd, Keeps}
use Rattle.druid_stream.specs.Taken.{TakesAtMost}
use Rattle.druid_stream.proofs.TakenLemmas.{takes_front, takes_more}
use Rattle.druid_segment_rows.specs.Segment.{max_text}

-- reads that failed take nothing
pub kept_twice : (a b c : Option (List ℕ)) → Keeps a b → Keeps b c → Keeps a c
kept_twice a b c first second = Keeps-trans a b c first second

pub kept_reads : (a b c : Option (List ℕ)) (bs : List ℕ) → Keeps a b → Consumes b c bs → Consumes a c bs
kept_reads None b c bs kept taken = tt
kept_reads (Some xs) None c bs kept taken = absurd kept
kept_reads (Some xs) (Some ys) None bs kept taken = absurd taken
kept_reads (Some xs) (Some ys) (Some zs) bs kept taken = sym kept ∙ taken

-- these bytes were read so far, and no more than may be
pub record HasRead (bytes : List ℕ) (a b : Option (List ℕ)) : Type 0 where
  pub taken : Consumes a b bytes
  pub within : length bytes ≤ max_text + 1

-- a front of what was read into some room
part_short : (n room : ℕ) (part : List ℕ) → n ≤ length part → length part ≡ room → length (take n part) ≤ room
part_short n room part within e = omega (arith, within, e, length-take n part)

-- ---- how much is taken

pub part_takes : (n room : ℕ) (old part : List ℕ) (a b c : Option (List ℕ)) → HasRead old a b → Consumes b c (take n part) → n ≤ length part → length part ≡ room
    → room + length old ≤ max_text + 1 → TakesAtMost (max_text + 1) a c
part_takes n room old part a b c h more within e fits =
    takes_more room (max_text + 1) a b c old h.taken (takes_front room b c (take n part) more (part_short n room part within e)) (omega (arith, fits))

-- ---- what was read is the front

-- as much as may be
pub full_front : (bytes : List ℕ) (a b : Option (List ℕ)) → HasRead bytes a b → max_text + 1 ≤ length bytes → IfSome a (λ xs. bytes ≡ take (max_text + 1) xs)
full_front bytes None b h long = tt
full_front bytes (Some xs) None h long = absurd h.taken
full_front bytes (Some xs) (Some ys) h long =
    sym (ap (take (max_text + 1)) h.taken ∙ take_at bytes ys (max_text + 1) (omega (arith, long, h.within)))

-- all that there was
pub whole_front : (n : ℕ) (bytes part : List ℕ) (a b c : Option (List ℕ)) → HasRead bytes a b → Consumes b c (take n part) → n ≡ 0 → IsAtEnd c
    → IfSome a (λ xs. bytes ≡ take (max_text + 1) xs)
whole_front n bytes part None b c h none e end = tt
whole_front n bytes part (Some xs) None c h none e end = absurd h.taken
whole_front n bytes part (Some xs) (Some ys) None h none e end = absurd none
whole_front n bytes part (Some xs) (Some ys) (Some zs) h none e end =
    let left : ys ≡ [] = none ∙ ap (λ (k : ℕ). take k part ++ zs) e ∙ end in
    let same : xs ≡ bytes = h.taken ∙ ap (λ (l : List ℕ). bytes ++ l) left ∙ append-nil bytes in
    sym (ap (take (max_text + 1)) same ∙ take_all (max_text + 1) bytes h.within)
