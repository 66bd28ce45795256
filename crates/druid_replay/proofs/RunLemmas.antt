-- A run under way: what is written so far, and what a run of the rest writes, is what the whole run writes.
use Rattle.std.proofs.Common.{◌≡◌, ℕ, ◌+◌, ◌<◌, List, [], ◌∷◌, ◌++◌, length, append_assoc, append-nil, Option, None, Some, IfSome, ◌^◌, arith, refl, sym, subst, ◌∙◌, inl, inr}
use Rattle.std.proofs.KnownBytes.{Appends-nil, Appends-trans, Appends-kept, Keeps-refl}
use Rattle.std.specs.Io.KnownBytes.{Appends, Keeps}
use Rattle.std.specs.Io.BufRead.{drop_through}
use Rattle.druid_stream.specs.Fronts.{AppendsFront}
use Rattle.druid_stream.specs.Lines.{line_at, Finds}
use Rattle.druid_stream.specs.declared.lines.Next.{Next}
use Rattle.druid_stream.specs.declared.lines.Next.TheVariants.{Line, TooLong, End as AtEnd}
use Rattle.druid_inventory.specs.Entry.{Entry}
use Rattle.druid_replay.specs.Answers.{line_text}
use Rattle.druid_replay.specs.Execution.{IsAnswered, IsBadFor, max_line}
use Rattle.druid_replay.specs.Lines.{lines_of}
use Rattle.druid_replay.specs.Runs.{End, done, bad_at, broken_at, IsFront, Runs, Writes, EndsBy, EndsFor, ReportsLine}
use Rattle.druid_replay.specs.declared.answer.CommandAnswer.{CommandAnswer}
use Rattle.druid_replay.specs.declared.reason.BadLine.{BadLine}
use Rattle.druid_replay.specs.declared.reason.BadLine.TheVariants.{TooLong as LineTooLong}
use Rattle.druid_replay.specs.declared.reason.Reason.{Reason}
use Rattle.druid_replay.specs.declared.reason.Reason.TheVariants.{Line as ForLine}
use Rattle.druid_replay.specs.declared.fault.ReplayFault.{ReplayFault}
use Rattle.druid_replay.specs.declared.fault.ReplayFault.TheVariants.{BadCommand, Device}
use Rattle.druid_replay.specs.Faults.{line_of}
use Rattle.druid_replay.proofs.LineLemmas.{lines_of-first}

-- the run of the whole goes on as the run of what is left
abbrev pub GoesOn : List ℕ → Option (List (List Entry)) → ℕ → List ℕ → List ℕ → Type 0
GoesOn xs state n ys written =
    (rest : List ℕ) (end : End) → Runs state n (lines_of ys) rest end → Runs None 1 (lines_of xs) (written ++ rest) end

abbrev pub UnderWay : Option (List ℕ) → Option (List ℕ) → Option (List ℕ) → Option (List ℕ) → Option (List (List Entry)) → ℕ → Type 0
UnderWay None left before now state n = Unit {0}
UnderWay (Some xs) None before now state n = ⊥
UnderWay (Some xs) (Some ys) before now state n = (written : List ℕ) × Appends before now written × GoesOn xs state n ys written

pub starts : (a b : Option (List ℕ)) → UnderWay a a b b None 1
starts None b = tt
starts (Some xs) b = ([], Appends-nil b, λ rest end run. run)

-- one more line is answered
pub goes_on : (a l m b w v : Option (List ℕ)) (state next : Option (List (List Entry))) (n : ℕ) (line : List ℕ) (answer : CommandAnswer)
    → UnderWay a l b w state n → IfSome l (λ ys. (0 < length ys) × (line ≡ line_at ys) × (m ≡ Some (drop_through 10 ys)))
    → IsAnswered state line answer next → Appends w v (line_text answer) → UnderWay a m b v next (n + 1)
goes_on None l m b w v state next n line answer way found answered grown = tt
goes_on (Some xs) None m b w v state next n line answer way found answered grown = absurd way
goes_on (Some xs) (Some ys) m b w v state next n line answer way found answered grown =
    subst (λ (o : Option (List ℕ)). UnderWay (Some xs) o b v next (n + 1)) (sym found.2) (
      way.0 ++ line_text answer,
      Appends-trans b w v way.0 (line_text answer) way.1 grown,
      λ rest end run.
          let here : Runs state n (lines_of ys) (line_text answer ++ rest) end =
          subst (λ (ls : List (List ℕ)). Runs state n ls (line_text answer ++ rest) end) (sym (lines_of-first ys found.0))
          (inr (inr (answer, next, subst (λ (l : List ℕ). IsAnswered state l answer next) found.1 answered, rest, refl, run))) in
          subst (λ (out : List ℕ). Runs None 1 (lines_of xs) out end) (sym (append_assoc way.0 (line_text answer) rest)) (way.2 (line_text answer ++ rest) end here),
    )

-- the input is at its end
pub ends : (a l b w : Option (List ℕ)) (state : Option (List (List Entry))) (n : ℕ) → UnderWay a l b w state n → IfSome l (λ ys. ys ≡ []) → Writes a b w done
ends None l b w state n way none = tt
ends (Some xs) None b w state n way none = absurd way
ends (Some xs) (Some ys) b w state n way none =
    (way.0 ++ [], way.2 [] done (subst (λ (zs : List ℕ). Runs state n (lines_of zs) [] done) (sym none) (refl, inl refl)), subst (Appends b w) (sym (append-nil way.0)) way.1)

-- a device may fail at any line, and after the last
can_break : (state : Option (List (List Entry))) (n : ℕ) (lines : List (List ℕ)) → Runs state n lines [] (broken_at n)
can_break state n [] = (refl, inr refl)
can_break state n (line ∷ more) = inr (inl (inl refl, refl))

pub stops : (a l b w : Option (List ℕ)) (state : Option (List (List Entry))) (n : ℕ) → UnderWay a l b w state n → Writes a b w (broken_at n)
stops None l b w state n way = tt
stops (Some xs) None b w state n way = absurd way
stops (Some xs) (Some ys) b w state n way =
    (way.0 ++ [], way.2 [] (broken_at n) (can_break state n (lines_of ys)), subst (Appends b w) (sym (append-nil way.0)) way.1)

-- a front of the answer to a line is written
stops_inside : (a l m b w v : Option (List ℕ)) (state : Option (List (List Entry))) (n : ℕ) (line out : List ℕ)
    → UnderWay a l b w state n → IfSome l (λ ys. (0 < length ys) × (line ≡ line_at ys) × (m ≡ Some (drop_through 10 ys)))
    → IsFront state line out → Appends w v out → Writes a b v (broken_at n)
stops_inside None l m b w v state n line out way found front grown = tt
stops_inside (Some xs) None m b w v state n line out way found front grown = absurd way
stops_inside (Some xs) (Some ys) m b w v state n line out way found front grown =
    let here : Runs state n (lines_of ys) out (broken_at n) =
    subst (λ (ls : List (List ℕ)). Runs state n ls out (broken_at n)) (sym (lines_of-first ys found.0))
    (inr (inl (subst (λ (l : List ℕ). IsFront state l out) found.1 front, refl))) in
    (way.0 ++ out, way.2 out (broken_at n) here, Appends-trans b w v way.0 out way.1 grown)

-- the line is bad
breaks : (a l b w v : Option (List ℕ)) (state : Option (List (List Entry))) (n : ℕ) (why : BadLine) → UnderWay a l b w state n → IfSome l (λ ys. (0 < length ys) × IsBadFor state (line_at ys) why) → Keeps w v → Writes a b v (bad_at n why)
breaks None l b w v state n why way bad kept = tt
breaks (Some xs) None b w v state n why way bad kept = absurd way
breaks (Some xs) (Some ys) b w v state n why way bad kept =
    let here : Runs state n (lines_of ys) [] (bad_at n why) =
    subst (λ (ls : List (List ℕ)). Runs state n ls [] (bad_at n why)) (sym (lines_of-first ys bad.0)) (inl (why, bad.1, refl, refl)) in
    (way.0 ++ [], way.2 [] (bad_at n why) here, subst (Appends b v) (sym (append-nil way.0)) (Appends-kept b w v way.0 way.1 kept))

-- a line that is too long is bad
long_is_bad : (l : Option (List ℕ)) (state : Option (List (List Entry))) → IfSome l (λ ys. (0 < length ys) × (max_line < length (line_at ys))) → IfSome l (λ ys. (0 < length ys) × IsBadFor state (line_at ys) LineTooLong)
long_is_bad None state long = tt
long_is_bad (Some ys) state long = (long.0, inl (long.1, refl))

pub stops_long : (a l b w : Option (List ℕ)) (state : Option (List (List Entry))) (n : ℕ) (fault : ReplayFault) (reason : Reason)
    → UnderWay a l b w state n → IfSome l (λ ys. (0 < length ys) × (max_line < length (line_at ys)))
    → fault ≡ BadCommand n → reason ≡ ForLine LineTooLong → EndsFor a b w fault reason
stops_long a l b w state n fault reason way long is for =
    subst (λ (f : ReplayFault). EndsFor a b w f reason) (sym is) (LineTooLong, for, breaks a l b w w state n LineTooLong way (long_is_bad l state long) (Keeps-refl w))

-- a line that was found, and is bad
found_is_bad : (l m : Option (List ℕ)) (state : Option (List (List Entry))) (line : List ℕ) (why : BadLine) → IfSome l (λ ys. (0 < length ys) × (line ≡ line_at ys) × (m ≡ Some (drop_through 10 ys))) → IsBadFor state line why → IfSome l (λ ys. (0 < length ys) × IsBadFor state (line_at ys) why)
found_is_bad None m state line why found bad = tt
found_is_bad (Some ys) m state line why found bad = (found.0, subst (λ (xs : List ℕ). IsBadFor state xs why) found.1 bad)

-- the fault of a line that was found
pub reported_of : (fault : ReplayFault) (reason : Reason) (a l m b w v : Option (List ℕ)) (state : Option (List (List Entry))) (n : ℕ) (line : List ℕ)
    → UnderWay a l b w state n → IfSome l (λ ys. (0 < length ys) × (line ≡ line_at ys) × (m ≡ Some (drop_through 10 ys)))
    → n < 2 ^ 64 → ReportsLine state line n w v fault reason → EndsFor a b v fault reason
reported_of (BadCommand k) reason a l m b w v state n line way found small reports =
    let why = reports.1 in
    (why, reports.2, subst (λ (i : ℕ). Writes a b v (bad_at i why)) (sym reports.0) (breaks a l b w v state n why way (found_is_bad l m state line why found reports.3) reports.4))
reported_of (Device k) reason a l m b w v state n line way found small reports =
    (n, reports.0 ∙ omega (arith, small), stops_inside a l m b w v state n line reports.1 way found reports.2 reports.3)

-- a flush keeps what was written
pub flushed : (a b w v : Option (List ℕ)) (end : End) → Writes a b w end → Keeps w v → Writes a b v end
flushed None b w v end written kept = tt
flushed (Some xs) b w v end written kept = (written.0, written.1, Appends-kept b w v written.0 written.2 kept)

-- the fault alone says how a run ended too
pub ends_by : (fault : ReplayFault) (reason : Reason) (a b w : Option (List ℕ)) → EndsFor a b w fault reason → EndsBy a b w fault
ends_by (BadCommand k) reason a b w ends = (ends.0, ends.2)
ends_by (Device k) reason a b w ends = ends

-- a flush keeps how the run ended
pub ended_flushed : (fault : ReplayFault) (reason : Reason) (a b w v : Option (List ℕ)) → EndsFor a b w fault reason → Keeps w v → EndsFor a b v fault reason
ended_flushed (BadCommand k) reason a b w v ends kept = (ends.0, ends.1, flushed a b w v (bad_at k ends.0) ends.2 kept)
ended_flushed (Device k) reason a b w v ends kept = (ends.0, ends.1, flushed a b w v (broken_at ends.0) ends.2 kept)

-- where a run ends at a bad line, a device may have failed there
breaks_too : (state : Option (List (List Entry))) (n m : ℕ) (why : BadLine) (lines : List (List ℕ)) (out : List ℕ) → Runs state n lines out (bad_at m why) → Runs state n lines out (broken_at m)
breaks_too state n m why [] out run = elim run.1 as (λ _. Runs state n [] out (broken_at m)) [ inl e ↦ absurd cc | inr e ↦ absurd cc ]
breaks_too state n m why (line ∷ more) out (inl bad) = inr (inl (inl bad.2, let same : bad_at m why ≡ bad_at n bad.0 = bad.3 in cc))
breaks_too state n m why (line ∷ more) out (inr (inl front)) = absurd (let e = front.1 in cc)
breaks_too state n m why (line ∷ more) out (inr (inr run)) =
    inr (inr (run.0, run.1, run.2, run.3, run.4, breaks_too run.1 (n + 1) m why more run.3 run.5))

-- the last flush fails
pub not_flushed : (fault : ReplayFault) (reason : Reason) (a b w v : Option (List ℕ)) (line : ℕ) → line < 2 ^ 64 → EndsFor a b w fault reason → line ≡ line_of fault → Keeps w v → EndsBy a b v (Device line)
not_flushed (BadCommand k) reason a b w v line small ends is kept = (line, omega (arith, small), more a ends.2)
  where
    more : (x : Option (List ℕ)) → Writes x b w (bad_at k ends.0) → Writes x b v (broken_at line)
    more None written = tt
    more (Some xs) written = (written.0, subst (λ (i : ℕ). Runs None 1 (lines_of xs) written.0 (broken_at i)) (sym is) (breaks_too None 1 k ends.0 (lines_of xs) written.0 written.1), Appends-kept b w v written.0 written.2 kept)
not_flushed (Device k) reason a b w v line small ends is kept = (ends.0, is ∙ ends.1, flushed a b w v (broken_at ends.0) ends.2 kept)

-- what reading on found, where it is a line
pub found_line : (next : Next) (l m : Option (List ℕ)) (line : List ℕ) → next ≡ Line → IfSome l (λ ys. Finds max_line next ys line m)
    → IfSome l (λ ys. (0 < length ys) × (line ≡ line_at ys) × (m ≡ Some (drop_through 10 ys)))
found_line Line l m line e found = found
found_line TooLong l m line e found = absurd cc
found_line AtEnd l m line e found = absurd cc

-- what a writer that failed has got of an answer
pub reported_front : (state next : Option (List (List Entry))) (line : List ℕ) (answer : CommandAnswer) (number : ℕ) (reason : Reason) (w v : Option (List ℕ))
    → IsAnswered state line answer next → AppendsFront w v (line_text answer) → ReportsLine state line number w v (Device number) reason
reported_front state next line answer number reason w v answered grown =
    (refl, grown.0, inr (answer, next, answered, grown.1, grown.2, grown.3), grown.4)

-- before anything is written
pub reported_nothing : (state : Option (List (List Entry))) (line : List ℕ) (number : ℕ) (reason : Reason) (w : Option (List ℕ)) → ReportsLine state line number w w (Device number) reason
reported_nothing state line number reason w = (refl, [], inl refl, Appends-nil w)
