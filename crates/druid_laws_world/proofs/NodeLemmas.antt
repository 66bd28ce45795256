-- Which changes a node's history takes.
use Rattle.std.proofs.Common.{◌≡◌, ◌↔◌, ℕ, Bool, true, false, List, [], ◌∷◌, length, Some, None, IsTrue, refl, sym, ap, ◌∙◌, arith, nat_le}
use Rattle.std.specs.Option.{option_and_then}
use Rattle.std.proofs.lemmas.Bool.{lt-ltb, ltb-true, lt-leb}
use Rattle.druid_base.proofs.OptionLemmas.{chained}
use Rattle.druid_segment_descriptor.specs.Replay.{replay_from, changed}
use Rattle.druid_segment_descriptor.specs.declared.change.Ask.{Ask}
use Rattle.druid_segment_descriptor.specs.declared.change.Change.{Change}
use Rattle.druid_segment_descriptor.specs.declared.reply.Body.{Body}
use Rattle.druid_segment_descriptor.proofs.ReplayLemmas.{replay_from-append, changed-is}
use Rattle.druid_sync_history.specs.Answer.{answer}
use Rattle.druid_sync_history.specs.Kept.{Kept, StandsFor, frozen_count, last_count, refusal}
use Rattle.druid_sync_history.proofs.HistoryLemmas.{no_refusal, stands-more}
use Rattle.druid_laws_world.specs.World.{Era, Life}
use Rattle.druid_laws_world.specs.Node.{Answers, IsFollowed}
use Rattle.druid_laws_world.specs.Run.{takes, last_incarnation}
use Rattle.druid_laws_world.proofs.RunLemmas.{takes-is}

-- the node with this history
abbrev pub life_with : List Era → Kept → List Change → ℕ → Life
life_with ended history changes kept = record { ended = ended; last = record { incarnation = history.incarnation; changes = changes }; kept = kept; frozen = frozen_count history.frozen }

taken : (ended : List Era) (history : Kept) (changes : List Change) (kept : ℕ) (c : Change) → IsFollowed history changes kept → refusal history c ≡ None
    → takes (life_with ended history changes kept) c ≡ true
unfolding takes
taken ended history changes kept c h none =
    let is = no_refusal history c none in
    let more = (stands-more history c changes is.strict is.room h.stands).set in
    let below = is.more in
    let count = h.stands.count in
    rw (more, lt-ltb (length changes) last_incarnation (omega arith)) refl

pub accepted : (ended : List Era) (history : Kept) (changes : List Change) (kept : ℕ) (c : Change) → IsFollowed history changes kept
    → takes (life_with ended history changes kept) c ≡ true → refusal history c ≡ None
unfolding refusal
accepted ended history changes kept c h t =
    let is = takes-is (life_with ended history changes kept) c t in
    let below = ltb-true (length changes) last_incarnation is.1 in
    let count = h.stands.count in
    let step : replay_from history.set (c ∷ []) ≡ Some is.0.0 =
    ap (option_and_then (λ s. replay_from s (c ∷ []))) (sym h.stands.set) ∙ sym (replay_from-append [] changes (c ∷ [])) ∙ is.0.1 in
    let made = chained (λ s. replay_from s []) (changed history.set c) is.0.0 step in
    let parts = changed-is history.set made.0 c made.1 in
    let end : nat_le last_count history.count ≡ false = lt-leb last_count history.count (omega arith) in
    rw (parts.0, parts.1, end) refl

pub takes_reported : (ended : List Era) (history : Kept) (changes : List Change) (kept : ℕ) (c : Change) (r : Bool) → IsFollowed history changes kept
    → (IsTrue r ↔ (refusal history c ≡ None)) → r ≡ takes (life_with ended history changes kept) c
takes_reported ended history changes kept c r h reported = by r (takes (life_with ended history changes kept) c) refl reported where
  by : (a b : Bool) → takes (life_with ended history changes kept) c ≡ b → (IsTrue a ↔ (refusal history c ≡ None)) → a ≡ b
  by true true e t = refl
  by true false e t = sym (sym e ∙ taken ended history changes kept c h (t.0 refl))
  by false true e t = t.1 (accepted ended history changes kept c h e)
  by false false e t = refl

pub answers_so : (ended : List Era) (old new : Kept) (changes : List Change) (kept : ℕ) (ask : Ask) (reply : Body) → IsFollowed old changes kept
    → (new.incarnation ≡ old.incarnation) × (new.limit ≡ old.limit)
    → ((history : List Change) → StandsFor old history
    → answer old.incarnation history old.limit (frozen_count old.frozen) ask ≡ Some (reply, frozen_count new.frozen))
    → Answers (life_with ended old changes kept) ask reply (life_with ended new changes kept)
answers_so ended old new changes kept ask reply h place e = (
  frozen_count new.frozen,
  ap (λ n. answer old.incarnation changes n (frozen_count old.frozen) ask) (sym h.limit) ∙ e changes h.stands,
  λ i. record { ended = ended; last = record { incarnation = place.0 i; changes = changes }; kept = kept; frozen = frozen_count new.frozen },
)
