-- Where a broker is after the delta that a node answers.
use Rattle.std.proofs.Common.{◌≡◌, ℕ, List, [], length, take, drop, Option, Some, None, sym, ap, ◌∙◌}
use Rattle.std.specs.Option.{option_and_then}
use Rattle.std.proofs.lemmas.Option.{same_Some}
use Rattle.std.proofs.lemmas.List.{take-append-drop}
use Rattle.druid_segment_descriptor.specs.Described.{Described}
use Rattle.druid_segment_descriptor.specs.Mark.{Point}
use Rattle.druid_segment_descriptor.specs.Replay.{replay, replay_from}
use Rattle.druid_segment_descriptor.specs.declared.change.Ask.TheVariants.{Since}
use Rattle.druid_segment_descriptor.specs.declared.change.Cause.{Cause}
use Rattle.druid_segment_descriptor.specs.declared.change.Change.{Change}
use Rattle.druid_segment_descriptor.specs.declared.reply.Body.{Body}
use Rattle.druid_segment_descriptor.specs.declared.reply.Body.TheVariants.{Delta, Reset}
use Rattle.druid_segment_descriptor.proofs.ReplayLemmas.{replay_from-append}
use Rattle.druid_sync_history.specs.Answer.{answer, cause_of, reset_or_delta, mark_after}

-- the changes after a mark lead from the set there to the whole history's
beyond_mark : (history : List Change) (n : ℕ) (held set : List Described) → replay history ≡ Some set → replay (take n history) ≡ Some held → replay_from held (drop n history) ≡ Some set
beyond_mark history n held set whole front =
    ap (λ o. option_and_then (λ t. replay_from t (drop n history)) o) (sym front)
    ∙ sym (replay_from-append [] (take n history) (drop n history))
    ∙ ap replay (take-append-drop n history) ∙ whole

abbrev reported : Body → Option ℕ → Option (Body × Option ℕ)
reported body frozen = Some (body, frozen)

delta_only : (o : Option Cause) (incarnation : ℕ) (frozen after : Option ℕ) (history changes : List Change) (mark from to : Point) → reported (reset_or_delta incarnation history mark o) frozen ≡ reported (Delta from to changes) after
    → (mark ≡ from) × (mark_after incarnation history ≡ to) × (drop mark.count history ≡ changes)
delta_only None incarnation frozen after history changes mark from to h =
    let e : Delta mark (mark_after incarnation history) (drop mark.count history) ≡ Delta from to changes = ap (λ (p : Body × Option ℕ). p.0) (same_Some _ _ h) in
    (cc, cc, cc)
delta_only (Some cause) incarnation frozen after history changes mark from to h =
    let e : Reset cause (mark_after incarnation history) ≡ Delta from to changes = ap (λ (p : Body × Option ℕ). p.0) (same_Some _ _ h) in
    absurd (cc)

pub delta_reaches : (incarnation limit : ℕ) (frozen after : Option ℕ) (history changes : List Change) (mark from to : Point) (held set : List Described) → replay history ≡ Some set
    → replay (take mark.count history) ≡ Some held → answer incarnation history limit frozen (Since mark) ≡ Some (Delta from to changes, after)
    → (from ≡ mark) × (to ≡ mark_after incarnation history) × (replay_from held changes ≡ Some set)
delta_reaches incarnation limit frozen after history changes mark from to held set whole front h =
    let reported = delta_only (cause_of incarnation (length history) limit mark) incarnation frozen after history changes mark from to h in
    (sym reported.0, sym reported.1, ap (replay_from held) (sym reported.2) ∙ beyond_mark history mark.count held set whole front)
