-- What a node tells of itself, and what it answers.
use Rattle.std.proofs.Common.{◌≡◌, ◌≤◌, inl, inr, ℕ, Bool, true, false, cond, nat_le, List, length, take, All, Some, None, option_map, option_and_then, Option, Result, Ok, Err, Vec, codes, refl, sym, ap, ◌∙◌, subst, arith}
use Rattle.std.specs.Option.{unwrap_or}
use Rattle.std.proofs.lemmas.Bool.{leb-true, leb-false}
use Rattle.std.specs.Prelude.{IfOk}
use Rattle.std.proofs.lemmas.Option.{same_Some, none-some}
use Rattle.std.specs.declared.alloc.Global.{Global}
use Rattle.druid_segment_descriptor.specs.Described.{Described, IsDescribed}
use Rattle.druid_segment_descriptor.specs.Mark.{Point}
use Rattle.druid_segment_descriptor.specs.declared.change.Ask.TheVariants.{Whole}
use Rattle.druid_segment_descriptor.specs.declared.reply.Body.{Body}
use Rattle.druid_segment_descriptor.specs.declared.reply.Body.TheVariants.{Snapshot}
use Rattle.druid_segment_descriptor.specs.Reply.{max_page}
use Rattle.druid_segment_descriptor.specs.Replay.{replay}
use Rattle.druid_sync_history.specs.Kept.{IsKept, KeepsOrFreezes, frozen_count}
use Rattle.druid_sync_history.specs.Answer.{answer, whole_answer, first_page, page_of, mark_after}
use Rattle.druid_http_message.specs.Requests.{RequestValue}
use Rattle.druid_http_message.specs.declared.fault.WireFault.{WireFault}
use Rattle.druid_http_wire.specs.Written.{answer_text}
use Rattle.druid_node.specs.State.{State, Freezes}
use Rattle.druid_node.specs.Routes.{Responds, RespondsInTurn, IsReplyTo}
use Rattle.druid_laws_tests.specs.Nodes.{mark_of}

-- all that a node serves, at its mark
abbrev pub snapshot_of : State → Body
snapshot_of state = Snapshot (mark_of state) state.history.set

-- where one message carries all that it serves, that is the answer to an ask for it
snapshot_answer : (state : State) → (kept : IsKept state.history) → length state.history.set ≤ max_page
    → answer state.history.incarnation kept.history state.history.limit (frozen_count state.history.frozen) Whole ≡ Some (snapshot_of state, frozen_count state.history.frozen)
snapshot_answer state kept small = by (nat_le (length state.history.set) max_page) refl where
  by : (b : Bool) → nat_le (length state.history.set) max_page ≡ b
      → answer state.history.incarnation kept.history state.history.limit (frozen_count state.history.frozen) Whole ≡ Some (snapshot_of state, frozen_count state.history.frozen)
  by true e =
      ap (option_and_then (whole_answer state.history.incarnation kept.history (frozen_count state.history.frozen))) kept.stands.set
      ∙ ap (λ (b : Bool). cond b (Some (Snapshot (mark_after state.history.incarnation kept.history) state.history.set, frozen_count state.history.frozen))
      (first_page state.history.incarnation kept.history (unwrap_or (frozen_count state.history.frozen) (length kept.history)))) e
      ∙ ap (λ (n : ℕ). Some (Snapshot (record { incarnation = state.history.incarnation; count = n }) state.history.set, frozen_count state.history.frozen)) (sym kept.stands.count)
  by false e =
      let long = leb-false (length state.history.set) max_page e in
      absurd (omega (arith, long, small))

pub snapshot_reported : (state next : State) (reply : Body) → IsKept state.history → length state.history.set ≤ max_page
    → IsReplyTo state.history next.history Whole reply → reply ≡ snapshot_of state
snapshot_reported state next reply kept small reported =
    ap (λ (p : Body × Option ℕ). p.0) (same_Some _ _ (sym (reported kept.history kept.stands) ∙ snapshot_answer state kept small))

-- page 0 is no snapshot
no_page : (incarnation count : ℕ) (at : Point) (segments : List Described) (reply : Body) (frozen : Option ℕ) (o : Option (List Described))
    → option_map {U = Body × Option ℕ} (λ set. (page_of incarnation count 0 set, Some count)) o ≡ Some (reply, frozen) → reply ≡ Snapshot at segments → ⊥
no_page incarnation count at segments reply frozen None e is = none-some (reply, frozen) e
no_page incarnation count at segments reply frozen (Some ds) e is =
    let page : page_of incarnation count 0 ds ≡ Snapshot at segments = ap (λ (p : Body × Option ℕ). p.0) (same_Some (page_of incarnation count 0 ds, Some count) (reply, frozen) e) ∙ is in
    cc

-- where a snapshot is answered, one message carries all
pub small_by : (state next : State) (reply : Body) (at : Point) (segments : List Described) → IsKept state.history
    → IsReplyTo state.history next.history Whole reply → reply ≡ Snapshot at segments → length state.history.set ≤ max_page
small_by state next reply at segments kept reported is = by (nat_le (length state.history.set) max_page) refl where
  by : (b : Bool) → nat_le (length state.history.set) max_page ≡ b → length state.history.set ≤ max_page
  by true e = leb-true (length state.history.set) max_page e
  by false e =
      let paged =
      sym (ap (λ (b : Bool). cond b (Some (Snapshot (mark_after state.history.incarnation kept.history) state.history.set, frozen_count state.history.frozen))
      (first_page state.history.incarnation kept.history (unwrap_or (frozen_count state.history.frozen) (length kept.history)))) e)
      ∙ sym (ap (option_and_then (whole_answer state.history.incarnation kept.history (frozen_count state.history.frozen))) kept.stands.set)
      ∙ reported kept.history kept.stands in
      absurd (no_page state.history.incarnation (unwrap_or (frozen_count state.history.frozen) (length kept.history)) at segments reply (frozen_count next.history.frozen)
      (replay (take (unwrap_or (frozen_count state.history.frozen) (length kept.history)) kept.history)) paged is)

-- an answer freezes nothing that one message carries
pub unfrozen : (old new : State) → length old.history.set ≤ max_page → Freezes old new → new ≡ old
unfrozen old new small freezes = by freezes.only where
  by : KeepsOrFreezes old.history new.history → new ≡ old
  by (inl same) = λ i. record { history = same i; held = freezes.held i }
  by (inr (none, many, is)) = absurd (omega (arith, many, small))

pub answer_reported : (state next : State) (request : RequestValue) (status : ℕ) (body : List ℕ) (r : Result (Vec ℕ Global) WireFault) → length state.history.set ≤ max_page
    → Freezes state next → Responds state next request status body → IfOk r (λ text. text.items ≡ answer_text status body)
    → IfOk r (λ text. (status : ℕ) × (body : List ℕ) × RespondsInTurn state state request status body × (text.items ≡ answer_text status body))
answer_reported state next request status body (Ok text) small freezes responds is =
    (status, body, inl (subst (λ (s : State). Responds state s request status body) (unfrozen state next small freezes) responds), is)
answer_reported state next request status body (Err fault) small freezes responds is = tt

same_set : (at other : Point) (a b : List Described) → Path Body (Snapshot at a) (Snapshot other b) → a ≡ b
same_set at other a b e = cc

-- the descriptors of its snapshot are those of its set
pub described_by : (state next : State) (reply : Body) (at : Point) (segments : List Described) → IsKept state.history
    → IsReplyTo state.history next.history Whole reply → reply ≡ Snapshot at segments → All IsDescribed segments → All IsDescribed state.history.set
described_by state next reply at segments kept reported is each =
    let small = small_by state next reply at segments kept reported is in
    subst (All IsDescribed) (same_set at (mark_of state) segments state.history.set (sym is ∙ snapshot_reported state next reply kept small reported)) each
