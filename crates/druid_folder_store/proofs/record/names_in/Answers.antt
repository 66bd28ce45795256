use Rattle.std.proofs.Common.{◌≡◌, ◌+◌, List, [], ◌∷◌, ◌++◌, take, sym, ◌∙◌, ap, subst, arith}
use Rattle.std.proofs.lemmas.List.{take_more, take_all}
use Rattle.std.specs.declared.alloc.Global.{Global}
use Rattle.std.specs.declared.string.String.{String}
use Rattle.druid_folder.specs.Folder.{nothing, names_of}
use Rattle.druid_folder_store.specs.Record.{content_after}
use Rattle.druid_folder_store.proofs.Names.{Collected, turn_found, turn_absent, turn_other, names_collected}
use Rattle.druid_folder_store.proofs.record.names_in.Goals as goal
use Rattle.druid_folder_store.proofs.record.names_in.Goals.{in-Some+then-is_some+in_ok-from_str+in_ok-push, in-Some+else-is_some, in_default}

pub loop-call-preserved : goal.loop-call-preserved
loop-call-preserved c =
    let calls = c.args.calls.now in
    let more : take (c.loop-call.call-index + 1) calls ≡ take c.loop-call.call-index calls ++ c.call-item.result ∷ [] =
    take_more calls c.loop-call.call-index c.call-item.result (omega arith) ∙ ap (λ x. take c.loop-call.call-index calls ++ x ∷ []) (sym c.call-item.is) in
    let so_far = take c.loop-call.call-index calls in
    let P = λ (l : List (String Global)). Collected (content_after nothing calls) (so_far ++ c.call-item.result ∷ []) (names_of l) in
    subst (λ l. Collected (content_after nothing calls) l (names_of c.match-file_of.names.items)) (sym more)
    (elim c.match-file_of.branch as (λ x. P c.match-file_of.names.items) [
      | in-Some+then-is_some+in_ok-from_str+in_ok-push w ↦ subst P (sym (ap (λ names. names.items) w.names-is))
          (turn_found calls so_far c.call-item.result c.loop-call.names.items w.in-Some.name.now w.as_bytes.result.now w.find.result c.loop-call.invariant w.in-Some.ensures w.as_bytes.ensures.value w.find.ensures
          w.in_ok-from_str.field-0 w.push.new.self.items (sym w.is_some.ensures ∙ w.if-is_some.true) (w.in_ok-from_str.ensures.ok ∙ w.as_str.ensures.value) w.in_ok-push.ensures.items)
      | in-Some+else-is_some w ↦ subst P (sym (ap (λ names. names.items) w.names-is))
          (turn_absent calls so_far c.call-item.result c.loop-call.names.items w.in-Some.name.now w.as_bytes.result.now w.find.result c.loop-call.invariant w.in-Some.ensures w.as_bytes.ensures.value w.find.ensures
          (sym w.is_some.ensures ∙ w.if-is_some.false))
      | in_default w ↦ subst P (sym (ap (λ names. names.items) w.names-is))
          (turn_other calls so_far c.call-item.result c.loop-call.names.items c.loop-call.invariant w.in_default.ensures)
    ])

pub returns : goal.returns
returns c = names_collected c.args.calls.now (names_of c.loop-call.names.items) (subst (λ l. Collected (content_after nothing c.args.calls.now) l (names_of c.loop-call.names.items)) (take_all c.loop-call.call-index c.args.calls.now (omega arith)) c.loop-call.invariant)
