use Rattle.std.proofs.Common.{◌≡◌, [], ◌∷◌, ◌++◌, sym, subst, ◌∙◌, ap, rules}
use Rattle.druid_folder_store.specs.declared.record.Call.TheVariants.{Synced}
use Rattle.druid_folder_store.specs.Record.{IsLeft, stopped}
use Rattle.druid_folder_store.proofs.Calls.{content_pushed, left_before}
use Rattle.druid_folder_store.proofs.Lost.{stopped_may_be_left}
use Rattle.druid_folder_store.proofs.record.CallRecord.stop.Goals as goal

pub returns-clause-stopped : goal.returns-clause-stopped
returns-clause-stopped c =
    let pushed : c.push_reserved.new.self.items ≡ c.settle.new.calls.items ++ Synced ∷ [] = search rules in
    let before : c.reserve.new.self.items ≡ c.args.self.now.calls.items = search rules in
    content_pushed _ _ Synced pushed ∙ c.settle.ensures.stopped ∙ ap (stopped c.args.keep) before

pub returns-clause-left : goal.returns-clause-left
returns-clause-left c =
    let pushed : c.push_reserved.new.self.items ≡ c.settle.new.calls.items ++ Synced ∷ [] = search rules in
    let before : c.reserve.new.self.items ≡ c.args.self.now.calls.items = search rules in
    subst (IsLeft c.args.self.now.calls.items) (sym (content_pushed _ _ Synced pushed ∙ c.settle.ensures.stopped ∙ ap (stopped c.args.keep) before))
    (stopped_may_be_left c.args.keep c.args.self.now.calls.items)

pub returns-clause-stable : goal.returns-clause-stable
returns-clause-stable c left is =
    let pushed : c.push_reserved.new.self.items ≡ c.settle.new.calls.items ++ Synced ∷ [] = search rules in
    left_before _ _ Synced pushed left is ∙ sym (content_pushed _ _ Synced pushed)
