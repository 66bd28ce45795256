use Rattle.std.proofs.Common.{sym, ◌∙◌}
use Rattle.std.proofs.lemmas.Result.{IfOk-weaker}
use Rattle.druid_inventory.specs.Judged.{NoneLater}
use Rattle.druid_inventory.proofs.JoinLemmas.{none_later-of, names_long, none_later-left, none_later-right}
use Rattle.druid_inventory.proofs.inventory.Inventory.join_entries.Goals as goal

pub returns-then-not-has_later : goal.returns-then-not-has_later
returns-then-not-has_later c =
    let a = c.args.self.now in
    let b = c.args.other.now in
    let none : NoneLater a b =
    none_later-of _ _ a b c.entries-entries.ensures.value c.entries-others.ensures.value (c.has_later.ensures c.if-not-has_later.true) in
    IfOk-weaker c.share.result _ _ (λ inventory e. e ∙ sym (none_later-left a b (names_long a b c.requires.same_nodes) none)) c.share.ensures

pub returns-then-not-has_later-2 : goal.returns-then-not-has_later-2
returns-then-not-has_later-2 c =
    let a = c.args.self.now in
    let b = c.args.other.now in
    let none : NoneLater b a =
    none_later-of _ _ b a c.entries-others.ensures.value c.entries-entries.ensures.value (c.has_later-2.ensures c.if-not-has_later-2.true) in
    IfOk-weaker c.share-then-not-has_later-2.result _ _ (λ inventory e. e ∙ sym (none_later-right a b c.requires.same_nodes none c.requires.agree))
    c.share-then-not-has_later-2.ensures
