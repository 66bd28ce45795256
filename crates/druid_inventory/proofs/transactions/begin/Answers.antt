use Rattle.std.proofs.Common.{◌≡◌, ℕ, List, [], Option, refl, sym, ap, subst, ◌∙◌}
use Rattle.std.specs.BTreeMap.{BTreeMap}
use Rattle.std.specs.Option.{is_some}
use Rattle.std.specs.Result.{OnOk, OnErr}
use Rattle.std.proofs.lemmas.Result.{on_err_weaker}
use Rattle.druid_timeline.specs.Holding.{Serving}
use Rattle.druid_inventory.specs.Timelines.{kept, ServesWith}
use Rattle.druid_inventory.specs.Transactions.{edited, HasPlace}
use Rattle.druid_inventory.proofs.TransactionLemmas.{IsFrom, AreAfter-begun, AreBefore-begun, HasPlace-written, may_begin, unless_found, on_ok, written_back}
use Rattle.druid_inventory.proofs.transactions.begin.Goals as goal

pub returns-in-Some-clause-after : goal.returns-in-Some-clause-after
returns-in-Some-clause-after c entries node set h =
    let m = c.args.timelines.now in
    let n = c.get_mut.follows.lender c.begin_kept.new.place in
    let source = c.args.source.now in
    let writes = (c.get_mut.follows.holds c.begin_kept.new.place).3 (ap is_some (sym c.in-Some.ensures.value)) in
    let none = unless_found (edited c.args.edits.now source) (sym c.contains_key.ensures ∙ c.if-contains_key.false) in
    AreAfter-begun (ServesWith entries node set) m n c.args.edits.now c.begin_kept.new.edits source c.in-Some.place.now none
    (subst (λ (o : Option Serving). IsFrom source o c.in-Some.place.now) c.in-Some.ensures.value refl)
    (may_begin c.begin_kept.result m n c.args.edits.now c.begin_kept.new.edits source c.in-Some.place.now c.begin_kept.ensures.ok
    (on_ok c.begin_kept.result (HasPlace-written m n source source c.begin_kept.new.place refl writes))
    (on_err_weaker c.begin_kept.result (λ same. written_back m n source c.in-Some.place.now c.begin_kept.new.place c.in-Some.ensures.value same writes) c.begin_kept.ensures.place)
    c.begin_kept.ensures.edits) h

pub returns-in-None-clause-after : goal.returns-in-None-clause-after
returns-in-None-clause-after c entries node set h =
    let m = c.args.timelines.now in
    let n = c.begin_new.new.timelines in
    let source = c.args.source.now in
    let t : Serving = record { source = source; held = [] } in
    let none = unless_found (edited c.args.edits.now source) (sym c.contains_key.ensures ∙ c.if-contains_key.false) in
    let place = subst (λ (x : BTreeMap (List ℕ) Serving). OnOk c.begin_new.result (HasPlace x n source)) c.get_mut.follows.holds-at-none c.begin_new.ensures.place in
    let stays = subst (λ (x : BTreeMap (List ℕ) Serving). OnErr c.begin_new.result ((s : List ℕ) → kept n s ≡ kept x s)) c.get_mut.follows.holds-at-none c.begin_new.ensures.timelines in
    AreAfter-begun (ServesWith entries node set) m n c.args.edits.now c.begin_new.new.edits source t none
    (subst (λ (o : Option Serving). IsFrom source o t) c.in-None.ensures.value (refl, refl))
    (may_begin c.begin_new.result m n c.args.edits.now c.begin_new.new.edits source t c.begin_new.ensures.ok place stays c.begin_new.ensures.edits) h

pub returns-in-Some-clause-before : goal.returns-in-Some-clause-before
returns-in-Some-clause-before c entries node set h =
    let m = c.args.timelines.now in
    let n = c.get_mut.follows.lender c.begin_kept.new.place in
    let source = c.args.source.now in
    let writes = (c.get_mut.follows.holds c.begin_kept.new.place).3 (ap is_some (sym c.in-Some.ensures.value)) in
    let none = unless_found (edited c.args.edits.now source) (sym c.contains_key.ensures ∙ c.if-contains_key.false) in
    AreBefore-begun (ServesWith entries node set) m n c.args.edits.now c.begin_kept.new.edits source c.in-Some.place.now none
    (subst (λ (o : Option Serving). IsFrom source o c.in-Some.place.now) c.in-Some.ensures.value refl)
    (may_begin c.begin_kept.result m n c.args.edits.now c.begin_kept.new.edits source c.in-Some.place.now c.begin_kept.ensures.ok
    (on_ok c.begin_kept.result (HasPlace-written m n source source c.begin_kept.new.place refl writes))
    (on_err_weaker c.begin_kept.result (λ same. written_back m n source c.in-Some.place.now c.begin_kept.new.place c.in-Some.ensures.value same writes) c.begin_kept.ensures.place)
    c.begin_kept.ensures.edits) h

pub returns-in-None-clause-before : goal.returns-in-None-clause-before
returns-in-None-clause-before c entries node set h =
    let m = c.args.timelines.now in
    let n = c.begin_new.new.timelines in
    let source = c.args.source.now in
    let t : Serving = record { source = source; held = [] } in
    let none = unless_found (edited c.args.edits.now source) (sym c.contains_key.ensures ∙ c.if-contains_key.false) in
    let place = subst (λ (x : BTreeMap (List ℕ) Serving). OnOk c.begin_new.result (HasPlace x n source)) c.get_mut.follows.holds-at-none c.begin_new.ensures.place in
    let stays = subst (λ (x : BTreeMap (List ℕ) Serving). OnErr c.begin_new.result ((s : List ℕ) → kept n s ≡ kept x s)) c.get_mut.follows.holds-at-none c.begin_new.ensures.timelines in
    AreBefore-begun (ServesWith entries node set) m n c.args.edits.now c.begin_new.new.edits source t none
    (subst (λ (o : Option Serving). IsFrom source o t) c.in-None.ensures.value (refl, refl))
    (may_begin c.begin_new.result m n c.args.edits.now c.begin_new.new.edits source t c.begin_new.ensures.ok place stays c.begin_new.ensures.edits) h
