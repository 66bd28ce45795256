use Rattle.std.proofs.Common.{◌∙◌, None, Some, get_or, sym, ap, option_map, rules}
use Rattle.std.specs.BTreeSet.{contains}
use Rattle.std.proofs.lemmas.List.Sorted.{answers_always}
use Rattle.druid_broker_scatter.specs.Exchanges.{missed_in}
use Rattle.druid_broker_scatter.specs.Pending.{at_cmp, place_of}
use Rattle.druid_broker_scatter.proofs.WaitLemmas.{found_at, not_found, stays_so}
use Rattle.druid_broker_scatter.proofs.pending.stays.Goals as goal

pub returns-in_default-binary_search_by_key : goal.returns-in_default-binary_search_by_key
returns-in_default-binary_search_by_key c =
    stays_so c.args.round _ c.args.piece.now c.in-Some.node None (sym c.turn.ensures ∙ c.in-Some.is)
    (not_found missed_in c.args.exchanges.now c.in-Some.node c.in_default-binary_search_by_key.field-0 c.requires
    (c.in_default-binary_search_by_key.ensures.position (λ x. x.node) (answers_always _ _ _ (λ f a r g called. search rules))))

pub returns-in-Some-missed : goal.returns-in-Some-missed
returns-in-Some-missed c =
    let x = get_or c.args.exchanges.now c.in-Ok.place c.index-exchanges-place.result in
    c.contains.ensures ∙ ap (contains at_cmp c.in-Some-missed.places) (c.place_of.ensures ∙ ap place_of c.asked.ensures)
    ∙ stays_so c.args.round _ c.args.piece.now c.in-Some.node (Some (contains at_cmp c.in-Some-missed.places)) (sym c.turn.ensures ∙ c.in-Some.is)
    (found_at missed_in c.args.exchanges.now c.in-Some.node c.in-Ok.place x c.requires c.in-Ok.ensures.bound (ap (get_or c.args.exchanges.now c.in-Ok.place) c.index-exchanges-place.is)
    (c.in-Ok.ensures.position (λ x. x.node) (answers_always _ _ _ (λ f a r g called. search rules)))
    ∙ ap (option_map (contains at_cmp)) c.in-Some-missed.is)

pub returns-in-None : goal.returns-in-None
returns-in-None c =
    let x = get_or c.args.exchanges.now c.in-Ok.place c.index-exchanges-place.result in
    stays_so c.args.round _ c.args.piece.now c.in-Some.node None (sym c.turn.ensures ∙ c.in-Some.is)
    (found_at missed_in c.args.exchanges.now c.in-Some.node c.in-Ok.place x c.requires c.in-Ok.ensures.bound (ap (get_or c.args.exchanges.now c.in-Ok.place) c.index-exchanges-place.is)
    (c.in-Ok.ensures.position (λ x. x.node) (answers_always _ _ _ (λ f a r g called. search rules)))
    ∙ ap (option_map (contains at_cmp)) c.in-None.is)
