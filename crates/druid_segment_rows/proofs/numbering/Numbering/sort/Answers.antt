use Rattle.std.proofs.Common.{◌∙◌, ℕ, ◌≤◌, List, [], map, length, All, ap, sym, subst}
use Rattle.druid_segment_rows.specs.Columns.{value_at}
use Rattle.druid_segment_rows.specs.Numbering.{texts_in, HavePlaces}
use Rattle.druid_segment_rows.proofs.NumberingLemmas.{if_ok}
use Rattle.druid_segment_rows.proofs.PlaceLemmas.{dictionary_placed, stand_placed, bounded_placed}
use Rattle.druid_segment_rows.proofs.numbering.Numbering.sort.Goals as goal

-- the texts have their places
placed : (c : goal.After-drop-self-inside-2) (texts : List (List ℕ)) → HavePlaces (texts_in c.self.inside.entries.items) c.args.codes.now [] texts c.put_in_order.new.ranks
    → HavePlaces c.args.self c.args.codes.now [] texts c.put_in_order.new.ranks
placed c texts = subst (λ all. HavePlaces all c.args.codes.now [] texts c.put_in_order.new.ranks) c.self.view_is

pub returns-clause-dictionary : goal.returns-clause-dictionary
returns-clause-dictionary c =
    if_ok c.put_in_order.result (λ texts is. dictionary_placed c.args.self c.args.codes.now texts c.put_in_order.new.ranks (placed c texts is.0)) c.put_in_order.ensures

pub returns-clause-stand : goal.returns-clause-stand
returns-clause-stand c =
    if_ok c.put_in_order.result (λ texts is. ap (map (value_at texts)) is.1 ∙ stand_placed c.args.self c.args.codes.now texts c.put_in_order.new.ranks (placed c texts is.0)) c.put_in_order.ensures

pub returns-clause-bounded : goal.returns-clause-bounded
returns-clause-bounded c =
    if_ok c.put_in_order.result (λ texts is. subst (λ (cs : List ℕ). All (λ code. code ≤ length texts) cs) (sym is.1)
    (bounded_placed c.args.self c.args.codes.now texts c.put_in_order.new.ranks (placed c texts is.0))) c.put_in_order.ensures
