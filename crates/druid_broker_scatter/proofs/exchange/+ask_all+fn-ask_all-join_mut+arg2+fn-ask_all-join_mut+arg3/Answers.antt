use Rattle.std.proofs.Common.{◌≡◌, ◌∙◌, ◌+◌, ◌-◌, ◌<◌, [], ◌∷◌, length, get_or, map, set, refl, sym, ap, arith, rules}
use Rattle.std.proofs.lemmas.List.{map-append}
use Rattle.druid_broker_scatter.specs.Exchanges.{ask_in, missed_in}
use Rattle.druid_broker_scatter.proofs.RequestLemmas.{is_more, is_zero}
use Rattle.druid_broker_scatter.proofs.ReadLemmas.{all_halves, both_sent, first_in, halves_in, none_sent, nothing, one_sent, only_one}
use Rattle.druid_broker_scatter.proofs.exchange.+ask_all+fn-ask_all-join_mut+arg2+fn-ask_all-join_mut+arg3.Goals as goal

pub returns-then-is_empty : goal.returns-then-is_empty
returns-then-is_empty g t c =
    let none = nothing c.args.exchanges.now (is_zero (length c.args.exchanges.now) c.is_empty.result c.is_empty.ensures c.if-is_empty.true) in
    none_sent g.L.Link.exchanges c.args.query.now c.args.first (map ask_in c.args.exchanges.now) c.args.links.now (map missed_in c.args.exchanges.now) (ap (map ask_in) none) (ap (map missed_in) none)

pub overflow_sub-place : goal.overflow_sub-place
overflow_sub-place g t c =
    (first_in ask_in c.args.first (length c.args.links.now) c.args.exchanges.now [] c.args.exchanges.now c.index-exchanges-0.result refl (omega arith) c.requires.linked).0

pub offset_bounds-links-place : goal.offset_bounds-links-place
offset_bounds-links-place g t c =
    let link = first_in ask_in c.args.first (length c.args.links.now) c.args.exchanges.now [] c.args.exchanges.now c.index-exchanges-0.result refl (omega arith) c.requires.linked in
    let within : (get_or c.args.exchanges.now 0 c.index-exchanges-0.result).node - c.args.first < length c.args.links.now = omega (arith, link.0, link.1) in
    search rules

pub bounds-links-place : goal.bounds-links-place
bounds-links-place g t c =
    let link = first_in ask_in c.args.first (length c.args.links.now) c.args.exchanges.now [] c.args.exchanges.now c.index-exchanges-0.result refl (omega arith) c.requires.linked in
    omega (arith, link.0, link.1)

pub returns-then-exchanges-eq1 : goal.returns-then-exchanges-eq1
returns-then-exchanges-eq1 g t c =
    let xs = c.args.exchanges.now in
    let r = c.index-exchanges-0-then-exchanges-eq1.result in
    let x = get_or xs 0 r in
    let place = (get_or xs 0 c.index-exchanges-0.result).node - c.args.first in
    let only : xs ≡ x ∷ [] = only_one xs x r (omega arith) refl in
    let link = first_in ask_in c.args.first (length c.args.links.now) xs [] xs c.index-exchanges-0.result refl (omega arith) c.requires.linked in
    let same : x.node ≡ (get_or xs 0 c.index-exchanges-0.result).node = ap (λ ys. (get_or ys 0 r).node) only ∙ sym (ap (λ ys. (get_or ys 0 c.index-exchanges-0.result).node) only) in
    one_sent g.L.Link.exchanges c.args.query.now c.args.first place x.node x.sub (map ask_in xs) c.args.links.now _ (get_or c.args.links.now place c.index-links-place.result) c.ask_one.new.link _ (missed_in c.ask_one.new.exchange)
    c.ask_one.result (ap (map ask_in) only) (ap (λ ys. map missed_in (set ys 0 c.ask_one.new.exchange)) only) refl (omega (arith, link.0, same)) (ap (get_or c.args.links.now place) c.index-links-place.is)
    (omega (arith, link.0, link.1)) (c.requires.of_query 0 r (omega arith)) c.ask_one.ensures

pub overflow_sub-next : goal.overflow_sub-next
overflow_sub-next g t c =
    let more = is_more (length c.args.exchanges.now) c.is_empty.result c.is_empty.ensures c.if-is_empty.false in
    (first_in ask_in c.args.first (length c.args.links.now) c.args.exchanges.now c.split_at_mut-front.result.0.now c.split_at_mut-front.result.1.now c.index-back-0.result c.split_at_mut-front.ensures.value
    (omega (arith, more)) c.requires.linked).0

pub split_at_mut-front_links-requires : goal.split_at_mut-front_links-requires
split_at_mut-front_links-requires g t c =
    let more = is_more (length c.args.exchanges.now) c.is_empty.result c.is_empty.ensures c.if-is_empty.false in
    let link = first_in ask_in c.args.first (length c.args.links.now) c.args.exchanges.now c.split_at_mut-front.result.0.now c.split_at_mut-front.result.1.now c.index-back-0.result c.split_at_mut-front.ensures.value
    (omega (arith, more)) c.requires.linked in
    omega (arith, link.0, link.1)

pub join_mut-left-requires-after_bounds : goal.join_mut-left-requires-after_bounds
join_mut-left-requires-after_bounds g t c κs within =
    let xs = c.args.exchanges.now in
    let front = c.split_at_mut-front.result.0.now in
    let back = c.split_at_mut-front.result.1.now in
    let links = c.split_at_mut-front_links.result in
    let next = (get_or back 0 c.index-back-0.result).node in
    let more = is_more (length xs) c.is_empty.result c.is_empty.ensures c.if-is_empty.false in
    let some : 0 < length back = omega (arith, more) in
    let link = first_in ask_in c.args.first (length c.args.links.now) xs front back c.index-back-0.result c.split_at_mut-front.ensures.value some c.requires.linked in
    let cut : next ≡ c.args.first + length links.0.now = omega (arith, link.0) in
    let half = halves_in ask_in c.args.first next (length links.0.now) (length links.1.now) (length c.args.links.now) xs front back c.index-back-0.result c.split_at_mut-front.ensures.value some refl cut (omega arith)
    c.requires.linked in
    let asked = all_halves (λ x. x.sub.query ≡ c.args.query.now) xs front back c.split_at_mut-front.ensures.value c.requires.of_query in
    search (rules, half.0, half.1, asked.0, asked.1, more, some)

pub returns : goal.returns
returns g t c =
    let xs = c.args.exchanges.now in
    let front = c.split_at_mut-front.result.0.now in
    let back = c.split_at_mut-front.result.1.now in
    let links = c.split_at_mut-front_links in
    let next = (get_or back 0 c.index-back-0.result).node in
    let more = is_more (length xs) c.is_empty.result c.is_empty.ensures c.if-is_empty.false in
    let some : 0 < length back = omega (arith, more) in
    let link = first_in ask_in c.args.first (length c.args.links.now) xs front back c.index-back-0.result c.split_at_mut-front.ensures.value some c.requires.linked in
    let cut : next ≡ c.args.first + length links.result.0.now = omega (arith, link.0) in
    let half = halves_in ask_in c.args.first next (length links.result.0.now) (length links.result.1.now) (length c.args.links.now) xs front back c.index-back-0.result c.split_at_mut-front.ensures.value some refl cut (omega arith)
    c.requires.linked in
    both_sent g.L.Link.exchanges c.args.query.now c.args.first next (length links.result.1.now) (map ask_in xs) (map ask_in front) (map ask_in back) c.args.links.now links.result.0.now links.result.1.now
    c.front_links-1.given.0 c.back_links-1.given.0 (map missed_in c.front-1.given.0) (map missed_in c.back-1.given.0) _ c.join_mut-left.result.0 c.join_mut-left.result.1 c.both.result
    links.ensures.value (ap (map ask_in) c.split_at_mut-front.ensures.value ∙ map-append ask_in front back) (map-append missed_in c.front-1.given.0 c.back-1.given.0) cut half.0 half.1 (search rules) (search rules) c.both.ensures
