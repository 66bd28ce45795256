use Rattle.std.proofs.Common.{◌≡◌, ◌∙◌, length, map, refl, sym, ap, subst, arith, rules}
use Rattle.std.specs.List.Sorted.{IsStrictlyIncreasing}
use Rattle.druid_partial.specs.Groups.{IsResult}
use Rattle.druid_partial.specs.Partials.{kinds_of}
use Rattle.druid_base.proofs.ClauseLemmas.{always_err}
use Rattle.druid_broker_scatter.specs.Exchanges.{ask_in, missed_in}
use Rattle.druid_broker_scatter.specs.Pending.{Missed, State, stays}
use Rattle.druid_broker_scatter.proofs.SettledLemmas.{have_links, kept_by, merge_lacks, missed_rise, round_lacks, round_borrowed, round_ok, still_below, unsent, written_in}
use Rattle.druid_broker_scatter.proofs.gathering.Gathering.round.Goals as goal

pub ask_all-requires-clause-linked : goal.ask_all-requires-clause-linked
ask_all-requires-clause-linked g c κs within =
    let borrowed : c.as_mut_slice.result.now ≡ c.in_ok-exchanges.exchanges.items = search rules in
    let asks = map ask_in c.as_mut_slice.result.now in
    let r = round_borrowed ask_in c.args.round c.args.self.waiting c.deref.result.now c.in_ok-exchanges.exchanges.items c.as_mut_slice.result.now (c.deref.ensures.value ∙ ap (λ (s : State). s.waiting) c.self.view_is) borrowed
    c.in_ok-exchanges.ensures.round in
    have_links c.args.round (length c.args.links.now) c.args.self.waiting asks r c.requires.linked

pub keep_missed-requires : goal.keep_missed-requires
keep_missed-requires g c =
    let borrowed : c.as_mut_slice.result.now ≡ c.in_ok-exchanges.exchanges.items = search rules in
    let asks = map ask_in c.as_mut_slice.result.now in
    let r = round_borrowed ask_in c.args.round c.args.self.waiting c.deref.result.now c.in_ok-exchanges.exchanges.items c.as_mut_slice.result.now (c.deref.ensures.value ∙ ap (λ (s : State). s.waiting) c.self.view_is) borrowed
    c.in_ok-exchanges.ensures.round in
    let there = written_in g.L.Link.exchanges c.args.query.now ask_in missed_in c.args.links.now c.ask_all.new.links c.in_ok-exchanges.exchanges.len c.in_ok-exchanges.exchanges.items c.as_mut_slice.result.now
    c.ask_all.new.exchanges c.deref-2.result.now c.in_ok-reported.reported c.in_ok-reported.ensures (omega arith) borrowed c.deref-2.ensures.value in
    subst (λ xs. IsStrictlyIncreasing (map (λ (m : Missed). m.0) (map missed_in xs))) (sym there)
    (missed_rise g.L.Link.exchanges c.args.query.now c.args.round c.args.links.now c.ask_all.new.links c.args.self.waiting asks (map missed_in c.ask_all.new.exchanges) c.in_ok-reported.reported r c.in_ok-reported.ensures)

pub returns-clause-ok : goal.returns-clause-ok
returns-clause-ok g c =
    let borrowed : c.as_mut_slice.result.now ≡ c.in_ok-exchanges.exchanges.items = search rules in
    let asks = map ask_in c.as_mut_slice.result.now in
    let r = round_borrowed ask_in c.args.round c.args.self.waiting c.deref.result.now c.in_ok-exchanges.exchanges.items c.as_mut_slice.result.now (c.deref.ensures.value ∙ ap (λ (s : State). s.waiting) c.self.view_is) borrowed
    c.in_ok-exchanges.ensures.round in
    let there = written_in g.L.Link.exchanges c.args.query.now ask_in missed_in c.args.links.now c.ask_all.new.links c.in_ok-exchanges.exchanges.len c.in_ok-exchanges.exchanges.items c.as_mut_slice.result.now
    c.ask_all.new.exchanges c.deref-2.result.now c.in_ok-reported.reported c.in_ok-reported.ensures (omega arith) borrowed c.deref-2.ensures.value in
    round_ok g.L.Link.exchanges c.args.query.now c.args.round c.args.links.now c.ask_all.new.links c.args.self (record { waiting = c.keep_missed.new.waiting.items; partial = c.in_ok-partial.partial }) asks
    (map missed_in c.ask_all.new.exchanges) c.in_ok-reported.reported r c.in_ok-reported.ensures
    (kept_by missed_in c.args.round c.args.self.waiting _ c.keep_missed.new.waiting.items c.ask_all.new.exchanges c.deref-2.result.now (ap (λ (s : State). s.waiting) c.self.view_is) there c.keep_missed.ensures)
    (λ a b h k. c.in_ok-partial.ensures.reported a b (subst (λ (s : State). IsResult (kinds_of c.args.query.now) a s.partial.groups) (sym c.self.view_is) h) k)

pub returns-clause-linked : goal.returns-clause-linked
returns-clause-linked g c =
    still_below (length c.args.links.now) (length c.ask_all.new.links) c.args.self.waiting c.keep_missed.new.waiting.items (stays c.args.round (map missed_in c.deref-2.result.now)) c.requires.linked
    (kept_by missed_in c.args.round c.args.self.waiting _ c.keep_missed.new.waiting.items c.deref-2.result.now c.deref-2.result.now (ap (λ (s : State). s.waiting) c.self.view_is) refl c.keep_missed.ensures)
    c.in_ok-reported.ensures.led.count

pub returns-in_err-exchanges-clause-err : goal.returns-in_err-exchanges-clause-err
returns-in_err-exchanges-clause-err g c = always_err c.from_residual.result _ (unsent g.L.Link.exchanges c.args.query.now c.args.round c.args.self c.args.links.now)

pub returns-in_err-reported-clause-err : goal.returns-in_err-reported-clause-err
returns-in_err-reported-clause-err g c =
    let borrowed : c.as_mut_slice.result.now ≡ c.in_ok-exchanges.exchanges.items = search rules in
    let asks = map ask_in c.as_mut_slice.result.now in
    let r = round_borrowed ask_in c.args.round c.args.self.waiting c.deref.result.now c.in_ok-exchanges.exchanges.items c.as_mut_slice.result.now (c.deref.ensures.value ∙ ap (λ (s : State). s.waiting) c.self.view_is) borrowed
    c.in_ok-exchanges.ensures.round in
    always_err c.from_residual-in_err-reported.result _
    (round_lacks g.L.Link.exchanges c.args.query.now c.args.round c.args.links.now c.ask_all.new.links c.args.self asks (map missed_in c.ask_all.new.exchanges) _ r c.in_err-reported.ensures)

pub returns-in_err-partial-clause-err : goal.returns-in_err-partial-clause-err
returns-in_err-partial-clause-err g c =
    let borrowed : c.as_mut_slice.result.now ≡ c.in_ok-exchanges.exchanges.items = search rules in
    let asks = map ask_in c.as_mut_slice.result.now in
    let r = round_borrowed ask_in c.args.round c.args.self.waiting c.deref.result.now c.in_ok-exchanges.exchanges.items c.as_mut_slice.result.now (c.deref.ensures.value ∙ ap (λ (s : State). s.waiting) c.self.view_is) borrowed
    c.in_ok-exchanges.ensures.round in
    always_err c.from_residual-in_err-partial.result _
    (merge_lacks g.L.Link.exchanges c.args.query.now c.args.round c.args.links.now c.ask_all.new.links c.args.self asks (map missed_in c.ask_all.new.exchanges) c.in_ok-reported.reported r c.in_ok-reported.ensures c.in_err-partial.ensures.err)
