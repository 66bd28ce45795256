use Rattle.std.proofs.Common.{◌≡◌, ◌∙◌, ◌+◌, ◌-◌, ◌^◌, ◌<◌, ◌≤◌, ℕ, length, sym, ap, subst, refl, arith}
use Rattle.std.specs.List.{AllWithin}
use Rattle.druid_time.specs.Extent.{Extent, IsExtent}
use Rattle.druid_time.specs.Instant.{instant_count}
use Rattle.druid_segment_id.specs.Group.{Group}
use Rattle.druid_timeline_chunks.specs.Places.{place_below, chunk_place, length_class}
use Rattle.druid_timeline_chunks.proofs.OverlapLemmas as near
use Rattle.druid_timeline_chunks.proofs.overlap.near.Goals as goal

pub returns-clause-onward : goal.returns-clause-onward
returns-clause-onward c =
    let own = c.index-items-from.result in
    let interval : c.interval.result ≡ own.0.interval = c.interval.ensures.value ∙ ap (λ (h : Group). h.interval) c.key.ensures in
    let class : c.class_of-class.result ≡ length_class own.0.interval = c.class_of-class.ensures.value ∙ ap length_class interval in
    let place : c.from-3.result ≡ place_below instant_count (length_class own.0.interval + 1) 0 0 = c.from-3.ensures ∙ ap (λ (k : ℕ). place_below instant_count (k + 1) 0 0) class in
    let after = subst (λ (n : ℕ). AllWithin (λ chunk. n ≤ chunk_place chunk) c.args.items.now c.first_from-next.result (length c.args.items.now)) place c.first_from-next.ensures.after in
    let l = near.onward c.args.items.now c.args.from c.first_from-next.result own (subst (λ (e : Extent). IsExtent e) interval c.class_of-class.ensures.valid) c.requires.within (sym c.index-items-from.is) after in
    omega (arith, l, c.max.ensures)

pub returns-clause-early : goal.returns-clause-early
returns-clause-early c k d low high share =
    let own = c.index-items-from.result in
    let interval : c.interval.result ≡ own.0.interval = c.interval.ensures.value ∙ ap (λ (h : Group). h.interval) c.key.ensures in
    let class : c.class_of-class.result ≡ length_class own.0.interval = c.class_of-class.ensures.value ∙ ap length_class interval in
    let width : ℕ = 2 ^ (length_class own.0.interval + 1) in
    let start : c.first_start.result ≡ c.args.own.start + 1 - width = c.first_start.ensures.value ∙ ap (λ (m : ℕ). c.args.own.start + 1 - 2 ^ (m + 1)) class in
    let place : c.from.result ≡ place_below instant_count (length_class own.0.interval) (c.args.own.start + 1 - width) 0 = c.from.ensures ∙ (λ i. place_below instant_count (class i) (start i) 0) in
    let before = subst (λ (n : ℕ). AllWithin (λ chunk. chunk_place chunk < n) c.args.items.now 0 c.first_from-early.result) place c.first_from-early.ensures.before in
    near.early c.args.items.now c.args.from c.first_from-early.result own c.args.own width c.requires.ordered c.first_start.ensures.valid c.requires.within (sym c.index-items-from.is) refl before c.first_from-early.ensures.within k d low (omega (arith, low, high, c.max-low.ensures)) share

pub returns-clause-late : goal.returns-clause-late
returns-clause-late c k d low high share =
    let class = c.class_of-class.result in
    let end : c.since_first.result ≡ c.args.own.end = c.since_first.ensures.value ∙ c.end.ensures.value in
    let place : c.from-2.result ≡ place_below instant_count class c.args.own.end 0 = c.from-2.ensures ∙ ap (λ (t : ℕ). place_below instant_count class t 0) end in
    let after = subst (λ (n : ℕ). AllWithin (λ chunk. n ≤ chunk_place chunk) c.args.items.now c.first_from-late.result (length c.args.items.now)) place c.first_from-late.ensures.after in
    let before = subst (λ (n : ℕ). AllWithin (λ chunk. chunk_place chunk < n) c.args.items.now 0 c.first_from-next.result) c.from-3.ensures c.first_from-next.ensures.before in
    near.late c.args.items.now c.first_from-late.result c.first_from-next.result class c.args.own c.requires.ordered c.first_start.ensures.valid after before c.first_from-next.ensures.within k d (omega (arith, low, c.max-high.ensures)) (omega (arith, low, high, c.max.ensures)) share
