use Rattle.std.proofs.Common.{◌≡◌, ◌∙◌, ◌≤◌, ap, rules, arith}
use Rattle.druid_time.specs.Extent.{Extent}
use Rattle.druid_segment_id.specs.Group.{Group, group_of}
use Rattle.druid_base_tests.proofs.OthersLemmas.{IsAmong-after}
use Rattle.druid_base_tests.proofs.edit_bound.add_days.Goals as goal

pub loop-day-preserved : goal.loop-day-preserved
loop-day-preserved w c =
    let first : Group = group_of c.segment.result.id in
    let second : Group = group_of c.segment-in-loop-day.result.id in
    let later = c.loop-day.invariant.later in
    let starts : c.expect-day.result.start ≡ c.loop-day.start = search rules in
    let at : first.interval.start ≡ c.loop-day.start = ap (λ (e : Extent). e.start) c.segment.ensures ∙ starts in
    let at_too : second.interval.start ≡ c.loop-day.start = ap (λ (e : Extent). e.start) c.segment-in-loop-day.ensures ∙ starts in record {
      later = search rules;
      among = λ g others ends among.
          let before : g.interval.end ≤ first.interval.start = omega (arith, ends, later, at) in
          let before_too : g.interval.end ≤ second.interval.start = omega (arith, ends, later, at_too) in
          c.add-in-loop-day-3.ensures.among g others
          (c.add-in-loop-day.ensures.among g others (c.loop-day.invariant.among g others ends among) (IsAmong-after g first others before))
          (IsAmong-after g second others before_too);
    }
