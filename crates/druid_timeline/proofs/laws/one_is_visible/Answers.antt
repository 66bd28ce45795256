use Rattle.std.proofs.Common.{inl, inr, sym}
use Rattle.druid_segment_id.proofs.GroupLemmas.{Outranks-one_way}
use Rattle.druid_timeline.proofs.laws.one_is_visible.Goals as goal

pub returns : goal.returns
returns c held t g h vg vh =
    elim (vg.greatest h vh.candidate) [
      | inl same ↦ sym same
      | inr above ↦ elim (vh.greatest g vg.candidate) [
        | inl same ↦ same
        | inr below ↦ absurd (Outranks-one_way g h above below)
      ]
    ]
