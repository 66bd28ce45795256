use Rattle.std.proofs.Common.{List, ℕ, ◌++◌, ap, ◌∙◌}
use Rattle.druid_segment_file.proofs.WriteLemmas.{descriptor_grown}
use Rattle.druid_segment_file.proofs.byte_parts.append_descriptor.Goals as goal

pub returns : goal.returns
returns c =
    descriptor_grown c.args.announcement.now c.args.out.now.items c.append_short_text.new.out.items c.append_interval.new.out.items c.append_short_text-2.new.out.items c.extend_from_slice.new.self.items c.extend_from_slice-2.new.self.items c.extend_from_slice-3.new.self.items
    c.as_str.result.now c.interval.result c.as_str-2.result.now c.partition.result c.core.result c.size.result
    (c.as_str.ensures.value ∙ (c.source.ensures.value ∙ ap (λ id. id.source) c.id-id.ensures.value))
    (c.interval.ensures.value ∙ ap (λ id. id.interval) c.id-id.ensures.value)
    (c.as_str-2.ensures.value ∙ (c.in_ok-version.ensures ∙ (c.version.ensures.value ∙ ap (λ id. id.version) c.id-id.ensures.value)))
    (c.partition.ensures.value ∙ ap (λ id. id.partition) c.id-id.ensures.value)
    c.core.ensures.value
    c.size.ensures.value
    c.in_ok-append_short_text.ensures
    c.in_ok-append_interval.ensures
    c.in_ok-append_short_text-2.ensures
    (c.in_ok-extend_from_slice.ensures.items ∙ ap (λ (t : List ℕ). c.append_short_text-2.new.out.items ++ t) c.to_be_bytes.ensures)
    (c.in_ok-extend_from_slice-2.ensures.items ∙ ap (λ (t : List ℕ). c.extend_from_slice.new.self.items ++ t) c.to_be_bytes-2.ensures)
    (c.in_ok-extend_from_slice-3.ensures.items ∙ ap (λ (t : List ℕ). c.extend_from_slice-2.new.self.items ++ t) c.to_be_bytes-3.ensures)
