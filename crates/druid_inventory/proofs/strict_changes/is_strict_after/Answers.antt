use Rattle.std.proofs.Common.{◌≡◌, Option, Some, None, Bor, sym, ap, ◌∙◌, subst}
use Rattle.std.specs.Option.{option_copied}
use Rattle.druid_segment_descriptor.specs.Described.{Described}
use Rattle.druid_segment_descriptor.specs.Replay.{is_strict}
use Rattle.druid_segment_descriptor.proofs.DescribedLemmas.{same_described-decides}
use Rattle.druid_segment_descriptor.proofs.ReplayLemmas.{replay_from-set}
use Rattle.druid_inventory.specs.Judged.{segment_of, IsHolderOf}
use Rattle.druid_inventory.proofs.ReplayedLemmas.{holder_of, strict_load_by, strict_drop_some, strict_drop_none}
use Rattle.druid_inventory.proofs.strict_changes.is_strict_after.Goals as goal

pub returns-in-Load : goal.returns-in-Load
returns-in-Load c t e =
    let id : c.id.result.now ≡ c.in-Load.field-0.id =
    c.id.ensures.value ∙ ap (λ (x : Described). x.id) (c.segment_of.ensures ∙ ap segment_of c.in-Load.is) in
    let held = holder_of t c.id.result.now c.in-Load.field-0.id (option_copied c.held_after-held.result) id (c.held_after-held.ensures t e) in
    strict_load_by t c.in-Load.field-0 c.held_after-held.result c.is_none.result held c.is_none.ensures
    ∙ sym (ap (is_strict t) c.in-Load.is)

pub returns-in-Some : goal.returns-in-Some
returns-in-Some c t e =
    let id : c.id.result.now ≡ c.in-Drop.descriptor.id =
    c.id.ensures.value ∙ ap (λ (x : Described). x.id) (c.segment_of.ensures ∙ ap segment_of c.in-Drop.is) in
    let was : IsHolderOf t c.id.result.now (Some c.in-Some.other.now) =
    subst (λ (o : Option (Bor Described)). IsHolderOf t c.id.result.now (option_copied o)) c.in-Some.is (c.held_after-held.ensures t e) in
    let held = holder_of t c.id.result.now c.in-Drop.descriptor.id (Some c.in-Some.other.now) id was in
    let same = same_described-decides c.in-Some.other.now c.in-Drop.descriptor in
    strict_drop_some t c.in-Drop.descriptor c.in-Some.other.now c.eq.result (replay_from-set c.args.set.now t c.args.earlier.now c.requires.set e).sorted held
    (λ b. same.0 (sym c.eq.ensures ∙ b), λ d. c.eq.ensures ∙ same.1 d)
    ∙ sym (ap (is_strict t) c.in-Drop.is)

pub returns-in-None : goal.returns-in-None
returns-in-None c t e =
    let id : c.id.result.now ≡ c.in-Drop.descriptor.id =
    c.id.ensures.value ∙ ap (λ (x : Described). x.id) (c.segment_of.ensures ∙ ap segment_of c.in-Drop.is) in
    let was : IsHolderOf t c.id.result.now None =
    subst (λ (o : Option (Bor Described)). IsHolderOf t c.id.result.now (option_copied o)) c.in-None.is (c.held_after-held.ensures t e) in
    let held = holder_of t c.id.result.now c.in-Drop.descriptor.id None id was in
    sym (strict_drop_none t c.in-Drop.descriptor held) ∙ sym (ap (is_strict t) c.in-Drop.is)
