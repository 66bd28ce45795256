use Rattle.std.proofs.Common.{◌≡◌, ◌&&◌, nat_le, length, drop, option_map}
use Rattle.std.specs.List.{list_all}
use Rattle.serde_json.specs.View.{items_view}
use Rattle.druid_base.specs.Each.{each_of}
use Rattle.druid_query_text.proofs.item.are_fit.Given as goal

-- what is known of all, by what is left
abbrev pub invariant-loop-value : goal.invariant-loop-value
invariant-loop-value g l =
    option_map (λ items. l.fit && list_all g.I.Item.fits items) (each_of g.I.Item.at (items_view (drop l.value-index l.values)))
    ≡ option_map (λ items. nat_le (length l.values) l.most && list_all g.I.Item.fits items) (each_of g.I.Item.at (items_view l.values))
