-- Tests of equal entries and of equal inventories, and their laws: only proofs use this.
use Rattle.std.specs.Prelude.{◌&&◌, Bool, List, bytes_eq}
use Rattle.std.specs.Cmp.{IsEquivalence, IsPartialEquivalence, partial_equiv_from_equiv}
use Rattle.std.specs.Cmp.Lexicographic.{pointwise, nat_list_eq_equiv}
use Rattle.std.proofs.lemmas.Cmp.{and_equiv, on_equiv, lists_equiv}
use Rattle.druid_segment_descriptor.specs.Described.{same_described}
use Rattle.druid_segment_descriptor.specs.Mark.{same_mark}
use Rattle.druid_segment_descriptor.specs.Orders.{same_mark-equiv, same_described-equiv}
use Rattle.druid_inventory.specs.Entry.{Entry}

abbrev pub same_entry : Entry → Entry → Bool
same_entry a b = bytes_eq a.name b.name && same_mark a.mark b.mark && pointwise same_described a.set b.set

abbrev pub same_entries : List Entry → List Entry → Bool
same_entries a b = pointwise same_entry a b

pub same_entry-equiv : IsEquivalence same_entry
same_entry-equiv =
    and_equiv (and_equiv (on_equiv (λ (e : Entry). e.name) nat_list_eq_equiv) (on_equiv (λ (e : Entry). e.mark) same_mark-equiv))
    (on_equiv (λ (e : Entry). e.set) (lists_equiv same_described-equiv))

pub same_entry-per : IsPartialEquivalence same_entry
same_entry-per = partial_equiv_from_equiv same_entry-equiv

pub same_entries-equiv : IsEquivalence same_entries
same_entries-equiv = lists_equiv same_entry-equiv

pub same_entries-per : IsPartialEquivalence same_entries
same_entries-per = partial_equiv_from_equiv same_entries-equiv
