-- The order of keys is an order: only proofs use this.
use Rattle.std.proofs.Common.{Some, refl}
use Rattle.std.specs.Ordering.{eq_by_cmp}
use Rattle.std.specs.Cmp.{IsTotalOrder, IsPartialOrder, IsEquivalence, IsPartialEquivalence, partial_equiv_from_equiv, partial_order_from_agreeing_total}
use Rattle.std.specs.Cmp.Lexicographic.{options_total}
use Rattle.std.proofs.lemmas.Cmp.{then_total, on_total, nat_cmp_total, nat_list_cmp_total, lists_total, eq_by_cmp_equiv}
use Rattle.druid_partial.specs.Groups.{Key, value_cmp, key_cmp}

pub value_cmp-total : IsTotalOrder value_cmp
value_cmp-total = options_total nat_list_cmp_total

pub key_cmp-total : IsTotalOrder key_cmp
key_cmp-total =
    then_total (on_total (λ (k : Key). k.bucket) nat_cmp_total) (on_total (λ (k : Key). k.values) (lists_total value_cmp-total))

pub same_key-equiv : IsEquivalence (eq_by_cmp key_cmp)
same_key-equiv = eq_by_cmp_equiv key_cmp-total

pub same_key-per : IsPartialEquivalence (eq_by_cmp key_cmp)
same_key-per = partial_equiv_from_equiv same_key-equiv

pub key_cmp-po : IsPartialOrder (eq_by_cmp key_cmp) (λ a b. Some (key_cmp a b))
key_cmp-po = partial_order_from_agreeing_total key_cmp key_cmp-total (λ x y. refl) (λ x y. refl)

pub eq_value-equiv : IsEquivalence (eq_by_cmp value_cmp)
eq_value-equiv = eq_by_cmp_equiv value_cmp-total

pub eq_value-per : IsPartialEquivalence (eq_by_cmp value_cmp)
eq_value-per = partial_equiv_from_equiv eq_value-equiv

pub value_cmp-po : IsPartialOrder (eq_by_cmp value_cmp) (λ a b. Some (value_cmp a b))
value_cmp-po = partial_order_from_agreeing_total value_cmp value_cmp-total (λ x y. refl) (λ x y. refl)
