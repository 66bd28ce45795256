-- Identifiers are the same where their parts are, and their order is total: only proofs use this.
use Rattle.std.proofs.Common.{◌≡◌, Bool, true, false, Some, refl, sym, ap, ◌∙◌}
use Rattle.std.specs.Ordering.{nat_cmp, ordering_then, is_eq}
use Rattle.std.specs.declared.cmp.Ordering.{Ordering}
use Rattle.std.specs.declared.cmp.Ordering.TheVariants.{Less, Equal, Greater}
use Rattle.std.specs.Cmp.{IsTotalOrder, IsPartialOrder, IsEquivalence, IsPartialEquivalence, partial_equiv_from_equiv, partial_order_from_agreeing_total, both_tied, first_so, second_so, unsigned_Decides, unsigned_ties, nat_eq_equiv}
use Rattle.std.specs.Cmp.Lexicographic.{slice_cmp, texts_ties, nat_list_eq_equiv}
use Rattle.std.proofs.lemmas.Cmp.{then_total, on_total, nat_cmp_total, nat_list_cmp_total, tied_itself, and_equiv, on_equiv}
use Rattle.std.proofs.lemmas.Slice.Eq.{bytes_eq-Decides}
use Rattle.druid_segment_id.specs.Identifier.{Identifier, identifier_text, same_identifier, parts_cmp, identifier_cmp}

pub parts_cmp-total : IsTotalOrder parts_cmp
parts_cmp-total =
    then_total (then_total (then_total (then_total (on_total (λ (x : Identifier). x.source) nat_list_cmp_total)
    (on_total (λ (x : Identifier). x.interval.start) nat_cmp_total)) (on_total (λ (x : Identifier). x.interval.end) nat_cmp_total))
    (on_total (λ (x : Identifier). x.version) nat_list_cmp_total)) (on_total (λ (x : Identifier). x.partition) nat_cmp_total)

-- the order is total
pub identifier_cmp-total : IsTotalOrder identifier_cmp
identifier_cmp-total = then_total (on_total identifier_text nat_list_cmp_total) parts_cmp-total

pub same_identifier-equiv : IsEquivalence same_identifier
same_identifier-equiv =
    and_equiv (and_equiv (and_equiv (and_equiv (on_equiv (λ (x : Identifier). x.source) nat_list_eq_equiv)
    (on_equiv (λ (x : Identifier). x.interval.start) nat_eq_equiv)) (on_equiv (λ (x : Identifier). x.interval.end) nat_eq_equiv))
    (on_equiv (λ (x : Identifier). x.version) nat_list_eq_equiv)) (on_equiv (λ (x : Identifier). x.partition) nat_eq_equiv)

pub same_identifier-per : IsPartialEquivalence same_identifier
same_identifier-per = partial_equiv_from_equiv same_identifier-equiv

-- identifiers of the same parts are one
pub identifier_same : (a b : Identifier) → a.source ≡ b.source → a.interval.start ≡ b.interval.start → a.interval.end ≡ b.interval.end → a.version ≡ b.version → a.partition ≡ b.partition → a ≡ b
identifier_same a b source start end version partition i =
    record { source = source i; interval = record { start = start i; end = end i }; version = version i; partition = partition i }

pub same_parts : (a b : Identifier) → same_identifier a b ≡ is_eq (parts_cmp a b)
same_parts a b =
    both_tied _ _ _ _ (both_tied _ _ _ _ (both_tied _ _ _ _ (both_tied _ _ _ _ (texts_ties a.source b.source)
    (unsigned_ties a.interval.start b.interval.start)) (unsigned_ties a.interval.end b.interval.end))
    (texts_ties a.version b.version)) (unsigned_ties a.partition b.partition)

-- the test tells the same
pub same_identifier-true : (a b : Identifier) → same_identifier a b ≡ true → a ≡ b
same_identifier-true a b e =
    let to_version = first_so _ _ e in
    let to_end = first_so _ _ to_version in
    let to_start = first_so _ _ to_end in
    identifier_same a b
    ((bytes_eq-Decides a.source b.source).0 (first_so _ _ to_start))
    ((unsigned_Decides a.interval.start b.interval.start).0 (second_so _ _ to_start))
    ((unsigned_Decides a.interval.end b.interval.end).0 (second_so _ _ to_end))
    ((bytes_eq-Decides a.version b.version).0 (second_so _ _ to_version))
    ((unsigned_Decides a.partition b.partition).0 (second_so _ _ e))

is_false : (s : Bool) → (s ≡ true → ⊥) → s ≡ false
is_false true h = absurd (h refl)
is_false false h = refl

apart : (a b : Identifier) (o : Ordering) → o ≡ slice_cmp nat_cmp (identifier_text a) (identifier_text b) → (o ≡ Equal → ⊥) → same_identifier a b ≡ false
apart a b o e not_tied =
    is_false (same_identifier a b) (λ same.
    not_tied (e ∙ ap (λ x. slice_cmp nat_cmp (identifier_text a) (identifier_text x)) (sym (same_identifier-true a b same))
    ∙ tied_itself nat_list_cmp_total (identifier_text a)))

by_text : (a b : Identifier) (o : Ordering) → o ≡ slice_cmp nat_cmp (identifier_text a) (identifier_text b) → same_identifier a b ≡ is_eq (ordering_then o (parts_cmp a b))
by_text a b Less e = apart a b Less e (λ x. cc)
by_text a b Equal e = same_parts a b
by_text a b Greater e = apart a b Greater e (λ x. cc)

-- equal identifiers tie, and no others
pub identifier_cmp-ties : (a b : Identifier) → same_identifier a b ≡ is_eq (identifier_cmp a b)
identifier_cmp-ties a b = by_text a b (slice_cmp nat_cmp (identifier_text a) (identifier_text b)) refl

pub identifier_cmp-po : IsPartialOrder same_identifier (λ a b. Some (identifier_cmp a b))
identifier_cmp-po =
    partial_order_from_agreeing_total identifier_cmp identifier_cmp-total (λ x y. refl) identifier_cmp-ties
