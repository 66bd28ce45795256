use Rattle.std.proofs.Common.{◌≡◌, ◌∙◌, [], ◌∷◌, ◌++◌, length, ap, sym, arith, rules, refl, vec_len, append_assoc, append-nil, length-append}
use Rattle.std.proofs.lemmas.List.{nil_from_length}
use Rattle.std.specs.Vec.Iter.{into_iter_items}
use Rattle.druid_segment_rows.proofs.table_builder.finish_dimensions.Goals as goal

pub loop-column-init : goal.loop-column-init
loop-column-init c =
    let given : into_iter_items c.into_iter-column-iterator.result ≡ c.args.dimensions.items = search rules in
    record { all = λ i. c.requires.none i ++ given i; room = refl }

pub push_reserved-requires : goal.push_reserved-requires
push_reserved-requires c =
    let items = c.loop-column.columns.items in
    let left = into_iter_items c.loop-column.column-iterator in
    let rest = into_iter_items c.next.new.self in
    let len : vec_len c.loop-column.columns ≡ length items = search rules in
    let split : left ≡ c.in-Some.column ∷ rest = search rules in
    omega (arith, len, ap length c.loop-column.invariant.all, length-append items left, ap length split, c.loop-column.invariant.room, c.requires.room)

pub loop-column-preserved : goal.loop-column-preserved
loop-column-preserved c =
    let items = c.loop-column.columns.items in
    let left = into_iter_items c.loop-column.column-iterator in
    let rest = into_iter_items c.next.new.self in
    let split : left ≡ c.in-Some.column ∷ rest = search rules in
    let pushed : c.push_reserved.new.self.items ≡ items ++ c.in-Some.column ∷ [] = search rules in
    record {
      all = ap (λ xs. xs ++ rest) pushed ∙ append_assoc items (c.in-Some.column ∷ []) rest ∙ ap (λ xs. items ++ xs) (sym split) ∙ c.loop-column.invariant.all;
      room = c.push_reserved.ensures.capacity ∙ c.loop-column.invariant.room;
    }

pub returns : goal.returns
returns c =
    let items = c.loop-column.columns.items in
    let left : into_iter_items c.loop-column.column-iterator ≡ [] = nil_from_length (into_iter_items c.loop-column.column-iterator) (search rules) in
    sym (append-nil items) ∙ ap (λ xs. items ++ xs) (sym left) ∙ c.loop-column.invariant.all
