use Rattle.std.proofs.Common.{◌∙◌, sym, option_map, string_bytes}
use Rattle.druid_partial_scan.proofs.CodeLemmas.{null_is, code_says, no_code_says, none_same}
use Rattle.druid_partial_scan.proofs.code_filter.selector_of.Goals as goal

pub returns-in_default : goal.returns-in_default
returns-in_default c = λ row h.
    null_is c.args.segment.now row c.args.name.now c.is_none.result (option_map string_bytes c.args.wanted.now)
    (sym c.dimension_of.ensures.place ∙ c.in_default.is) (none_same c.args.wanted.now c.is_none.result c.is_none.ensures)

pub returns-in-Some-code_of : goal.returns-in-Some-code_of
returns-in-Some-code_of c = λ row h.
    code_says c.args.segment.now row c.in-Some.place c.args.name.now c.values.result.now c.codes-codes.result (option_map string_bytes c.args.wanted.now) c.in-Some-code_of.code h
    (sym c.dimension_of.ensures.place ∙ c.in-Some.is) (c.codes-codes.ensures c.values.result.now c.values.ensures) (c.in-Some-code_of.ensures.code c.values.ensures.rising)

pub returns-in-None : goal.returns-in-None
returns-in-None c = λ row h.
    no_code_says c.args.segment.now row c.in-Some.place c.args.name.now c.values.result.now c.codes-codes.result.now (option_map string_bytes c.args.wanted.now) h
    (sym c.dimension_of.ensures.place ∙ c.in-Some.is) (c.codes-codes.ensures c.values.result.now c.values.ensures) (c.in-None.ensures.code c.values.ensures.rising)
