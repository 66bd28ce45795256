use Rattle.std.proofs.Common.{◌∙◌, ℕ, ◌≤◌, List, map, length, All, ap, sym, subst, option_map}
use Rattle.std.proofs.lemmas.List.Elements.{All-push}
use Rattle.druid_segment_rows.specs.Columns.{value_at}
use Rattle.druid_segment_rows.proofs.NumberingLemmas.{codes_kept, codes_bounded, codes_pushed, on_err}
use Rattle.druid_segment_rows.proofs.column_builder.ColumnBuilder.push.Goals as goal

pub returns-in_err-code-clause-err : goal.returns-in_err-code-clause-err
returns-in_err-code-clause-err c =
    let a = c.self.inside in
    on_err c.from_residual.result (codes_kept a.texts c.code_of.new.self a.codes.items c.code_of.ensures.kept c.self.invariant ∙ c.self.view_is)

pub returns-in_err-push-clause-err : goal.returns-in_err-push-clause-err
returns-in_err-push-clause-err c =
    let a = c.self.inside in
    on_err c.from_residual-in_err-push.result (ap (map (value_at c.code_of.new.self)) c.in_err-push.ensures.items ∙ codes_kept a.texts c.code_of.new.self a.codes.items c.code_of.ensures.kept c.self.invariant ∙ c.self.view_is)

pub invariant_of-self-2 : goal.invariant_of-self-2
invariant_of-self-2 c =
    let a = c.self.inside in
    let new = c.code_of.new.self in
    let old = codes_bounded a.texts new a.codes.items c.code_of.ensures.kept c.self.invariant in
    subst (λ (codes : List ℕ). All (λ code. code ≤ length new) codes) (sym c.in_ok-push.ensures.items) (All-push (λ code. code ≤ length new) a.codes.items c.in_ok-code.code old c.in_ok-code.ensures.bounded)

pub returns-clause-ok : goal.returns-clause-ok
returns-clause-ok c =
    let a = c.self.inside in
    ap (map (value_at c.code_of.new.self)) c.in_ok-push.ensures.items ∙ codes_pushed a.texts c.code_of.new.self a.codes.items c.in_ok-code.code c.args.self.now (option_map (λ text. text.now) c.args.value) c.code_of.ensures.kept c.self.invariant c.self.view_is c.in_ok-code.ensures.code
