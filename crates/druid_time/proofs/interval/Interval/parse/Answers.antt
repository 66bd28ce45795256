use Rattle.std.proofs.Common.{sym, ap, ◌∙◌, lit<, None, Some}
use Rattle.std.proofs.lemmas.Str.Pattern.{split_once_first}
use Rattle.std.proofs.lemmas.Result.{err_from_is_err_and}
use Rattle.druid_time.specs.Texts.{instant_at}
use Rattle.druid_time.proofs.TextLemmas.{extent_at-no_slash, extent_at-slashes, extent_at-start_fault, extent_at-end_fault, extent_at-both, extent_or_empty, slashes_are}
use Rattle.druid_time.proofs.interval.Interval.parse.Goals as goal

pub returns-in_default-clause-value : goal.returns-in_default-clause-value
returns-in_default-clause-value c =
    sym (extent_at-no_slash c.args.text.now (split_once_first 47 c.args.text.now None c.in_default.ensures.cases (lit< tt)))

pub returns-then-contains-clause-value : goal.returns-then-contains-clause-value
returns-then-contains-clause-value c =
    let cut = split_once_first 47 c.args.text.now (Some (c.in-Some.start, c.in-Some.end)) c.in-Some.ensures.cases (lit< tt) in
    let more = slashes_are c.args.text.now c.in-Some.end.now c.as_bytes.result.now c.contains.result _ cut.2 c.as_bytes.ensures.value c.contains.ensures.value c.if-contains.true in
    sym (extent_at-slashes c.args.text.now cut.0 more)

pub returns-in_err-start-clause-value : goal.returns-in_err-start-clause-value
returns-in_err-start-clause-value c =
    let cut = split_once_first 47 c.args.text.now (Some (c.in-Some.start, c.in-Some.end)) c.in-Some.ensures.cases (lit< tt) in
    let last = slashes_are c.args.text.now c.in-Some.end.now c.as_bytes.result.now c.contains.result _ cut.2 c.as_bytes.ensures.value c.contains.ensures.value c.if-contains.false in
    let start = ap instant_at (sym cut.1) ∙ sym c.in_err-start.ensures.value in
    let p = err_from_is_err_and c.from_residual.result c.from_residual.ensures.1 in
    rw (p.1, p.2) (sym (extent_at-start_fault c.args.text.now _ cut.0 last start))

pub returns-in_err-end-clause-value : goal.returns-in_err-end-clause-value
returns-in_err-end-clause-value c =
    let cut = split_once_first 47 c.args.text.now (Some (c.in-Some.start, c.in-Some.end)) c.in-Some.ensures.cases (lit< tt) in
    let last = slashes_are c.args.text.now c.in-Some.end.now c.as_bytes.result.now c.contains.result _ cut.2 c.as_bytes.ensures.value c.contains.ensures.value c.if-contains.false in
    let start = ap instant_at (sym cut.1) ∙ sym c.in_ok-start.ensures.value in
    let end = ap instant_at (sym cut.2) ∙ sym c.in_err-end.ensures.value in
    let p = err_from_is_err_and c.from_residual-in_err-end.result c.from_residual-in_err-end.ensures.1 in
    rw (p.1, p.2) (sym (extent_at-end_fault c.args.text.now _ _ cut.0 last start end))

pub returns-clause-value : goal.returns-clause-value
returns-clause-value c =
    let cut = split_once_first 47 c.args.text.now (Some (c.in-Some.start, c.in-Some.end)) c.in-Some.ensures.cases (lit< tt) in
    let last = slashes_are c.args.text.now c.in-Some.end.now c.as_bytes.result.now c.contains.result _ cut.2 c.as_bytes.ensures.value c.contains.ensures.value c.if-contains.false in
    let start = ap instant_at (sym cut.1) ∙ sym c.in_ok-start.ensures.value in
    let end = ap instant_at (sym cut.2) ∙ sym c.in_ok-end.ensures.value in
    extent_or_empty _ _ c.new.result c.ok_or.result c.ok_or.ensures.value c.new.ensures.value
    ∙ sym (extent_at-both c.args.text.now _ _ cut.0 last start end)
