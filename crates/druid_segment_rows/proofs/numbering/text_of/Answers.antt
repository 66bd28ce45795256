use Rattle.std.proofs.Common.{◌∙◌, ◌-◌, ◌<◌, ◌≤◌, length, Some, None, ap, sym, rules}
use Rattle.std.proofs.lemmas.Option.{slice_get-get_or, slice_get_past}
use Rattle.druid_segment_rows.proofs.NumberingLemmas.{text_found}
use Rattle.druid_segment_rows.proofs.numbering.text_of.Goals as goal

pub returns-in-Some : goal.returns-in-Some
returns-in-Some c =
    let es = c.args.entries.now in
    let e = c.in-Some.entry.now in
    let within : c.args.number - 1 < length es = search rules in
    ap Some c.as_str.ensures.value ∙ text_found es c.args.number (Some e) (search rules) (ap Some c.in-Some.ensures.lookup.1 ∙ sym (slice_get-get_or es (c.args.number - 1) e within))

pub returns-in-None : goal.returns-in-None
returns-in-None c =
    let past : length c.args.entries.now ≤ c.args.number - 1 = search rules in
    text_found c.args.entries.now c.args.number None (search rules) (sym (slice_get_past c.args.entries.now (c.args.number - 1) past))
