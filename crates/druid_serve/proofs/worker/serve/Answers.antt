use Rattle.std.proofs.Common.{rules, ◌≡◌, ◌++◌, ℕ, List, length, take, sym, subst, ap, ◌∙◌}
use Rattle.std.proofs.Math.Seq.{take-append_seam}
use Rattle.druid_serve.specs.Links.{NodeLinkValue, LeadTo}
use Rattle.druid_serve.proofs.LinkLemmas.{answered_lead, served_by}
use Rattle.druid_serve.proofs.worker.serve.Goals as goal

-- a slice that keeps its length is written back whole
written : (count : ℕ) (links rest : List NodeLinkValue) → count ≡ length links → take count (links ++ rest) ≡ links
written count links rest same = ap (λ (n : ℕ). take n (links ++ rest)) same ∙ take-append_seam links rest

pub returns-clause-leads : goal.returns-clause-leads
returns-clause-leads g c = λ nodes before.
    let served = c.serve_one-served in
    let began = subst (LeadTo nodes) (sym c.deref_mut.ensures.value) before in
    let after = answered_lead nodes _ g.J.Publication.opening _ _ _ _ _ _ _ _ served.result served.ensures.ok served.ensures.err began in
    subst (LeadTo nodes) (sym (written c.args.worker.now.links.len served.new.links _ (sym c.deref_mut.ensures.len ∙ sym served.auto.links))) after

pub returns-clause-served : goal.returns-clause-served
returns-clause-served g c =
    let served = c.serve_one-served in
    served_by g.J.Publication.opening _ _ _ _ _ _ _ _ _ _ _ _ served.result c.deref_mut.ensures.value
    (sym (written c.args.worker.now.links.len served.new.links _ (sym c.deref_mut.ensures.len ∙ sym served.auto.links))) served.ensures.ok
