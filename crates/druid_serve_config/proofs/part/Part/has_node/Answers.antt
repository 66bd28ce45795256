use Rattle.std.proofs.Common.{rules, ◌∙◌, option_map, map, ap, sym}
use Rattle.druid_serve_config.proofs.WordLemmas.{node_had}
use Rattle.druid_serve_config.proofs.part.Part.has_node.Goals as goal

pub returns-in-Some : goal.returns-in-Some
returns-in-Some c = node_had c.args.self.now c.in-Some.words.items c.args.node.now c.have_node.result
    (sym c.self.view_is ∙ ap (λ words. option_map (λ ws. map (λ word. word.now) ws.items) words) c.in-Some.is) (search rules)
