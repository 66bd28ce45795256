use Rattle.std.proofs.Common.{ap, ◌∙◌}
use Rattle.serde_json.specs.Written.{compact_text}
use Rattle.druid_broker.specs.Routes.{names_data}
use Rattle.druid_broker.proofs.inventory_response.sources_response.Goals as goal

pub returns : goal.returns
returns c = record {
  names = c.in_ok-sources.sources.items;
  all = c.in_ok-sources.ensures.all;
  ordered = c.in_ok-sources.ensures.rising;
  reported = record {
    status_is = c.of_text.ensures.status_is;
    body_is = c.of_text.ensures.body_is ∙ c.in_ok-text.ensures ∙ ap (λ names. compact_text (names_data names)) c.deref.ensures.value;
  };
}
