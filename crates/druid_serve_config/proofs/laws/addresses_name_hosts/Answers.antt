use Rattle.druid_serve_config.proofs.AddressLemmas.{names_host, is_named_host}
use Rattle.druid_serve_config.proofs.laws.addresses_name_hosts.Goals as goal

pub returns : goal.returns
returns c text = (names_host text, is_named_host text)
