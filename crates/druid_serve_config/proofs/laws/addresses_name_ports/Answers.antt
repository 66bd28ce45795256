use Rattle.druid_serve_config.proofs.AddressLemmas.{names_port, is_named}
use Rattle.druid_serve_config.proofs.laws.addresses_name_ports.Goals as goal

pub returns : goal.returns
returns c text = (names_port text, is_named text)
