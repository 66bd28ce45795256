-- Where the requests of a server's workers come from.
use Rattle.std.specs.Prelude.{Bool, true, false}
use Rattle.druid_serve_base.specs.declared.front.Source.{Source}
use Rattle.druid_serve_base.specs.declared.front.Source.TheVariants.{Connections, Front}

-- front threads wait for clients
abbrev pub has_front : Source → Bool
has_front (Connections listener) = false
has_front (Front jobs) = true
