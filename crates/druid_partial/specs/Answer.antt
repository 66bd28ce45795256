-- What is answered of segment slices.
use Rattle.std.specs.Prelude.{List}
use Rattle.druid_query.specs.Asked.{Asked}
use Rattle.druid_partial.specs.Partials.{Partial}

-- a partial, and the slices that it has nothing of, since nobody gave them
pub record Answer : Type 0 where
  pub partial : Partial
  pub missing : List Asked
