-- What the code keeps of a path. Only proofs use this word.
use Rattle.druid_broker.specs.Routes.{Route, health, query, sources, load_status, entry, nowhere}
use Rattle.druid_broker.specs.declared.routes.Route as code
use Rattle.druid_broker.specs.declared.routes.Route.TheVariants as routes

-- the route that a path names
abbrev pub borrowed_route : code.Route → Route
borrowed_route routes.Health = health
borrowed_route routes.Query = query
borrowed_route routes.Sources = sources
borrowed_route routes.LoadStatus = load_status
borrowed_route (routes.Entry part) = entry part.now
borrowed_route routes.Nowhere = nowhere
