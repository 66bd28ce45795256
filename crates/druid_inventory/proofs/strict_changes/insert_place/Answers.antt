use Rattle.std.proofs.Common.{refl}
use Rattle.druid_inventory.proofs.LastLemmas.{place_put}
use Rattle.druid_inventory.proofs.strict_changes.insert_place.Goals as goal

pub returns-clause-put : goal.returns-clause-put
returns-clause-put c =
    place_put c.args.places.now c.args.count c.args.at c.args.place _ c.rotate_right.new.self c.requires.at c.requires.room refl c.rotate_right.ensures.after
