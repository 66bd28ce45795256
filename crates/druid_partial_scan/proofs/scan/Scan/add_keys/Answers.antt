use Rattle.druid_partial_scan.specs.Entries.{groups_of}
use Rattle.druid_partial_scan.proofs.PutLemmas.{words_after}
use Rattle.druid_partial_scan.proofs.scan.Scan.add_keys.Goals as goal

pub add_found-requires : goal.add_found-requires
add_found-requires c =
    words_after c.args.self.now c.args.interval c.args.to c.args.groups.now.items (groups_of c.in_ok-found.found.entries)
    (c.in_ok-found.ensures c.args.groups.now.items c.requires.before c.requires.upto)
