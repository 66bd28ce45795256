use Rattle.std.proofs.Common.{◌≡◌, ◌↔◌, List, subst}
use Rattle.std.specs.Bool.{IsTrue}
use Rattle.std.specs.List.{Contains}
use Rattle.druid_timeline_members.specs.Slots.{Replica, EachOnce}
use Rattle.druid_timeline_members.proofs.roster.Roster.is_only.Goals as goal

pub returns : goal.returns
returns c = record {
  value = subst (λ (rs : List Replica). IsTrue c.is_only.result ↔ ((x : Replica) → Contains rs x → x.0 ≡ c.args.node)) c.self.view_is c.is_only.ensures.value;
  once = subst EachOnce c.self.view_is c.is_only.ensures.once;
}
