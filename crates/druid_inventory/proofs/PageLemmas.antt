-- Pages that come as replies, and the snapshot that they give.
use Rattle.std.proofs.Common.{◌≤◌, ℕ, List, length, Option, None, Some, refl, sym, inl, inr, arith}
use Rattle.std.proofs.lemmas.Option.{none-some}
use Rattle.druid_segment_descriptor.specs.Described.{Described}
use Rattle.druid_segment_descriptor.specs.Mark.{Point}
use Rattle.druid_segment_descriptor.specs.Reply.{AreSorted, IsFull, IsPageOf}
use Rattle.druid_segment_descriptor.specs.declared.reply.Body.TheVariants.{Snapshot}
use Rattle.druid_sync_pages.specs.Assembly.{Parts, Page, IsPage, Takes}
use Rattle.druid_inventory.specs.Assembly.{Gives}

some_in : (page of count : ℕ) → IsFull page of count → 1 ≤ count
some_in page of count (inl all) = omega (arith, all)
some_in page of count (inr last) = last.0

-- a page that a reply may have is one that is taken
pub is_page : (at : Point) (page of : ℕ) (segments : List Described) → IsPageOf page of segments
    → IsPage (record { at = at; page = page; of = of; segments = segments })
is_page at page of segments is = record {
  several = is.several;
  not_many = is.not_many;
  within = is.within;
  some = some_in page of (length segments) is.full;
  few = is.few;
  sorted = is.sorted;
}

-- the segments that are given rise
pub given_sorted : (old : Option Parts) (p : Page) (set : List Described) (new : Option Parts) → Takes old p (Some set) new → AreSorted set
given_sorted old p set new (inl passed) = absurd (none-some set (sym passed.1))
given_sorted old p set new (inr puts) = puts.1.2

-- what they give as a reply
pub gives_set : (old : Option Parts) (p : Page) (set : List Described) (new : Option Parts) → Takes old p (Some set) new → Gives old p (Some (Snapshot p.at set)) new
gives_set old p set new takes = (Some set, takes, refl)

pub gives_none : (old : Option Parts) (p : Page) (new : Option Parts) → Takes old p None new → Gives old p None new
gives_none old p new takes = (None, takes, refl)
