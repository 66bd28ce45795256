-- How a set of segments that is too large for one message is cut into pages.
use Rattle.std.specs.Prelude.{ℕ, ◌+◌, ◌*◌, ◌/◌, ◌<◌, ◌≤◌, List, take, drop}
use Rattle.druid_segment_descriptor.specs.Described.{Described}
use Rattle.druid_segment_descriptor.specs.Reply.{max_page}

-- the segments of a page; all pages but the last are full
abbrev pub page_at : List Described → ℕ → List Described
page_at set page = take max_page (drop (page * max_page) set)

-- how many pages so many segments are
abbrev pub pages_in : ℕ → ℕ
pages_in segments = (segments + 19999) / max_page

-- so many segments are that many pages
pub record IsCutInto (segments pages : ℕ) : Type 0 where
  pub enough : segments ≤ pages * max_page
  pub no_more : pages * max_page < segments + max_page
