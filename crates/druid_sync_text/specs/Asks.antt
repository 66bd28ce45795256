-- The texts of asks.
use Rattle.std.specs.Prelude.{ℕ, ◌≤◌, ⊤, ◌++◌, List, [], ◌∷◌, map, filter, codes, nat_le, decimal, Option, Some, None, option_map, if◌then◌else◌}
use Rattle.std.specs.Str.{bytes_eq}
use Rattle.form_urlencoded.specs.Form.{raw_pairs}
use Rattle.druid_base.specs.Options.{◌>>=◌}
use Rattle.druid_base.specs.Numbers.{number_at}
use Rattle.druid_segment_descriptor.specs.Mark.{Point}
use Rattle.druid_segment_descriptor.specs.declared.change.Ask.{Ask}
use Rattle.druid_segment_descriptor.specs.declared.change.Ask.TheVariants.{Whole, Since, Page}

-- what follows the `?` of an ask for changes
abbrev pub query_text : Point → List ℕ
query_text m = codes "counter=" ++ (decimal m.count ++ (codes "&hash=" ++ decimal m.incarnation))

-- what follows the `?` of an ask for a page
abbrev pub page_query : Point → ℕ → List ℕ
page_query m page =
    codes "counter=" ++ (decimal m.count ++ (codes "&hash=" ++ (decimal m.incarnation ++ (codes "&page=" ++ decimal page))))

-- the target of an ask at a path
abbrev pub target_at : List ℕ → Ask → List ℕ
target_at path Whole = path
target_at path (Since m) = path ++ (codes "?" ++ query_text m)
target_at path (Page m page) = path ++ (codes "?" ++ page_query m page)

-- the target of an ask of a node
abbrev pub ask_text : Ask → List ℕ
ask_text ask = target_at (codes "/druid-internal/v1/segments") ask

-- what a server finds after the `?` of that target
abbrev pub parameters_of : Ask → List ℕ
parameters_of Whole = []
parameters_of (Since m) = query_text m
parameters_of (Page m page) = page_query m page

-- the mark, if there is one, is of an incarnation
abbrev pub IsOfIncarnation : Ask → Type 0
IsOfIncarnation Whole = ⊤
IsOfIncarnation (Since m) = 1 ≤ m.incarnation
IsOfIncarnation (Page m page) = 1 ≤ m.incarnation

-- the values of the parameters of that name, in order. Parameters stand between `&`, a name before the first `=`, and
-- its value after it
abbrev pub values_at : List ℕ → List (List ℕ × List ℕ) → List (List ℕ)
values_at name parameters = map (λ p. p.1) (filter (λ p. bytes_eq p.0 name) parameters)

abbrev pub values_of : List ℕ → List ℕ → List (List ℕ)
values_of name query = values_at name (raw_pairs query)

-- a mark of an incarnation, which is at least 1, by the digits of its count and of its incarnation
unfoldable pub mark_of : List ℕ → List ℕ → Option Point
mark_of counter hash = do
  count ← number_at counter
  incarnation ← number_at hash
  if nat_le 1 incarnation then Some (record { incarnation = incarnation; count = count }) else None

-- the number of a page, by its digits
unfoldable pub page_of : List ℕ → Option ℕ
page_of digits = do
  page ← number_at digits
  if nat_le page 65_535 then Some page else None

-- an ask for a page
unfoldable pub page_at : List ℕ → List ℕ → List ℕ → Option Ask
page_at counter hash digits = do
  m ← mark_of counter hash
  page ← page_of digits
  Some (Page m page)

-- an ask, by all values of `counter`, of `hash` and of `page`: the first two stand once each, or neither does, and `page`
-- stands once with both, or not at all. A counter of -1 alone asks for the whole too
unfoldable pub ask_of : List (List ℕ) → List (List ℕ) → List (List ℕ) → Option Ask
ask_of [] [] [] = Some Whole
ask_of (counter ∷ []) [] [] = if bytes_eq counter (codes "-1") then Some Whole else None
ask_of (counter ∷ []) (hash ∷ []) [] = option_map Since (mark_of counter hash)
ask_of (counter ∷ []) (hash ∷ []) (page ∷ []) = page_at counter hash page
ask_of counters hashes pages = None

-- the ask that a query string tells; other parameters are passed over
abbrev pub ask_at : List ℕ → Option Ask
ask_at query = ask_of (values_of (codes "counter") query) (values_of (codes "hash") query) (values_of (codes "page") query)
