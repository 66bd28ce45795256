-- The text in which Prometheus reads metrics, version 0.0.4. A text is its bytes.
use Rattle.std.specs.Prelude.{ℕ, ◌+◌, ◌-◌, ◌/◌, ◌%◌, ◌^◌, ◌==◌, ◌&&◌, min, Bool, true, false, List, [], ◌∷◌, ◌++◌, codes, decimal, drop, flat_map, if◌then◌else◌}
use Rattle.druid_telemetry_metrics.specs.declared.family.Number.{Number}
use Rattle.druid_telemetry_metrics.specs.declared.family.Number.TheVariants.{Whole, Micros}
use Rattle.druid_telemetry_metrics.specs.declared.family.Kind.{Kind}
use Rattle.druid_telemetry_metrics.specs.declared.family.Kind.TheVariants.{Counter, Gauge}

-- ---- what is reported

pub record Label : Type 0 where
  pub name : List ℕ
  pub value : List ℕ

pub record Sample : Type 0 where
  pub labels : List Label
  pub number : Number

-- how many were above the bound before, and at most this one, in microseconds
pub record Bucket : Type 0 where
  pub bound : ℕ
  pub count : ℕ

-- how long something took: the buckets by their bounds, how often it took longer than the last, and the sum in microseconds
pub record Spread : Type 0 where
  pub labels : List Label
  pub buckets : List Bucket
  pub over : ℕ
  pub sum : ℕ

pub record Family : Type 0 where
  pub name : List ℕ
  pub help : List ℕ
  pub kind : Kind
  pub samples : List Sample

pub record Histogram : Type 0 where
  pub name : List ℕ
  pub help : List ℕ
  pub spreads : List Spread

-- ---- parts

-- texts, one after another
abbrev pub in_turn : List (List ℕ) → List ℕ
in_turn = flat_map (λ (t : List ℕ). t)

-- a byte of a text: a backslash and a line feed are escaped by a backslash, and in quotation marks a quotation mark too
abbrev pub escaped_byte : Bool → ℕ → List ℕ
escaped_byte quoted c =
    if c == 92 then 92 ∷ 92 ∷ [] else if c == 10 then 92 ∷ 110 ∷ [] else if quoted && (c == 34) then 92 ∷ 34 ∷ [] else c ∷ []

abbrev pub escaped : Bool → List ℕ → List ℕ
escaped quoted = flat_map (escaped_byte quoted)

abbrev pub label_text : Label → List ℕ
label_text label = in_turn (label.name ∷ codes "=\"" ∷ escaped true label.value ∷ codes "\"" ∷ [])

-- labels, with a comma before each but the first
abbrev pub more_labels : List Label → List ℕ
more_labels = flat_map (λ label. codes "," ++ label_text label)

-- with braces around them, where there are any
abbrev pub labels_text : List Label → List ℕ
labels_text [] = []
labels_text (label ∷ labels) = in_turn (codes "{" ∷ label_text label ∷ more_labels labels ∷ codes "}" ∷ [])

-- the six digits of a number below 1,000,000: what follows the 1 of that number and 1,000,000
abbrev pub six_digits : ℕ → List ℕ
six_digits n = drop 1 (decimal (1000000 + n))

-- microseconds as seconds
abbrev pub seconds : ℕ → List ℕ
seconds n = in_turn (decimal (n / 1000000) ∷ codes "." ∷ six_digits (n % 1000000) ∷ [])

abbrev pub number_text : Number → List ℕ
number_text (Whole n) = decimal n
number_text (Micros n) = seconds n

abbrev pub kind_text : Kind → List ℕ
kind_text Counter = codes "counter"
kind_text Gauge = codes "gauge"

-- ---- lines

abbrev pub line : List ℕ → List ℕ → List ℕ → List ℕ
line name labels number = in_turn (name ∷ labels ∷ codes " " ∷ number ∷ codes "\n" ∷ [])

abbrev pub sample_line : List ℕ → Sample → List ℕ
sample_line name sample = line name (labels_text sample.labels) (number_text sample.number)

-- the head of a family: what it is, and of which type
abbrev pub head : List ℕ → List ℕ → List ℕ → List ℕ
head name help kind = in_turn (codes "# HELP " ∷ name ∷ codes " " ∷ escaped false help ∷ codes "\n# TYPE " ∷ name ∷ codes " " ∷ kind ∷ codes "\n" ∷ [])

abbrev pub family_text : Family → List ℕ
family_text family = head family.name family.help (kind_text family.kind) ++ flat_map (sample_line family.name) family.samples

-- ---- histograms

-- the sum of two counts, at most the greatest number of 64 bits
abbrev pub with_more : ℕ → ℕ → ℕ
with_more m n = min (m + n) (2 ^ 64 - 1)

-- how many were counted in all
abbrev pub counted : ℕ → List Bucket → ℕ
counted below [] = below
counted below (b ∷ bs) = counted (with_more below b.count) bs

-- the labels of a spread, and the bound below which a bucket counts
abbrev pub bucket_labels : List Label → List ℕ → List ℕ
bucket_labels [] bound = in_turn (codes "{le=\"" ∷ bound ∷ codes "\"}" ∷ [])
bucket_labels (label ∷ labels) bound = in_turn (codes "{" ∷ label_text label ∷ more_labels labels ∷ codes ",le=\"" ∷ bound ∷ codes "\"}" ∷ [])

abbrev pub bucket_line : List ℕ → List Label → List ℕ → ℕ → List ℕ
bucket_line name labels bound count = in_turn (name ∷ codes "_bucket" ∷ bucket_labels labels bound ∷ codes " " ∷ decimal count ∷ codes "\n" ∷ [])

-- each bucket counts those of the buckets before it too
abbrev pub bucket_lines : List ℕ → List Label → ℕ → List Bucket → List ℕ
bucket_lines name labels below [] = []
bucket_lines name labels below (b ∷ bs) =
    bucket_line name labels (seconds b.bound) (with_more below b.count) ++ bucket_lines name labels (with_more below b.count) bs

-- the lines of the sum and of the count
abbrev pub ends_text : List ℕ → Spread → ℕ → List ℕ
ends_text name spread all = in_turn
    (name ∷ codes "_sum" ∷ labels_text spread.labels ∷ codes " " ∷ seconds spread.sum ∷ codes "\n"
    ∷ name ∷ codes "_count" ∷ labels_text spread.labels ∷ codes " " ∷ decimal all ∷ codes "\n" ∷ [])

-- the last bucket has no bound, and counts all
abbrev pub spread_lines : List ℕ → Spread → List ℕ
spread_lines name spread =
    let all : ℕ = with_more (counted 0 spread.buckets) spread.over in
    in_turn (bucket_lines name spread.labels 0 spread.buckets ∷ bucket_line name spread.labels (codes "+Inf") all ∷ ends_text name spread all ∷ [])

abbrev pub histogram_text : Histogram → List ℕ
histogram_text h = head h.name h.help (codes "histogram") ++ flat_map (spread_lines h.name) h.spreads

-- all families, and then all histograms
abbrev pub page_text : List Family → List Histogram → List ℕ
page_text families histograms = flat_map family_text families ++ flat_map histogram_text histograms
