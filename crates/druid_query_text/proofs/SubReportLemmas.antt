-- What reads as a subquery asks for pieces of segments of its source, each inside its segment and apart from the others.
use Rattle.std.proofs.Common.{◌≡◌, ℕ, List, [], ◌∷◌, codes, Contains, Option, Some, None, Ok, option_and_then, true, refl, sym, ap, ◌∙◌, subst, arith}
use Rattle.serde_json.specs.Data.{Data, Items}
use Rattle.serde_json.specs.Find.{get}
use Rattle.druid_segment_id.proofs.NameLemmas.{is_name-to}
use Rattle.druid_time.specs.Results.{◌>>=◌}
use Rattle.druid_segment_id.specs.Names.{IsName}
use Rattle.druid_base.specs.Each.{each_of}
use Rattle.druid_base.proofs.EachLemmas.{each_sound}
use Rattle.druid_query.specs.Asked.{Asked, stand_apart, inside_at, asked_items}
use Rattle.druid_query.specs.Refusal.{bad_field, bad_interval, or_refuse, when}
use Rattle.druid_query.specs.SubQuery.{SubQuery, IsAsked, pieces_at, apart_at, subquery_at}
use Rattle.druid_query.proofs.StepLemmas.{bound}
use Rattle.druid_query.proofs.AskedLemmas.{apart_seen}
use Rattle.druid_query.proofs.ChainLemmas.{whole_bound, steps_of}
use Rattle.druid_query.proofs.SoundLemmas.{IsSomeList, read_some}
use Rattle.druid_query_text.proofs.QueryBackLemmas.{when_true, source_reports}
use Rattle.druid_query_text.proofs.SubLemmas.{subs, of_sub, ok_some, span_bound}
use Rattle.druid_query_text.proofs.SubSoundLemmas.{IsPiece, inside_sound, items_there}
use Rattle.druid_query_slice_text.proofs.BackLemmas.{inside_seen}

apart_reports : (source : List ℕ) (d : Data) (all : List Asked) → apart_at source d ≡ Ok all → (pieces_at source d ≡ Ok all) × (stand_apart all ≡ true)
unfolding apart_at
apart_reports source d all h =
    let p = bound (pieces_at source d) (λ asked. when (stand_apart asked) asked bad_interval) all h in
    let w = when_true (stand_apart p.0) p.0 all bad_interval p.2 in
    (p.1 ∙ ap Ok w.1, ap stand_apart (sym w.1) ∙ w.0)

pieces_report : (source : List ℕ) (d : Data) (all : List Asked) → pieces_at source d ≡ Ok all
    → (items : Items) × (option_and_then asked_items (get (codes "intervals") d) ≡ Some items) × (each_of (inside_at source) items ≡ Some all)
unfolding pieces_at
pieces_report source d all h = through (option_and_then asked_items (get (codes "intervals") d)) h
  where
    through : (o : Option Items) → (or_refuse o (bad_field (codes "intervals")) >>= λ items. or_refuse (each_of (inside_at source) items) bad_interval) ≡ Ok all
        → (items : Items) × (o ≡ Some items) × (each_of (inside_at source) items ≡ Some all)
    through None h = absurd (cc)
    through (Some items) h = (items, refl, ok_some (each_of (inside_at source) items) bad_interval all h)

first_of : (all : List Asked) → IsSomeList all → (a : Asked) × Contains all a
first_of [] some = absurd some
first_of (a ∷ more) some = (a, (0, omega arith, refl))

apart_asked : (source : List ℕ) (d : Data) (all : List Asked) → IsName source → apart_at source d ≡ Ok all → IsAsked source all
apart_asked source d all name h =
    let apart = apart_reports source d all h in
    let read = pieces_report source d all apart.0 in
    let some = first_of all (read_some (inside_at source) read.0 all (items_there (get (codes "intervals") d) read.0 read.1) read.2) in
    let each = each_sound (IsPiece source) (inside_at source) (λ e a is. inside_sound source e a name is) read.0 all read.2 in
    record {
      some = some;
      valid = λ a there. (each a there).valid;
      sources = λ a there. (each a there).source_is;
      inside = λ a there. inside_seen a (each a there).inside;
      apart = apart_seen all apart.1;
    }

pub sub_asked : (d : Data) (sub : SubQuery) → subquery_at d ≡ Ok sub → IsAsked sub.query.source sub.asked
sub_asked d sub read =
    let p = steps_of subs d sub (whole_bound subs d sub (of_sub d ∙ read)).0 in
    subst (λ (x : SubQuery). IsAsked x.query.source x.asked) p.made
    (apart_asked p.source d p.times.asked (is_name-to p.source (source_reports d p.source p.source_is)) ((span_bound p.source d p.times p.times_is).0))
