-- What a piece that reads is.
use Rattle.std.proofs.Common.{◌≡◌, ℕ, List, Option, Some, None, Bool, true, false, if◌then◌else◌, Contains, refl, sym, ap, ◌∙◌, subst}
use Rattle.std.proofs.lemmas.Option.{same_Some}
use Rattle.std.specs.Result.{result_ok}
use Rattle.serde_json.specs.Data.{Data, Items}
use Rattle.druid_time.specs.Extent.{Extent, IsExtent}
use Rattle.druid_base.specs.Options.{◌>>=◌}
use Rattle.druid_time.specs.Texts.{extent_at}
use Rattle.druid_base.specs.Each.{each_of}
use Rattle.druid_base.proofs.EachLemmas.{each_sound}
use Rattle.druid_query.specs.Asked.{Asked, lies_inside, Spelled, spelled_at, named_by, asked_at, inside_at}
use Rattle.druid_query.proofs.SoundLemmas.{text_sound}

named_reports : (source : List ℕ) (s : Spelled) (a : Asked) → named_by source s ≡ Some a → (a.0.source ≡ source) × IsExtent a.1
unfolding named_by
named_reports source s a h = through (result_ok (extent_at s.chunk)) (result_ok (extent_at s.piece)) (λ e is. text_sound (Some s.piece) e is) h
  where
    through : (chunk piece : Option Extent) → ((e : Extent) → piece ≡ Some e → IsExtent e)
        → (chunk >>= λ c. piece >>= λ p. Some (record { source = source; interval = c; version = s.version; partition = s.partition }, p)) ≡ Some a → (a.0.source ≡ source) × IsExtent a.1
    through None piece valid h = absurd (cc)
    through (Some c) None valid h = absurd (cc)
    through (Some c) (Some p) valid h =
        let same = same_Some (record { source = source; interval = c; version = s.version; partition = s.partition }, p) a h in
        (sym (ap (λ x. x.0.source) same), subst (λ x. IsExtent x.1) same (valid p refl))

pub asked_reports : (source : List ℕ) (d : Data) (a : Asked) → asked_at source d ≡ Some a → (a.0.source ≡ source) × IsExtent a.1
unfolding asked_at
asked_reports source d a h = through (spelled_at d) h
  where
    through : (o : Option Spelled) → (o >>= λ s. named_by source s) ≡ Some a → (a.0.source ≡ source) × IsExtent a.1
    through None h = absurd (cc)
    through (Some s) h = named_reports source s a h

pub inside_both : (source : List ℕ) (d : Data) (a : Asked) → inside_at source d ≡ Some a → (asked_at source d ≡ Some a) × (lies_inside a ≡ true)
unfolding inside_at
inside_both source d a h = through (asked_at source d) h
  where
    tested : (x : Asked) (b : Bool) → lies_inside x ≡ b → (if b then Some x else None) ≡ Some a → (Some x ≡ Some a) × (lies_inside a ≡ true)
    tested x true is h = (h, ap lies_inside (sym (same_Some x a h)) ∙ is)
    tested x false is h = absurd (cc)

    through : (o : Option Asked) → (o >>= λ x. if lies_inside x then Some x else None) ≡ Some a → (o ≡ Some a) × (lies_inside a ≡ true)
    through None h = absurd (cc)
    through (Some x) h = tested x (lies_inside x) refl h

pub inside_reports : (source : List ℕ) (d : Data) (a : Asked) → inside_at source d ≡ Some a → (a.0.source ≡ source) × IsExtent a.1
inside_reports source d a h = asked_reports source d a (inside_both source d a h).0

pub inside_source : (source : List ℕ) (d : Data) (a : Asked) → inside_at source d ≡ Some a → source ≡ a.0.source
inside_source source d a h = sym (inside_reports source d a h).0

pub asked_source : (source : List ℕ) (d : Data) (a : Asked) → asked_at source d ≡ Some a → source ≡ a.0.source
asked_source source d a h = sym (asked_reports source d a h).0

pub inside_valid : (source : List ℕ) (ds : Items) (all : List Asked) → each_of (inside_at source) ds ≡ Some all → (a : Asked) → Contains all a → IsExtent a.1
inside_valid source ds all read = each_sound (λ a. IsExtent a.1) (inside_at source) (λ d a h. (inside_reports source d a h).1) ds all read
