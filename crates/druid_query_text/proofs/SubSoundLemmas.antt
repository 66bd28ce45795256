-- What reads as a subquery is within its limits.
use Rattle.std.proofs.Common.{◌≡◌, ◌≤◌, ℕ, Bool, true, false, List, [], ◌∷◌, nat_le, codes, Option, Some, None, is_some, option_and_then, if◌then◌else◌, refl, sym, ap, ◌∙◌, subst, arith}
use Rattle.std.proofs.lemmas.Bool.{leb-true}
use Rattle.std.proofs.lemmas.Option.{same_Some}
use Rattle.std.specs.Result.{result_ok}
use Rattle.serde_json.specs.Data.{Data, Items, no_items, item}
use Rattle.druid_time.specs.Extent.{Extent, IsExtent}
use Rattle.druid_base.specs.Options.{◌>>=◌}
use Rattle.druid_time.specs.Texts.{extent_at}
use Rattle.druid_segment_id.specs.Names.{IsName, is_version, IsVersion}
use Rattle.druid_segment_id.specs.Identifier.{IsIdentifier}
use Rattle.druid_segment_id.proofs.NameLemmas.{is_version-to}
use Rattle.druid_base.specs.Fields.{text_at, limited_at, number_at}
use Rattle.druid_query.specs.Asked.{Asked, Spelled, version_of, spelled_at, named_by, asked_at, inside_at, lies_inside, segments_in, asked_items}
use Rattle.druid_query.specs.Fields.{each_among}
use Rattle.druid_base.specs.Each.{each_of}
use Rattle.druid_query_slice_text.proofs.PieceLemmas.{inside_reports, inside_both}
use Rattle.druid_query.proofs.SoundLemmas.{text_sound, HasItem}

-- ---- the shape of a piece

record IsSpelled (s : Spelled) : Type 0 where
  partition : s.partition ≤ 65_535
  version : IsVersion s.version

kept : {A : Type 0} (p : A → Bool) (o : Option A) (x : A) → option_and_then (λ y. if p y then Some y else None) o ≡ Some x → p x ≡ true
kept p None x h = absurd (cc)
kept {A} p (Some y) x h = through (p y) refl h
  where
    through : (b : Bool) → p y ≡ b → (if b then Some y else None) ≡ Some x → p x ≡ true
    through true is h = ap p (sym (same_Some y x h)) ∙ is
    through false is h = absurd (cc)

spelled_sound : (chunk piece : Option (List ℕ)) (partition : Option ℕ) (version : Option (List ℕ)) (s : Spelled)
    → ((n : ℕ) → partition ≡ Some n → n ≤ 65_535) → ((v : List ℕ) → version ≡ Some v → IsVersion v)
    → (chunk >>= λ c. piece >>= λ p. partition >>= λ n. version >>= λ v. Some (record { chunk = c; piece = p; partition = n; version = v })) ≡ Some s → IsSpelled s
spelled_sound None piece partition version s few valid h = absurd (cc)
spelled_sound (Some c) None partition version s few valid h = absurd (cc)
spelled_sound (Some c) (Some p) None version s few valid h = absurd (cc)
spelled_sound (Some c) (Some p) (Some n) None s few valid h = absurd (cc)
spelled_sound (Some c) (Some p) (Some n) (Some v) s few valid h =
    subst IsSpelled (same_Some (record { chunk = c; piece = p; partition = n; version = v }) s h) (record { partition = few n refl; version = valid v refl })

spelled_reports : (d : Data) (s : Spelled) → spelled_at d ≡ Some s → IsSpelled s
unfolding spelled_at
spelled_reports d s h =
    spelled_sound (text_at (codes "chunk") d) (text_at (codes "itvl") d) (limited_at 65_535 (codes "part") d) (version_of d) s
    (λ n is. leb-true n 65_535 (kept (λ m. nat_le m 65_535) (number_at (codes "part") d) n is))
    (λ v is. is_version-to v (kept is_version (text_at (codes "ver") d) v is)) h

-- ---- a piece

named_sound : (source : List ℕ) (s : Spelled) (a : Asked) → IsName source → IsSpelled s → named_by source s ≡ Some a → IsIdentifier a.0 × IsExtent a.1
unfolding named_by
named_sound source s a name spelled h =
    through (result_ok (extent_at s.chunk)) (result_ok (extent_at s.piece)) (λ e is. text_sound (Some s.chunk) e is) (λ e is. text_sound (Some s.piece) e is) h
  where
    through : (chunk piece : Option Extent) → ((e : Extent) → chunk ≡ Some e → IsExtent e) → ((e : Extent) → piece ≡ Some e → IsExtent e)
        → (chunk >>= λ c. piece >>= λ p. Some (record { source = source; interval = c; version = s.version; partition = s.partition }, p)) ≡ Some a → IsIdentifier a.0 × IsExtent a.1
    through None piece valid valid' h = absurd (cc)
    through (Some c) None valid valid' h = absurd (cc)
    through (Some c) (Some p) valid valid' h =
        subst (λ (x : Asked). IsIdentifier x.0 × IsExtent x.1) (same_Some (record { source = source; interval = c; version = s.version; partition = s.partition }, p) a h)
        (record { source = name; interval = valid c refl; version = spelled.version; partition = omega (arith, spelled.partition) }, valid' p refl)

pub asked_sound : (source : List ℕ) (d : Data) (a : Asked) → IsName source → asked_at source d ≡ Some a → IsIdentifier a.0 × IsExtent a.1
unfolding asked_at
asked_sound source d a name h = through (spelled_at d) refl h
  where
    through : (o : Option Spelled) → spelled_at d ≡ o → (o >>= λ s. named_by source s) ≡ Some a → IsIdentifier a.0 × IsExtent a.1
    through None is h = absurd (cc)
    through (Some s) is h = named_sound source s a name (spelled_reports d s is) h

-- a piece as it may be asked for
pub record IsPiece (source : List ℕ) (a : Asked) : Type 0 where
  pub valid : IsIdentifier a.0 × IsExtent a.1
  pub source_is : a.0.source ≡ source
  pub inside : lies_inside a ≡ true

pub inside_sound : (source : List ℕ) (d : Data) (a : Asked) → IsName source → inside_at source d ≡ Some a → IsPiece source a
inside_sound source d a name h =
    let both = inside_both source d a h in
    record { valid = asked_sound source d a name both.0; source_is = (inside_reports source d a h).0; inside = both.1 }

-- ---- a list with a member

among_has : {A : Type 0} (f : Data → Option A) (ds es : Items) → each_among f ds ≡ Some es → HasItem es
among_has f no_items es h = absurd (cc)
among_has f (item d ds) es h = through (is_some (each_of f (item d ds))) h
  where
    through : (b : Bool) → (if b then Some (item d ds) else None) ≡ Some es → HasItem es
    through true h = subst HasItem (same_Some (item d ds) es h) tt
    through false h = absurd (cc)

asked_has : (d : Data) (es : Items) → asked_items d ≡ Some es → HasItem es
unfolding asked_items
asked_has d es h = through (segments_in d) h
  where
    through : (o : Option Items) → (o >>= λ items. each_among spelled_at items) ≡ Some es → HasItem es
    through None h = absurd (cc)
    through (Some ds) h = among_has spelled_at ds es h

pub items_there : (o : Option Data) (es : Items) → option_and_then asked_items o ≡ Some es → HasItem es
items_there None es h = absurd (cc)
items_there (Some d) es h = asked_has d es h
