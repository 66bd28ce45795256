-- What stands before the names of the fields, read and written.
use Rattle.std.proofs.Common.{◌≡◌, ℕ, Bool, false, ◌^◌, ◌<◌, ◌≤◌, cond, ltb, nat_le, List, ◌++◌, Option, Some, None, Ok, Err, refl, sym, ap, subst, ◌∙◌, append_assoc, arith}
use Rattle.std.specs.Prelude.{ok_or}
use Rattle.std.specs.Int.{w16, w64, to_be_bytes}
use Rattle.std.proofs.lemmas.Bool.{false≢true, ltb-true, lt-ltb, leb-true, le-leb}
use Rattle.druid_time.specs.Extent.{Extent, IsExtent}
use Rattle.druid_time.specs.Instant.{unix_ms, IsInstant, instant_count}
use Rattle.druid_segment_id.specs.Names.{is_name, IsName, is_version, IsVersion}
use Rattle.druid_segment_id.proofs.NameLemmas.{is_name-true, is_version-true, is_name-to, is_version-to}
use Rattle.druid_segment_descriptor.specs.Described.{Described, IsDescribed, max_core}
use Rattle.druid_segment_file.specs.declared.fault.FileFault.{FileFault}
use Rattle.druid_segment_file.specs.declared.fault.FileFault.TheVariants.{Field}
use Rattle.druid_segment_file.specs.ByteParts.{number, instant, interval, short_text, descriptor}
use Rattle.druid_time.specs.Results.{◌>>=◌}
use Rattle.druid_segment_file.specs.Parts.{instant_of, moment_at, interval_at, name_at, version_at, core_at, descriptor_at}
use Rattle.druid_segment_file.proofs.MomentLemmas.{instant_of-unix_ms, of_instant, FitsSigned-unix_ms}
use Rattle.druid_segment_file.proofs.PartLemmas.{bind_ok, passed_ok, ok_is, accepted_read, IsBytes, Takes, Takes-then, Reads, step_takes, step_again, wide16, wide64, number_read, signed_read, short_text_read}

pub ok_or_ok : {A : Type 0} (o : Option A) (d : FileFault) (x : A) → ok_or o d ≡ Ok x → o ≡ Some x
ok_or_ok None d x e = absurd cc
ok_or_ok (Some y) d x e = cc

pub moment_read : (short : FileFault) → Reads ℕ (moment_at short) instant IsInstant
unfolding moment_at
moment_read short = record {
  takes = λ bytes x fits e.
      let s = step_takes (signed_read short) (λ ms. ok_or (instant_of ms.0) Field >>= λ moment. Ok (moment, ms.1)) bytes x fits e in
      let m = bind_ok (ok_or (instant_of s.0.0) Field) (λ moment. Ok (moment, s.0.1)) x s.3 in
      let i = of_instant s.0.0 m.0 (ok_or_ok (instant_of s.0.0) Field m.0 m.1) in
      let took : Takes bytes (instant m.0) s.0.1 = subst (λ z. Takes bytes (number z) s.0.1) (sym i.0) s.1 in
      subst (λ (p : ℕ × List ℕ). Takes bytes (instant p.0) p.1 × IsInstant p.0) (ok_is (m.0, s.0.1) x m.2) (took, i.1);
  again = λ t rest h.
      step_again (signed_read short) (λ ms. ok_or (instant_of ms.0) Field >>= λ moment. Ok (moment, ms.1)) (unix_ms t) rest (FitsSigned-unix_ms t h)
      ∙ ap (λ o. ok_or o Field >>= λ moment. Ok (moment, rest)) (instant_of-unix_ms t h);
}

pub interval_read : (short : FileFault) → Reads Extent (interval_at short) interval IsExtent
unfolding interval_at
interval_read short = record {
  takes = λ bytes x fits e.
      let s = step_takes (moment_read short) (λ start. moment_at short start.1 >>= λ end. cond (ltb start.0 end.0) (Ok (record { start = start.0; end = end.0 }, end.1)) (Err Field)) bytes x fits e in
      let t = step_takes (moment_read short) (λ end. cond (ltb s.0.0 end.0) (Ok (record { start = s.0.0; end = end.0 }, end.1)) (Err Field)) s.0.1 x s.1.rest_fits s.3 in
      let made : Extent × List ℕ = (record { start = s.0.0; end = t.0.0 }, t.0.1) in
      let g = passed_ok (ltb s.0.0 t.0.0) Field made x t.3 in
      let both = Takes-then bytes (instant s.0.0) s.0.1 (instant t.0.0) t.0.1 s.1 t.1 in
      subst (λ (p : Extent × List ℕ). Takes bytes (interval p.0) p.1 × IsExtent p.0) g.1 (both, (ltb-true s.0.0 t.0.0 g.0, t.2));
  again = λ extent rest h.
      let early : extent.start < instant_count = omega (arith, h.0, h.1) in
      ap (interval_at short) (append_assoc (instant extent.start) (instant extent.end) rest)
      ∙ step_again (moment_read short) (λ start. moment_at short start.1 >>= λ end. cond (ltb start.0 end.0) (Ok (record { start = start.0; end = end.0 }, end.1)) (Err Field)) extent.start (instant extent.end ++ rest) early
      ∙ step_again (moment_read short) (λ end. cond (ltb extent.start end.0) (Ok (record { start = extent.start; end = end.0 }, end.1)) (Err Field)) extent.end rest h.1
      ∙ rw (lt-ltb extent.start extent.end h.0) refl;
}

pub name_read : (short : FileFault) → Reads (List ℕ) (name_at short) short_text IsName
unfolding name_at
name_read short = accepted_read is_name IsName (short_text_read short 100 (omega arith)) (λ name is fine. is_name-to name is) (λ name h. (h.short, is_name-true name h))

pub version_read : (short : FileFault) → Reads (List ℕ) (version_at short) short_text IsVersion
unfolding version_at
version_read short = accepted_read is_version IsVersion (short_text_read short 64 (omega arith)) (λ version is fine. is_version-to version is) (λ version h. (h.short, is_version-true version h))

pub core_read : (short : FileFault) → Reads ℕ (core_at short) (to_be_bytes w16) (λ n. n ≤ max_core)
unfolding core_at
core_read short =
    accepted_read (λ n. nat_le n max_core) (λ n. n ≤ max_core) (number_read short w16 (2 ^ 16) wide16) (λ core is fine. leb-true core max_core is) (λ core h. (omega arith, le-leb core max_core h))

-- what a file announces: a segment that has rows
pub record IsAnnounced (d : Described) : Type 0 where
  pub described : IsDescribed d
  pub ordinary : d.tombstone ≡ false

abbrev pub described : List ℕ → Extent → List ℕ → ℕ → ℕ → ℕ → Described
described source extent version partition core size = record {
  id = record { source = source; interval = extent; version = version; partition = partition };
  core = core;
  size = size;
  tombstone = false;
}

descriptor_joins : (a b c d e f g source : List ℕ) (extent : Extent) (version : List ℕ) (partition core size : ℕ) → Takes a (short_text source) b → Takes b (interval extent) c → Takes c (short_text version) d → Takes d (to_be_bytes w16 partition) e → Takes e (to_be_bytes w16 core) f → Takes f (to_be_bytes w64 size) g
    → Takes a (descriptor (described source extent version partition core size)) g
descriptor_joins a b c d e f g source extent version partition core size t1 t2 t3 t4 t5 t6 =
    let s2 = short_text source ++ interval extent in
    let s3 = s2 ++ short_text version in
    let s4 = s3 ++ to_be_bytes w16 partition in
    let s5 = s4 ++ to_be_bytes w16 core in
    let j2 = Takes-then a (short_text source) b (interval extent) c t1 t2 in
    let j3 = Takes-then a s2 c (short_text version) d j2 t3 in
    let j4 = Takes-then a s3 d (to_be_bytes w16 partition) e j3 t4 in
    let j5 = Takes-then a s4 e (to_be_bytes w16 core) f j4 t5 in
    Takes-then a s5 f (to_be_bytes w64 size) g j5 t6

descriptor_takes : (short : FileFault) (bytes : List ℕ) (x : Described × List ℕ) → IsBytes bytes → descriptor_at short bytes ≡ Ok x → Takes bytes (descriptor x.0) x.1 × IsAnnounced x.0
unfolding descriptor_at
descriptor_takes short bytes x fits e =
    let s1 = step_takes (name_read short) _ bytes x fits e in
    let s2 = step_takes (interval_read short) _ s1.0.1 x s1.1.rest_fits s1.3 in
    let s3 = step_takes (version_read short) _ s2.0.1 x s2.1.rest_fits s2.3 in
    let s4 = step_takes (number_read short w16 (2 ^ 16) wide16) _ s3.0.1 x s3.1.rest_fits s3.3 in
    let s5 = step_takes (core_read short) _ s4.0.1 x s4.1.rest_fits s4.3 in
    let s6 = step_takes (number_read short w64 (2 ^ 64) wide64) _ s5.0.1 x s5.1.rest_fits s5.3 in
    let joined = descriptor_joins bytes s1.0.1 s2.0.1 s3.0.1 s4.0.1 s5.0.1 s6.0.1 s1.0.0 s2.0.0 s3.0.0 s4.0.0 s5.0.0 s6.0.0 s1.1 s2.1 s3.1 s4.1 s5.1 s6.1 in
    subst (λ (p : Described × List ℕ). Takes bytes (descriptor p.0) p.1 × IsAnnounced p.0) (ok_is (described s1.0.0 s2.0.0 s3.0.0 s4.0.0 s5.0.0 s6.0.0, s6.0.1) x s6.3) (
      joined,
      record {
        described = record {
          id = record { source = s1.2; interval = s2.2; version = s3.2; partition = s4.2 };
          core = s5.2;
          size = s6.2;
          tombstone = λ no. absurd (false≢true no);
        };
        ordinary = refl;
      },
    )

descriptor_regroups : (source : List ℕ) (extent : Extent) (version : List ℕ) (partition core size : ℕ) (rest : List ℕ)
    → descriptor (described source extent version partition core size) ++ rest
    ≡ short_text source ++ (interval extent ++ (short_text version ++ (to_be_bytes w16 partition ++ (to_be_bytes w16 core ++ (to_be_bytes w64 size ++ rest)))))
descriptor_regroups source extent version partition core size rest =
    let r6 = to_be_bytes w64 size ++ rest in
    let r5 = to_be_bytes w16 core ++ r6 in
    let r4 = to_be_bytes w16 partition ++ r5 in
    let r3 = short_text version ++ r4 in
    let s2 = short_text source ++ interval extent in
    let s3 = s2 ++ short_text version in
    let s4 = s3 ++ to_be_bytes w16 partition in
    let s5 = s4 ++ to_be_bytes w16 core in
    append_assoc s5 (to_be_bytes w64 size) rest
    ∙ append_assoc s4 (to_be_bytes w16 core) r6
    ∙ append_assoc s3 (to_be_bytes w16 partition) r5
    ∙ append_assoc s2 (short_text version) r4
    ∙ append_assoc (short_text source) (interval extent) r3

descriptor_again : (short : FileFault) (d : Described) (rest : List ℕ) → IsAnnounced d → descriptor_at short (descriptor d ++ rest) ≡ Ok (d, rest)
unfolding descriptor_at
descriptor_again short d rest announcement =
    let h = announcement.described in
    let s = d.id.source in
    let i = d.id.interval in
    let v = d.id.version in
    ap (descriptor_at short) (descriptor_regroups s i v d.id.partition d.core d.size rest)
    ∙ step_again (name_read short) _ s (interval i ++ (short_text v ++ (to_be_bytes w16 d.id.partition ++ (to_be_bytes w16 d.core ++ (to_be_bytes w64 d.size ++ rest))))) h.id.source
    ∙ step_again (interval_read short) _ i (short_text v ++ (to_be_bytes w16 d.id.partition ++ (to_be_bytes w16 d.core ++ (to_be_bytes w64 d.size ++ rest)))) h.id.interval
    ∙ step_again (version_read short) _ v (to_be_bytes w16 d.id.partition ++ (to_be_bytes w16 d.core ++ (to_be_bytes w64 d.size ++ rest))) h.id.version
    ∙ step_again (number_read short w16 (2 ^ 16) wide16) _ d.id.partition (to_be_bytes w16 d.core ++ (to_be_bytes w64 d.size ++ rest)) (omega (arith, h.id.partition))
    ∙ step_again (core_read short) _ d.core (to_be_bytes w64 d.size ++ rest) h.core
    ∙ step_again (number_read short w64 (2 ^ 64) wide64) _ d.size rest h.size
    ∙ ap (λ (flag : Bool). Ok (record { id = d.id; core = d.core; size = d.size; tombstone = flag }, rest)) (sym announcement.ordinary)

pub descriptor_read : (short : FileFault) → Reads Described (descriptor_at short) descriptor IsAnnounced
descriptor_read short = record {
  takes = λ bytes x fits e. descriptor_takes short bytes x fits e;
  again = λ d rest h. descriptor_again short d rest h;
}
