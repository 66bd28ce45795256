-- The content of a segment in rows, read and written.
use Rattle.std.proofs.Common.{◌≡◌, List, ◌++◌, ℕ, Ok, ap, subst, ◌∙◌, append_assoc}
use Rattle.druid_segment_rows.specs.Segment.{Segment, segment_of}
use Rattle.druid_segment_file.specs.declared.fault.FileFault.{FileFault}
use Rattle.druid_segment_file.specs.ByteParts.{magic, descriptor, names, rows, spelling}
use Rattle.druid_segment_file.specs.Parts.{shape_of}
use Rattle.druid_segment_file.specs.Reader.{row_content_at}
use Rattle.druid_segment_file.proofs.PartLemmas.{ok_is, IsBytes, Takes, Takes-then, step_takes, step_again}
use Rattle.druid_segment_file.proofs.HeadLemmas.{IsAnnounced, descriptor_read}
use Rattle.druid_segment_file.proofs.FieldLemmas.{fields_text, AreFields, fields_read}
use Rattle.druid_segment_file.proofs.RowLemmas.{AreRows, rows_read}

-- what has a spelling, but for its length
pub record IsContent (content : Segment) : Type 0 where
  pub descriptor : IsAnnounced content.descriptor
  pub fields : AreFields content.fields
  pub rows : AreRows (shape_of content.descriptor content.fields) content.rows

-- what follows the name of the layout
abbrev pub row_body : Segment → List ℕ
row_body s = descriptor s.descriptor ++ (fields_text s.fields ++ rows s.rows)

pub row_spelled : (s : Segment) → spelling s ≡ magic ++ row_body s
row_spelled s =
    let d = descriptor s.descriptor in
    let fields = fields_text s.fields in
    ap (λ (t : List ℕ). t ++ rows s.rows) (append_assoc (magic ++ d) (names s.fields.dimensions) (names s.fields.metrics))
    ∙ append_assoc (magic ++ d) fields (rows s.rows)
    ∙ append_assoc magic d (fields ++ rows s.rows)

pub row_content_takes : (short : FileFault) (bytes : List ℕ) (x : Segment × List ℕ) → IsBytes bytes → row_content_at short bytes ≡ Ok x → Takes bytes (row_body x.0) x.1 × IsContent x.0
unfolding row_content_at
row_content_takes short bytes x fits e =
    let s1 = step_takes (descriptor_read short) _ bytes x fits e in
    let s2 = step_takes (fields_read short) _ s1.0.1 x s1.1.rest_fits s1.3 in
    let s3 = step_takes (rows_read short (shape_of s1.0.0 s2.0.0)) _ s2.0.1 x s2.1.rest_fits s2.3 in
    let fields = Takes-then s1.0.1 (fields_text s2.0.0) s2.0.1 (rows s3.0.0) s3.0.1 s2.1 s3.1 in
    let joined = Takes-then bytes (descriptor s1.0.0) s1.0.1 (fields_text s2.0.0 ++ rows s3.0.0) s3.0.1 s1.1 fields in
    subst (λ (p : Segment × List ℕ). Takes bytes (row_body p.0) p.1 × IsContent p.0) (ok_is (segment_of s1.0.0 s2.0.0 s3.0.0, s3.0.1) x s3.3)
    (joined, record { descriptor = s1.2; fields = s2.2; rows = s3.2 })

pub row_content_again : (short : FileFault) (s : Segment) (rest : List ℕ) → IsContent s → row_content_at short (row_body s ++ rest) ≡ Ok (s, rest)
unfolding row_content_at
row_content_again short s rest h =
    let fields = fields_text s.fields in
    ap (row_content_at short) (append_assoc (descriptor s.descriptor) (fields ++ rows s.rows) rest ∙ ap (λ (t : List ℕ). descriptor s.descriptor ++ t) (append_assoc fields (rows s.rows) rest))
    ∙ step_again (descriptor_read short) _ s.descriptor (fields ++ (rows s.rows ++ rest)) h.descriptor
    ∙ step_again (fields_read short) _ s.fields (rows s.rows ++ rest) h.fields
    ∙ step_again (rows_read short (shape_of s.descriptor s.fields)) _ s.rows rest h.rows
