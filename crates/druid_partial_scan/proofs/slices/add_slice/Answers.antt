use Rattle.std.proofs.Common.{◌≡◌, sym, arith}
use Rattle.druid_partial_scan.specs.Scans.{Scan}
use Rattle.druid_partial_scan.specs.Places.{places_of}
use Rattle.druid_partial_scan.specs.Slices.{texts_in, room_over, groups_held, AreCoded}
use Rattle.druid_partial_scan.specs.Cells.{room_from}
use Rattle.druid_base.proofs.ClauseLemmas.{if_some}
use Rattle.druid_partial_scan.proofs.SliceLemmas.{room_at, room_coded, slice_adds}
use Rattle.druid_partial_scan.proofs.slices.add_slice.Goals as goal

pub add_pieces-requires-clause-room : goal.add_pieces-requires-clause-room
add_pieces-requires-clause-room c =
    let query = c.args.query.now in
    let segment = c.args.slice.now.0.now in
    let texts = texts_in c.args.lists.now in
    let C : Scan → Type 0 = λ p. AreCoded segment texts (places_of query segment.fields) p.columns in
    let Q : Scan → Type 0 = λ p. p.query ≡ query in
    room_at query c.in-Some.scan.query (room_over texts 1) (room_from c.in-Some.scan.columns 1) c.args.cells.now
    (sym (if_some Q c.in_ok-scan.field-0 c.in-Some.scan c.in-Some.is c.in_ok-scan.ensures.query))
    (room_coded segment texts (places_of query segment.fields) c.in-Some.scan.columns 1 (if_some C c.in_ok-scan.field-0 c.in-Some.scan c.in-Some.is c.in_ok-scan.ensures.coded)) c.requires.room

pub add_pieces-requires-clause-small : goal.add_pieces-requires-clause-small
add_pieces-requires-clause-small c =
    let query = c.args.query.now in
    let segment = c.args.slice.now.0.now in
    let texts = texts_in c.args.lists.now in
    let C : Scan → Type 0 = λ p. AreCoded segment texts (places_of query segment.fields) p.columns in
    let e : room_over texts 1 ≡ room_from c.in-Some.scan.columns 1 = room_coded segment texts (places_of query segment.fields) c.in-Some.scan.columns 1 (if_some C c.in_ok-scan.field-0 c.in-Some.scan c.in-Some.is c.in_ok-scan.ensures.coded) in
    let small = c.requires.small in omega (arith, e, small)

pub returns-clause-room : goal.returns-clause-room
returns-clause-room c = λ done.
    let query = c.args.query.now in
    let segment = c.args.slice.now.0.now in
    let texts = texts_in c.args.lists.now in
    let C : Scan → Type 0 = λ p. AreCoded segment texts (places_of query segment.fields) p.columns in
    let Q : Scan → Type 0 = λ p. p.query ≡ query in
    room_at c.in-Some.scan.query query (room_from c.in-Some.scan.columns 1) (room_over texts 1) c.add_pieces.new.cells
    (if_some Q c.in_ok-scan.field-0 c.in-Some.scan c.in-Some.is c.in_ok-scan.ensures.query)
    (sym (room_coded segment texts (places_of query segment.fields) c.in-Some.scan.columns 1 (if_some C c.in_ok-scan.field-0 c.in-Some.scan c.in-Some.is c.in_ok-scan.ensures.coded))) c.in_ok-add_pieces.ensures.room

pub returns-clause-adds : goal.returns-clause-adds
returns-clause-adds c = λ done.
    let query = c.args.query.now in
    let segment = c.args.slice.now.0.now in
    let texts = texts_in c.args.lists.now in
    let C : Scan → Type 0 = λ p. AreCoded segment texts (places_of query segment.fields) p.columns in
    let Q : Scan → Type 0 = λ p. p.query ≡ query in
    let S : Scan → Type 0 = λ p. p.segment ≡ segment in
    slice_adds query segment c.in-Some.scan texts c.deref.result.now c.args.slice.now.1.items (groups_held c.args.cells.now.groups) (groups_held c.add_pieces.new.cells.groups)
    (if_some Q c.in_ok-scan.field-0 c.in-Some.scan c.in-Some.is c.in_ok-scan.ensures.query) (if_some S c.in_ok-scan.field-0 c.in-Some.scan c.in-Some.is c.in_ok-scan.ensures.segment)
    c.deref.ensures.value c.requires.rising (if_some C c.in_ok-scan.field-0 c.in-Some.scan c.in-Some.is c.in_ok-scan.ensures.coded) c.requires.one c.in_ok-add_pieces.ensures.adds
