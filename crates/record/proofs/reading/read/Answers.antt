use Rattle.std.proofs.Common.{[], get_or, refl, ap, ◌∙◌}
use Rattle.std.proofs.lemmas.Result.{err_from_is_err_and}
use Rattle.record.specs.Reads.{sizes_of_lem}
use Rattle.record.proofs.Whole.{reads_stops, reads_whole}
use Rattle.record.proofs.reading.read.Goals as goal

pub returns-in_err-draft-clause-does : goal.returns-in_err-draft-clause-does
returns-in_err-draft-clause-does g c =
    let p = err_from_is_err_and c.from_residual-in_err-draft.result c.from_residual-in_err-draft.ensures.1 in
    let k = c.in_ok-at.at in
    let lines = c.as_chunks.result.0.now in
    let sized = c.sizes_of-sizes.ensures ∙ ap (λ m. sizes_of_lem (get_or lines k []) m) c.edge_records.ensures in
    rw (p.1, p.2) (reads_stops g.S.Scale.size g.S.Scale.has g.S.Recorded.form c.args.bytes.now k c.in_ok-at.ensures c.args.tables.now _ lines
    c.as_chunks.ensures.front c.sizes_of-sizes.result sized c.in_ok-check_sizes.ensures c.start.ensures.does
    c.in_err-draft.field-0.0 c.take_all.new.tables c.in_err-draft.ensures.does)

pub returns-clause-does : goal.returns-clause-does
returns-clause-does g c =
    let k = c.in_ok-at.at in
    let lines = c.as_chunks.result.0.now in
    let sized = c.sizes_of-sizes.ensures ∙ ap (λ m. sizes_of_lem (get_or lines k []) m) c.edge_records.ensures in
    reads_whole g.S.Scale.size g.S.Scale.has g.S.Recorded.form c.args.bytes.now k c.in_ok-at.ensures c.args.tables.now _ lines
    c.as_chunks.ensures.front c.sizes_of-sizes.result sized c.in_ok-check_sizes.ensures c.start.ensures.does
    c.in_ok-draft.draft _ c.take_all.new.tables refl c.in_ok-draft.ensures.does
