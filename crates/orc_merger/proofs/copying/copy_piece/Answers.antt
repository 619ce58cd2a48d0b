use Rattle.std.proofs.Common.{◌∙◌, ap, Err, inl, inr}
use Rattle.std.proofs.Math.Seq.{map-set_same}
use Rattle.orc_merger.specs.Copies.{piece_at}
use Rattle.orc_merger.proofs.BytesOut.{copied_piece, some_piece}
use Rattle.orc_merger.proofs.FailureCounts.{written_counts, input_counts, copy_own}
use Rattle.orc_merger.proofs.copying.copy_piece.Goals as goal

-- ---- the last piece of its input: it rests

pub returns-then-is_last_of_input-clause-told : goal.returns-then-is_last_of_input-clause-told
returns-then-is_last_of_input-clause-told g c =
    map-set_same g.S.Source.told c.args.inputs.now (piece_at c.args.pieces.now c.args.i).input c.rest.new.self c.index-inputs-piece.result (c.rest.ensures.told ∙ c.copy_range.ensures.source.told)

pub returns-then-is_last_of_input-clause-sizes : goal.returns-then-is_last_of_input-clause-sizes
returns-then-is_last_of_input-clause-sizes g c =
    map-set_same g.S.Source.size c.args.inputs.now (piece_at c.args.pieces.now c.args.i).input c.rest.new.self c.index-inputs-piece.result (c.rest.ensures.size ∙ c.copy_range.ensures.source.size)

pub returns-then-is_last_of_input-clause-all : goal.returns-then-is_last_of_input-clause-all
returns-then-is_last_of_input-clause-all g c = λ files same.
    copied_piece g.S.Source.told c.args.inputs.now c.index-inputs-piece.result files (piece_at c.args.pieces.now c.args.i) _ _ c.requires.input same c.in-Ok.ensures.all

pub returns-then-is_last_of_input-clause-some : goal.returns-then-is_last_of_input-clause-some
returns-then-is_last_of_input-clause-some g c = λ files same.
    some_piece g.S.Source.told c.args.inputs.now c.index-inputs-piece.result files (piece_at c.args.pieces.now c.args.i) _ _ c.requires.input same c.copy_range.ensures.prefix

pub returns-then-is_last_of_input-clause-kept : goal.returns-then-is_last_of_input-clause-kept
returns-then-is_last_of_input-clause-kept g c =
    map-set_same g.S.Source.failures c.args.inputs.now (piece_at c.args.pieces.now c.args.i).input c.rest.new.self c.index-inputs-piece.result (c.rest.ensures.failures ∙ c.in-Ok.ensures.source.kept)

-- ---- another one of its input follows

pub returns-else-is_last_of_input-clause-told : goal.returns-else-is_last_of_input-clause-told
returns-else-is_last_of_input-clause-told g c =
    map-set_same g.S.Source.told c.args.inputs.now (piece_at c.args.pieces.now c.args.i).input c.copy_range.new.source c.index-inputs-piece.result c.copy_range.ensures.source.told

pub returns-else-is_last_of_input-clause-sizes : goal.returns-else-is_last_of_input-clause-sizes
returns-else-is_last_of_input-clause-sizes g c =
    map-set_same g.S.Source.size c.args.inputs.now (piece_at c.args.pieces.now c.args.i).input c.copy_range.new.source c.index-inputs-piece.result c.copy_range.ensures.source.size

pub returns-else-is_last_of_input-clause-all : goal.returns-else-is_last_of_input-clause-all
returns-else-is_last_of_input-clause-all g c = λ files same.
    copied_piece g.S.Source.told c.args.inputs.now c.index-inputs-piece.result files (piece_at c.args.pieces.now c.args.i) _ _ c.requires.input same c.in-Ok.ensures.all

pub returns-else-is_last_of_input-clause-some : goal.returns-else-is_last_of_input-clause-some
returns-else-is_last_of_input-clause-some g c = λ files same.
    some_piece g.S.Source.told c.args.inputs.now c.index-inputs-piece.result files (piece_at c.args.pieces.now c.args.i) _ _ c.requires.input same c.copy_range.ensures.prefix

pub returns-else-is_last_of_input-clause-kept : goal.returns-else-is_last_of_input-clause-kept
returns-else-is_last_of_input-clause-kept g c =
    map-set_same g.S.Source.failures c.args.inputs.now (piece_at c.args.pieces.now c.args.i).input c.copy_range.new.source c.index-inputs-piece.result c.in-Ok.ensures.source.kept

-- ---- a device failed: the input rests

pub returns-in-Err-clause-told : goal.returns-in-Err-clause-told
returns-in-Err-clause-told g c =
    map-set_same g.S.Source.told c.args.inputs.now (piece_at c.args.pieces.now c.args.i).input c.rest-in-Err.new.self c.index-inputs-piece.result (c.rest-in-Err.ensures.told ∙ c.copy_range.ensures.source.told)

pub returns-in-Err-clause-sizes : goal.returns-in-Err-clause-sizes
returns-in-Err-clause-sizes g c =
    map-set_same g.S.Source.size c.args.inputs.now (piece_at c.args.pieces.now c.args.i).input c.rest-in-Err.new.self c.index-inputs-piece.result (c.rest-in-Err.ensures.size ∙ c.copy_range.ensures.source.size)

pub returns-in-Err-clause-some : goal.returns-in-Err-clause-some
returns-in-Err-clause-some g c = λ files same.
    some_piece g.S.Source.told c.args.inputs.now c.index-inputs-piece.result files (piece_at c.args.pieces.now c.args.i) _ _ c.requires.input same c.copy_range.ensures.prefix

pub returns-in-Err-clause-named : goal.returns-in-Err-clause-named
returns-in-Err-clause-named g c = copy_own (piece_at c.args.pieces.now c.args.i).input _ _ c.requires.input c.in-Err.ensures.fault

pub returns-in-Err-clause-sources : goal.returns-in-Err-clause-sources
returns-in-Err-clause-sources g c =
    let e = c.in-Err.ensures in
    let rest = c.rest-in-Err.ensures.failures in
    input_counts g.S.Source.failures c.args.inputs.now (piece_at c.args.pieces.now c.args.i).input c.index-inputs-piece.result c.rest-in-Err.new.self c.in-Err.fault c.requires.input
    (elim e.fault [ inl is ↦ inl is | inr is ↦ inr (written_counts _ is) ])
    (λ is. rest ∙ e.source.failed (ap Err is))
    (elim e.source.others [ inl is ↦ inl is | inr same ↦ inr (rest ∙ same) ])
