use Rattle.std.proofs.Common.{add-one, ◌≡◌, ◌<◌, ◌*◌, length, map, true, false, refl, sym, ap, ◌∙◌, arith}
use Rattle.std.proofs.lemmas.Grind.{common_steps}
use Rattle.orc_values.specs.Cells.{cells_of, pairs_of}
use Rattle.orc_values.specs.Views.{view, views, paired, shape, fields}
use Rattle.orc_values.specs.Fits as spec
use Rattle.orc_values.specs.Shapes.{width}
use Rattle.orc_values.proofs.Deeper.{width_pos}
use Rattle.orc_values.proofs.Views.{view-List, view-Map, view-Struct, shape-List, shape-Map, shape-Struct}
use Rattle.orc_values.proofs.ByColumn.{width_within, pairs_fit_key, pairs_fit_value, pairs_fit_more, each_fits_lengths, each_fits_step, each_fits_wrong}
use Rattle.orc_values.proofs.fitting.+value.Goals as goal
use Rattle.orc_values.proofs.fitting.+value.Goals.{each_fits-in-Some+else-not-value_fits, each_fits-in_default}

pub value_fits-returns-in-List-value : goal.value_fits-returns-in-List-value
value_fits-returns-in-List-value t c = grind (arith, common_steps, view-List, shape-List)

pub value_fits-returns-in-Struct-value : goal.value_fits-returns-in-Struct-value
value_fits-returns-in-Struct-value t c = grind (arith, common_steps, view-Struct, shape-Struct)

pub each_fits-returns-then-len : goal.each_fits-returns-then-len
each_fits-returns-then-len t c = sym (each_fits_lengths c.args.rows.now.items c.args.fields.now.items (λ e. c.if-len.true (let n : length c.args.fields.now.items ≡ length c.args.rows.now.items = e in omega (arith, c.args.rows.now.ok.0, c.args.fields.now.ok.0))))

pub each_fits-returns-then-not-value_fits : goal.each_fits-returns-then-not-value_fits
each_fits-returns-then-not-value_fits t c =
    let bad : spec.fits (view c.row-item.result) (shape c.index-field.result.now.tree) ≡ false = rw c.in-Some.is (sym c.value_fits.ensures ∙ c.if-not-value_fits.true) in
    let n : c.loop-i.i < length c.args.fields.now.items = omega (arith, c.loop-i-test.true, ap length c.deref-row-items.ensures.value, c.args.rows.now.ok.0, c.args.fields.now.ok.0) in
    sym (ap (λ rs. spec.each_fits (cells_of (views rs)) (fields c.args.fields.now.items)) (sym c.deref-row-items.ensures.value) ∙ sym c.loop-i.invariant
    ∙ each_fits_wrong c.deref-row-items.result.now c.args.fields.now.items c.loop-i.i c.row-item.result c.index-field.result.now c.loop-i-test.true n c.row-item.is c.index-field.ensures bad)

pub each_fits-loop-i-preserved : goal.each_fits-loop-i-preserved
each_fits-loop-i-preserved t c =
    let f : spec.fits (view c.row-item.result) (shape c.index-field.result.now.tree) ≡ true =
    elim c.match-row.branch [ each_fits-in-Some+else-not-value_fits w ↦ rw w.in-Some.is (sym w.value_fits.ensures ∙ w.if-not-value_fits.false) | each_fits-in_default w ↦ rw w.in_default.is refl ] in
    let n : c.loop-i.i < length c.args.fields.now.items = omega (arith, c.loop-i-test.true, ap length c.deref-row-items.ensures.value, c.args.rows.now.ok.0, c.args.fields.now.ok.0) in
    rw add-one (each_fits_step c.deref-row-items.result.now c.args.fields.now.items c.loop-i.i c.row-item.result c.index-field.result.now c.loop-i-test.true n c.row-item.is c.index-field.ensures f ∙ c.loop-i.invariant)

pub value_fits-returns-in-Map-value : goal.value_fits-returns-in-Map-value
value_fits-returns-in-Map-value t c = grind (arith, common_steps, view-Map, shape-Map)

pub pairs_fit-returns-then-not-key_fits : goal.pairs_fit-returns-then-not-key_fits
pairs_fit-returns-then-not-key_fits t c =
    let s = shape c.args.key.now in
    let v = shape c.args.value.now in
    let bad : spec.fits (view c.pair-item.result.key) s ≡ false = sym c.key_fits.ensures ∙ c.if-not-key_fits.true in
    sym (ap (λ ps. spec.pairs_fit (pairs_of (map paired ps)) s v) (sym c.deref-pair-items.ensures.value) ∙ sym c.loop-pair.invariant
    ∙ pairs_fit_key c.deref-pair-items.result.now c.loop-pair.pair-index c.pair-item.result s v c.loop-pair-test.true c.pair-item.is bad)

pub pairs_fit-returns-then-not-mapped_fits : goal.pairs_fit-returns-then-not-mapped_fits
pairs_fit-returns-then-not-mapped_fits t c =
    let s = shape c.args.key.now in
    let v = shape c.args.value.now in
    let good : spec.fits (view c.pair-item.result.key) s ≡ true = sym c.key_fits.ensures ∙ c.if-not-key_fits.false in
    let bad : spec.fits (view c.pair-item.result.value) v ≡ false = sym c.mapped_fits.ensures ∙ c.if-not-mapped_fits.true in
    sym (ap (λ ps. spec.pairs_fit (pairs_of (map paired ps)) s v) (sym c.deref-pair-items.ensures.value) ∙ sym c.loop-pair.invariant
    ∙ pairs_fit_value c.deref-pair-items.result.now c.loop-pair.pair-index c.pair-item.result s v c.loop-pair-test.true c.pair-item.is good bad)

pub pairs_fit-loop-pair-preserved : goal.pairs_fit-loop-pair-preserved
pairs_fit-loop-pair-preserved t c =
    let s = shape c.args.key.now in
    let v = shape c.args.value.now in
    let first : spec.fits (view c.pair-item.result.key) s ≡ true = sym c.key_fits.ensures ∙ c.if-not-key_fits.false in
    let second : spec.fits (view c.pair-item.result.value) v ≡ true = sym c.mapped_fits.ensures ∙ c.if-not-mapped_fits.false in
    rw add-one (pairs_fit_more c.deref-pair-items.result.now c.loop-pair.pair-index c.pair-item.result s v c.loop-pair-test.true c.pair-item.is first second ∙ c.loop-pair.invariant)

pub pairs_fit-key_fits-requires : goal.pairs_fit-key_fits-requires
pairs_fit-key_fits-requires t c = (omega (arith, c.decreases, width_pos (shape c.args.value.now)), tt)

pub pairs_fit-mapped_fits-requires : goal.pairs_fit-mapped_fits-requires
pairs_fit-mapped_fits-requires t c = (omega (arith, c.decreases, width_pos (shape c.args.key.now)), tt)

pub each_fits-value_fits-requires : goal.each_fits-value_fits-requires
each_fits-value_fits-requires t c =
    let n : c.loop-i.i < length c.args.fields.now.items = omega (arith, c.loop-i-test.true, ap length c.deref-row-items.ensures.value, c.args.rows.now.ok.0, c.args.fields.now.ok.0) in
    let w = width_within c.args.fields.now.items c.loop-i.i c.index-field.result.now n c.index-field.ensures in
    let g : 3 * width (shape c.index-field.result.now.tree) < t = omega (arith, c.decreases, w) in
    (g, tt)
