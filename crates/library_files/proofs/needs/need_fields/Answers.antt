use Rattle.std.proofs.Common.{arith, sym}
use Rattle.std.proofs.lemmas.List.Folds.{flat_map-map}
use Rattle.class_tree.specs.View.{field_of}
use Rattle.library_files.specs.Parts.{field_classes}
use Rattle.library_files.proofs.Needing.{adds_nothing, adds_step, adds_all, adds_same}
use Rattle.library_files.proofs.needs.need_fields.Goals as goal

pub loop-field-init : goal.loop-field-init
loop-field-init c = λ pool. adds_nothing pool c.args.texts.now

pub loop-field-preserved : goal.loop-field-preserved
loop-field-preserved c = λ pool.
    adds_step pool c.args.texts.now c.loop-field.texts c.need_descriptor.new.self (λ f. field_classes pool (field_of f)) c.args.fields.now c.loop-field.field-index c.field-item.result c.field-item.result (omega (arith, c.loop-field-test.true)) c.field-item.is
    (c.loop-field.invariant pool) (c.in_ok-need_descriptor.ensures pool)

pub returns : goal.returns
returns c = λ pool.
    adds_same pool c.args.texts.now c.loop-field.texts _ _ (sym (flat_map-map (field_classes pool) field_of c.args.fields.now))
    (adds_all pool c.args.texts.now c.loop-field.texts (λ f. field_classes pool (field_of f)) c.args.fields.now c.loop-field.field-index (omega (arith, c.loop-field-test.false)) (c.loop-field.invariant pool))
