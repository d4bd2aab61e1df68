use Rattle.std.proofs.Common.{arith, sym}
use Rattle.std.proofs.lemmas.List.Folds.{flat_map-map}
use Rattle.class_tree.specs.View.{method_of}
use Rattle.library_files.specs.Parts.{method_classes}
use Rattle.library_files.proofs.Needing.{adds_nothing, adds_step, adds_all, adds_same}
use Rattle.library_files.proofs.needs.need_codes.Goals as goal

pub loop-method-init : goal.loop-method-init
loop-method-init c = adds_nothing c.args.file.now.pool c.args.texts.now

pub loop-method-preserved : goal.loop-method-preserved
loop-method-preserved c =
    adds_step c.args.file.now.pool c.args.texts.now c.loop-method.texts c.need_method_code.new.texts (λ m. method_classes c.args.file.now.pool (method_of m)) c.args.methods.now c.loop-method.method-index c.method-item.result c.method-item.result (omega (arith, c.loop-method-test.true)) c.method-item.is
    c.loop-method.invariant c.in_ok-need_method_code.ensures

pub returns : goal.returns
returns c =
    let pool = c.args.file.now.pool in
    adds_same pool c.args.texts.now c.loop-method.texts _ _ (sym (flat_map-map (method_classes pool) method_of c.args.methods.now))
    (adds_all pool c.args.texts.now c.loop-method.texts (λ m. method_classes pool (method_of m)) c.args.methods.now c.loop-method.method-index (omega (arith, c.loop-method-test.false)) c.loop-method.invariant)
