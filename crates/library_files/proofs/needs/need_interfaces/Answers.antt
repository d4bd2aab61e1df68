use Rattle.std.proofs.Common.{arith, get_or, refl}
use Rattle.library_files.specs.Parts.{classes_at}
use Rattle.library_files.proofs.Needing.{adds_nothing, adds_step, adds_all}
use Rattle.library_files.proofs.needs.need_interfaces.Goals as goal

pub loop-index-init : goal.loop-index-init
loop-index-init c = adds_nothing c.args.file.now.pool c.args.texts.now

pub loop-index-preserved : goal.loop-index-preserved
loop-index-preserved c =
    adds_step c.args.file.now.pool c.args.texts.now c.loop-index.texts c.need_class.new.texts (classes_at c.args.file.now.pool) c.args.indices.now c.loop-index.index-index (get_or c.args.indices.now c.loop-index.index-index 0) 0 (omega (arith, c.loop-index-test.true)) refl
    c.loop-index.invariant c.in_ok-need_class.ensures

pub returns : goal.returns
returns c = adds_all c.args.file.now.pool c.args.texts.now c.loop-index.texts (classes_at c.args.file.now.pool) c.args.indices.now c.loop-index.index-index (omega (arith, c.loop-index-test.false)) c.loop-index.invariant
