use Rattle.std.proofs.Common.{arith, get_or, false, refl, ap, sym}
use Rattle.std.proofs.lemmas.List.{take_all}
use Rattle.library_files.specs.Parts.{marked_classes}
use Rattle.library_files.proofs.Needing.{adds_nothing, adds_marked, adds_same}
use Rattle.library_files.proofs.needs.need_marked.Goals as goal

pub loop-pc-init : goal.loop-pc-init
loop-pc-init c = adds_nothing c.args.file.now.pool c.args.texts.now

pub loop-pc-preserved : goal.loop-pc-preserved
loop-pc-preserved c =
    adds_marked c.args.file.now.pool c.args.code.now c.args.texts.now c.loop-pc.texts c.need_instruction.new.texts c.args.marks.now c.loop-pc.pc (get_or c.args.marks.now c.loop-pc.pc false) false (omega (arith, c.loop-pc-test.true)) refl
    c.loop-pc.invariant c.in_ok-need_instruction.ensures

pub returns : goal.returns
returns c =
    adds_same c.args.file.now.pool c.args.texts.now c.loop-pc.texts _ _ (ap (marked_classes c.args.file.now.pool c.args.code.now 0) (take_all c.loop-pc.pc c.args.marks.now (omega (arith, c.loop-pc-test.false)))) c.loop-pc.invariant
