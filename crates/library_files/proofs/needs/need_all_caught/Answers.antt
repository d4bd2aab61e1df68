use Rattle.std.proofs.Common.{arith, get_or, refl}
use Rattle.model.specs.declared.class_file.ExceptionEntry.{ExceptionEntry}
use Rattle.library_files.specs.Needs.{caught_classes}
use Rattle.library_files.proofs.Needing.{adds_nothing, adds_step, adds_all}
use Rattle.library_files.proofs.needs.need_all_caught.Goals as goal

pub loop-entry-init : goal.loop-entry-init
loop-entry-init c = adds_nothing c.args.file.now.pool c.args.texts.now

pub loop-entry-preserved : goal.loop-entry-preserved
loop-entry-preserved c =
    let d : ExceptionEntry = record { start = 0; end = 0; handler = 0; catch_type = 0 } in
    adds_step c.args.file.now.pool c.args.texts.now c.loop-entry.texts c.need_caught.new.texts (caught_classes c.args.file.now.pool) c.args.entries.now c.loop-entry.entry-index
    (get_or c.args.entries.now c.loop-entry.entry-index d) d (omega (arith, c.loop-entry-test.true)) refl c.loop-entry.invariant c.in_ok-need_caught.ensures

pub returns : goal.returns
returns c = adds_all c.args.file.now.pool c.args.texts.now c.loop-entry.texts (caught_classes c.args.file.now.pool) c.args.entries.now c.loop-entry.entry-index (omega (arith, c.loop-entry-test.false)) c.loop-entry.invariant
