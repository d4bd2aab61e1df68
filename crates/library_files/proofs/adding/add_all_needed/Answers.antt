use Rattle.std.proofs.Common.{arith, map, ap}
use Rattle.std.specs.List.{flat_map}
use Rattle.std.proofs.lemmas.List.{take_all}
use Rattle.class_tree.specs.View.{file_of}
use Rattle.library_files.specs.Needs.{needed_classes}
use Rattle.library_files.specs.Adding.{library_file}
use Rattle.library_files.proofs.Offering.{adds_none, adds_same, adds_file}
use Rattle.library_files.proofs.adding.add_all_needed.Goals as goal

pub loop-file-init : goal.loop-file-init
loop-file-init c = λ program are. adds_none (map library_file c.args.library.now) program c.args.places.now.items

pub loop-file-preserved : goal.loop-file-preserved
loop-file-preserved c = λ program are.
    adds_file (map library_file c.args.library.now) program c.args.places.now.items c.loop-file.places.items c.add_needed.new.places.items c.args.files.now c.loop-file.file-index c.file-item.result (omega (arith, c.loop-file-test.true)) c.file-item.is
    (c.loop-file.invariant program are) (c.in_ok-add_needed.ensures program are)

pub returns : goal.returns
returns c = λ program are.
    adds_same (map library_file c.args.library.now) program c.args.places.now.items c.loop-file.places.items _ _ (ap (λ fs. flat_map needed_classes (map file_of fs)) (take_all c.loop-file.file-index c.args.files.now (omega (arith, c.loop-file-test.false))))
    (c.loop-file.invariant program are)
