use Rattle.std.proofs.Common.{map, sym}
use Rattle.model.specs.Spells.{Spells}
use Rattle.class_tree.specs.View.{file_of}
use Rattle.library_files.specs.Adding.{library_file}
use Rattle.library_files.proofs.Needing.{on_ok}
use Rattle.library_files.proofs.Offering.{adds_by_tree, adds_by_none}
use Rattle.library_files.proofs.adding.add_needed_by.Goals as goal

pub returns-in-Ok : goal.returns-in-Ok
returns-in-Ok c =
    on_ok c.add_needed.result
    (λ adds files are. adds_by_tree (map library_file c.args.library.now) files c.args.places.now.items c.add_needed.new.places.items (Spells c.args.bytes.now) (file_of c.in-Ok.file) c.in-Ok.ensures.found
    (λ other spells. sym (c.in-Ok.ensures.only other spells)) (adds files are))
    c.add_needed.ensures

pub returns-in_default : goal.returns-in_default
returns-in_default c = λ files are.
    adds_by_none (map library_file c.args.library.now) files c.args.places.now.items (Spells c.args.bytes.now) (λ tree spells. c.in_default.not-OutOfMemory (c.in-Err.ensures.only tree spells))
