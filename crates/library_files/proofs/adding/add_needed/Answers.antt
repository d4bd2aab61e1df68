use Rattle.std.proofs.Common.{List, map, subst, sym}
use Rattle.class_tree.specs.View.{file_of}
use Rattle.library_files.specs.Adding.{library_file}
use Rattle.library_files.specs.Names.{named}
use Rattle.library_files.specs.Needs.{AreNeeded}
use Rattle.library_files.proofs.Needing.{on_ok}
use Rattle.library_files.proofs.Offering.{adds_needed}
use Rattle.library_files.proofs.adding.add_needed.Goals as goal

pub returns : goal.returns
returns c =
    let file = file_of c.args.file.now in
    let needed = subst (λ names. AreNeeded file (named names)) (sym c.deref.ensures.value) c.in_ok-names.ensures in
    on_ok c.add_names.result
    (λ adds files are. adds_needed (map library_file c.args.library.now) files c.args.places.now.items c.add_names.new.places.items file (named c.deref.result.now) needed (adds files are))
    c.add_names.ensures
