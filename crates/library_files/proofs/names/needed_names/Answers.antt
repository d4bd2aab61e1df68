use Rattle.std.proofs.Common.{◌∙◌, ap}
use Rattle.std.proofs.lemmas.Result.{IfOk-weaker}
use Rattle.class_tree.specs.View.{file_of}
use Rattle.library_files.specs.Names.{named, names_from}
use Rattle.library_files.proofs.Naming.{are_needed}
use Rattle.library_files.proofs.names.needed_names.Goals as goal

pub returns : goal.returns
returns c =
    let file = file_of c.args.file.now in
    let texts = c.need_file.new.texts in
    IfOk-weaker c.names_of.result _ _
    (λ names are. are_needed texts file c.new-texts.result (named names.items) (c.new-texts.ensures file.pool) c.in_ok-need_file.ensures (are ∙ ap (names_from texts 1) c.constants.ensures))
    c.names_of.ensures
