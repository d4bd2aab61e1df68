use Rattle.std.proofs.Common.{map, vec_items}
use Rattle.engines.specs.RecordForms.{recorded_as}
use Rattle.engines.proofs.SearchLemmas.{file_of_found}
use Rattle.engines.proofs.searching.found_file.Goals as goal

pub returns-in-Found : goal.returns-in-Found
returns-in-Found c =
    let recording = recorded_as c.args.limits c.args.form (map vec_items c.args.files.now) in
    rw c.in-Found.is
    (file_of_found vec_items recording c.args.is_recorded c.in-Found.schedule c.in-Found.field-1 c.in-Found.field-2 c.recorded_file.result c.recorded_file.ensures.asked c.recorded_file.ensures.spelled)
