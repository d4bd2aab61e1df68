use Rattle.std.proofs.Common.{◌∙◌, sym, ap, vec_items, None}
use Rattle.std.specs.Prelude.{option_map}
use Rattle.std.proofs.lemmas.Bool.{or_from}
use Rattle.model.specs.Linkable.{too_many_fields}
use Rattle.linker.proofs.Lists.{position_passes, none_before}
use Rattle.linker.proofs.Stages.{fields_refused}
use Rattle.linker.specs.Telling.{Tells}
use Rattle.linker.proofs.Telling.{fields_tell}
use Rattle.linker.proofs.set.check_fields.Goals as goal
use Rattle.hierarchy.proofs.Indices.{no_position}

pub returns-in-Some-clause-refused : goal.returns-in-Some-clause-refused
returns-in-Some-clause-refused c =
    let trees = c.args.set.now in
    let found = position_passes (too_many_fields trees) trees c.in-Some.number (sym c.in_ok-number.ensures ∙ c.in-Some.is) in
    fields_refused trees found.0 c.in-Some.number c.of_file.result.kind c.of_file.result.file c.of_file.result.cause c.requires found.1 c.of_file.ensures.kind c.of_file.ensures.file found.2

pub returns-in-None-clause-passed : goal.returns-in-None-clause-passed
returns-in-None-clause-passed c =
    let trees = c.args.set.now in
    or_from _ _ (no_position (too_many_fields trees) trees (sym c.in_ok-number.ensures ∙ c.in-None.is)) c.requires

pub returns-in-Some-clause-line : goal.returns-in-Some-clause-line
returns-in-Some-clause-line c =
    let trees = c.args.set.now in
    let n = c.in-Some.number in
    let told : Tells None None c.of_file.result = record { method = ap (option_map vec_items) c.of_file.ensures.method; offset = c.of_file.ensures.offset; cause = c.of_file.ensures.cause } in
    fields_tell trees n c.of_file.result (none_before (too_many_fields trees) trees n (sym c.in_ok-number.ensures ∙ c.in-Some.is)) (c.of_file.ensures.kind, c.of_file.ensures.file) told
