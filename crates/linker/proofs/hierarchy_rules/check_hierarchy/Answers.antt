use Rattle.std.proofs.Common.{◌∙◌, sym, ap, vec_items, None}
use Rattle.std.specs.Prelude.{option_map}
use Rattle.model.specs.Hierarchy.{in_cycle}
use Rattle.hierarchy.proofs.Indices.{no_position}
use Rattle.linker.proofs.Lists.{position_passes, none_before}
use Rattle.linker.proofs.Stages.{cycle_refused}
use Rattle.linker.specs.Telling.{Tells}
use Rattle.linker.proofs.Telling.{cycle_tells}
use Rattle.linker.proofs.hierarchy_rules.check_hierarchy.Goals as goal

pub returns-in-Some-clause-refused : goal.returns-in-Some-clause-refused
returns-in-Some-clause-refused c =
    let trees = c.args.set.now in
    let n = c.in-Some.number in
    let found = position_passes (in_cycle trees) trees n (sym c.in_ok-found.ensures ∙ c.in-Some.is) in
    cycle_refused trees found.0 n c.of_file.result.kind c.of_file.result.file c.of_file.result.cause c.requires found.1 found.2 c.of_file.ensures.kind c.of_file.ensures.file

pub check_rules-requires-clause-acyclic : goal.check_rules-requires-clause-acyclic
check_rules-requires-clause-acyclic c =
    no_position (in_cycle c.args.set.now) c.args.set.now (sym c.in_ok-found.ensures ∙ c.in_default.is)

pub returns-in-Some-clause-line : goal.returns-in-Some-clause-line
returns-in-Some-clause-line c =
    let trees = c.args.set.now in
    let n = c.in-Some.number in
    let r = c.of_file.result in
    let at = sym c.in_ok-found.ensures ∙ c.in-Some.is in
    let found = position_passes (in_cycle trees) trees n at in
    let told : Tells None None r = record { method = ap (option_map vec_items) c.of_file.ensures.method; offset = c.of_file.ensures.offset; cause = c.of_file.ensures.cause } in
    cycle_tells trees n found.0 r found.1 (none_before (in_cycle trees) trees n at) found.2 (c.of_file.ensures.kind, c.of_file.ensures.file) told
