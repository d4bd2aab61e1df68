use Rattle.std.proofs.Common.{◌≡◌, ◌-◌, length}
use Rattle.std.specs.List.{list_any}
use Rattle.model.specs.Classes.{classes_of, lineage_of, lineage}
use Rattle.model.specs.Hierarchy.{redeclares_in}
use Rattle.classfile.specs.View.{method_of, file_of}
use Rattle.link_conditions.specs.class_rules.Rules.{is_bad_redeclaration}
use Rattle.link_conditions.proofs.class_rules.method.redeclares_above.Given as goal

abbrev pub invariant-loop-step : goal.invariant-loop-step
invariant-loop-step l =
    let test = redeclares_in is_bad_redeclaration l.set (file_of l.file) (method_of l.again) in
    list_any test (lineage_of l.set (length (classes_of l.set) - l._step) l.class) ≡ list_any test (lineage l.set l.initial.class)
