use Rattle.std.proofs.Common.{rules, ◌≡◌, ◌<◌, length, get_or, Some, None}
use Rattle.method_tables.specs.method_links.Selected.{declared_number}
use Rattle.method_tables.proofs.method_links.Walking.{walk_begins, walk_finds, walk_ends, walk_goes_on}
use Rattle.method_tables.proofs.method_links.selected.SelectedMethods.selected.Goals as goal

pub loop-step-init : goal.loop-step-init
loop-step-init c = walk_begins c.args.self.now c.args.class c.args.method

pub returns-in-Some : goal.returns-in-Some
returns-in-Some c =
    let table = c.args.self.now in
    let lt : c.loop-step._step < length table.superclasses = search rules in
    let found : declared_number table c.loop-step.class c.args.method ≡ Some c.in-Some.number = search rules in
    walk_finds table c.args.class c.args.method c.loop-step.class c.loop-step._step c.in-Some.number c.loop-step.invariant lt found

pub returns-in_default-superclass : goal.returns-in_default-superclass
returns-in_default-superclass c =
    let table = c.args.self.now in
    let lt : c.loop-step._step < length table.superclasses = search rules in
    let none : declared_number table c.loop-step.class c.args.method ≡ None = search rules in
    let over : get_or table.superclasses c.loop-step.class None ≡ None = search rules in
    walk_ends table c.args.class c.args.method c.loop-step.class c.loop-step._step c.loop-step.invariant lt none over

pub loop-step-preserved : goal.loop-step-preserved
loop-step-preserved c =
    let table = c.args.self.now in
    let lt : c.loop-step._step < length table.superclasses = search rules in
    let none : declared_number table c.loop-step.class c.args.method ≡ None = search rules in
    let over : get_or table.superclasses c.loop-step.class None ≡ Some c.in-Some-superclass.superclass = search rules in
    walk_goes_on table c.args.class c.args.method c.loop-step.class c.loop-step._step c.in-Some-superclass.superclass c.loop-step.invariant lt none over
