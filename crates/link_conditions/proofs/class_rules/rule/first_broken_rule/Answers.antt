use Rattle.std.proofs.Common.{◌∙◌, ◌||◌, sym, ap}
use Rattle.model.specs.Hierarchy.{in_cycle}
use Rattle.classfile.specs.View.{file_of}
use Rattle.link_conditions.proofs.class_rules.Found.{by_method, method_first, by_exception, exception_first, by_none}
use Rattle.link_conditions.proofs.class_rules.rule.first_broken_rule.Goals as goal

pub returns-in-Some-clause-found : goal.returns-in-Some-clause-found
returns-in-Some-clause-found c = sym (by_method c.args.set.now (file_of c.args.file.now) c.in-Some.method (sym c.in-Some.ensures))

pub returns-in-Some-clause-first : goal.returns-in-Some-clause-first
returns-in-Some-clause-first c =
    method_first c.args.set.now (file_of c.args.file.now) c.in-Some.method (sym c.class_breaks_rule.ensures ∙ c.if-class_breaks_rule.false) (sym c.in-Some.ensures)

pub returns-in-Some-clause-refused : goal.returns-in-Some-clause-refused
returns-in-Some-clause-refused c =
    let files = c.args.set.now in
    let file = file_of c.args.file.now in
    ap (λ b. in_cycle files file || b) (by_method files file c.in-Some.method (sym c.in-Some.ensures))

pub returns-in-Some-first_exception-clause-found :
    goal.returns-in-Some-first_exception-clause-found
returns-in-Some-first_exception-clause-found c =
    sym (by_exception c.args.set.now (file_of c.args.file.now) c.in-Some-first_exception.method c.in-Some-first_exception.entry c.in-Some-first_exception.ensures)

pub returns-in-Some-first_exception-clause-first :
    goal.returns-in-Some-first_exception-clause-first
returns-in-Some-first_exception-clause-first c =
    exception_first c.args.set.now (file_of c.args.file.now) c.in-Some-first_exception.method c.in-Some-first_exception.entry
    (sym c.class_breaks_rule.ensures ∙ c.if-class_breaks_rule.false) (sym c.in_default.ensures) c.in-Some-first_exception.ensures

pub returns-in-Some-first_exception-clause-refused :
    goal.returns-in-Some-first_exception-clause-refused
returns-in-Some-first_exception-clause-refused c =
    let files = c.args.set.now in
    let file = file_of c.args.file.now in
    ap (λ b. in_cycle files file || b) (by_exception files file c.in-Some-first_exception.method c.in-Some-first_exception.entry c.in-Some-first_exception.ensures)

pub returns-in-None-clause-found : goal.returns-in-None-clause-found
returns-in-None-clause-found c =
    sym (by_none c.args.set.now (file_of c.args.file.now) (sym c.class_breaks_rule.ensures ∙ c.if-class_breaks_rule.false) (sym c.in_default.ensures) c.in-None.ensures)

pub returns-in-None-clause-refused : goal.returns-in-None-clause-refused
returns-in-None-clause-refused c =
    let files = c.args.set.now in
    let file = file_of c.args.file.now in
    ap (λ b. in_cycle files file || b) (by_none files file (sym c.class_breaks_rule.ensures ∙ c.if-class_breaks_rule.false) (sym c.in_default.ensures) c.in-None.ensures)
