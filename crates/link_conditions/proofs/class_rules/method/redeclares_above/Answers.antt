use Rattle.std.proofs.Common.{◌≡◌, ◌∙◌, ◌<◌, length, false, sym, subst}
use Rattle.model.specs.Classes.{classes_of, lineage}
use Rattle.model.specs.Hierarchy.{redeclares_in}
use Rattle.classfile.specs.View.{method_of, file_of}
use Rattle.link_conditions.specs.class_rules.Rules.{is_bad_redeclaration}
use Rattle.link_conditions.specs.class_rules.Suspected.{AreSuspects}
use Rattle.link_conditions.proofs.class_rules.Redeclared.{any_next}
use Rattle.link_conditions.proofs.class_rules.Suspected.{none_among}
use Rattle.link_conditions.proofs.class_rules.method.redeclares_above.Goals as goal

pub loop-step-preserved : goal.loop-step-preserved
loop-step-preserved c =
    let files = c.args.set.now in
    let test = redeclares_in is_bad_redeclaration files (file_of c.args.file.now) (method_of c.args.again.now) in
    let more : c.loop-step._step < length (classes_of files) = subst (λ k. c.loop-step._step < k) c.count-step-end.ensures c.loop-step-test.true in
    let here : test c.loop-step.class.now ≡ false = sym c.redeclares_suspect.ensures ∙ c.if-redeclares_suspect.false in
    sym (any_next files test (length (classes_of files)) c.loop-step._step c.loop-step.class.now c.in-Some.next.now more here (sym c.in-Some.ensures)) ∙ c.loop-step.invariant

pub returns-in-None : goal.returns-in-None
returns-in-None c =
    let files = c.args.set.now in
    let file = file_of c.args.file.now in
    let again = method_of c.args.again.now in
    let none = subst (λ s. AreSuspects files c.args.methods.now file again s) c.in-None.is c.suspects_of-suspects.ensures in
    sym (none_among (redeclares_in is_bad_redeclaration files file again) none (lineage files c.args.superclass.now))
