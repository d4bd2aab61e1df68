use Rattle.std.proofs.Common.{◌≡◌, ◌∙◌, not, sym, ap, subst}
use Rattle.model.specs.AccessFlags.{is_private}
use Rattle.model.specs.Names.{Name}
use Rattle.classfile.specs.View.{file_of, method_of}
use Rattle.link_conditions.specs.class_rules.Rules.{is_bad_redeclaration}
use Rattle.link_conditions.specs.class_rules.Declared.{with_flags}
use Rattle.link_conditions.specs.class_rules.Suspected.{AreSuspects}
use Rattle.link_conditions.proofs.class_rules.Suspected.{no_class, not_declared, not_so_declared, first_fails, last_fails}
use Rattle.link_conditions.proofs.class_rules.suspects.is_suspect.Goals as goal

pub returns-in_default : goal.returns-in_default
returns-in_default c =
    let file = file_of c.args.file.now in
    let again = method_of c.args.again.now in
    let told = subst (λ s. AreSuspects c.args.set.now c.args.methods.now file again s) c.in-Of.is c.requires in
    λ h. no_class c.args.set.now file again c.args.methods.now.table told.0 c.args.superclass.now (sym c.in_default.ensures.place)

pub returns-then-not-has : goal.returns-then-not-has
returns-then-not-has c =
    let file = file_of c.args.file.now in
    let again = method_of c.args.again.now in
    let told = subst (λ s. AreSuspects c.args.set.now c.args.methods.now file again s) c.in-Of.is c.requires in
    let flags = c.in-Some-flags_at.flags in
    let bad = c.is_bad_redeclaration.ensures ∙ ap (λ (name : Name). is_bad_redeclaration c.args.superclass.now (with_flags flags) name again) c.class_name.ensures in
    λ h. not_so_declared c.args.set.now file again c.args.methods.now.table told.0 c.args.superclass.now c.in-Of.number c.in-Some.place told.1 (sym c.in-Some.ensures.place) flags (sym c.in-Some-flags_at.ensures)
    (last_fails (not (is_private flags)) _ (sym bad ∙ h))

pub returns-else-not-has : goal.returns-else-not-has
returns-else-not-has c =
    let file = file_of c.args.file.now in
    let again = method_of c.args.again.now in
    let told = subst (λ s. AreSuspects c.args.set.now c.args.methods.now file again s) c.in-Of.is c.requires in
    let flags = c.in-Some-flags_at.flags in
    λ h. not_so_declared c.args.set.now file again c.args.methods.now.table told.0 c.args.superclass.now c.in-Of.number c.in-Some.place told.1 (sym c.in-Some.ensures.place) flags (sym c.in-Some-flags_at.ensures)
    (first_fails (is_private flags) _ (sym c.has.ensures ∙ c.if-not-has.false))

pub returns-in-None-flags_at : goal.returns-in-None-flags_at
returns-in-None-flags_at c =
    let file = file_of c.args.file.now in
    let again = method_of c.args.again.now in
    let told = subst (λ s. AreSuspects c.args.set.now c.args.methods.now file again s) c.in-Of.is c.requires in
    λ h. not_declared c.args.set.now file again c.args.methods.now.table told.0 c.args.superclass.now c.in-Of.number c.in-Some.place told.1 (sym c.in-Some.ensures.place) (sym c.in-None-flags_at.ensures)
