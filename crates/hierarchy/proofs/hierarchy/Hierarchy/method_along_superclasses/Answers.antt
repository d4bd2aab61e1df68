use Rattle.std.proofs.Common.{◌≡◌, ◌∙◌, ◌<◌, None, Some, length, sym, ap, subst}
use Rattle.constant_pool.specs.View.{reference_of}
use Rattle.model.specs.Classes.{classes_of, superclass_of, interfaces_above, all_superinterfaces}
use Rattle.model.specs.Lookup.{method_in_class, any_method, first_found}
use Rattle.hierarchy.specs.Places.{member_in}
use Rattle.hierarchy.proofs.Walks.{lineage_found, lineage_found_here}
use Rattle.hierarchy.proofs.FieldLaws.{last_found}
use Rattle.hierarchy.proofs.hierarchy.Hierarchy.method_along_superclasses.Goals as goal

pub returns-in-Some-clause-found : goal.returns-in-Some-clause-found
returns-in-Some-clause-found c =
    let files = c.args.self.now in
    let m = reference_of c.args.method in
    let class = c.loop-step.class.now in
    let found = method_in_class files any_method m in
    let more : c.loop-step._step < length (classes_of files) = subst (λ k. c.loop-step._step < k) (c.count-step-end.ensures ∙ ap (λ f. length (classes_of f)) c.self.view_is) c.loop-step-test.true in
    let here : Some (member_in files m c.in-Some.found) ≡ first_found found (interfaces_above files class) =
    subst (λ n. Some (member_in files n c.in-Some.found) ≡ first_found (method_in_class files any_method n) (interfaces_above files class)) c.sought-sought.ensures.member c.in-Some.ensures.found in
    sym (lineage_found_here files (interfaces_above files) found (length (classes_of files)) c.loop-step._step class (member_in files m c.in-Some.found) more (sym here)) ∙ c.loop-step.invariant

pub returns-in_default-superclass_of-clause-found : goal.returns-in_default-superclass_of-clause-found
returns-in_default-superclass_of-clause-found c =
    let files = c.args.self.now in
    let m = reference_of c.args.method in
    let class = c.loop-step.class.now in
    let found = method_in_class files any_method m in
    let more : c.loop-step._step < length (classes_of files) = subst (λ k. c.loop-step._step < k) (c.count-step-end.ensures ∙ ap (λ f. length (classes_of f)) c.self.view_is) c.loop-step-test.true in
    let none : None ≡ first_found found (interfaces_above files class) =
    subst (λ n. None ≡ first_found (method_in_class files any_method n) (interfaces_above files class)) c.sought-sought.ensures.member c.in_default.ensures.found in
    let last : superclass_of files class ≡ None = sym (c.in_default-superclass_of.ensures ∙ ap (λ f. superclass_of f class) c.self.view_is) in
    last_found files (interfaces_above files) found (length (classes_of files)) c.loop-step._step class (first_found found (all_superinterfaces files c.args.class.now)) more last none c.loop-step.invariant

pub loop-step-preserved : goal.loop-step-preserved
loop-step-preserved c =
    let files = c.args.self.now in
    let m = reference_of c.args.method in
    let class = c.loop-step.class.now in
    let found = method_in_class files any_method m in
    let more : c.loop-step._step < length (classes_of files) = subst (λ k. c.loop-step._step < k) (c.count-step-end.ensures ∙ ap (λ f. length (classes_of f)) c.self.view_is) c.loop-step-test.true in
    let next : superclass_of files class ≡ Some c.in-Some-superclass_of.next.now = sym (c.in-Some-superclass_of.ensures ∙ ap (λ f. superclass_of f class) c.self.view_is) in
    let none : None ≡ first_found found (interfaces_above files class) =
    subst (λ n. None ≡ first_found (method_in_class files any_method n) (interfaces_above files class)) c.sought-sought.ensures.member c.in_default.ensures.found in
    sym (lineage_found files (interfaces_above files) found (length (classes_of files)) c.loop-step._step class c.in-Some-superclass_of.next.now more next (sym none)) ∙ c.loop-step.invariant
