use Rattle.std.proofs.Common.{◌≡◌, ◌∙◌, ◌<◌, ◌||◌, Bool, false, Some, None, length, sym, ap, subst}
use Rattle.std.specs.List.{list_any}
use Rattle.model.specs.Names.{Name, name_eq}
use Rattle.model.specs.Classes.{classes_of, superclass_of, interfaces_above, all_superinterfaces}
use Rattle.hierarchy.proofs.Walks.{lineage_any, lineage_last}
use Rattle.hierarchy.proofs.hierarchy.Hierarchy.implements.Goals as goal

pub loop-step-preserved : goal.loop-step-preserved
loop-step-preserved c =
    let files = c.args.self.now in
    let class = c.loop-step.class.now in
    let more : c.loop-step._step < length (classes_of files) = subst (λ k. c.loop-step._step < k) (c.count-step-end.ensures ∙ ap (λ f. length (classes_of f)) c.self.view_is) c.loop-step-test.true in
    let next : superclass_of files class ≡ Some c.in-Some.next.now = sym (c.in-Some.ensures ∙ ap (λ f. superclass_of f class) c.self.view_is) in
    sym (lineage_any files (interfaces_above files) (λ i. name_eq i c.args.interface.now) (length (classes_of files)) c.loop-step._step class c.in-Some.next.now more next (sym c.has_interface_above.ensures ∙ c.if-has_interface_above.false)) ∙ c.loop-step.invariant

pub returns-in_default : goal.returns-in_default
returns-in_default c =
    let files = c.args.self.now in
    let class = c.loop-step.class.now in
    let named : Name → Bool = λ i. name_eq i c.args.interface.now in
    let more : c.loop-step._step < length (classes_of files) = subst (λ k. c.loop-step._step < k) (c.count-step-end.ensures ∙ ap (λ f. length (classes_of f)) c.self.view_is) c.loop-step-test.true in
    let last : superclass_of files class ≡ None = sym (c.in_default.ensures ∙ ap (λ f. superclass_of f class) c.self.view_is) in
    let none : list_any named (interfaces_above files class) ≡ false = sym c.has_interface_above.ensures ∙ c.if-has_interface_above.false in
    let above : list_any named (all_superinterfaces files c.args.class.now) ≡ false = sym c.loop-step.invariant ∙ ap (list_any named) (lineage_last files (interfaces_above files) (length (classes_of files)) c.loop-step._step class more last) ∙ none in
    sym (ap (λ b. b || list_any named (all_superinterfaces files c.args.class.now)) (sym c.eq.ensures ∙ c.if-eq.false) ∙ above)
