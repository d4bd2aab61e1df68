use Rattle.std.proofs.Common.{sym, ap, subst, ◌∙◌}
use Rattle.model.specs.Names.{java_lang_error}
use Rattle.model.specs.ReferenceTypes.{ClassType}
use Rattle.model.specs.Types.{is_object_of}
use Rattle.machine_state.specs.exception_handlers.Handlers.{type_at}
use Rattle.machine_state.specs.exception_handlers.Errors.{class_in}
use Rattle.machine_state.proofs.exception_handlers.ErrorObjects.{IsTypeBy, type_by, only_below}
use Rattle.machine_state.proofs.exception_handlers.errors.is_error.Goals as goal

-- src/errors.rt:43:1
pub returns-in-Some : goal.returns-in-Some
returns-in-Some c = λ files trees linkable linked heap shows.
    let t = subst (λ o. IsTypeBy trees o (type_at heap c.args.exception)) (ap class_in (sym c.class_of.ensures) ∙ sym c.in-Some.ensures) (type_by trees c.args.program.now.components.items c.args.heap.now.objects heap shows c.args.exception) in
    c.is_error_class.ensures files trees linkable linked t.0 t.2
    ∙ sym (only_below files trees linkable t.0)
    ∙ ap (is_object_of trees (ClassType java_lang_error)) (sym t.1)

-- src/errors.rt:43:1
pub returns-in-None : goal.returns-in-None
returns-in-None c = λ files trees linkable linked heap shows.
    sym (subst (λ o. IsTypeBy trees o (type_at heap c.args.exception)) (ap class_in (sym c.class_of.ensures) ∙ sym c.in-None.ensures) (type_by trees c.args.program.now.components.items c.args.heap.now.objects heap shows c.args.exception))
