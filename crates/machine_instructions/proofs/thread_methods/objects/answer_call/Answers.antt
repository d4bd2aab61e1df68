use Rattle.std.proofs.Common.{sym, subst, ⊎_elim}
use Rattle.linked_code.specs.declared.method.BuiltInMethod.TheVariants as method
use Rattle.machine_instructions.specs.thread_methods.Called.{DoesCall}
use Rattle.machine_instructions.proofs.thread_methods.objects.answer_call.Goals as goal

pub returns-in-HashCode : goal.returns-in-HashCode
returns-in-HashCode c = λ t.
    ⊎_elim
    (λ is. subst (λ m. DoesCall c.args.program.now (method.ObjectAnswers m) c.args.operands c.args.next (record { thread = t; pick = 0 }) c.give_number.result c.args.shared.now c.args.shared.now c.args.stack.now c.give_number.new.stack)
    (sym is) (c.give_number.ensures.hash c.args.shared.now t c.args.program.now))
    (λ is. subst (λ m. DoesCall c.args.program.now (method.ObjectAnswers m) c.args.operands c.args.next (record { thread = t; pick = 0 }) c.give_number.result c.args.shared.now c.args.shared.now c.args.stack.now c.give_number.new.stack)
    (sym is) (c.give_number.ensures.identity c.args.shared.now t c.args.program.now))
    c.in-HashCode.is

pub returns-in-GetClass : goal.returns-in-GetClass
returns-in-GetClass c = λ t.
    subst (λ m. DoesCall c.args.program.now (method.ObjectAnswers m) c.args.operands c.args.next (record { thread = t; pick = 0 }) c.give_class.result c.args.shared.now c.args.shared.now c.args.stack.now c.give_class.new.stack)
    (sym c.in-GetClass.is) (c.give_class.ensures t c.args.program.now)

pub returns-in-ClassName : goal.returns-in-ClassName
returns-in-ClassName c = λ t.
    subst (λ m. DoesCall c.args.program.now (method.ObjectAnswers m) c.args.operands c.args.next (record { thread = t; pick = 0 }) c.give_name.result c.args.shared.now c.give_name.new.shared c.args.stack.now c.give_name.new.stack)
    (sym c.in-ClassName.is) (c.give_name.ensures t)

pub returns-in-Described : goal.returns-in-Described
returns-in-Described c = λ t.
    subst (λ m. DoesCall c.args.program.now (method.ObjectAnswers m) c.args.operands c.args.next (record { thread = t; pick = 0 }) c.give_description.result c.args.shared.now c.give_description.new.shared c.args.stack.now c.give_description.new.stack)
    (sym c.in-Described.is) (c.give_description.ensures t)
