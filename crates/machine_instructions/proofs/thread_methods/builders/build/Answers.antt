use Rattle.std.proofs.Common.{◌≡◌, ◌⊎◌, inl, inr, true, refl, sym, ap, subst}
use Rattle.linked_code.specs.declared.method.BuiltInMethod.TheVariants as method
use Rattle.model.specs.declared.builder_method.BuilderMethod.{BuilderMethod}
use Rattle.model.specs.declared.builder_method.BuilderMethod.TheVariants.{AppendString, AppendInt, AppendChar, AppendBuilder}
use Rattle.machine_instructions.specs.thread_methods.Builders.{appends}
use Rattle.machine_instructions.specs.thread_methods.Called.{DoesCall}
use Rattle.machine_instructions.proofs.thread_methods.builders.build.Goals as goal

-- one of four
appended : (asked : BuilderMethod)
    → (asked ≡ AppendString) ⊎ ((asked ≡ AppendInt) ⊎ ((asked ≡ AppendChar) ⊎ (asked ≡ AppendBuilder)))
    → appends asked ≡ true
appended asked (inl e) = ap appends e
appended asked (inr (inl e)) = ap appends e
appended asked (inr (inr (inl e))) = ap appends e
appended asked (inr (inr (inr e))) = ap appends e

pub returns-in-ConstructEmpty : goal.returns-in-ConstructEmpty
returns-in-ConstructEmpty c = λ t.
    subst (λ m. DoesCall c.args.program.now (method.StringBuilderBuilds m) c.args.operands c.args.next (record { thread = t; pick = 0 }) c.construct_empty.result c.args.shared.now c.construct_empty.new.shared c.args.stack.now c.construct_empty.new.stack)
    (sym c.in-ConstructEmpty.is) (c.construct_empty.ensures c.args.program.now t refl)

pub returns-in-ConstructOfString : goal.returns-in-ConstructOfString
returns-in-ConstructOfString c = λ t.
    subst (λ m. DoesCall c.args.program.now (method.StringBuilderBuilds m) c.args.operands c.args.next (record { thread = t; pick = 0 }) c.construct_of_string.result c.args.shared.now c.construct_of_string.new.shared c.args.stack.now c.construct_of_string.new.stack)
    (sym c.in-ConstructOfString.is) (c.construct_of_string.ensures t c.args.program.now)

pub returns-in-AppendString : goal.returns-in-AppendString
returns-in-AppendString c = λ t. c.append.ensures t (appended c.args.asked c.in-AppendString.is) c.args.program.now

pub returns-in-ToString : goal.returns-in-ToString
returns-in-ToString c = λ t.
    subst (λ m. DoesCall c.args.program.now (method.StringBuilderBuilds m) c.args.operands c.args.next (record { thread = t; pick = 0 }) c.to_string.result c.args.shared.now c.args.shared.now c.args.stack.now c.to_string.new.stack)
    (sym c.in-ToString.is) (c.to_string.ensures t c.args.program.now)
