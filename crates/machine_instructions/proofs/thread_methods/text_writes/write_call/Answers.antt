use Rattle.std.proofs.Common.{◌<◌, ◌^◌, [], arith, refl, sym, subst}
use Rattle.std.proofs.lemmas.List.Elements.{All-nil}
use Rattle.model.specs.declared.text_method.TextMethod.{TextMethod}
use Rattle.model.specs.declared.text_method.TextMethod.TheVariants as asks
use Rattle.linked_code.specs.declared.method.BuiltInMethod.TheVariants as method
use Rattle.machine_instructions.specs.thread_methods.Called.{DoesCall}
use Rattle.machine_instructions.proofs.thread_methods.TextWriteCalls.{becomes, enough}
use Rattle.machine_instructions.proofs.thread_methods.text_writes.write_call.Goals as goal

pub returns-in-ConstructEmpty : goal.returns-in-ConstructEmpty
returns-in-ConstructEmpty c = λ t.
    subst (λ (m : TextMethod). DoesCall c.args.program.now (method.StringWrites m) c.args.operands c.args.next (record { thread = t; pick = 0 }) c.become_text.result c.args.shared.now c.become_text.new.shared c.args.stack.now c.become_text.new.stack)
    (sym c.in-ConstructEmpty.is)
    (λ trees bounds inflated state frame rest offset is frames.
    let p = c.args.program.now in
    let old = c.args.shared.now in
    let from = c.args.stack.now in
    let some = enough trees p bounds inflated t old from state frame rest asks.ConstructEmpty c.args.operands c.args.next offset is frames in
    becomes trees p bounds inflated t old from state frame rest asks.ConstructEmpty c.args.operands c.args.next offset is frames 0 [] refl c.become_text.result c.become_text.new.shared c.become_text.new.stack
    (c.become_text.ensures trees p bounds inflated t state frame rest (method.StringWrites asks.ConstructEmpty) offset is (All-nil (λ u. u < 2 ^ 16)) (omega (arith, some)) frames))

pub returns-in-ConstructOfString : goal.returns-in-ConstructOfString
returns-in-ConstructOfString c = λ t.
    subst (λ (m : TextMethod). DoesCall c.args.program.now (method.StringWrites m) c.args.operands c.args.next (record { thread = t; pick = 0 }) c.construct_of_string.result c.args.shared.now c.construct_of_string.new.shared c.args.stack.now c.construct_of_string.new.stack)
    (sym c.in-ConstructOfString.is) (c.construct_of_string.ensures t c.args.program.now)

pub returns-in-ConstructOfChars : goal.returns-in-ConstructOfChars
returns-in-ConstructOfChars c = λ t.
    subst (λ (m : TextMethod). DoesCall c.args.program.now (method.StringWrites m) c.args.operands c.args.next (record { thread = t; pick = 0 }) c.construct_of_chars.result c.args.shared.now c.construct_of_chars.new.shared c.args.stack.now c.construct_of_chars.new.stack)
    (sym c.in-ConstructOfChars.is) (c.construct_of_chars.ensures t c.args.program.now)

pub returns-in-GetChars : goal.returns-in-GetChars
returns-in-GetChars c = λ t.
    subst (λ (m : TextMethod). DoesCall c.args.program.now (method.StringWrites m) c.args.operands c.args.next (record { thread = t; pick = 0 }) c.get_chars.result c.args.shared.now c.get_chars.new.shared c.args.stack.now c.get_chars.new.stack)
    (sym c.in-GetChars.is) (c.get_chars.ensures t c.args.program.now)

pub returns-in-Intern : goal.returns-in-Intern
returns-in-Intern c = λ t.
    subst (λ (m : TextMethod). DoesCall c.args.program.now (method.StringWrites m) c.args.operands c.args.next (record { thread = t; pick = 0 }) c.intern.result c.args.shared.now c.intern.new.shared c.args.stack.now c.intern.new.stack)
    (sym c.in-Intern.is) (c.intern.ensures t)
