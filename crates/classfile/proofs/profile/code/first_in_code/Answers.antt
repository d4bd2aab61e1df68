use Rattle.std.proofs.Common.{rules, arith, ◌≡◌, false, None, Some, length, sym}
use Rattle.model.specs.CodeParts.{begins_none, end_of_decoding}
use Rattle.model.specs.CodeConditions.{too_few_locals}
use Rattle.model.specs.InstructionStarts.{starts}
use Rattle.model.proofs.StartLaws.{length-starts}
use Rattle.classfile.specs.View.{code_of, method_of, file_of}
use Rattle.opcodes.proofs.Marked.{mark_within}
use Rattle.classfile.specs.profile.Faults.{row_of}
use Rattle.classfile.proofs.profile.First.{boundary_found, end_first, instruction_first, exception_first, code_none}
use Rattle.classfile.proofs.profile.code.first_in_code.Goals as goal

pub missing_flaw-requires-clause-here : goal.missing_flaw-requires-clause-here
missing_flaw-requires-clause-here c =
    let code = c.args.code.now.code.items in
    let within = mark_within (starts code) c.in-Some.pc c.in-Some.ensures.0 in
    omega (arith, within, length-starts code)

pub returns-in-Some : goal.returns-in-Some
returns-in-Some c =
    let file = file_of c.args.file.now in
    let method = method_of c.args.method.now in
    let code = code_of c.args.code.now in
    let enough : too_few_locals file method code ≡ false = search rules in
    rw c.at_instruction.ensures (end_first (row_of c.args.aside.now) file method code c.in-Some.pc c.missing_flaw.result enough c.in-Some.ensures c.missing_flaw.ensures)

pub returns-in-Some-first_flaw : goal.returns-in-Some-first_flaw
returns-in-Some-first_flaw c =
    let file = file_of c.args.file.now in
    let method = method_of c.args.method.now in
    let code = code_of c.args.code.now in
    let enough : too_few_locals file method code ≡ false = search rules in
    let decoded : end_of_decoding code.code ≡ None = boundary_found (begins_none code.code) code.code None c.in_default.ensures in
    rw c.at_instruction-in-Some-first_flaw.ensures
    (instruction_first (row_of c.args.aside.now) file method code c.in-Some-first_flaw.pc c.in-Some-first_flaw.flaw enough decoded c.in-Some-first_flaw.ensures)

pub returns-in-Some-first_exception : goal.returns-in-Some-first_exception
returns-in-Some-first_exception c =
    let file = file_of c.args.file.now in
    let method = method_of c.args.method.now in
    let code = code_of c.args.code.now in
    let enough : too_few_locals file method code ≡ false = search rules in
    let decoded : end_of_decoding code.code ≡ None = boundary_found (begins_none code.code) code.code None c.in_default.ensures in
    exception_first (row_of c.args.aside.now) file method code c.in-Some-first_exception.entry c.in-Some-first_exception.field enough decoded c.in_default-first_flaw.ensures c.in-Some-first_exception.ensures

pub returns : goal.returns
returns c =
    let file = file_of c.args.file.now in
    let method = method_of c.args.method.now in
    let code = code_of c.args.code.now in
    let enough : too_few_locals file method code ≡ false = search rules in
    let decoded : end_of_decoding code.code ≡ None = boundary_found (begins_none code.code) code.code None c.in_default.ensures in
    code_none (row_of c.args.aside.now) file method code enough decoded c.in_default-first_flaw.ensures c.in_default-first_exception.ensures
