use Rattle.std.proofs.Common.{◌∙◌, ap, subst, Option}
use Rattle.classfile.specs.View.{file_of}
use Rattle.classfile.specs.declared.profile.fault.Fault.{Fault}
use Rattle.classfile.specs.profile.Faults.{row_of, Finds}
use Rattle.linker.proofs.Stages.{fault_refused}
use Rattle.linker.proofs.Telling.{fault_tells}
use Rattle.linker.proofs.profile_walk.check_file.Goals as goal

pub returns-in-Some-clause-refused : goal.returns-in-Some-clause-refused
returns-in-Some-clause-refused c =
    let r = c.in_ok-refusal_of-in-Some.field-0 in
    let h = c.in_ok-fault.ensures c.args.set.now (λ index. ap (λ l. row_of l index) c.deref.ensures.value ∙ c.in_ok-aside.ensures index) in
    let found = subst (λ (o : Option Fault). Finds c.args.set.now (file_of c.args.file.now) o) c.in-Some.is h in
    fault_refused c.args.set.now (file_of c.args.file.now) c.args.number c.in-Some.fault.flaw r.kind r.file r.cause found.1 c.in_ok-refusal_of-in-Some.ensures.told

pub returns-in-Some-clause-line : goal.returns-in-Some-clause-line
returns-in-Some-clause-line c =
    let tree = file_of c.args.file.now in
    let h = c.in_ok-fault.ensures c.args.set.now (λ index. ap (λ l. row_of l index) c.deref.ensures.value ∙ c.in_ok-aside.ensures index) in
    let found = subst (λ (o : Option Fault). Finds c.args.set.now tree o) c.in-Some.is h in
    let told = c.in_ok-refusal_of-in-Some.ensures in
    fault_tells c.args.set.now c.args.number tree c.in-Some.fault c.in_ok-refusal_of-in-Some.field-0 found told.told told.line
