use Rattle.std.proofs.Common.{◌≡◌, ◌+◌, ◌-◌, ℕ, Some, None, sym, ap, arith, ◌∙◌}
use Rattle.machine_instructions.specs.thread_methods.TextWrites.{first_of}
use Rattle.machine_instructions.proofs.thread_methods.FirstStrings.{first_step}
use Rattle.machine_instructions.proofs.thread_methods.interned.first_of.Goals as goal

pub strings-init : goal.strings-init
strings-init c =
    let at : c.args.first ≡ c.args.first + 0 = omega arith in
    let all : c.args.count ≡ c.args.count - 0 = omega arith in
    λ i. first_of c.args.heap.now.objects c.args.text.now (at i) (all i)

pub strings-preserved : goal.strings-preserved
strings-preserved c =
    c.strings.invariant ∙ first_step c.args.heap.now.objects c.args.text.now c.args.first c.args.count c.strings.place None c.strings-test.true c.in_default.ensures

pub returns-in-Some : goal.returns-in-Some
returns-in-Some c =
    sym (c.strings.invariant ∙ first_step c.args.heap.now.objects c.args.text.now c.args.first c.args.count c.strings.place (Some c.in-Some.string) c.strings-test.true c.in-Some.ensures)

pub returns : goal.returns
returns c =
    let none : c.args.count - c.strings.place ≡ 0 = omega (arith, c.strings-test.false) in
    sym (c.strings.invariant ∙ ap (first_of c.args.heap.now.objects c.args.text.now (c.args.first + c.strings.place)) none)
