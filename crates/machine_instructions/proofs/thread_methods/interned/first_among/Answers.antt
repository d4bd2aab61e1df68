use Rattle.std.proofs.Common.{◌≡◌, ◌+◌, ◌-◌, ℕ, Some, None, sym, ap, arith, ◌∙◌}
use Rattle.std.proofs.lemmas.List.{drop_all}
use Rattle.machine_instructions.specs.thread_methods.TextWrites.{first_among}
use Rattle.machine_instructions.proofs.thread_methods.FirstStrings.{among_step}
use Rattle.machine_instructions.proofs.thread_methods.interned.first_among.Goals as goal

pub strings-preserved : goal.strings-preserved
strings-preserved c =
    c.strings.invariant ∙ among_step c.args.heap.now.objects c.args.text.now c.args.strings.now c.strings.string-index None c.strings-test.true c.in_default.ensures

pub returns-in-Some : goal.returns-in-Some
returns-in-Some c =
    sym (c.strings.invariant ∙ among_step c.args.heap.now.objects c.args.text.now c.args.strings.now c.strings.string-index (Some c.in-Some.found) c.strings-test.true c.in-Some.ensures)

pub returns : goal.returns
returns c =
    sym (c.strings.invariant ∙ ap (first_among c.args.heap.now.objects c.args.text.now) (drop_all c.strings.string-index c.args.strings.now c.strings-test.false))
