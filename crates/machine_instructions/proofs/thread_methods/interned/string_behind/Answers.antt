use Rattle.std.proofs.Common.{◌≡◌, ◌<◌, ◌≤◌, ◌+◌, ◌^◌, ℕ, length, sym, ap, arith, ◌∙◌}
use Rattle.machine_instructions.specs.thread_methods.TextWrites.{string_if}
use Rattle.machine_instructions.proofs.thread_methods.FirstStrings.{string_past}
use Rattle.machine_instructions.proofs.thread_methods.interned.string_behind.Goals as goal

pub returns-then-object-len : goal.returns-then-object-len
returns-then-object-len c =
    sym (string_past c.args.heap.now.objects c.args.text.now (c.args.first + c.args.place) (omega (arith, c.saturating_add-object.ensures, c.len.ensures.objects, c.if-object-len.true)))

pub returns : goal.returns
returns c =
    let at : c.saturating_add-object.result ≡ c.args.first + c.args.place = omega (arith, c.saturating_add-object.ensures, c.if-object-len.false) in
    c.string_of.ensures ∙ ap (string_if c.args.heap.now.objects c.args.text.now) at
