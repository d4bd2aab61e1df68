use Rattle.std.proofs.Common.{drop, length, ap, ◌∙◌}
use Rattle.std.specs.Prelude.{option_to_list}
use Rattle.thread_stacks.specs.Stacks.{returned}
use Rattle.machine_instructions.proofs.returns.Given.{returned_count}
use Rattle.machine_instructions.proofs.returns.Returned.{returns_alone}
use Rattle.machine_instructions.proofs.returns.returning.return_alone.Goals as goal

pub returns-in-Ok-clause-done : goal.returns-in-Ok-clause-done
returns-in-Ok-clause-done c = λ yes.
    returns_alone c.args.program.now c.args.value c.args.stack.now c.in_default.ensures c.next_place_under-next.result c.next_place_under-next.ensures c.return_to.new.self
    (c.in-Ok.ensures.ok ∙ ap (λ result. returned c.next_place_under-next.result (option_to_list result) (drop 1 c.args.stack.now)) c.result_of-returns.ensures)

pub returns-in-Ok-clause-shallower : goal.returns-in-Ok-clause-shallower
returns-in-Ok-clause-shallower c = λ yes.
    ap length c.in-Ok.ensures.ok ∙ returned_count c.args.stack.now c.next_place_under-next.result (option_to_list c.result_of-returns.result)
