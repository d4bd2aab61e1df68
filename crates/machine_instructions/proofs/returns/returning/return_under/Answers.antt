use Rattle.std.proofs.Common.{refl, ap, ◌∙◌}
use Rattle.thread_stacks.specs.Stacks.{moved, on_top}
use Rattle.machine_instructions.proofs.returns.returning.return_under.Goals as goal

pub returns-clause-ok : goal.returns-clause-ok
returns-clause-ok c =
    c.go_on.ensures
    ∙ ap (on_top (moved c.args.next)) c.drop_top.ensures
    ∙ c.if-gives_value.ensures.passes refl c.args.next
