use Rattle.std.proofs.Common.{sym, subst, ◌∙◌}
use Rattle.std.proofs.lemmas.Option.{same_Some, none-some}
use Rattle.constant_pool.specs.View.{reference_of}
use Rattle.class_tree.specs.View.{file_of}
use Rattle.thread_stacks.specs.Stacks.{shown_frame}
use Rattle.next_accesses.specs.accessing_calls.Called.{CallsInterface}
use Rattle.next_accesses.proofs.accessing_calls.interface_in.Goals as goal

pub interface_called-requires : goal.interface_called-requires
interface_called-requires c =
    c.named-callee.ensures.interface_method c.args.tables.now.linked.now c.args.tables.now.are_named (file_of c.args.file.now) (sym c.requires) (reference_of c.in-Some.named) (sym c.in-Some.ensures)

pub returns-in-Some : goal.returns-in-Some
returns-in-Some c m at =
    subst (λ n. CallsInterface c.args.tables.now.linked.now c.args.program.now c.args.heap.now.objects (shown_frame c.args.frame.now).operands n c.interface_called.result) (same_Some (reference_of c.in-Some.named) m (c.in-Some.ensures ∙ at)) c.interface_called.ensures

pub returns-in-None : goal.returns-in-None
returns-in-None c m at = absurd (none-some m (c.in-None.ensures ∙ at))
