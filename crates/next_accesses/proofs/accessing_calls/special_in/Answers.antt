use Rattle.std.proofs.Common.{sym, subst, ◌∙◌}
use Rattle.std.proofs.lemmas.Option.{same_Some, none-some}
use Rattle.constant_pool.specs.View.{reference_of}
use Rattle.class_tree.specs.View.{file_of}
use Rattle.model.specs.Classes.{name_of}
use Rattle.thread_stacks.specs.Stacks.{shown_frame}
use Rattle.next_accesses.specs.accessing_calls.Called.{CallsSpecial}
use Rattle.next_accesses.proofs.accessing_calls.special_in.Goals as goal

pub special_called-requires : goal.special_called-requires
special_called-requires c =
    c.named-callee.ensures.method c.args.tables.now.linked.now c.args.tables.now.are_named (file_of c.args.file.now) (sym c.requires) (reference_of c.in-Some.named) (sym c.in-Some.ensures)

pub returns-in-Some : goal.returns-in-Some
returns-in-Some c m at =
    let current = subst (λ n. CallsSpecial c.args.tables.now.linked.now c.args.program.now (shown_frame c.args.frame.now).operands n (reference_of c.in-Some.named) c.special_called.result) c.class_name.ensures c.special_called.ensures in
    subst (λ n. CallsSpecial c.args.tables.now.linked.now c.args.program.now (shown_frame c.args.frame.now).operands (name_of (file_of c.args.file.now)) n c.special_called.result) (same_Some (reference_of c.in-Some.named) m (c.in-Some.ensures ∙ at)) current

pub returns-in-None : goal.returns-in-None
returns-in-None c m at = absurd (none-some m (c.in-None.ensures ∙ at))
