use Rattle.std.proofs.Common.{None, ap, subst, ◌∙◌}
use Rattle.std.proofs.lemmas.Option.{same_Some, none-some}
use Rattle.class_tree.specs.View.{file_of}
use Rattle.hierarchy.specs.Places.{class_at}
use Rattle.thread_stacks.specs.Stacks.{shown_frame}
use Rattle.next_accesses.specs.accessing_calls.Called.{CallsBy}
use Rattle.next_accesses.proofs.accessing_calls.called_in.Goals as goal

pub called_by-requires : goal.called_by-requires
called_by-requires c = c.in-Some.ensures ∙ ap (λ f. class_at f c.args.class) (c.set-set.ensures ∙ c.hierarchy.ensures.same)

pub returns-in-Some : goal.returns-in-Some
returns-in-Some c file at =
    let own = c.in-Some.ensures ∙ ap (λ f. class_at f c.args.class) (c.set-set.ensures ∙ c.hierarchy.ensures.same) in
    subst (λ f. CallsBy c.args.tables.now.linked.now c.args.program.now c.args.heap.now.objects (shown_frame c.args.frame.now).operands f c.args.instruction c.called_by.result) (same_Some (file_of c.in-Some.file.now) file (own ∙ at)) c.called_by.ensures

pub returns-in-None : goal.returns-in-None
returns-in-None c file at = absurd (none-some file (c.in-None.ensures ∙ (ap (λ f. class_at f c.args.class) (c.set-set.ensures ∙ c.hierarchy.ensures.same) ∙ at)))
