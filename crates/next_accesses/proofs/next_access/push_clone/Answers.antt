use Rattle.std.proofs.Common.{[], refl, subst}
use Rattle.std.proofs.lemmas.Result.{on_ok_weaker}
use Rattle.thread_stacks.specs.Stacks.{shown_frame}
use Rattle.next_accesses.specs.copied_variables.Copied.{TellsCopied}
use Rattle.next_accesses.specs.next_access.Called.{ClonesIf, ClonesOnTop}
use Rattle.next_accesses.proofs.next_access.Adding.{adds_as, adds_none}
use Rattle.next_accesses.proofs.next_access.push_clone.Goals as goal

pub returns-in-Some : goal.returns-in-Some
returns-in-Some c =
    let trees = c.args.tables.now.linked.now in
    let objects = c.args.heap.now.objects in
    on_ok_weaker c.push_copied.result
    (adds_as (TellsCopied trees c.args.program.now objects c.in-Some.object) (ClonesOnTop trees c.args.program.now objects (shown_frame c.args.frame.now).operands)
    c.args.found.now.items c.push_copied.new.found.items (λ told h. subst (λ o. ClonesIf trees c.args.program.now objects o told) c.in-Some.ensures h))
    c.push_copied.ensures

pub returns-in-None : goal.returns-in-None
returns-in-None c =
    let trees = c.args.tables.now.linked.now in
    adds_none (ClonesOnTop trees c.args.program.now c.args.heap.now.objects (shown_frame c.args.frame.now).operands) c.args.found.now.items
    (subst (λ o. ClonesIf trees c.args.program.now c.args.heap.now.objects o []) c.in-None.ensures refl)
