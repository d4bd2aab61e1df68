use Rattle.std.proofs.Common.{sym}
use Rattle.std.proofs.lemmas.Result.{on_ok_weaker}
use Rattle.next_accesses.specs.next_access.Next.{TellsNext, TellsStack}
use Rattle.next_accesses.proofs.next_access.Adding.{adds_as, adds_none}
use Rattle.next_accesses.proofs.next_access.Meant.{no_stack}
use Rattle.next_accesses.proofs.next_access.push_next_accesses.Goals as goal

pub returns-in-Some : goal.returns-in-Some
returns-in-Some c =
    let trees = c.args.tables.now.linked.now in
    on_ok_weaker c.push_accesses_with.result
    (adds_as (TellsStack trees c.args.program.now c.args.shared.now c.args.thread c.in-Some.stack.now) (TellsNext trees c.args.program.now c.args.shared.now c.args.thread)
    c.args.found.now.items c.push_accesses_with.new.found.items (λ told h. h (sym c.in-Some.ensures)))
    c.push_accesses_with.ensures

pub returns-in-None : goal.returns-in-None
returns-in-None c =
    let trees = c.args.tables.now.linked.now in
    adds_none (TellsNext trees c.args.program.now c.args.shared.now c.args.thread) c.args.found.now.items
    (no_stack trees c.args.program.now c.args.shared.now c.args.thread (sym c.in-None.ensures))
