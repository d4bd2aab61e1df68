use Rattle.std.proofs.Common.{subst, sym, Option, ℕ}
use Rattle.model.specs.Meaning.{ended_by}
use Rattle.machine_threads.specs.declared.waiting_instructions.kinds.Standing.TheVariants as standing
use Rattle.machine_threads.specs.waiting_instructions.Waits.{IsEnd}
use Rattle.machine.proofs.thread_standings.Statuses.{threw, none_thrown}
use Rattle.machine.proofs.thread_standings.threads.ended_standing.Goals as goal

pub returns-in-Some-class_of : goal.returns-in-Some-class_of
returns-in-Some-class_of c = λ trees components world shows throwable.
    subst (λ (o : Option ℕ). IsEnd trees (standing.Threw c.class_of_kind.result) (ended_by world o)) (sym c.in-Some.is)
    (threw trees components c.args.heap.now.objects world shows c.in-Some.object (throwable c.in-Some.object c.in-Some.is) c.in-Some-class_of.kind c.in-Some-class_of.ensures c.class_of_kind.result c.class_of_kind.ensures)

pub returns-in-None-class_of : goal.returns-in-None-class_of
returns-in-None-class_of c = λ trees components world shows throwable.
    absurd (none_thrown trees components c.args.heap.now.objects world shows c.in-Some.object (throwable c.in-Some.object c.in-Some.is) c.in-None-class_of.ensures)
