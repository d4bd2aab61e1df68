use Rattle.std.proofs.Common.{Some, None, refl, sym, ◌∙◌}
use Rattle.next_accesses.proofs.access_conditions.Ready.{store_tested}
use Rattle.next_accesses.proofs.access_conditions.may_stand_in.Goals as goal

pub returns-in-Some : goal.returns-in-Some
returns-in-Some c =
    store_tested c.args.program.now c.args.heap.now.objects c.args.array c.args.word _ (Some c.in-Some.component) (sym c.in-Some.is ∙ c.component_of.ensures) c.may_be.ensures

pub returns-in-None : goal.returns-in-None
returns-in-None c = store_tested c.args.program.now c.args.heap.now.objects c.args.array c.args.word _ None (sym c.in-None.is ∙ c.component_of.ensures) refl
