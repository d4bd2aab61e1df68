use Rattle.std.proofs.Common.{◌∙◌, sym, Some, None, refl}
use Rattle.machine_state.proofs.type_tests.Typed.{object_tested}
use Rattle.machine_state.proofs.type_tests.objects.is_object_below.Goals as goal

pub returns-in-Some : goal.returns-in-Some
returns-in-Some c =
    object_tested c.args.program.now c.args.heap.now.objects c.args.object c.args.of _ (Some c.in-Some.kind) (sym c.in-Some.is ∙ c.class_of.ensures) c.is_kind_below.ensures

pub returns-in-None : goal.returns-in-None
returns-in-None c = object_tested c.args.program.now c.args.heap.now.objects c.args.object c.args.of _ None (sym c.in-None.is ∙ c.class_of.ensures) refl
