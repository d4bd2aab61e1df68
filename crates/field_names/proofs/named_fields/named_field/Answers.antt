use Rattle.std.proofs.Common.{arith, refl}
use Rattle.constant_pool.specs.View.{reference_of}
use Rattle.model.specs.Lookup.{find_field}
use Rattle.run_laws.proofs.laws.Unrefused.{names_differ}
use Rattle.field_names.proofs.named_fields.Places.{class_fits, field_fits, field_told}
use Rattle.field_names.proofs.named_fields.named_field.Goals as goal

pub overflow_cast-result : goal.overflow_cast-result
overflow_cast-result c = omega (arith, class_fits c.args.hierarchy.now c.requires (reference_of c.args.field) c.in_ok-place.place c.in_ok-place.ensures.place)

pub overflow_cast-result-2 : goal.overflow_cast-result-2
overflow_cast-result-2 c = omega (arith, field_fits c.args.hierarchy.now c.requires (reference_of c.args.field) c.in_ok-place.place c.in_ok-place.ensures.place)

pub is_volatile_at-requires-clause-differ : goal.is_volatile_at-requires-clause-differ
is_volatile_at-requires-clause-differ c = rw c.set.ensures (names_differ c.args.hierarchy.now c.requires.1.no_refusal)

pub is_volatile_at-requires-clause-at : goal.is_volatile_at-requires-clause-at
is_volatile_at-requires-clause-at c = rw c.set.ensures c.in_ok-place.ensures.place

pub returns : goal.returns
returns c =
    let files = c.args.hierarchy.now in
    let m = reference_of c.args.field in
    field_told files c.requires m c.in_ok-place.place c.in_ok-place.ensures.place (find_field files m) c.in_ok-place.ensures.found _ refl refl
    (rw c.set.ensures at c.is_volatile_at.ensures)
    (rw c.set-2.ensures at c.is_variable.ensures)
