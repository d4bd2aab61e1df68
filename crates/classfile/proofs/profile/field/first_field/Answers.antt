use Rattle.std.proofs.Common.{arith, ◌≤◌, length, ap}
use Rattle.model.specs.Profile.{field_outside_profile}
use Rattle.classfile.specs.View.{field_of, file_of}
use Rattle.classfile.proofs.profile.field.first_field.Goals as goal
use Rattle.constant_pool.proofs.Passing.{none_left, none_of_first}

pub returns-then-is_outside-clause-first : goal.returns-then-is_outside-clause-first
returns-then-is_outside-clause-first c = none_of_first (field_outside_profile (file_of c.args.file.now)) field_of c.args.file.now.fields.items c.loop-place.place c.loop-place.invariant

pub returns-clause-none : goal.returns-clause-none
returns-clause-none c =
    let all : length c.args.file.now.fields.items ≤ c.loop-place.place = omega (arith, c.loop-place-test.false, ap length c.deref-field-items.ensures.value) in
    none_left (field_outside_profile (file_of c.args.file.now)) field_of c.args.file.now.fields.items c.loop-place.place all c.loop-place.invariant
