use Rattle.std.proofs.Common.{arith, ◌≤◌, length, ap}
use Rattle.classfile.specs.View.{field_of, file_of}
use Rattle.link_conditions.specs.resolution.Unresolved.{field_stands}
use Rattle.link_conditions.proofs.resolution.class.first_field.Goals as goal
use Rattle.constant_pool.proofs.Passing.{none_left}

pub returns : goal.returns
returns c =
    let fields = c.args.file.now.fields.items in
    let all : length fields ≤ c.loop-place.place = omega (arith, c.loop-place-test.false, ap length c.deref-field-items.ensures.value) in
    none_left (field_stands c.args.set.now (file_of c.args.file.now)) field_of fields c.loop-place.place all c.loop-place.invariant
