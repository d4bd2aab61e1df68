use Rattle.std.proofs.Common.{arith, ◌≤◌, length, ap}
use Rattle.classfile.specs.View.{method_of, file_of}
use Rattle.link_conditions.specs.resolution.Unresolved.{is_method_unresolved}
use Rattle.link_conditions.proofs.resolution.walk.first_in_methods.Goals as goal
use Rattle.constant_pool.proofs.Passing.{none_left}

pub returns : goal.returns
returns c =
    let methods = c.args.file.now.methods.items in
    let all : length methods ≤ c.loop-place.place = omega (arith, c.loop-place-test.false, ap length c.deref-method-items.ensures.value) in
    none_left (is_method_unresolved c.args.hierarchy.now (file_of c.args.file.now)) method_of methods c.loop-place.place all c.loop-place.invariant
