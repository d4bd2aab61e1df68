use Rattle.std.proofs.Common.{arith, ◌≡◌, ◌<◌, ◌≤◌, length, get_or, ap, subst, Option}
use Rattle.classfile.specs.View.{method_of, file_of}
use Rattle.classfile.specs.declared.profile.fault.MethodFault.{MethodFault}
use Rattle.classfile.specs.profile.Faults.{row_of, whole_method_outside_profile, malformed_method_by, FindsInMethod}
use Rattle.classfile.proofs.profile.First.{method_first}
use Rattle.classfile.proofs.profile.walk.first_in_methods.Goals as goal
use Rattle.constant_pool.proofs.Passing.{none_left, none_of_first, read_at}

pub returns-in-Some : goal.returns-in-Some
returns-in-Some c =
    let aside = row_of c.args.aside.now in
    let file = file_of c.args.file.now in
    let methods = c.args.file.now.methods.items in
    let item = c.method-item.result in
    let below : c.loop-place.place < length methods = omega (arith, c.loop-place-test.true, c.deref-method-items.ensures.len, ap length c.deref-method-items.ensures.value) in
    let is : item ≡ get_or methods c.loop-place.place item = cc (c.method-item.is, c.deref-method-items.ensures.value) in
    method_first aside file c.loop-place.place (method_of item) c.in-Some.fault (read_at method_of methods c.loop-place.place item below is)
    (none_of_first (whole_method_outside_profile file) method_of methods c.loop-place.place c.loop-place.invariant.inside)
    (none_of_first (malformed_method_by aside file) method_of methods c.loop-place.place c.loop-place.invariant.formed)
    (subst (λ (o : Option MethodFault). FindsInMethod aside file (method_of item) o) c.in-Some.is c.in_ok-fault.ensures)

pub returns : goal.returns
returns c =
    let methods = c.args.file.now.methods.items in
    let all : length methods ≤ c.loop-place.place = omega (arith, c.loop-place-test.false, ap length c.deref-method-items.ensures.value) in (
      none_left (whole_method_outside_profile (file_of c.args.file.now)) method_of methods c.loop-place.place all c.loop-place.invariant.inside,
      none_left (malformed_method_by (row_of c.args.aside.now) (file_of c.args.file.now)) method_of methods c.loop-place.place all c.loop-place.invariant.formed,
    )
