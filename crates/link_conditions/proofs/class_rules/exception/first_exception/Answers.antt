use Rattle.std.proofs.Common.{◌≡◌, ◌<◌, ◌≤◌, length, get_or, Option, Some, arith, ap, sym, ◌∙◌, refl}
use Rattle.std.specs.Prelude.{slice_get}
use Rattle.std.specs.Option.{option_map, option_and_then}
use Rattle.std.proofs.lemmas.Option.{slice_get-map, slice_get_read}
use Rattle.model.specs.Tree.{MethodTree}
use Rattle.classfile.specs.View.{method_of, file_of}
use Rattle.link_conditions.specs.class_rules.Finding.{first_entry_in, some_entry_in}
use Rattle.link_conditions.proofs.class_rules.Lists.{none_more}
use Rattle.link_conditions.proofs.class_rules.Found.{no_entry}
use Rattle.link_conditions.proofs.class_rules.exception.first_exception.Goals as goal
use Rattle.constant_pool.proofs.Passing.{none_of_first, none_left}

pub returns-in-Some : goal.returns-in-Some
returns-in-Some c =
    let files = c.args.set.now in
    let file = file_of c.args.file.now in
    let methods = c.args.file.now.methods.items in
    let item = c.method-item.result in
    let below : c.loop-place.place < length methods = omega (arith, c.loop-place-test.true, c.deref-method-items.ensures.len, ap length c.deref-method-items.ensures.value) in
    let is : item ≡ get_or methods c.loop-place.place item = cc (c.method-item.is, c.deref-method-items.ensures.value) in
    let at : slice_get file.methods c.loop-place.place ≡ Some (method_of item) =
    slice_get-map method_of methods c.loop-place.place ∙ ap (option_map method_of) (slice_get_read methods (length methods) c.loop-place.place item refl below is) in (
      none_of_first (some_entry_in files file) method_of methods c.loop-place.place c.loop-place.invariant,
      ap (λ (o : Option MethodTree). option_and_then (first_entry_in files file) o) at ∙ sym c.in-Some.ensures,
    )

pub loop-place-preserved : goal.loop-place-preserved
loop-place-preserved c =
    let files = c.args.set.now in
    let file = file_of c.args.file.now in
    let methods = c.args.file.now.methods.items in
    let item = c.method-item.result in
    let below : c.loop-place.place < length methods = omega (arith, c.loop-place-test.true, c.deref-method-items.ensures.len, ap length c.deref-method-items.ensures.value) in
    let is : item ≡ get_or methods c.loop-place.place item = cc (c.method-item.is, c.deref-method-items.ensures.value) in
    none_more (some_entry_in files file) method_of methods c.loop-place.place item below is (no_entry files file (method_of item) (sym c.in_default.ensures)) c.loop-place.invariant

pub returns : goal.returns
returns c =
    let files = c.args.set.now in
    let file = file_of c.args.file.now in
    let methods = c.args.file.now.methods.items in
    let all : length methods ≤ c.loop-place.place = omega (arith, c.loop-place-test.false, ap length c.deref-method-items.ensures.value) in
    none_left (some_entry_in files file) method_of methods c.loop-place.place all c.loop-place.invariant
