use Rattle.std.proofs.Common.{arith, ◌≡◌, ◌+◌, ◌-◌, ◌∙◌, Some, length, take, map, sym, ap}
use Rattle.std.specs.List.{filter}
use Rattle.std.specs.Prelude.{slice_get}
use Rattle.std.proofs.lemmas.List.{length-map}
use Rattle.classfile.specs.View.{field_of, file_of}
use Rattle.model.specs.AccessFlags.{is_static_field}
use Rattle.model.specs.Classes.{classes_of}
use Rattle.model.specs.Opening.{static_fields}
use Rattle.hierarchy.proofs.Indices.{file_behind}
use Rattle.linker.proofs.class_constants.Places.{slots_more}
use Rattle.linker.proofs.class_constants.Sizes.{slots_fit}
use Rattle.linker.proofs.class_constants.slots.next_slot.Goals as goal

pub returns-then-class-lt-BUILT_IN_CLASSES : goal.returns-then-class-lt-BUILT_IN_CLASSES
returns-then-class-lt-BUILT_IN_CLASSES c =
    let files = c.args.set.now in
    let same : c.args.class - 37 ≡ (c.args.class + 1) - 37 = omega arith in
    c.requires.begins ∙ ap (λ n. length (static_fields (take n files))) same

pub slot_behind_all-requires : goal.slot_behind_all-requires
slot_behind_all-requires c =
    let file = file_of c.args.file.now in
    let count : length c.deref.result.now ≡ length file.fields = ap length c.deref.ensures.value ∙ sym (length-map c.args.file.now.fields.items field_of) in
    omega (arith, c.requires.begins, count, slots_fit c.args.set.now c.requires.linked c.args.class file c.requires.stands)

pub returns : goal.returns
returns c =
    let files = c.args.set.now in
    let file = file_of c.args.file.now in
    let number = c.args.class - 37 in
    let there : slice_get files number ≡ Some file = sym (file_behind files number) ∙ ap (slice_get (classes_of files)) (omega arith) ∙ c.requires.stands in
    let fields : length (filter is_static_field (map field_of c.deref.result.now)) ≡ length (filter is_static_field file.fields) = ap (λ l. length (filter is_static_field (map field_of l))) c.deref.ensures.value in
    let next : (c.args.class + 1) - 37 ≡ number + 1 = omega arith in
    omega (arith, c.slot_behind_all.ensures, c.requires.begins, fields, slots_more files number file there, ap (λ n. length (static_fields (take n files))) next)
