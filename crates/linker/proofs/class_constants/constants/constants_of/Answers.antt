use Rattle.std.proofs.Common.{arith, ◌≡◌, ◌∙◌, Some, length, ap, sym, refl}
use Rattle.std.specs.Prelude.{slice_get}
use Rattle.std.proofs.lemmas.Option.{slice_get_read}
use Rattle.classfile.specs.View.{field_of, file_of}
use Rattle.model.specs.AccessFlags.{is_static_field}
use Rattle.run_laws.proofs.laws.Lists.{get_map}
use Rattle.linker.specs.class_constants.Constants.{slots_before, word_in}
use Rattle.linker.proofs.class_constants.Sizes.{slots_fit, filter_take_le}
use Rattle.linker.proofs.class_constants.Pushes.{constants_more, slot_more}
use Rattle.linker.proofs.class_constants.constants.constants_of.Goals as goal

pub slot_behind-next-requires : goal.slot_behind-next-requires
slot_behind-next-requires c =
    let file = file_of c.args.file.now in
    omega (arith, c.loop-field.invariant.slot, filter_take_le is_static_field file.fields c.loop-field.field-index, slots_fit c.args.set.now c.requires.linked c.args.class file c.requires.stands)

pub loop-field-preserved : goal.loop-field-preserved
loop-field-preserved c =
    let files = c.args.set.now in
    let file = file_of c.args.file.now in
    let i = c.loop-field.field-index in
    let field = c.field-item.result in
    let read : slice_get c.deref-field-items.result.now i ≡ Some field = slice_get_read c.deref-field-items.result.now (length c.deref-field-items.result.now) i field refl c.loop-field-test.true c.field-item.is in
    let stands : slice_get c.args.file.now.fields.items i ≡ Some field = ap (λ l. slice_get l i) (sym c.loop-field.invariant.items) ∙ read in
    let here : slice_get file.fields i ≡ Some (field_of field) = get_map field_of c.args.file.now.fields.items i field stands in
    let word : c.word_of-word.result ≡ word_in files file (field_of field) = c.word_of-word.ensures in
    record {
      items = c.loop-field.invariant.items;
      slot = c.slot_behind-next.ensures ∙ slot_more (slots_before files c.args.class) c.loop-field.next file.fields i (field_of field) here c.loop-field.invariant.slot;
      constants =
          constants_more files c.requires.linked c.args.class file c.requires.stands i (field_of field) here c.loop-field.constants.items c.add_constant.new.constants.items c.loop-field.next
          c.word_of-word.result c.loop-field.invariant.slot word c.in_ok-add_constant.ensures c.loop-field.invariant.constants;
    }
