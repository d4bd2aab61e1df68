use Rattle.std.proofs.Common.{arith, ◌∙◌, ◌++◌, ap}
use Rattle.std.specs.Option.{option_to_list}
use Rattle.model.specs.DescriptorParts.{class_of_element}
use Rattle.constant_pool.specs.declared.descriptors.field.Field.{Field}
use Rattle.constant_pool.specs.declared.descriptors.field.Element.TheVariants as elements
use Rattle.constant_pool.specs.descriptors.View.{field_of}
use Rattle.library_files.specs.Names.{named}
use Rattle.library_files.proofs.Naming.{pushed}
use Rattle.library_files.proofs.names.push_classes.Goals as goal

pub loop-field-preserved : goal.loop-field-preserved
loop-field-preserved c =
    let d : Field = record { dimensions = 0; element = elements.Byte } in
    let before = named c.loop-field.names.items in
    pushed (λ (f : Field). class_of_element (field_of f).element) (named c.args.names.now.items) before (named c.push_some.new.names.items) c.args.fields.now c.loop-field.field-index d (omega (arith, c.loop-field-test.true))
    (c.in_ok-push_some.ensures ∙ ap (λ o. before ++ option_to_list o) c.class_of.ensures) c.loop-field.invariant
