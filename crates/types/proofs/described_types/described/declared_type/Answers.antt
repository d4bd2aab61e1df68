use Rattle.std.proofs.Common.{◌∙◌, sym, ap, refl}
use Rattle.model.specs.Types.{OfType}
use Rattle.types.proofs.described_types.Arrays.{of_primitive, of_class}
use Rattle.types.proofs.described_types.described.declared_type.Goals as goal

pub returns-in-Some-clause-value : goal.returns-in-Some-clause-value
returns-in-Some-clause-value c =
    let is = of_class c.args.set.now c.args.field.dimensions _ _ _ c.in-Object.is refl in
    (ap (λ t. OfType t) (c.in-Some.ensures.value).0 ∙ sym is.0, is.1 ∙ (c.in-Some.ensures.value).1)

pub returns-in-None-clause-value : goal.returns-in-None-clause-value
returns-in-None-clause-value c = (of_class c.args.set.now c.args.field.dimensions _ _ _ c.in-Object.is refl).1 ∙ c.in-None.ensures.value

pub returns-in-Byte-clause-value : goal.returns-in-Byte-clause-value
returns-in-Byte-clause-value c = of_primitive c.args.set.now c.args.field.dimensions _ _ _ _ c.in-Byte.is refl refl (c.primitive_type.ensures.value c.args.set.now)

pub returns-in-Char-clause-value : goal.returns-in-Char-clause-value
returns-in-Char-clause-value c = of_primitive c.args.set.now c.args.field.dimensions _ _ _ _ c.in-Char.is refl refl (c.primitive_type-in-Char.ensures.value c.args.set.now)

pub returns-in-Double-clause-value : goal.returns-in-Double-clause-value
returns-in-Double-clause-value c = of_primitive c.args.set.now c.args.field.dimensions _ _ _ _ c.in-Double.is refl refl (c.primitive_type-in-Double.ensures.value c.args.set.now)

pub returns-in-Float-clause-value : goal.returns-in-Float-clause-value
returns-in-Float-clause-value c = of_primitive c.args.set.now c.args.field.dimensions _ _ _ _ c.in-Float.is refl refl (c.primitive_type-in-Float.ensures.value c.args.set.now)

pub returns-in-Int-clause-value : goal.returns-in-Int-clause-value
returns-in-Int-clause-value c = of_primitive c.args.set.now c.args.field.dimensions _ _ _ _ c.in-Int.is refl refl (c.primitive_type-in-Int.ensures.value c.args.set.now)

pub returns-in-Long-clause-value : goal.returns-in-Long-clause-value
returns-in-Long-clause-value c = of_primitive c.args.set.now c.args.field.dimensions _ _ _ _ c.in-Long.is refl refl (c.primitive_type-in-Long.ensures.value c.args.set.now)

pub returns-in-Short-clause-value : goal.returns-in-Short-clause-value
returns-in-Short-clause-value c = of_primitive c.args.set.now c.args.field.dimensions _ _ _ _ c.in-Short.is refl refl (c.primitive_type-in-Short.ensures.value c.args.set.now)

pub returns-in-Boolean-clause-value : goal.returns-in-Boolean-clause-value
returns-in-Boolean-clause-value c = of_primitive c.args.set.now c.args.field.dimensions _ _ _ _ c.in-Boolean.is refl refl (c.primitive_type-in-Boolean.ensures.value c.args.set.now)
