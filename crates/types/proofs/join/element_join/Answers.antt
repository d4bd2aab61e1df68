use Rattle.std.proofs.Common.{◌∙◌, sym, ap, Some, cond}
use Rattle.model.specs.Names.{java_lang_object}
use Rattle.model.specs.ReferenceTypes.{ClassType, PrimitiveArray}
use Rattle.model.specs.TypeJoin.{reference_join}
use Rattle.model.specs.Primitives.{primitive_of}
use Rattle.types.specs.View.{element_in}
use Rattle.types.proofs.Classes.{object_at}
use Rattle.types.proofs.join.element_join.Goals as goal

pub returns-else-is_same_primitive : goal.returns-else-is_same_primitive
returns-else-is_same_primitive c =
    let files = c.args.set.now in
    let other = sym c.is_same_primitive.ensures ∙ c.if-is_same_primitive.false in
    ap (λ n. Some (ClassType n)) (object_at files)
    ∙ sym
    (ap (λ e. reference_join files (element_in files e) (element_in files c.args.t)) c.in-PrimitiveArray.is
    ∙ ap (λ e. reference_join files (PrimitiveArray (primitive_of c.in-PrimitiveArray.a)) (element_in files e)) c.in-PrimitiveArray-t-2.is
    ∙ ap (λ b. Some (cond b (PrimitiveArray (primitive_of c.in-PrimitiveArray.a)) (ClassType java_lang_object))) other)
