use Rattle.std.proofs.Common.{◌∙◌, sym, ap, Some}
use Rattle.model.specs.ReferenceTypes.{ClassType}
use Rattle.types.specs.View.{element_in, object_above_type}
use Rattle.types.proofs.Classes.{object_at}
use Rattle.types.proofs.join.object_above_element.Goals as goal

pub returns-in-PrimitiveArray : goal.returns-in-PrimitiveArray
returns-in-PrimitiveArray c =
    let files = c.args.set.now in
    ap (λ n. Some (ClassType n)) (object_at files) ∙ sym (ap (λ e. object_above_type files (element_in files e)) c.in-PrimitiveArray.is)
