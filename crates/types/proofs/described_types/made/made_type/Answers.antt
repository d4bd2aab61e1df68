use Rattle.std.proofs.Common.{◌≡◌, ◌∙◌, sym, ap}
use Rattle.model.specs.ReferenceTypes.{ClassType}
use Rattle.model.specs.DescribedTypes.{arrays, made_type}
use Rattle.hierarchy.specs.Places.{name_at}
use Rattle.types.specs.View.{element_in}
use Rattle.types.proofs.described_types.Arrays.{made_arrays}
use Rattle.types.proofs.described_types.made.made_type.Goals as goal

pub returns-in-Class : goal.returns-in-Class
returns-in-Class c =
    let files = c.args.set.now in
    let n = c.args.t.dimensions in
    ap (arrays n) c.made_class.ensures ∙ sym (made_arrays files n (ClassType (name_at files c.in-Class.class))) ∙ ap (λ e. made_type files (arrays n (element_in files e))) (sym c.in-Class.is)

pub returns-in-PrimitiveArray : goal.returns-in-PrimitiveArray
returns-in-PrimitiveArray c =
    let files = c.args.set.now in
    let n = c.args.t.dimensions in
    let e = c.args.t.element in
    let same : made_type files (element_in files e) ≡ element_in files e =
    ap (λ e. made_type files (element_in files e)) c.in-PrimitiveArray.is ∙ sym (ap (element_in files) c.in-PrimitiveArray.is) in
    sym (made_arrays files n (element_in files e) ∙ ap (arrays n) same)
