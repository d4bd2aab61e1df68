use Rattle.std.proofs.Common.{◌-◌, ◌<◌, ◌∙◌, sym, ap, arith, Some}
use Rattle.std.specs.Prelude.{option_map}
use Rattle.model.specs.ReferenceTypes.{ClassType}
use Rattle.model.specs.DescribedTypes.{arrays}
use Rattle.types.specs.View.{element_in, array_join}
use Rattle.types.proofs.Classes.{object_at}
use Rattle.types.proofs.References.{array_of_some, array_of_none}
use Rattle.types.proofs.join.array_join.Goals as goal

pub returns-in-Some : goal.returns-in-Some
returns-in-Some c =
    let files = c.args.set.now in
    sym (ap (λ o. array_join c.args.dimensions (option_map (element_in files) o)) c.in-Some.is ∙ array_of_some files c.args.dimensions (element_in files c.in-Some.element))

pub returns-else-dimensions-eq0 : goal.returns-else-dimensions-eq0
returns-else-dimensions-eq0 c =
    let files = c.args.set.now in
    let l : 0 < c.args.dimensions = omega arith in
    ap (λ n. Some (arrays (c.args.dimensions - 1) (ClassType n))) (object_at files)
    ∙ sym (ap (λ o. array_join c.args.dimensions (option_map (element_in files) o)) c.in-None.is ∙ array_of_none files c.args.dimensions l)
