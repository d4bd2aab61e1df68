use Rattle.std.proofs.Common.{Some, Bool, refl}
use Rattle.model.specs.DescribedTypes.{type_named}
use Rattle.model.specs.Operands.{values}
use Rattle.model.specs.Objects.{instance_of_meaning}
use Rattle.types.specs.method_code.View.{files_of}
use Rattle.types.specs.method_code.Site.{site_of}
use Rattle.instruction_types.proofs.Telling.{answers_told, narrowed_type}
use Rattle.instruction_types.proofs.Sites.{for_test}
use Rattle.instruction_types.proofs.table.instance_of_at.Goals as goal

pub returns-in-Some : goal.returns-in-Some
returns-in-Some c =
    let files = files_of c.args.site.now.method in
    let site = site_of c.args.site.now in
    let type = type_named c.in-Some.field-0.now in
    let M = instance_of_meaning values files site type in
    for_test files site c.instance_of.result c.args.index c.in-Some.field-0.now c.requires.there c.in-Some.ensures
    (λ (refused : Bool). answers_told files site refused (Some M) M c.instance_of.result refl (narrowed_type files site type c.instance_of.result (λ files site type. instance_of_meaning values files site type) c.instance_of.ensures.means) c.instance_of.ensures.memory)
