use Rattle.std.proofs.Common.{Some, ◌||◌, false, subst}
use Rattle.std.specs.List.{list_any}
use Rattle.model.specs.Classes.{Program}
use Rattle.model.specs.DescriptorParts.{classes_named}
use Rattle.model.specs.DescribedTypes.{type_named}
use Rattle.model.specs.Resolution.{is_missing}
use Rattle.model.specs.Operands.{values}
use Rattle.model.specs.Objects.{check_cast_meaning}
use Rattle.types.specs.method_code.View.{files_of}
use Rattle.types.specs.method_code.Site.{site_of}
use Rattle.instruction_types.specs.Answers.{Answers, is_no_type}
use Rattle.instruction_types.proofs.Sites.{for_cast}
use Rattle.instruction_types.proofs.table.check_cast_at.Goals as goal

pub returns-in-Some : goal.returns-in-Some
returns-in-Some c =
    let site = site_of c.args.site.now in
    let name = c.in-Some.name.now in
    for_cast (files_of c.args.site.now.method) site c.check_cast.result c.args.index name c.requires.there c.in-Some.ensures
    (subst (λ (p : Program). Answers p site (list_any (is_missing p) (classes_named name) || (false || is_no_type name)) (Some (check_cast_meaning values p site (type_named name))) c.check_cast.result) c.set.ensures (c.check_cast.ensures site false))
