use Rattle.std.proofs.Common.{subst, Bool}
use Rattle.model.specs.Classes.{Program}
use Rattle.model.specs.Operands.{values}
use Rattle.model.specs.Objects.{new_named}
use Rattle.types.specs.method_code.View.{files_of}
use Rattle.types.specs.method_code.Site.{site_of}
use Rattle.instruction_types.specs.Answers.{Answers}
use Rattle.instruction_types.proofs.Sites.{for_new}
use Rattle.instruction_types.proofs.table.new_at.Goals as goal

pub returns-in-Some : goal.returns-in-Some
returns-in-Some c =
    let site = site_of c.args.site.now in
    for_new (files_of c.args.site.now.method) site c.new_object.result c.args.index c.in-Some.name.now c.requires.there c.in-Some.ensures
    (λ (refused : Bool). subst (λ (p : Program). Answers p site refused (new_named values p site c.in-Some.name.now) c.new_object.result) c.set.ensures (c.new_object.ensures site refused))
