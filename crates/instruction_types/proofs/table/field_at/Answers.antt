use Rattle.std.proofs.Common.{false}
use Rattle.constant_pool.specs.View.{reference_of}
use Rattle.types.specs.method_code.View.{files_of}
use Rattle.types.specs.method_code.Site.{site_of}
use Rattle.instruction_types.proofs.Sites.{for_field}
use Rattle.instruction_types.proofs.table.field_at.Goals as goal

pub returns-in-Some : goal.returns-in-Some
returns-in-Some c =
    let site = site_of c.args.site.now in
    for_field (files_of c.args.site.now.method) site c.on_field.result c.args.access c.args.index (reference_of c.in-Some.field) c.requires.there c.in-Some.ensures (c.on_field.ensures site false)
