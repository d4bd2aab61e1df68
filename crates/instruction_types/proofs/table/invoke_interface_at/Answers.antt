use Rattle.std.proofs.Common.{false}
use Rattle.constant_pool.specs.View.{reference_of}
use Rattle.types.specs.method_code.View.{files_of}
use Rattle.types.specs.method_code.Site.{site_of}
use Rattle.instruction_types.proofs.Sites.{for_interface}
use Rattle.instruction_types.proofs.table.invoke_interface_at.Goals as goal

pub returns-in-Some : goal.returns-in-Some
returns-in-Some c = λ count last is.
    let site = site_of c.args.site.now in
    for_interface (files_of c.args.site.now.method) site c.invoke_interface.result c.args.index count last (reference_of c.in-Some.method) is c.in-Some.ensures (c.invoke_interface.ensures site false)
