use Rattle.std.proofs.Common.{◌∙◌, ap, false, refl}
use Rattle.model.specs.declared.instr.Instr.TheVariants as instr
use Rattle.constant_pool.specs.View.{reference_of}
use Rattle.types.specs.method_code.View.{files_of}
use Rattle.types.specs.method_code.Site.{site_of}
use Rattle.instruction_types.proofs.Sites.{for_virtual, for_special, for_static}
use Rattle.instruction_types.proofs.table.invoke_at.Goals as goal

pub returns-in-Virtual : goal.returns-in-Virtual
returns-in-Virtual c =
    let site = site_of c.args.site.now in
    for_virtual (files_of c.args.site.now.method) site c.invoke_virtual.result c.args.index (reference_of c.in-Some.method) (c.requires.there ∙ ap (λ how. instr.Invoke how c.args.index) c.in-Virtual.is) c.in-Some.ensures (c.invoke_virtual.ensures site false)

pub returns-in-Special : goal.returns-in-Special
returns-in-Special c =
    let site = site_of c.args.site.now in
    for_special (files_of c.args.site.now.method) site c.invoke_special.result c.args.index (reference_of c.in-Some.method) (c.requires.there ∙ ap (λ how. instr.Invoke how c.args.index) c.in-Special.is) c.in-Some.ensures (c.invoke_special.ensures site false refl)

pub returns-in-Static : goal.returns-in-Static
returns-in-Static c =
    let site = site_of c.args.site.now in
    for_static (files_of c.args.site.now.method) site c.invoke_static.result c.args.index (reference_of c.in-Some.method) (c.requires.there ∙ ap (λ how. instr.Invoke how c.args.index) c.in-Static.is) c.in-Some.ensures (c.invoke_static.ensures site false)
