use Rattle.std.proofs.Common.{◌∙◌, ap, refl, subst}
use Rattle.engines.specs.Engines.{Reads}
use Rattle.engines.specs.Goals.{text_of_file}
use Rattle.engines.proofs.commands.wanted_outcomes.printed_other.Goals as goal

pub returns-clause-other : goal.returns-clause-other
returns-clause-other g c =
    let text = c.in_ok-text_of_file.field-0 in
    let bytes = c.in_ok-bytes.bytes.items in
    let held = g.F.Folder.held c.args.folder.now in
    let read = subst (λ left. Reads left bytes) c.source.ensures.left c.in_ok-bytes.ensures.read in
    (text, bytes, refl, read, c.in_ok-text_of_file.ensures ∙ ap text_of_file c.as_slice.ensures.value)
