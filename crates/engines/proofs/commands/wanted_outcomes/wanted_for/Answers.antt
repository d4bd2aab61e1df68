use Rattle.std.proofs.Common.{Some, subst, sym}
use Rattle.std.proofs.lemmas.Result.{IfOk-weaker}
use Rattle.engines.specs.Goals.{IsAskedFor, IsPrinted, IsPrintedOther, IsPrintedText}
use Rattle.engines.proofs.commands.wanted_outcomes.wanted_for.Goals as goal

pub returns-in_ok-printed-in-Output-clause-asked : goal.returns-in_ok-printed-in-Output-clause-asked
returns-in_ok-printed-in-Output-clause-asked g c =
    let want = c.in_ok-printed-in-Output.field-0 in
    subst (λ goal. IsAskedFor (g.F.Folder.held c.args.folder.now) (Some goal) want) (sym c.in-Output.is)
    (subst (λ numbers. IsPrinted numbers want) c.as_slice.ensures.value c.in_ok-printed-in-Output.ensures)

pub returns-in_ok-printed_text-in-Text-clause-asked : goal.returns-in_ok-printed_text-in-Text-clause-asked
returns-in_ok-printed_text-in-Text-clause-asked g c =
    let want = c.in_ok-printed_text-in-Text.field-0 in
    subst (λ goal. IsAskedFor (g.F.Folder.held c.args.folder.now) (Some goal) want) (sym c.in-Text.is)
    (subst (λ units. IsPrintedText units want) c.as_slice-in-Text.ensures.value c.in_ok-printed_text-in-Text.ensures)

pub returns-in-Differs-clause-asked : goal.returns-in-Differs-clause-asked
returns-in-Differs-clause-asked g c =
    let held = g.F.Folder.held c.args.folder.now in
    IfOk-weaker c.printed_other.result _ _
    (λ want other. subst (λ goal. IsAskedFor held (Some goal) want) (sym c.in-Differs.is) (subst (λ path. IsPrintedOther held path want) c.as_str.ensures.value other))
    c.printed_other.ensures.other
