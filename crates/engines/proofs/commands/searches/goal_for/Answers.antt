use Rattle.std.proofs.Common.{Some, refl, subst, sym}
use Rattle.engines.specs.Goals.{IsPrinted, IsPrintedOther, IsPrintedText, IsSearchedFor}
use Rattle.search.specs.declared.kinds.Goal.TheVariants as searches
use Rattle.engines.proofs.commands.searches.goal_for.Goals as goal

pub returns-in_ok-printed-in-Output-clause-asked : goal.returns-in_ok-printed-in-Output-clause-asked
returns-in_ok-printed-in-Output-clause-asked g c =
    let want = c.in_ok-printed-in-Output.field-0 in
    subst (λ goal. IsSearchedFor (g.F.Folder.held c.args.folder.now) (Some goal) (searches.Outcome want)) (sym c.in-Output.is)
    (want, refl, subst (λ numbers. IsPrinted numbers want) c.as_slice.ensures.value c.in_ok-printed-in-Output.ensures)

pub returns-in_ok-printed_text-in-Text-clause-asked : goal.returns-in_ok-printed_text-in-Text-clause-asked
returns-in_ok-printed_text-in-Text-clause-asked g c =
    let want = c.in_ok-printed_text-in-Text.field-0 in
    subst (λ goal. IsSearchedFor (g.F.Folder.held c.args.folder.now) (Some goal) (searches.Outcome want)) (sym c.in-Text.is)
    (want, refl, subst (λ units. IsPrintedText units want) c.as_slice-in-Text.ensures.value c.in_ok-printed_text-in-Text.ensures)

pub returns-in_ok-printed_other-in-Differs-clause-asked : goal.returns-in_ok-printed_other-in-Differs-clause-asked
returns-in_ok-printed_other-in-Differs-clause-asked g c =
    let want = c.in_ok-printed_other-in-Differs.field-0 in
    let held = g.F.Folder.held c.args.folder.now in
    subst (λ goal. IsSearchedFor held (Some goal) (searches.Outcome want)) (sym c.in-Differs.is)
    (want, refl, subst (λ path. IsPrintedOther held path want) c.as_str.ensures.value c.in_ok-printed_other-in-Differs.ensures.other)
