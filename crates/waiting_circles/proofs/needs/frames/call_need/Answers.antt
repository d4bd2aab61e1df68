use Rattle.std.proofs.Common.{sym, ap, subst, ◌∙◌}
use Rattle.model.specs.Operands.{words}
use Rattle.search_laws.specs.Waits.{frame_need}
use Rattle.waiting_circles.specs.Needs.{IsNeed}
use Rattle.waiting_circles.proofs.needs.Framed.{none_needed, missing, abstract_enters, built_in_enters, code_enters}
use Rattle.waiting_circles.proofs.needs.frames.call_need.Goals as goal

pub returns-in_default : goal.returns-in_default
returns-in_default c = λ trees own chosen program shows chooses t world.
    absurd (missing c.methods_are_run.ensures.holds trees c.args.program.now program c.args.method c.args.object chosen chooses (sym c.in_default.ensures))

pub returns-in-Abstract : goal.returns-in-Abstract
returns-in-Abstract c = λ trees own chosen program shows chooses t world.
    ap (frame_need words trees c.args.frames t world own)
    (abstract_enters c.methods_are_run.ensures.holds trees c.args.program.now program c.args.method c.args.object chosen chooses c.in-Some.row.now (sym c.in-Some.ensures) c.in-Abstract.is)
    ∙ none_needed trees c.args.frames t world own

pub returns-in-BuiltIn : goal.returns-in-BuiltIn
returns-in-BuiltIn c = λ trees own chosen program shows chooses t world.
    ap (frame_need words trees c.args.frames t world own)
    (built_in_enters c.methods_are_run.ensures.holds trees c.args.program.now program c.args.method c.args.object chosen chooses c.in-Some.row.now (sym c.in-Some.ensures) c.in-BuiltIn.field-0 c.in-BuiltIn.is)
    ∙ none_needed trees c.args.frames t world own

pub returns-in-Code : goal.returns-in-Code
returns-in-Code c = λ trees own chosen program shows chooses t world.
    subst (IsNeed trees c.frame_need.result)
    (ap (frame_need words trees c.args.frames t world own)
    (c.entered-entered.ensures
    ∙ sym (code_enters c.methods_are_run.ensures.holds trees c.args.program.now program c.args.method c.args.object chosen chooses c.in-Some.row.now (sym c.in-Some.ensures) c.in-Code.field-0 c.in-Code.is)))
    (c.frame_need.ensures trees c.args.program.now own shows t world)
