use Rattle.std.proofs.Common.{◌∷◌, Option, Some, sym, ap, subst, ◌∙◌}
use Rattle.model.specs.Names.{Name}
use Rattle.model.specs.Operands.{words}
use Rattle.model.specs.State.{Invocation}
use Rattle.model.specs.Step.{ops_of}
use Rattle.linked_code.specs.Linked.{offset_in}
use Rattle.search_laws.specs.Waits.{class_need, instruction_need}
use Rattle.waiting_circles.specs.declared.needs.kinds.Need.TheVariants as the
use Rattle.waiting_circles.specs.Needs.{IsNeed, outcome_at}
use Rattle.waiting_circles.proofs.needs.Classes.{ready_anyway, ready_class, held_class, new_class, failed_class}
use Rattle.waiting_circles.proofs.needs.instructions.instruction_need.Goals as goal

pub returns-in_default : goal.returns-in_default
returns-in_default c = λ trees bounds inflated state frame rest code site meaning is.
    let t = c.args.thread in
    let next = instruction_need words trees c.args.frames t state.world (Invocation frame ∷ rest) site.instr (ops_of words meaning frame.place.slots) (outcome_at t state.world frame meaning) in
    let needs = c.in_default.ensures trees c.args.program.now (offset_in code.starts.items) code.instructions.items site is.shown.place meaning is.stands.linked is.stands.at.means in
    subst (IsNeed trees c.ready_need.result) (sym (ready_anyway trees c.args.frames t state.world next meaning.looks (needs t state.world)))
    (c.ready_need.ensures trees bounds inflated t state frame rest code site meaning is)

pub returns-in-Ready : goal.returns-in-Ready
returns-in-Ready c = λ trees bounds inflated state frame rest code site meaning is.
    let t = c.args.thread in
    let next = instruction_need words trees c.args.frames t state.world (Invocation frame ∷ rest) site.instr (ops_of words meaning frame.place.slots) (outcome_at t state.world frame meaning) in
    let needs = c.in-Some.ensures trees c.args.program.now (offset_in code.starts.items) code.instructions.items site is.shown.place meaning is.stands.linked is.stands.at.means in
    let look = c.in-Ready.ensures trees c.args.program.now bounds state.world is.program is.lent.represents needs.0 needs.2 in
    subst (IsNeed trees c.ready_need-in-Ready.result)
    (sym (ap (λ (o : Option Name). class_need words trees c.args.frames t state.world o next) needs.1 ∙ ready_class trees c.args.frames t state.world next needs.0 look))
    (c.ready_need-in-Ready.ensures trees bounds inflated t state frame rest code site meaning is)

pub returns-in-Held : goal.returns-in-Held
returns-in-Held c = λ trees bounds inflated state frame rest code site meaning is.
    let t = c.args.thread in
    let next = instruction_need words trees c.args.frames t state.world (Invocation frame ∷ rest) site.instr (ops_of words meaning frame.place.slots) (outcome_at t state.world frame meaning) in
    let needs = c.in-Some.ensures trees c.args.program.now (offset_in code.starts.items) code.instructions.items site is.shown.place meaning is.stands.linked is.stands.at.means in
    let look = c.in-Held.ensures trees c.args.program.now bounds state.world is.program is.lent.represents needs.0 needs.2 in
    subst (λ (o : Option Name). IsNeed trees (Some (the.Class c.in-Some.class)) (class_need words trees c.args.frames t state.world o next)) (sym needs.1)
    (held_class trees c.args.frames t state.world next needs.0 c.in-Some.class needs.2 look)

pub returns-in-New : goal.returns-in-New
returns-in-New c = λ trees bounds inflated state frame rest code site meaning is.
    let t = c.args.thread in
    let next = instruction_need words trees c.args.frames t state.world (Invocation frame ∷ rest) site.instr (ops_of words meaning frame.place.slots) (outcome_at t state.world frame meaning) in
    let needs = c.in-Some.ensures trees c.args.program.now (offset_in code.starts.items) code.instructions.items site is.shown.place meaning is.stands.linked is.stands.at.means in
    let look = c.in-New.ensures trees c.args.program.now bounds state.world is.program is.lent.represents needs.0 needs.2 in
    ap (λ (o : Option Name). class_need words trees c.args.frames t state.world o next) needs.1 ∙ new_class trees c.args.frames t state.world next needs.0 look

pub returns-in-Failed : goal.returns-in-Failed
returns-in-Failed c = λ trees bounds inflated state frame rest code site meaning is.
    let t = c.args.thread in
    let next = instruction_need words trees c.args.frames t state.world (Invocation frame ∷ rest) site.instr (ops_of words meaning frame.place.slots) (outcome_at t state.world frame meaning) in
    let needs = c.in-Some.ensures trees c.args.program.now (offset_in code.starts.items) code.instructions.items site is.shown.place meaning is.stands.linked is.stands.at.means in
    let look = c.in-Failed.ensures trees c.args.program.now bounds state.world is.program is.lent.represents needs.0 needs.2 in
    ap (λ (o : Option Name). class_need words trees c.args.frames t state.world o next) needs.1 ∙ failed_class trees c.args.frames t state.world next needs.0 look
