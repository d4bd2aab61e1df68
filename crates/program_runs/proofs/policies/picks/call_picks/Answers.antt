use Rattle.std.proofs.Common.{◌≡◌, ◌+◌, ℕ, suc, Some, None, refl, sym, ap, subst, ◌∙◌, arith}
use Rattle.std.specs.Prelude.{if◌then◌else◌}
use Rattle.model.specs.Step.{is_enabled_by}
use Rattle.linked_code.specs.declared.method.MethodBody.TheVariants as body
use Rattle.machine_instructions.specs.called_methods.Frames.{IsPlaceBehind}
use Rattle.machine_instructions.proofs.called_methods.RunMethods.{missing, runs_body, calling, built_in_done, not_picked, event_of}
use Rattle.program_runs.proofs.policies.Unpicked.{none_below, unpicked_off}
use Rattle.program_runs.proofs.policies.picks.call_picks.Goals as goal

pub returns-in_default : goal.returns-in_default
returns-in_default c = λ trees bounds inflated state frame rest site chosen object operands frames is k.
    absurd (missing c.methods_are_run.ensures.holds trees c.args.program.now bounds inflated c.args.thread c.args.shared.now c.args.stack.now state frame rest site (record { method = c.args.method; object = object; operands = operands }) chosen is (sym c.in_default.ensures))

pub returns-in-Abstract : goal.returns-in-Abstract
returns-in-Abstract c = λ trees bounds inflated state frame rest site chosen object operands frames is k.
    let run = c.methods_are_run.ensures.holds in
    ap (λ x. is_enabled_by (event_of run trees c.args.program.now bounds inflated c.args.thread c.args.shared.now c.args.stack.now state frame rest site (record { method = c.args.method; object = object; operands = operands }) chosen is frames (suc k) x))
    (runs_body run trees c.args.program.now bounds inflated c.args.thread c.args.shared.now c.args.stack.now state frame rest site (record { method = c.args.method; object = object; operands = operands }) chosen is c.in-Some.row.now (sym c.in-Some.ensures) body.Abstract c.in-Abstract.is)
    ∙ unpicked_off c.args.thread k _

pub returns-in-BuiltIn : goal.returns-in-BuiltIn
returns-in-BuiltIn c = λ trees bounds inflated state frame rest site chosen object operands frames is k.
    let run = c.methods_are_run.ensures.holds in
    let next = is.shown.place + 1 in
    let behind = subst (λ s. IsPlaceBehind s next) (sym is.is_stack) (λ h. refl) in
    ap is_enabled_by (sym (built_in_done run trees c.args.program.now bounds inflated c.args.thread c.args.shared.now c.args.stack.now state frame rest site (record { method = c.args.method; object = object; operands = operands }) chosen is c.in-Some.row.now (sym c.in-Some.ensures) c.in-BuiltIn.built_in c.in-BuiltIn.is frames (suc k)))
    ∙ c.built_in_picks.ensures trees c.args.program.now bounds inflated state frame rest operands next site.next frames
    (calling run trees c.args.program.now bounds inflated c.args.thread c.args.shared.now c.args.stack.now state frame rest site (record { method = c.args.method; object = object; operands = operands }) chosen is c.in-Some.row.now (sym c.in-Some.ensures) c.in-BuiltIn.built_in c.in-BuiltIn.is next behind) k

pub returns-in-Code : goal.returns-in-Code
returns-in-Code c = λ trees bounds inflated state frame rest site chosen object operands frames is k.
    let run = c.methods_are_run.ensures.holds in
    ap is_enabled_by (not_picked run trees c.args.program.now bounds inflated c.args.thread c.args.shared.now c.args.stack.now state frame rest site (record { method = c.args.method; object = object; operands = operands }) chosen is c.in-Some.row.now (sym c.in-Some.ensures) c.in-Code.field-0 c.in-Code.is
    (if c.in-Some.row.now.is_synchronized then Some object else None) refl frames (suc k) (λ e. omega (arith, e)))
    ∙ sym (none_below k)
