use Rattle.std.proofs.Common.{sym, ap, ◌∙◌}
use Rattle.machine.specs.Tops.{plain}
use Rattle.program_runs.specs.worlds.Worlds.{WorldOf}
use Rattle.program_runs.proofs.policies.OneTurn.{able_for_same, does_at_budget, does_for_memory, does_turn, for_same, holds_at_budget, holds_behind, holds_for_memory}
use Rattle.program_runs.proofs.worlds.Repeating.{repeated_of}
use Rattle.program_runs.proofs.worlds.world.World.turn.Goals as goal

pub invariant_of-self : goal.invariant_of-self
invariant_of-self c =
    holds_at_budget c.args.thread c.args.most _ c.self.invariant (able_for_same c.args.thread _ c.args.self.now c.self.view_is c.requires.able)
    (sym c.len-count.ensures ∙ c.if-count-self.true)

pub returns-then-count-self : goal.returns-then-count-self
returns-then-count-self c =
    for_same c.args.thread c.args.most _ c.args.self.now _ c.self.view_is
    (does_at_budget c.args.thread c.args.most _ c.self.invariant (able_for_same c.args.thread _ c.args.self.now c.self.view_is c.requires.able)
    (sym c.len-count.ensures ∙ c.if-count-self.true))

pub invariant_of-self-in_default : goal.invariant_of-self-in_default
invariant_of-self-in_default c =
    holds_for_memory c.args.thread c.args.most _ c.self.invariant (able_for_same c.args.thread _ c.args.self.now c.self.view_is c.requires.able)
    (λ e. c.if-count-self.false (c.len-count.ensures ∙ e)) c.from.result (c.from.ensures ∙ c.len-count.ensures) _ (c.self-2.view_is ∙ c.in_default.ensures.still ∙ sym c.self.view_is)

pub returns-in_default : goal.returns-in_default
returns-in_default c =
    for_same c.args.thread c.args.most _ c.args.self.now _ c.self.view_is
    (does_for_memory c.args.thread c.args.most _ c.self.invariant (able_for_same c.args.thread _ c.args.self.now c.self.view_is c.requires.able)
    (λ e. c.if-count-self.false (c.len-count.ensures ∙ e)) c.from.result (c.from.ensures ∙ c.len-count.ensures) _ (c.self-2.view_is ∙ c.in_default.ensures.still ∙ sym c.self.view_is))

pub invariant_of-self-2 : goal.invariant_of-self-2
invariant_of-self-2 c =
    holds_behind c.args.thread c.args.most c.in-Ok.done c.in-Ok.why _ _ c.self.invariant (able_for_same c.args.thread _ c.args.self.now c.self.view_is c.requires.able)
    c.requires.some (λ e. c.if-count-self.false (c.len-count.ensures ∙ e))
    (repeated_of (plain c.args.thread) c.args.most c.in-Ok.done c.in-Ok.why _ _ _ _ (ap (λ (x : WorldOf). x.end) c.self.view_is ∙ c.requires.on) c.self.view_is c.self-2.view_is c.in-Ok.ensures.done)
    c.self-2.invariant c.len.result c.len.ensures c.turn_end-self-inside.result c.turn_end-self-inside.ensures

pub returns : goal.returns
returns c =
    for_same c.args.thread c.args.most _ c.args.self.now _ c.self.view_is
    (does_turn c.args.thread c.args.most c.in-Ok.done c.in-Ok.why _ _ c.self.invariant (able_for_same c.args.thread _ c.args.self.now c.self.view_is c.requires.able)
    c.requires.some (λ e. c.if-count-self.false (c.len-count.ensures ∙ e))
    (repeated_of (plain c.args.thread) c.args.most c.in-Ok.done c.in-Ok.why _ _ _ _ (ap (λ (x : WorldOf). x.end) c.self.view_is ∙ c.requires.on) c.self.view_is c.self-2.view_is c.in-Ok.ensures.done)
    c.turn_end-self-inside.result c.len.result c.turn_end-self-inside.ensures)
