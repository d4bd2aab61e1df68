use Rattle.std.proofs.Common.{refl, sym, ◌∙◌, arith}
use Rattle.machine.specs.Tops.{plain}
use Rattle.program_runs.proofs.worlds.Repeating.{repeated_of}
use Rattle.program_runs.proofs.worlds.Shared.{none_of, ends_quiet, ends_by_budget, ends_for_memory, has_shared, ends_stopped, has_ended, turn_at}
use Rattle.program_runs.proofs.worlds.world.World.shared_steps.Goals as goal

pub invariant_of-self : goal.invariant_of-self
invariant_of-self c = ends_quiet c.reports_of_words.ensures.holds _ c.self.invariant c.args.from c.in_default.ensures

pub invariant_of-self-then-count-self : goal.invariant_of-self-then-count-self
invariant_of-self-then-count-self c =
    ends_by_budget c.reports_of_words.ensures.holds _ c.self.invariant c.args.from c.in-Some.thread c.in-Some.ensures (sym c.len-count.ensures ∙ c.if-count-self.true)

pub invariant_of-self-in_default-repeat : goal.invariant_of-self-in_default-repeat
invariant_of-self-in_default-repeat c =
    ends_for_memory c.reports_of_words.ensures.holds _ c.self.invariant c.args.from c.in-Some.thread c.in-Some.ensures (λ e. c.if-count-self.false (c.len-count.ensures ∙ e))
    c.from.result (c.from.ensures ∙ c.len-count.ensures) _ (c.self-2.view_is ∙ c.in_default-repeat.ensures.still ∙ sym c.self.view_is)

pub returns-then-done-gt0 : goal.returns-then-done-gt0
returns-then-done-gt0 c =
    turn_at c.args.from c.args.most _ _ c.args.self.now _ (sym c.self.view_is)
    (has_shared c.reports_of_words.ensures.holds _ c.self.invariant c.args.from c.in-Some.thread c.in-Some.ensures (λ e. c.if-count-self.false (c.len-count.ensures ∙ e))
    c.len-count.result c.len-count.ensures (none_of c.self.inside.end c.is_some.result c.is_some.ensures c.if-is_some.false) c.args.most c.in-Ok.done c.requires c.in-Ok.why _
    (repeated_of (plain c.in-Some.thread) c.args.most c.in-Ok.done c.in-Ok.why _ _ _ _ (none_of c.self.inside.end c.is_some.result c.is_some.ensures c.if-is_some.false) c.self.view_is refl c.in-Ok.ensures.done) c.if-done-gt0.true)

pub invariant_of-self-2 : goal.invariant_of-self-2
invariant_of-self-2 c =
    ends_stopped c.reports_of_words.ensures.holds _ c.self.invariant c.args.from c.in-Some.thread c.in-Some.ensures (λ e. c.if-count-self.false (c.len-count.ensures ∙ e))
    c.len-count.result c.len-count.ensures (none_of c.self.inside.end c.is_some.result c.is_some.ensures c.if-is_some.false) c.args.most c.in-Ok.done c.requires c.in-Ok.why _
    (repeated_of (plain c.in-Some.thread) c.args.most c.in-Ok.done c.in-Ok.why _ _ _ _ (none_of c.self.inside.end c.is_some.result c.is_some.ensures c.if-is_some.false) c.self.view_is c.self-2.view_is c.in-Ok.ensures.done) (omega (arith, c.if-done-gt0.false)) c.stopped-self-inside.result c.stopped-self-inside.ensures

pub returns : goal.returns
returns c =
    turn_at c.args.from c.args.most _ _ c.args.self.now _ (sym c.self.view_is)
    (has_ended c.reports_of_words.ensures.holds _ c.self.invariant c.args.from c.in-Some.thread c.in-Some.ensures (λ e. c.if-count-self.false (c.len-count.ensures ∙ e))
    c.len-count.result c.len-count.ensures (none_of c.self.inside.end c.is_some.result c.is_some.ensures c.if-is_some.false) c.args.most c.in-Ok.done c.requires c.in-Ok.why _
    (repeated_of (plain c.in-Some.thread) c.args.most c.in-Ok.done c.in-Ok.why _ _ _ _ (none_of c.self.inside.end c.is_some.result c.is_some.ensures c.if-is_some.false) c.self.view_is c.self-2.view_is c.in-Ok.ensures.done) (omega (arith, c.if-done-gt0.false)) c.stopped-self-inside.result c.stopped-self-inside.ensures)
