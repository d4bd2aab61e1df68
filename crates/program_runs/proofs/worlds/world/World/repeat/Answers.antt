use Rattle.std.proofs.Common.{◌-◌, ◌++◌, length, replicate, ap, ◌∙◌}
use Rattle.std.specs.Prelude.{min}
use Rattle.program_runs.proofs.worlds.Shared.{none_of}
use Rattle.program_runs.proofs.worlds.Repeating.{goes_on_within, has_repeated_at}
use Rattle.program_runs.proofs.worlds.world.World.repeat.Goals as goal

pub invariant_of-self-2 : goal.invariant_of-self-2
invariant_of-self-2 c =
    goes_on_within _ c.self.invariant (none_of c.self.inside.end c.is_some.result c.is_some.ensures c.if-is_some.false) c.args.event c.min.result c.repeat-done.result.0 c.repeat-done.result.1
    c.repeat-done.new.self c.repeat-done.ensures c.append.new.self.events (c.append.ensures ∙ ap (λ l. l ++ replicate c.repeat-done.result.0 c.args.event) c.reserve.ensures.same) c.args.most
    (c.min.ensures ∙ ap (λ k. min c.args.most (c.self.inside.budget - k)) (c.len.ensures ∙ ap length c.reserve.ensures.same))

pub returns-clause-done : goal.returns-clause-done
returns-clause-done c =
    has_repeated_at _ c.self.invariant (none_of c.self.inside.end c.is_some.result c.is_some.ensures c.if-is_some.false) c.args.event c.min.result c.repeat-done.result.0 c.repeat-done.result.1
    c.repeat-done.new.self c.repeat-done.ensures c.append.new.self.events (c.append.ensures ∙ ap (λ l. l ++ replicate c.repeat-done.result.0 c.args.event) c.reserve.ensures.same) c.args.most
    (c.min.ensures ∙ ap (λ k. min c.args.most (c.self.inside.budget - k)) (c.len.ensures ∙ ap length c.reserve.ensures.same)) c.args.self.now c.self.view_is
