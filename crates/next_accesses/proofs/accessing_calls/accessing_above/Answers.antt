use Rattle.std.proofs.Common.{None, ap, ◌∙◌}
use Rattle.hierarchy.specs.Places.{place_of}
use Rattle.next_accesses.proofs.accessing_calls.Rows.{above_told, no_class}
use Rattle.next_accesses.proofs.accessing_calls.accessing_above.Goals as goal

pub returns-in-Some : goal.returns-in-Some
returns-in-Some c =
    above_told c.args.tables.now.linked.now c.args.program.now c.args.class.now c.args.callee c.accessing_at.result c.in-Some.first c.chosen.result
    (c.in-Some.ensures.place ∙ ap (λ f. place_of f c.args.class.now) (c.set-set.ensures ∙ c.hierarchy.ensures.same)) c.chosen.ensures c.accessing_at.ensures

pub returns-in-None : goal.returns-in-None
returns-in-None c =
    no_class c.args.tables.now.linked.now c.args.program.now c.args.class.now c.args.callee None
    (c.in-None.ensures.place ∙ ap (λ f. place_of f c.args.class.now) (c.set-set.ensures ∙ c.hierarchy.ensures.same))
