use Rattle.std.proofs.Common.{◌≡◌, Bool, true, sym, ap, ◌∙◌, nat_le, nat_lt}
use Rattle.std.specs.Prelude.{◌&&◌}
use Rattle.model.specs.Step.{covers, takes}
use Rattle.machine_state.specs.exception_handlers.Handlers.{type_at}
use Rattle.machine_state.proofs.exception_handlers.handlers.is_for.Goals as goal

-- src/handlers.rt:34:1
pub returns-then-covers : goal.returns-then-covers
returns-then-covers c = λ files trees linkable linked heap shows pool at entry is.
    let covered : covers c.args.offset entry ≡ true = (λ i. nat_le (sym is.start i) c.args.offset && nat_lt c.args.offset (sym is.end i)) ∙ sym c.covers.ensures ∙ c.if-covers.true in
    c.takes.ensures files trees linkable linked heap shows pool at entry is
    ∙ ap (λ (b : Bool). b && takes trees pool (type_at heap c.args.exception) entry) (sym covered)
