use Rattle.std.proofs.Common.{◌≡◌, Bool, true, false, not, refl, sym, ap, ◌∙◌}
use Rattle.std.specs.Prelude.{IsTrue}
use Rattle.thread_stacks.specs.Stacks.{shown_frame}
use Rattle.program_runs.specs.traced_runs.Locals.{divides_by_zero}
use Rattle.program_runs.proofs.traced_runs.locals.stands_at_local.Goals as goal

false_by : (b : Bool) → IsTrue (not b) → b ≡ false
false_by true is = absurd cc
false_by false is = refl

pub returns-then-has_local : goal.returns-then-has_local
returns-then-has_local c = λ is.
    let instruction = c.in-Some-instruction_at.instruction in
    record {
      shown = shown_frame c.in-Some.frame;
      on_top = c.in-Some.ensures;
      instruction = instruction;
      is = c.in-Some-instruction_at.ensures;
      local = sym c.if-has_local.ensures;
      divides = ap (divides_by_zero instruction) (sym c.operand.ensures) ∙ sym c.divides_by_zero-has_zero.ensures ∙ false_by c.divides_by_zero-has_zero.result is;
    }
