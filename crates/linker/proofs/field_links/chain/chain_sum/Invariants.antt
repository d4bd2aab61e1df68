use Rattle.std.proofs.Common.{◌≡◌, ◌<◌, ◌^◌, length, ◌+◌, ◌-◌}
use Rattle.linker.specs.field_links.Chains.{chain_sum}
use Rattle.linker.proofs.field_links.chain.chain_sum.Given as goal

abbrev pub invariant-loop-step : goal.invariant-loop-step
invariant-loop-step l =
    chain_sum l.shapes (length l.shapes) l.fn.place < 2 ^ 64
    → l.sum + chain_sum l.shapes (length l.shapes - l._step) l.place ≡ chain_sum l.shapes (length l.shapes) l.fn.place
