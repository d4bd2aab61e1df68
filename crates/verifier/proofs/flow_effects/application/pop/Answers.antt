use Rattle.std.proofs.Common.{◌≡◌, ◌∙◌, ◌-◌, length, map, reverse, ap, take, arith}
use Rattle.types.specs.View.{type_in}
use Rattle.verifier.proofs.flow_effects.application.pop.Goals as goal
use Rattle.instruction_types.proofs.operand_types.Lists.{under_reversed}

pub returns : goal.returns
returns c = λ files.
    let view = type_in files in
    let stack = c.args.stack.now.items in
    let pops = c.args.wants.now.pops.items in
    let under : c.saturating_sub-under.result ≡ length stack - length pops = omega arith in
    ap (λ xs. reverse (map view xs)) (c.truncate.ensures.items ∙ ap (λ n. take n stack) under) ∙ under_reversed view (length pops) stack
