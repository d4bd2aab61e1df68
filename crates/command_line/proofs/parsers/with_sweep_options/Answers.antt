use Rattle.command_line.proofs.parsers.with_sweep_options.Goals as goal

pub returns : goal.returns
returns c = λ app made.
    let one = c.with_argument-command.ensures _ _ made c.seeds_argument.ensures.rule c.seeds_argument.ensures.local in
    c.with_argument.ensures _ _ one c.goal_argument.ensures.rule c.goal_argument.ensures.local
