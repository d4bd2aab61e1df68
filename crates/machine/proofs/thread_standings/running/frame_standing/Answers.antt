use Rattle.machine.proofs.thread_standings.running.frame_standing.Goals as goal

pub returns : goal.returns
returns c = λ trees bounds inflated state frame rest program lent on_top.
    let s = c.frames_stand.ensures.holds trees c.args.program.now program bounds inflated c.args.thread c.args.shared.now c.args.stack.now state frame rest lent on_top in
    c.instruction_standing.ensures trees bounds inflated state frame rest s.code s.site s.meaning s.instruction s.is
