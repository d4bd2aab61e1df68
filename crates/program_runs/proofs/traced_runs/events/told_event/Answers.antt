use Rattle.std.proofs.Common.{◌∙◌, subst}
use Rattle.traces.specs.traced_events.Places.{IsSeenOf}
use Rattle.program_runs.proofs.traced_runs.Seen.{own_line}
use Rattle.program_runs.proofs.traced_runs.events.told_event.Goals as goal

pub returns-in_ok-push_line-in-Most-clause-told : goal.returns-in_ok-push_line-in-Most-clause-told
returns-in_ok-push_line-in-Most-clause-told c =
    let m = c.args.machine.now in
    let t = c.args.line.event.thread in
    let seen = c.look.new.self in
    let by_program = subst (λ p. IsSeenOf p c.shared.result.now t seen.frame seen.class) (c.deref.ensures ∙ c.program.ensures) c.in_ok-look.ensures in
    let by_shared = subst (λ shared. IsSeenOf m.program shared t seen.frame seen.class) c.shared.ensures.same by_program in
    λ files done has count.
    own_line c.args.line.form c.args.names.now.linked.now m files done has c.args.line.number count c.args.line.event seen.frame seen.class by_shared c.args.lines.now.text.items c.push_line.new.text.items
    c.in_ok-push_line-in-Most.ensures
