use Rattle.std.proofs.Common.{◌+◌, arith, subst}
use Rattle.alone_events.specs.Ahead.{GoesAhead}
use Rattle.search.proofs.Behind.{goes_on, none_ahead, one_alone, one_past, stays_behind}
use Rattle.search.proofs.machines.do_alone.Goals as goal

pub rounds-preserved : goal.rounds-preserved
rounds-preserved c =
    let local = goes_on c.args.event c.rounds.count c.in_ok-local.local c.args.machine.now c.rounds.machine c.do_local.new.machine c.rounds.invariant.0 c.in_ok-local.ensures.alone in
    let ahead = subst (λ a. GoesAhead a c.args.event.thread c.do_local.new.machine c.go_ahead.new.machine) c.in-Alone.is c.go_ahead.ensures in
    let most = c.rounds.invariant.1 in
    let more = c.in_ok-local.ensures.most in (
      goes_on c.args.event (c.rounds.count + c.in_ok-local.local) 1 c.args.machine.now c.do_local.new.machine c.go_ahead.new.machine local
          (one_alone c.args.event c.requires c.do_local.new.machine c.go_ahead.new.machine ahead),
      omega (arith, most, more),
    )

pub returns-in-Stays-clause-alone : goal.returns-in-Stays-clause-alone
returns-in-Stays-clause-alone c =
    let local = goes_on c.args.event c.rounds.count c.in_ok-local.local c.args.machine.now c.rounds.machine c.do_local.new.machine c.rounds.invariant.0 c.in_ok-local.ensures.alone in
    let ahead = subst (λ a. GoesAhead a c.args.event.thread c.do_local.new.machine c.go_ahead.new.machine) c.in-Stays.is c.go_ahead.ensures in
    stays_behind c.args.event c.requires (c.rounds.count + c.in_ok-local.local) c.args.machine.now c.go_ahead.new.machine c.do_local.new.machine local
    (none_ahead c.args.event c.requires c.do_local.new.machine c.go_ahead.new.machine ahead)

pub returns-in-Past-clause-alone : goal.returns-in-Past-clause-alone
returns-in-Past-clause-alone c =
    let local = goes_on c.args.event c.rounds.count c.in_ok-local.local c.args.machine.now c.rounds.machine c.do_local.new.machine c.rounds.invariant.0 c.in_ok-local.ensures.alone in
    one_past c.args.event c.requires (c.rounds.count + c.in_ok-local.local) c.args.machine.now c.go_ahead.new.machine c.do_local.new.machine local
