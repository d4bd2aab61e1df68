use Rattle.std.proofs.Common.{None, Some, subst, sym}
use Rattle.place_texts.specs.Places.{Until}
use Rattle.place_runs.specs.Worlds.{DoesDeed, GoesOn}
use Rattle.place_runs.proofs.Words.{place_done, place_stops}
use Rattle.place_runs.proofs.following.follow_place.Goals as goal

pub returns-in-Some : goal.returns-in-Some
returns-in-Some c = λ place. λ are.
    subst (λ s. DoesDeed (Some s) (Until c.args.thread place) c.args.budget c.args.world.now c.go_on.new.world) (sym c.stop_of-stop.ensures)
    (place_stops c.args.thread place c.args.budget c.args.world.now c.go_on.new.world c.in-Some.why
    (subst (λ o. GoesOn o c.args.thread place c.args.budget c.args.world.now c.go_on.new.world) c.in-Some.is (c.in_ok-why.ensures place are)))

pub returns-in-None : goal.returns-in-None
returns-in-None c = λ place. λ are.
    place_done c.args.thread place c.args.budget c.args.world.now c.go_on.new.world
    (subst (λ o. GoesOn o c.args.thread place c.args.budget c.args.world.now c.go_on.new.world) c.in-None.is (c.in_ok-why.ensures place are))
