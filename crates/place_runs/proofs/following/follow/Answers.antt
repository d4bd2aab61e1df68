use Rattle.std.proofs.Common.{None, Some, length, subst, take, arith}
use Rattle.std.proofs.lemmas.List.{take_all}
use Rattle.place_texts.specs.Places.{deed_of}
use Rattle.place_runs.specs.Worlds.{DoesDeed}
use Rattle.place_runs.proofs.Words.{begins, one_more, stops_there, all_done}
use Rattle.place_runs.proofs.following.follow.Goals as goal

pub deeds-init : goal.deeds-init
deeds-init c = begins c.args.budget c.args.world.now c.requires.on c.requires.none

pub returns : goal.returns
returns c =
    all_done c.args.deeds.now c.args.budget c.args.world.now c.deeds.world (take c.deeds.placed-index c.args.deeds.now) (take_all c.deeds.placed-index c.args.deeds.now (omega (arith, c.deeds-test.false))) c.deeds.invariant

pub returns-in-Some : goal.returns-in-Some
returns-in-Some c =
    let word = c.placed-item.result in
    stops_there c.args.deeds.now c.args.world.now c.deeds.world c.deeds.placed-index word c.deeds-test.true c.placed-item.is c.args.budget c.deeds.invariant c.follow_deed.new.world c.in-Some.stop
    (subst (λ o. DoesDeed o (deed_of word.deed) c.args.budget c.deeds.world c.follow_deed.new.world) c.in-Some.is c.in_ok-stop.ensures)

pub deeds-preserved : goal.deeds-preserved
deeds-preserved c =
    let word = c.placed-item.result in
    one_more c.args.deeds.now c.args.world.now c.deeds.world c.deeds.placed-index word c.deeds-test.true c.placed-item.is c.args.budget c.deeds.invariant c.follow_deed.new.world
    (subst (λ o. DoesDeed o (deed_of word.deed) c.args.budget c.deeds.world c.follow_deed.new.world) c.in_default.is c.in_ok-stop.ensures)
