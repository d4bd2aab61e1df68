use Rattle.std.proofs.Common.{◌≡◌, ◌+◌, ◌-◌, ◌<◌, length, arith}
use Rattle.std.proofs.lemmas.Option.{slice_get-get_or}
use Rattle.schedule.specs.declared.schedule_tree.tree.Node.{Node}
use Rattle.schedule.proofs.schedule_tree.Ways.{falls, goes_back, all_back}
use Rattle.schedule.proofs.schedule_tree.tree.backwards.Goals as goal

abbrev no_node : Node
no_node = record { parent = 0; entry = record { event = record { thread = 0; pick = 0 }; repeat = 0 } }

pub back-smaller : goal.back-smaller
back-smaller c =
    let i = c.back.at - 1 in
    let there : i < length c.args.nodes.now = omega (arith, c.back.invariant.within, c.back-test.true) in
    let before : c.back.at ≡ 1 + i = omega (arith, c.back-test.true) in
    falls c.args.nodes.now c.requires.below c.requires.fitting c.args.number c.back.at i _ (slice_get-get_or c.args.nodes.now i no_node there) before

pub back-preserved : goal.back-preserved
back-preserved c =
    let i = c.back.at - 1 in
    let there : i < length c.args.nodes.now = omega (arith, c.back.invariant.within, c.back-test.true) in
    let before : c.back.at ≡ 1 + i = omega (arith, c.back-test.true) in
    rw c.in_ok-push.ensures.items (goes_back c.args.nodes.now c.requires.below c.requires.fitting c.args.number c.back.at i _ (slice_get-get_or c.args.nodes.now i no_node there) before c.back.entries.items c.back.invariant)

pub returns : goal.returns
returns c =
    let none : c.back.at ≡ 0 = omega (arith, c.back-test.false) in
    all_back c.args.nodes.now c.args.number c.back.entries.items (rw none at c.back.invariant)
