use Rattle.std.proofs.Common.{◌≡◌, take}
use Rattle.std.proofs.lemmas.List.{take_all}
use Rattle.model.specs.Spelling.{entry}
use Rattle.constant_pool.specs.View.{entry_of}
use Rattle.constant_pool.specs.Lengths.{grown}
use Rattle.constant_pool.proofs.pool.length_of.Goals as goal

pub constants-preserved : goal.constants-preserved
constants-preserved c =
    rw c.saturating_add-sum.ensures (grown entry entry_of c.args.constants.now c.constants.constant-index c.constant-item.result c.constants.sum c.length.result c.constants-test.true c.constants.invariant (rw (← c.constant-item.is) c.length.ensures))

pub returns : goal.returns
returns c =
    let whole = take_all c.constants.constant-index c.args.constants.now c.constants-test.false in
    rw whole at c.constants.invariant
