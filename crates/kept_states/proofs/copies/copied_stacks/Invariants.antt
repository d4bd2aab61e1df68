use Rattle.std.proofs.Common.{◌≡◌, take}
use Rattle.kept_states.proofs.copies.copied_stacks.Given as goal

abbrev pub invariant-stacks : goal.invariant-stacks
invariant-stacks l = l.copies.items ≡ take l.other-index l.others
