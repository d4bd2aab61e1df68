use Rattle.std.proofs.Common.{◌≡◌, take}
use Rattle.kept_states.specs.States.{AreThreadsBehind}
use Rattle.kept_states.proofs.threads.read_others.Given as goal

abbrev pub invariant-others : goal.invariant-others
invariant-others l = record {
  behind : AreThreadsBehind l.parts (take l.number-index l.others) l.fn.threads.threads l.fn.stacks.items l.threads.threads l.stacks.items;
  limit : l.threads.limit ≡ l.fn.threads.limit;
}
