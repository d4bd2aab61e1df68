use Rattle.std.proofs.Common.{◌≡◌, ◌++◌, map, take, vec_items}
use Rattle.explanations.specs.thread_explanations.Explained.{indented}
use Rattle.explanations.proofs.thread_explanations.explain.push_indented.Given as goal

abbrev pub invariant-loop-line : goal.invariant-loop-line
invariant-loop-line l = l.text.items ≡ l.fn.text.items ++ indented (map vec_items (take l.line-index l.lines))
