use Rattle.std.proofs.Common.{◌≡◌, length}
use Rattle.std.specs.Cmp.Lexicographic.{slice_cmp}
use Rattle.search.specs.run_outcomes.Lines.{line_cmp, lines_of}
use Rattle.search.proofs.run_outcomes.lines.compare_each_line.Given as goal

abbrev pub invariant-lines : goal.invariant-lines
invariant-lines l = slice_cmp line_cmp (lines_of l.one) (lines_of l.other) ≡ slice_cmp line_cmp (lines_of l.left) (lines_of l.right)

abbrev pub decreases-lines : goal.decreases-lines
decreases-lines l = length l.left
