use Rattle.std.proofs.Common.{◌≡◌, ◌++◌, drop}
use Rattle.traces.specs.Pieces.{gathered, gathered_from, pieces_in}
use Rattle.traces.proofs.said.push_gathered.Given as goal

abbrev pub invariant-loop-mark : goal.invariant-loop-mark
invariant-loop-mark l =
    l.text.items ++ pieces_in l.form (gathered_from l.all.words.now l.all.units.now l.from l.first (drop l.mark-index l.all.marks.now))
    ≡ l.fn.text.items ++ pieces_in l.form (gathered l.all.words.now l.all.units.now l.all.marks.now)
