use Rattle.std.proofs.lemmas.List.{drop_all, drop_more}
use Rattle.traces.proofs.Pieces.{last_said, one_more}
use Rattle.traces.proofs.said.push_gathered.Goals as goal

pub loop-mark-preserved : goal.loop-mark-preserved
loop-mark-preserved c =
    let all = c.args.all in
    one_more c.args.form all.words.now all.units.now _ _ _ _ _ _ _ _ _ _ _ (drop_more all.marks.now c.loop-mark.mark-index _ c.loop-mark-test.true) c.loop-mark.invariant c.part.ensures c.in_ok-push_said.ensures
    c.part-in-loop-mark.ensures c.in_ok-push_quoted.ensures

pub returns : goal.returns
returns c =
    let all = c.args.all in
    last_said c.push_said-2.result c.args.form all.words.now all.units.now _ _ _ _ _ _ _ (drop_all c.loop-mark.mark-index all.marks.now c.loop-mark-test.false) c.loop-mark.invariant c.part-2.ensures c.push_said-2.ensures
