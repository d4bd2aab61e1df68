use Rattle.std.proofs.Common.{arith, map, subst, sym, take, vec_items}
use Rattle.std.proofs.lemmas.List.{take_all}
use Rattle.sweeps.specs.Tallies.{same_in}
use Rattle.engines.specs.OutcomeFiles.{AreFilesOf, outcomes_of}
use Rattle.engines.specs.RecordForms.{recorded_as}
use Rattle.engines.proofs.OutcomeFileLemmas.{taken_more}
use Rattle.engines.proofs.sweep_records.files_of.Goals as goal

pub loop-same-preserved : goal.loop-same-preserved
loop-same-preserved c =
    let told = recorded_as c.args.limits c.args.form (map vec_items c.args.files.now) in
    let i = c.loop-same.same-index in
    let taken = taken_more c.args.listed.now i c.same-item.result (omega (arith, c.loop-same-test.true)) c.same-item.is in
    subst (λ same. AreFilesOf told (outcomes_of same) (map vec_items c.push_file.new.made.items)) (sym taken)
    (c.in_ok-push_file.ensures (map same_in (take i c.args.listed.now)) c.loop-same.invariant)

pub returns : goal.returns
returns c =
    let told = recorded_as c.args.limits c.args.form (map vec_items c.args.files.now) in
    subst (λ listed. AreFilesOf told (outcomes_of (map same_in listed)) (map vec_items c.loop-same.made.items))
    (take_all c.loop-same.same-index c.args.listed.now (omega (arith, c.loop-same-test.false))) c.loop-same.invariant
