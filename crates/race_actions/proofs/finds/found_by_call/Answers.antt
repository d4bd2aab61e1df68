use Rattle.std.proofs.Common.{subst}
use Rattle.std.proofs.lemmas.Bool.{not-true, not-false}
use Rattle.data_races.specs.EventActions.{found_on}
use Rattle.table_actions.specs.tables.Told.{Tells, all_found}
use Rattle.race_actions.proofs.finds.Finding.{call_unready, call_none, call_told}
use Rattle.race_actions.proofs.finds.found_by_call.Goals as goal

pub returns-then-not-called : goal.returns-then-not-called
returns-then-not-called c = call_unready c.args.shared.now c.args.thread c.args.called (not-true c.args.called.is_ready c.if-not-called.true)

pub returns-in-Some : goal.returns-in-Some
returns-in-Some c = call_told c.args.shared.now c.args.thread c.args.called (not-false c.args.called.is_ready c.if-not-called.false) c.in-Some.method c.in-Some.is c.findings_on.result
    (subst (λ b. Tells c.args.shared.now.heap c.args.shared.now.threads (all_found c.findings_on.result) (λ world. found_on world c.args.thread c.args.called.object b)) c.built_in.ensures
    c.findings_on.ensures)

pub returns-in-None : goal.returns-in-None
returns-in-None c = call_none c.args.shared.now c.args.thread c.args.called (not-false c.args.called.is_ready c.if-not-called.false) c.in-None.is
