use Rattle.std.proofs.Common.{refl, sym, subst, ◌∙◌}
use Rattle.std.proofs.lemmas.Bool.{false≢true, not-true, not-false}
use Rattle.data_races.specs.EventActions.{interrupts_on}
use Rattle.table_actions.specs.tables.Told.{Tells, listed}
use Rattle.race_actions.proofs.finds.Finding.{interrupt_unready, interrupt_none, interrupt_told}
use Rattle.race_actions.proofs.finds.interrupt_of.Goals as goal

pub returns-then-not-called : goal.returns-then-not-called
returns-then-not-called c = (λ e. refl, interrupt_unready c.args.shared.now c.args.called (not-true c.args.called.is_ready c.if-not-called.true))

pub returns-in-Some : goal.returns-in-Some
returns-in-Some c = (
  λ e. absurd (false≢true (sym e ∙ not-false c.args.called.is_ready c.if-not-called.false)),
  interrupt_told c.args.shared.now c.args.called (not-false c.args.called.is_ready c.if-not-called.false) c.in-Some.method c.in-Some.is c.interrupt_on.result
      (subst (λ b. Tells c.args.shared.now.heap c.args.shared.now.threads (listed c.interrupt_on.result) (λ world. interrupts_on world c.args.called.object b)) c.built_in.ensures c.interrupt_on.ensures),
)

pub returns-in-None : goal.returns-in-None
returns-in-None c = (λ e. refl, interrupt_none c.args.shared.now c.args.called (not-false c.args.called.is_ready c.if-not-called.false) c.in-None.is)
