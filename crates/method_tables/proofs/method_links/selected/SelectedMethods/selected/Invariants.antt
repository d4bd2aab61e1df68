use Rattle.method_tables.proofs.method_links.Walking.{Walked}
use Rattle.method_tables.proofs.method_links.selected.SelectedMethods.selected.Given as goal

abbrev pub invariant-loop-step : goal.invariant-loop-step
invariant-loop-step l = Walked l.self l.initial.class l.method l.class l._step
