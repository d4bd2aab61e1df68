-- The actions of an event, up to each of their kinds in their order.
use Rattle.std.specs.Prelude.{List, ◌++◌, map}
use Rattle.model.specs.declared.event.Event.{Event}
use Rattle.model.specs.Classes.{Program}
use Rattle.model.specs.State.{World}
use Rattle.data_races.specs.Actions.{Action, Lock, Unlock, Start, FinishInitialisation}
use Rattle.data_races.specs.EventActions.{Rule, found_class, needed_class, finds_of, accesses_of, interrupts_of, owned, besides, started, clear_actions, finished_classes}

module _ (files : Program) (event : Event) (old : World) (rule : Rule) (new : World) where
  abbrev pub to_finds : List Action
  to_finds = found_class old (needed_class files event.thread rule) ++ finds_of files event old rule

  abbrev pub to_locks : List Action
  to_locks = to_finds ++ map Lock (besides (owned event.thread new) (owned event.thread old))

  abbrev pub to_accesses : List Action
  to_accesses = to_locks ++ accesses_of files event old rule

  abbrev pub to_unlocks : List Action
  to_unlocks = to_accesses ++ map Unlock (besides (owned event.thread old) (owned event.thread new))

  abbrev pub to_starts : List Action
  to_starts = to_unlocks ++ map Start (started old new)

  abbrev pub to_interrupts : List Action
  to_interrupts = to_starts ++ interrupts_of files event old rule

  abbrev pub to_clears : List Action
  to_clears = to_interrupts ++ clear_actions event.thread old new

  abbrev pub to_finished : List Action
  to_finished = to_clears ++ map FinishInitialisation (finished_classes old new)
