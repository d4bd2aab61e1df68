-- Calls on the monitors of two objects, one after another: what they answer, and what there is after them.
use Rattle.std.specs.Prelude.{◌≡◌, List, [], ◌∷◌, Some, None}
use Rattle.model.specs.State.{Monitor}
use Rattle.model.specs.Monitors.{Answered, unlocked, enter, exit, wait, notify, relock}
use Rattle.model.specs.declared.monitor_answer.MonitorAnswer.{MonitorAnswer}
use Rattle.model.specs.declared.monitor_answer.MonitorAnswer.TheVariants.{Done, Held, NotOwner}

-- a call on the monitors of all objects
abbrev pub Call : Type 0
Call = List Monitor → Answered (List Monitor)

-- what the calls answer, each on what there is after those before it
abbrev pub answers_of : List Call → List Monitor → List MonitorAnswer
answers_of [] monitors = []
answers_of (call ∷ calls) monitors = (call monitors).answer ∷ answers_of calls (call monitors).after

abbrev pub after_calls : List Call → List Monitor → List Monitor
after_calls [] monitors = monitors
after_calls (call ∷ calls) monitors = after_calls calls (call monitors).after

-- no thread has entered the monitors of objects 0 and 1
abbrev pub two_unlocked : List Monitor
two_unlocked = unlocked ∷ unlocked ∷ []

-- The numbers of a call are those of the object and of the thread. Thread 0 enters 0, which thread 1 then cannot, and 1; it
-- waits on 0, and leaves 1. Thread 1 enters 0 and notifies; thread 0 enters 0 again once thread 1 has left it.
abbrev pub notified : List Call
notified =
    enter 0 0 ∷ enter 0 1 ∷ enter 1 0 ∷ wait 0 0 ∷ exit 1 0 ∷ enter 0 1 ∷ notify 0 1 0 ∷ relock 0 0 1 ∷ exit 0 1 ∷ relock 0 0 1 ∷ []

-- a thread enters three times, and waits
abbrev pub three_and_wait : List Call
three_and_wait = enter 0 0 ∷ enter 0 0 ∷ enter 0 0 ∷ wait 0 0 ∷ []

-- another one enters, notifies and leaves
abbrev pub notified_by_other : List Call
notified_by_other = enter 0 1 ∷ notify 0 1 0 ∷ exit 0 1 ∷ []

-- three exits, and one more
abbrev pub four_exits : List Call
four_exits = exit 0 0 ∷ exit 0 0 ∷ exit 0 0 ∷ exit 0 0 ∷ []

abbrev pub waiting : List Monitor
waiting = after_calls three_and_wait two_unlocked

-- the thread enters again as often as it had entered
abbrev pub relocked : List Monitor
relocked = after_calls (relock 0 0 3 ∷ []) (after_calls notified_by_other waiting)

pub record PlainMonitors : Type 0 where
  pub notified_answers : answers_of notified two_unlocked ≡ Done ∷ Held ∷ Done ∷ Done ∷ Done ∷ Done ∷ Done ∷ Held ∷ Done ∷ Done ∷ []
  pub notified_after : after_calls notified two_unlocked ≡ record { owner = Some 0; count = 1; waiters = [] } ∷ unlocked ∷ []
  -- JLS 17.2.1: who waits owns the monitor no more, and its count is kept
  pub waits : waiting ≡ record { owner = None; count = 0; waiters = record { thread = 0; count = 3 } ∷ [] } ∷ unlocked ∷ []
  pub other_answers : answers_of notified_by_other waiting ≡ Done ∷ Done ∷ Done ∷ []
  pub count_again : relocked ≡ record { owner = Some 0; count = 3; waiters = [] } ∷ unlocked ∷ []
  -- so it leaves three times, and then is not the owner
  pub exits : answers_of four_exits relocked ≡ Done ∷ Done ∷ Done ∷ NotOwner ∷ []
  pub unlocked_again : after_calls four_exits relocked ≡ two_unlocked
