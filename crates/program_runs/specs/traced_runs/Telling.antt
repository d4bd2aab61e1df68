-- What the parts of a trace leave: lines of events that were done, some of which are still to be written (own).
use Rattle.std.specs.Prelude.{◌≡◌, ◌+◌, ◌-◌, ℕ, zero, suc, List, ◌++◌, Option, Some, true, length, replicate, take}
use Rattle.std.specs.Io.KnownBytes.{Appends}
use Rattle.model.specs.declared.event.Event.{Event}
use Rattle.model.specs.Classes.{Program}
use Rattle.model.specs.Devices.{AppendsFront}
use Rattle.model.specs.Names.{Member}
use Rattle.model.specs.Run.{run}
use Rattle.model.specs.State.{State}
use Rattle.linked_code.specs.Numbers.{IsMethodAt}
use Rattle.machine.specs.declared.machine.Stopped.{Stopped}
use Rattle.machine.specs.declared.machine.Stopped.TheVariants as stopped
use Rattle.machine.specs.Machines.{MachineOf}
use Rattle.machine.specs.schedule_runs.Done.{HasDone, GoesThrough}
use Rattle.traces.specs.declared.form.Form.{Form}
use Rattle.program_runs.specs.traced_runs.Traces.{AreLocal, IsLocalAt, Tells, TellsIf}
use Rattle.program_runs.specs.declared.traced_runs.events.Telling.{Telling}
use Rattle.program_runs.specs.declared.traced_runs.window.Window.{Window}

-- how often an event was done that was tried once
abbrev pub times : Stopped → ℕ
times stopped.Most = 1
times stopped.NotEnabled = 0
times (stopped.Refused told) = 0

-- so it is, whatever run of so many events of whatever files with these trees a machine has done
abbrev pub AfterRun : Program → MachineOf → (count : ℕ) → (List Event → Type 0) → Type 0
AfterRun trees m count P = (files : List (List ℕ)) (done : List Event) → HasDone m files trees done → length done ≡ count → P done

-- of an event that was done so often, how often it was tried
abbrev pub tried : (count : ℕ) → Stopped → ℕ
tried count why = count + (1 - times why)

-- ---- runs of local events

-- before the last one of some more events the thread stands at this offset; where there are none, before those that came before them
abbrev pub EndsAt : Program → (frames : ℕ) → (t : ℕ) → Member → (done : List Event) → Event → (count : ℕ) → (from to : ℕ) → Type 0
EndsAt trees frames t method done event zero from to = to ≡ from
EndsAt trees frames t method done event (suc count) from to = IsLocalAt trees frames (done ++ replicate count event) t method to

-- an event was done again and again, each time a local one of this method, that is to be told
pub record HasRunOn (trees : Program) (frames : ℕ) (window : Window) (method : Member) (done : List Event) (event : Event) (count from to : ℕ) : Type 0 where
  pub local : AreLocal trees frames window event.thread method done (replicate count event)
  pub ends : EndsAt trees frames event.thread method done event count from to

-- so it is in the method with a number, after whatever run
abbrev pub RunsOn : Program → Window → MachineOf → (number : ℕ) → (method : ℕ) → Event → (count from to : ℕ) → Type 0
RunsOn trees window m number method event count from to =
    (own : Member) → IsMethodAt trees method own → AfterRun trees m number (λ done. HasRunOn trees m.limits.frames window own done event count from to)

-- ---- lines that are gathered

-- the line of the next event stands behind a text now, if that was done
abbrev pub AddsOne : Stopped → Form → Program → (frames : ℕ) → (old new : List ℕ) → (done : List Event) → Event → Type 0
AddsOne stopped.Most form trees frames old new done event = (line : List ℕ) × (new ≡ old ++ line) × TellsIf true form trees frames done event line
AddsOne stopped.NotEnabled form trees frames old new done event = new ≡ old
AddsOne (stopped.Refused told) form trees frames old new done event = new ≡ old

-- of what was gathered and a text behind it, a front is written, and the rest is gathered now
abbrev pub Gathers : (old new : Option (List ℕ)) → (before now text : List ℕ) → Type 0
Gathers old new before now text = (written : List ℕ) × Appends old new written × (before ++ text ≡ written ++ now)

-- so it is of the lines of the next events
abbrev pub AreTold : Program → (frames : ℕ) → Window → (done events : List Event) → (old new : Option (List ℕ)) → (before now : List ℕ)
    → Type 0
AreTold trees frames window done events old new before now = (text : List ℕ) × Tells trees frames window done events text × Gathers old new before now text

-- so many events of a schedule were done, as far as it goes, and their lines are gathered
pub record HasTold (trees : Program) (window : Window) (m : MachineOf) (count : ℕ) (schedule : List Event) (n : ℕ) (why : Stopped)
    (after : MachineOf) (old new : Option (List ℕ)) (before now : List ℕ) : Type 0 where
  pub goes : GoesThrough (n, why) schedule m after
  pub told : AfterRun trees m count (λ done. AreTold trees m.limits.frames window done (take n schedule) old new before now)

-- by the names and the window of a telling
abbrev pub HasToldBy : Telling → MachineOf → (count : ℕ) → (schedule : List Event) → (n : ℕ) → Stopped → (after : MachineOf)
    → (old new : Option (List ℕ)) → (before now : List ℕ) → Type 0
HasToldBy telling m count schedule n why after old new before now =
    HasTold telling.names.now.linked.now telling.window m count schedule n why after old new before now

-- ---- before an error

-- a front of the next events was done, and of what was gathered and their lines a front is written
pub record AreCutShort (trees : Program) (frames : ℕ) (window : Window) (done events : List Event) (old new : Option (List ℕ))
    (before : List ℕ) : Type 0 where
  pub front : List Event
  pub left : List Event
  pub events_are : events ≡ front ++ left
  pub state : State
  pub reached : run trees frames (done ++ front) ≡ Some state
  pub text : List ℕ
  pub told : Tells trees frames window done front text
  pub written : AppendsFront old new (before ++ text)

abbrev pub StopsShort : Program → Window → MachineOf → (count : ℕ) → (schedule : List Event) → (old new : Option (List ℕ))
    → (before : List ℕ) → Type 0
StopsShort trees window m count schedule old new before = AfterRun trees m count (λ done. AreCutShort trees m.limits.frames window done schedule old new before)

-- by the names and the window of a telling
abbrev pub StopsShortBy : Telling → MachineOf → (count : ℕ) → (schedule : List Event) → (old new : Option (List ℕ))
    → (before : List ℕ) → Type 0
StopsShortBy telling m count schedule old new before =
    StopsShort telling.names.now.linked.now telling.window m count schedule old new before
