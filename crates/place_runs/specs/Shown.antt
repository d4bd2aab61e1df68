-- Whether the next bytecode of a thread is at a place, as a machine decides it.
use Rattle.std.specs.Prelude.{◌≡◌, ℕ, List, [], ◌∷◌, Bool, false, ◌==◌, ◌&&◌}
use Rattle.std.specs.List.{list_any}
use Rattle.model.specs.declared.event.Event.{Event}
use Rattle.model.specs.Classes.{Program}
use Rattle.linked_code.specs.declared.program.LinkedProgram.{LinkedProgram}
use Rattle.thread_stacks.specs.Stacks.{ShownEntry, Invocation, Initialisation}
use Rattle.machine_state.specs.shown_stacks.Shown.{offset_at}
use Rattle.machine.specs.Machines.{MachineOf}
use Rattle.machine.specs.schedule_runs.Done.{HasDone}
use Rattle.code_places.specs.declared.points.Point.{Point}
use Rattle.place_texts.specs.Places.{PlaceOf}
use Rattle.code_places.specs.Points.{all_points}
use Rattle.place_runs.specs.Standing.{is_at}

-- an offset of a method is among points
abbrev pub has_point : List Point → (number offset : ℕ) → Bool
has_point points number offset = list_any (λ (p : Point). p.method == number && p.offset == offset) points

-- whether the frame on top of a stack, if there is one, is at one of them
abbrev pub IsTopAt : LinkedProgram → List Point → List ShownEntry → Bool → Type 0
IsTopAt p points [] result = result ≡ false
IsTopAt p points (Invocation shown ∷ others) result = result ≡ has_point points shown.method (offset_at p shown.method shown.place)
IsTopAt p points (Initialisation number phase ∷ others) result = result ≡ false

-- whatever run of whatever files a machine has done, this says whether the next bytecode of a thread is at a place with these points
abbrev pub IsShownAt : MachineOf → (t : ℕ) → List Point → Bool → Type 0
IsShownAt m t points result =
    (files : List (List ℕ)) (trees : Program) (done : List Event) (has : HasDone m files trees done) (place : PlaceOf)
    → points ≡ all_points trees place → result ≡ is_at trees place has.run.lead.state t
