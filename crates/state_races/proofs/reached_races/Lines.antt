-- The line of a race of the state in which a machine is.
use Rattle.std.proofs.Common.{◌≡◌, ◌⊎◌, inl, inr, ℕ, List, [], ◌∷◌, ◌++◌, Option, Some, None, refl, sym, ap, subst, ◌∙◌}
use Rattle.std.proofs.lemmas.List.{append-nil}
use Rattle.std.proofs.lemmas.Option.{none-some}
use Rattle.model.specs.declared.event.Event.{Event}
use Rattle.model.specs.declared.limits.Limits.{Limits}
use Rattle.model.specs.Classes.{Program}
use Rattle.model.specs.LimitStands.{bounds_of}
use Rattle.model.specs.Run.{run}
use Rattle.data_races.specs.Races.{IsRacy}
use Rattle.machine.specs.declared.machine.Stopped.{Stopped}
use Rattle.machine.specs.declared.machine.Stopped.TheVariants as stopped
use Rattle.machine.specs.Machines.{MachineOf}
use Rattle.machine.specs.machine_replay.Shown.{IsOpened}
use Rattle.machine.specs.schedule_runs.Done.{EndsBy, GoesThrough, HasDone}
use Rattle.race_runs.specs.race_lines.Lines.{AreRaceLines, IsRaceLine}
use Rattle.run_races.specs.declared.told_races.Race.{Race}
use Rattle.run_races.specs.told_races.Adding.{AddsRace}
use Rattle.state_races.specs.next_races.Races.{TellsRaceOfState}
use Rattle.state_races.specs.reached_races.Reached.{IsReachedRaceLine, LeadsToRace, TellsLine}

-- one race alone was told
one_told : (race : Race) (told : List Race) → AddsRace race [] told → told ≡ race ∷ []
one_told race told (inl among) = absurd (none-some race among.0.at)
one_told race told (inr is) = is

pub one_line : (trees : Program) (race : Race) (old told : List Race) → old ≡ [] → AddsRace race old told → (lines : List ℕ) → AreRaceLines trees told lines
    → IsRaceLine trees race lines
one_line trees race old told none added lines are =
    let only = one_told race told (subst (λ l. AddsRace race l told) none added) in
    let one = subst (λ l. AreRaceLines trees l lines) only are in
    let same : lines ≡ one.0 = one.4 ∙ (ap (λ l. one.0 ++ l) one.3 ∙ append-nil one.0) in
    subst (IsRaceLine trees race) (sym same) one.2

pub line_told : (trees : Program) (m : MachineOf) (told : Option Race) → TellsRaceOfState trees m told → (race : Race) → told ≡ Some race → (line : List ℕ)
    → IsRaceLine trees race line → TellsLine trees m line
line_told trees m told tells race is line spelled files events state done reached racy =
    record {
      state = state;
      reached = reached;
      race = race;
      is = (subst (TellsRaceOfState trees m) is tells) files events state done reached;
      spelled = spelled;
    }

pub no_line : (trees : Program) (m : MachineOf) (told : Option Race) → TellsRaceOfState trees m told → told ≡ None → (line : List ℕ) → TellsLine trees m line
no_line trees m told tells is line files events state done reached racy = absurd ((subst (TellsRaceOfState trees m) is tells) files events state done reached racy)

-- all events were done
pub line_reached : (trees : Program) (limits : Limits) (old new : MachineOf) → IsOpened trees limits old → (events : List Event) (result : ℕ × Stopped)
    → GoesThrough result events old new → result.1 ≡ stopped.Most → LeadsToRace trees limits.frames events → (line : List ℕ) → TellsLine trees new line
    → IsReachedRaceLine trees limits.frames events line
line_reached trees limits old new opened events result goes most leads line tells =
    let gone = goes.1 opened.files trees [] opened.done in
    let none : gone.left ≡ [] = subst (λ (why : Stopped). EndsBy why trees (bounds_of new.limits) gone.done.run.lead.state gone.front gone.left) most gone.ends in
    let all : gone.front ≡ events = sym (gone.schedule_is ∙ (ap (λ l. gone.front ++ l) none ∙ append-nil gone.front)) in
    let same : new.limits ≡ limits = ap (λ (m : MachineOf). m.limits) goes.0 ∙ opened.limits_are in
    subst (λ (l : Limits). IsReachedRaceLine trees l.frames events line) same
    (tells opened.files events leads.state (subst (HasDone new opened.files trees) all gone.done)
    (subst (λ (l : Limits). run trees l.frames events ≡ Some leads.state) (sym same) leads.reached)
    (subst (λ (l : Limits). IsRacy trees l.frames leads.state) (sym same) leads.racy))
