-- A race of next events with the places where their instructions stand.
use Rattle.std.proofs.Common.{◌≡◌, ℕ, List, ◌∷◌, Bool, true, false, Option, Some, None, refl, sym, ap, subst, ◌∙◌}
use Rattle.std.specs.Option.{option_map}
use Rattle.std.specs.Prelude.{not, ◌&&◌, ◌==◌, slice_get}
use Rattle.std.proofs.lemmas.Bool.{and_parts, eq-eqb, false≢true}
use Rattle.std.proofs.lemmas.Option.{same_Some}
use Rattle.model.specs.declared.event.Event.{Event}
use Rattle.model.specs.declared.value.Value.{Value}
use Rattle.model.specs.Classes.{Program}
use Rattle.model.specs.LimitStands.{bounds_of}
use Rattle.model.specs.Run.{run}
use Rattle.model.specs.State as model
use Rattle.model.specs.State.{StackOf, State}
use Rattle.data_races.specs.Actions as named
use Rattle.data_races.specs.Actions.{conflicts}
use Rattle.data_races.specs.EventActions.{actions_of}
use Rattle.data_races.specs.Races.{ActionOfRun, in_event}
use Rattle.data_races.specs.Variables as variables
use Rattle.linked_code.specs.declared.program.LinkedProgram.{LinkedProgram}
use Rattle.machine.specs.Machines.{MachineOf}
use Rattle.machine.specs.schedule_runs.Done.{HasDone}
use Rattle.machine_state.specs.declared.state.Shared.{Shared}
use Rattle.race_laws.proofs.racy_states.Stepping.{is_at}
use Rattle.race_places.specs.declared.run_actions.Action.{Action}
use Rattle.race_places.specs.declared.run_actions.Variable.{Variable}
use Rattle.race_places.specs.named_actions.Names.{AreApart, named_action, named_variable}
use Rattle.field_names.specs.named_fields.Fields.{names_of}
use Rattle.next_accesses.specs.declared.racy_states.Race.{Race as NextRace}
use Rattle.next_accesses.specs.racy_states.Racy.{DoesAccess, IsRaceAt, IsRaceIf, TellsRace, conflict, next_of}
use Rattle.next_accesses.proofs.racy_states.Places.{mapped_from}
use Rattle.next_accesses.proofs.racy_states.RaceAt.{alike, reached_by, told_in}
use Rattle.race_actions.specs.declared.event_actions.EventActions.{EventActions}
use Rattle.race_actions.specs.declared.looking.CodeSite.{CodeSite}
use Rattle.race_actions.specs.declared.looking.EventBefore.{EventBefore}
use Rattle.race_actions.specs.event_actions.Told.{LooksAt}
use Rattle.race_actions.specs.looking.Known.{IsSiteOf}
use Rattle.race_runs.proofs.finder.Labelled.{is_silent}
use Rattle.race_runs.specs.finder.Events.{site_of}
use Rattle.run_races.specs.declared.told_races.Race.{Race}
use Rattle.run_races.specs.named_races.Named.{access_action}
use Rattle.state_races.specs.next_races.Placed.{AreWithPlaces, IsSiteIn, TellsSite, access_at}
use Rattle.state_races.specs.next_races.Races.{IsNextAccess, IsRaceOfStateIf, TellsRaceOfState}
use Rattle.state_races.proofs.next_races.Conflicting.{Accesses, conflicting}
use Rattle.state_races.proofs.next_races.Silent.{runs}

-- ---- where a thread stands

pub site_told : (trees : Program) (m : MachineOf) (p : LinkedProgram) → p ≡ m.program → (shared : Shared) → shared ≡ m.shared → (t : ℕ) (e : EventActions)
    → LooksAt trees p shared t e → (told : Option CodeSite) → told ≡ site_of e → TellsSite trees m t told
site_told trees m p p_is shared shared_is t e looks told told_is files events state done reached own own_is =
    let at = reached_by trees m files events state done reached in
    let here = subst (λ (s : Shared). LooksAt trees m.program s t e) shared_is (subst (λ (q : LinkedProgram). LooksAt trees q shared t e) p_is looks) in
    let has = here (bounds_of m.limits) state own at own_is in
    let same : has.known.own ≡ own = same_Some has.known.own own (sym has.known.own_is ∙ own_is) in
    record {
      site = has.before.site;
      is = told_is ∙ ap (λ (o : Option EventBefore). option_map (λ (before : EventBefore). before.site) o) has.is;
      of = subst (λ (o : StackOf Value). IsSiteOf trees state t o has.before.site) same has.known.site;
    }

loud_access : (writes : Bool) (v : variables.Variable) → is_silent (access_action writes v) ≡ false
loud_access true v = refl
loud_access false v = refl

-- ---- a race

module _ (trees : Program) (apart : AreApart (names_of trees)) (frames : ℕ) (state : State) where
  abbrev its_name : Action → named.Action
  its_name a = named_action (names_of trees) a

  abbrev its_variable : Variable → variables.Variable
  its_variable v = named_variable (names_of trees) v

  abbrev Known : ℕ → Option CodeSite → Type 0
  Known t told = (own : StackOf Value) → slice_get state.stacks t ≡ Some own → IsSiteIn trees state t own told

  -- an access of a next event, where that stands
  record IsPlaced (t : ℕ) (a : Action) (v : Variable) (is : Accesses (names_of trees) v a) (told : Option CodeSite) : Type 0 where
    site : CodeSite
    site_is : told ≡ Some site
    access : IsNextAccess trees frames state (its_variable v) (access_at t is.writes site)

  placed : (t : ℕ) (a : Action) → DoesAccess trees frames state t a → (v : Variable) (is : Accesses (names_of trees) v a) (told : Option CodeSite) → Known t told
      → IsPlaced t a v is told
  placed t a does v is told tells =
      let event : Event = record { thread = t; pick = 0 } in
      let actions : List named.Action = actions_of trees frames state event in
      let its = told_in trees apart frames state t a does in
      let from = mapped_from (in_event t 0) actions (in_event t 0 (its_name a)) its.place its.at in
      let item_is : from.item ≡ access_action is.writes (its_variable v) = ap (λ (x : ActionOfRun). x.action) from.is ∙ is.named_so in
      let there : slice_get actions from.is_in.place ≡ Some (access_action is.writes (its_variable v)) = from.is_in.at ∙ ap (λ (x : named.Action). Some x) item_is in
      let does_it = runs trees frames state event (access_action is.writes (its_variable v)) from.is_in.place (loud_access is.writes (its_variable v)) there in
      let at = is_at trees state t does_it.0 does_it.1 in
      let known = tells (model.Invocation at.frame ∷ at.rest) at.stack in
      let stands = known.of does_it.0 at.frame at.rest does_it.1 refl in
      record {
        site = known.site;
        site_is = known.is;
        access = record {
          place = from.is_in.place;
          at = there;
          stands = record { frame = at.frame; rest = at.rest; stack = at.stack; numbered = stands.0; offset_is = stands.1 };
        };
      }

  race_is : (race : NextRace) → IsRaceAt trees frames state race → (first second : Option CodeSite) → Known race.thread first → Known race.other second
      → (told : Option Race) → AreWithPlaces race first second told → IsRaceOfStateIf trees frames state told
  race_is race at first second first_known second_known told with_places =
      let parts = and_parts (not (race.thread == race.other)) (conflict race.access race.other_access) at.do_so in
      let both = conflicting (names_of trees) race.access race.other_access parts.1 in
      let one = placed race.thread race.access at.these both.variable both.first first first_known in
      let two = placed race.other race.other_access at.others both.variable both.second second second_known in
      let is = with_places one.site two.site one.site_is two.site_is both.variable both.variable both.first.writes both.second.writes both.first.is both.second.is in
      let named_so = alike trees apart frames state (next_of race.thread race.access) (next_of race.other race.other_access) at.these at.others ∙ at.do_so in
      let meets : conflicts trees (its_name race.access) (its_name race.other_access) ≡ true =
      (and_parts (not (race.thread == race.other)) (conflicts trees (its_name race.access) (its_name race.other_access)) named_so).1
      in
      let conflict_is : conflicts trees (access_action both.first.writes (its_variable both.variable)) (access_action both.second.writes (its_variable both.variable)) ≡ true =
      ap (λ (x : named.Action). conflicts trees x (access_action both.second.writes (its_variable both.variable))) (sym both.first.named_so)
      ∙ (ap (λ (y : named.Action). conflicts trees (its_name race.access) y) (sym both.second.named_so) ∙ meets)
      in
      subst (IsRaceOfStateIf trees frames state) (sym is)
      (record {
        of = both.variable;
        variable_is = refl;
        first = one.access;
        second = two.access;
        apart = λ e. false≢true (ap (λ b. not b) (sym (eq-eqb race.thread race.other e)) ∙ parts.0);
        conflict = conflict_is;
      })

-- of a machine
pub none_told : (trees : Program) (m : MachineOf) (told : Option NextRace) → TellsRace trees m told → told ≡ None → TellsRaceOfState trees m None
none_told trees m told tells is files events state done reached =
    subst (λ (o : Option NextRace). IsRaceIf trees m.limits.frames state o) is (tells files events state done reached)

pub race_told : (trees : Program) → AreApart (names_of trees) → (m : MachineOf) (told : Option NextRace) → TellsRace trees m told → (race : NextRace) → told ≡ Some race
    → (first second : Option CodeSite) → TellsSite trees m race.thread first → TellsSite trees m race.other second
    → (with_site : Option Race) → AreWithPlaces race first second with_site → TellsRaceOfState trees m with_site
race_told trees apart m told tells race is first second first_told second_told with_site with_places files events state done reached =
    race_is trees apart m.limits.frames state race
    (subst (λ (o : Option NextRace). IsRaceIf trees m.limits.frames state o) is (tells files events state done reached)) first second
    (first_told files events state done reached) (second_told files events state done reached) with_site with_places
