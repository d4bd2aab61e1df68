-- A search that keeps schedules, and goes past events that are alone, lists all outcomes.
use Rattle.std.proofs.Common.{◌≡◌, ℕ, List, [], ◌∷◌, Some, Bool, refl, ap, ◌∙◌, subst}
use Rattle.std.specs.Prelude.{slice_get}
use Rattle.std.specs.Option.{option_and_then}
use Rattle.model.specs.declared.event.Event.{Event}
use Rattle.model.specs.Accepted.{IsAccepted}
use Rattle.model.specs.Classes.{Program}
use Rattle.model.specs.Opening.{opening}
use Rattle.model.specs.Operands.{values}
use Rattle.model.specs.Run.{run}
use Rattle.model.specs.State.{State}
use Rattle.model.specs.WellTyped.{IsWellTyped}
use Rattle.run_laws.specs.interleavings.Ends.{Outcome}
use Rattle.run_laws.proofs.interleavings.Reduction.{opened, run_typed}
use Rattle.search_laws.specs.Alone.{passing, next_event, HaveSameWords, IsToldByWords}
use Rattle.search_laws.specs.KeptStates.{Graph, IsFollowed as IsKeptBehind}
use Rattle.search_laws.specs.OwnEvents.{graph_of}
use Rattle.search_laws.specs.Schedules.{ArePassed, IsFollowed, IsWhole, AreSchedulesComplete, AreSchedulesWhole, AreLocalPassed}
use Rattle.search_laws.specs.Verdicts.{IsWholeSearch, AreListed}
use Rattle.search_laws.proofs.OwnEvents.{local_chain}
use Rattle.search_laws.proofs.Runs.{made_of}
use Rattle.search_laws.proofs.SameWords.{typed}
use Rattle.search_laws.proofs.Verdicts.{outcome_met, outcomes_met}

module _ (files : List (List ℕ)) (trees : Program) (accepted : IsAccepted files trees) (frames : ℕ) (conflict : State → ℕ → ℕ → Bool) where
  passed_typed : (threads : List ℕ) (state last : State) → IsWellTyped trees state → ArePassed trees frames conflict threads state last → IsWellTyped trees last
  passed_typed [] state last h c = subst (IsWellTyped trees) c h
  passed_typed (t ∷ threads) state last h c =
      passed_typed threads c.0 last (typed files trees accepted frames state c.0 (next_event t) h c.1.0.goes) c.1.1

  module _ (told : IsToldByWords trees conflict) (schedules : List (List Event)) (outcomes : List Outcome) (w : IsWhole trees frames conflict schedules outcomes) where
    abbrev graph : Graph
    graph = graph_of trees frames schedules

    abbrev Followed : State → ℕ → Type 0
    Followed = IsKeptBehind trees frames (passing conflict) (HaveSameWords trees) graph

    followed : (state : State) → IsWellTyped trees state → IsFollowed trees frames conflict schedules state → (node : ℕ) × Followed state node
    followed state h f =
        let m = f.is_met in
        let met_typed = run_typed files trees accepted frames m.schedule (opening values trees) m.met (opened files trees accepted frames) m.leads in (
          m.has.0,
          record {
            threads = f.threads;
            last = f.last;
            are_alone = f.are_alone;
            kept = m.met;
            is_kept = ap (option_and_then (run trees frames)) m.has.1 ∙ m.leads;
            like = record { one_typed = passed_typed f.threads state f.last h f.are_alone; other_typed = met_typed; same = m.same };
          },
        )

    -- the schedule of a kept state
    schedule_of : (node : ℕ) (state : State) → graph.kept node ≡ Some state
        → (schedule : List Event) × ((slice_get schedules node ≡ Some schedule) × (run trees frames schedule ≡ Some state))
    schedule_of node state e = made_of (slice_get schedules node) (run trees frames) state e

    whole : IsWholeSearch files trees frames conflict graph
    whole =
        let start = followed (opening values trees) (opened files trees accepted frames) w.opened in
        record {
          search = record {
            accepted = accepted;
            told = told;
            explored = record {
              reached = λ node state is. let s = schedule_of node state is in (s.0, s.1.1);
              start = start.0;
              opened = start.1;
            };
          };
          expanded = λ node state next event is e.
              let s = schedule_of node state is in
              let h = run_typed files trees accepted frames s.0 (opening values trees) state (opened files trees accepted frames) s.1.1 in
              let f = followed next (typed files trees accepted frames state next event h e) (w.closed s.0 state next event (node, s.1.0) s.1.1 e) in
              (f.0, (refl, f.1));
        }

    listed : AreListed trees frames graph outcomes
    listed =
        record {
          listed = λ node state is q. let s = schedule_of node state is in w.listed s.0 state (node, s.1.0) s.1.1 q;
          only = λ outcome has.
              let e = w.only outcome has in
              outcome_met files trees accepted frames (passing conflict) (λ one other t u l c. told one other t u l ∙ c) graph whole.search.explored whole.expanded e.0 outcome e.1;
        }

pub schedules_whole : AreSchedulesWhole
schedules_whole files trees accepted frames conflict told schedules outcomes w =
    (whole files trees accepted frames conflict told schedules outcomes w, listed files trees accepted frames conflict told schedules outcomes w)

pub schedules_complete : AreSchedulesComplete
schedules_complete files trees accepted frames conflict told schedules outcomes w =
    let s = schedules_whole files trees accepted frames conflict told schedules outcomes w in
    outcomes_met files trees frames conflict (graph_of trees frames schedules) s.0 outcomes s.1

pub local_passed : AreLocalPassed
local_passed files trees accepted frames conflict free state last threads reached l =
    (local_chain files trees accepted frames conflict free threads state last reached l).are_alone
