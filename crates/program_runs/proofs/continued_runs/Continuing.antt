-- A schedule, and a run behind it.
use Rattle.std.proofs.Common.{◌≡◌, ◌⊎◌, ◌<◌, ◌≤◌, ◌+◌, ℕ, Bool, List, [], ◌++◌, Some, length, inl, inr, refl, sym, ap, subst, ◌∙◌, arith}
use Rattle.std.proofs.lemmas.List.{length-append}
use Rattle.model.specs.declared.end.End.{End}
use Rattle.model.specs.declared.event.Event.{Event}
use Rattle.model.specs.declared.limits.Limits.{Limits}
use Rattle.model.specs.declared.report.Report.{Report}
use Rattle.model.specs.Classes.{Program}
use Rattle.model.specs.LimitStands.{bounds_of}
use Rattle.model.specs.Schedule.{events_of}
use Rattle.model.specs.State.{StateOf}
use Rattle.run_laws.specs.soundness.Runs.{IsNoEventWrong}
use Rattle.run_laws.specs.word_reports.Reports.{AreReportsOfWords}
use Rattle.machine_state.specs.declared.refusals.EventRefusal.{EventRefusal}
use Rattle.machine_state.specs.declared.refusals.EventRefusal.TheVariants as refusal
use Rattle.machine.specs.declared.machine.Stopped.{Stopped}
use Rattle.machine.specs.declared.machine.Stopped.TheVariants as stopped
use Rattle.machine.specs.machine_replay.Replays.{EndFits, IsReplay}
use Rattle.machine.specs.machine_replay.Shown.{Tells, end_of}
use Rattle.machine.proofs.machine_replay.Replayed.{fits, operands_found, told_of}
use Rattle.program_runs.specs.declared.worlds.records.Recorded.{Recorded}
use Rattle.program_runs.specs.worlds.Worlds.{WorldOf, IsNew}
use Rattle.program_runs.specs.worlds.Records.{IsRecordOf, Keeps}
use Rattle.program_runs.specs.continued_runs.Following.{Stands, Follows, WantsMemory}
use Rattle.program_runs.specs.continued_runs.Turns.{AreInTurn, TakesTurns}
use Rattle.program_runs.specs.continued_runs.Continuing.{Continues, IsCut, IsCutShort}

module _ (trees : Program) (limits : Limits) (budget : ℕ) (opened : WorldOf) (is_new : IsNew trees limits budget opened)
    (schedule : List Event) (why : Stopped) (w : WorldOf) (follows : Follows schedule why opened w) where
  trees_are : w.trees ≡ trees
  trees_are = follows.same.trees ∙ is_new.trees_are

  limits_are : w.machine.limits ≡ limits
  limits_are = follows.same.limits ∙ is_new.limits_are

  front_is : w.events ≡ follows.front
  front_is = follows.done ∙ ap (λ l. l ++ follows.front) is_new.none

  budget_is : w.budget ≡ budget
  budget_is = follows.same.budget ∙ is_new.budget_is

  -- ---- cut short

  module _ (reported : AreReportsOfWords) (sound : IsNoEventWrong) (r : Report) (end : End) (tells : Tells w.trees w.machine (length w.events) why r end)
      (stands : Stands why w.machine w.trees w.events follows.left) where
    replayed : IsReplay w.trees schedule w.machine.limits r end
    replayed =
        let m = w.machine in
        let done = stands.1 in
        let has = done.run in
        let same = reported stands.0 w.trees done.accepted.linkable m.limits.frames has.at has.lead.state has.lead.are in
        let on = tells.reports (bounds_of m.limits) _ has.at done.program has.shown in
        let quiet = tells.quiet_is w.trees m.limits.frames has.at on.threads ∙ same.quiet in
        record {
          front = w.events;
          left = follows.left;
          events_are = follows.events_are ∙ ap (λ l. l ++ follows.left) (sym front_is);
          state = has.lead.state;
          reached = has.lead.reached;
          within = has.lead.within;
          printed = on.printed ∙ ap (λ (s : StateOf ℕ). s.world.printed) has.lead.are.are;
          threads = on.threads ∙ same.ends;
          count = on.count;
          means = same.report w.events end has.lead.reached ∙ ap Some (told_of w.trees m.limits.frames has.at w.events (length w.events) r refl on end);
          ended = subst (EndFits w.trees (bounds_of m.limits) has.lead.state w.events follows.left) (sym tells.end_is)
              (fits w.trees (bounds_of m.limits) has.lead.state w.events why (length w.events) tells.quiet follows.left refl quiet stands.2);
          found = operands_found sound stands.0 w.trees done.accepted m.limits.frames schedule;
        }

    cut_short : length w.events < w.budget → IsCut (end_of why (length w.events) tells.quiet) → IsCutShort trees schedule limits budget r end
    unfolding replayed
    cut_short few cut =
        let here : IsCutShort w.trees schedule w.machine.limits w.budget r end = record { replay = replayed; few = few; cut = subst IsCut (sym tells.end_is) cut } in
        let by_trees : IsCutShort trees schedule w.machine.limits w.budget r end = subst (λ (t : Program). IsCutShort t schedule w.machine.limits w.budget r end) trees_are here in
        let by_limits : IsCutShort trees schedule limits w.budget r end = subst (λ (l : Limits). IsCutShort trees schedule l w.budget r end) limits_are by_trees in
        subst (λ b. IsCutShort trees schedule limits b r end) budget_is by_limits

is_cut : (told : EventRefusal) (n : ℕ) (quiet : Bool) → (WantsMemory (stopped.Refused told) → ⊥) → IsCut (end_of (stopped.Refused told) n quiet)
is_cut refusal.Objects n quiet no_want = λ e. absurd cc
is_cut refusal.Cells n quiet no_want = λ e. absurd cc
is_cut refusal.Monitors n quiet no_want = λ e. absurd cc
is_cut refusal.Threads n quiet no_want = λ e. absurd cc
is_cut refusal.LockCount n quiet no_want = λ e. absurd cc
is_cut refusal.Memory n quiet no_want = absurd (no_want refl)

pub cut : AreReportsOfWords → IsNoEventWrong → (trees : Program) (limits : Limits) (budget : ℕ) (opened : WorldOf) → IsNew trees limits budget opened
    → (schedule : List Event) (why : Stopped) (w : WorldOf) → Follows schedule why opened w → (why ≡ stopped.Most → ⊥)
    → (r : Report) (end : End) → Tells w.trees w.machine (length w.events) why r end → IsCutShort trees schedule limits budget r end
cut reported sound trees limits budget opened is_new schedule stopped.Most w follows not_all r end tells = absurd (not_all refl)
cut reported sound trees limits budget opened is_new schedule stopped.NotEnabled w follows not_all r end tells =
    cut_short trees limits budget opened is_new schedule stopped.NotEnabled w follows reported sound r end tells follows.stops.1 follows.stops.0 tt
cut reported sound trees limits budget opened is_new schedule (stopped.Refused told) w follows not_all r end tells =
    cut_short trees limits budget opened is_new schedule (stopped.Refused told) w follows reported sound r end tells follows.stops.2 follows.stops.1
    (is_cut told (length w.events) tells.quiet follows.stops.0)

-- ---- whole

module _ (trees : Program) (limits : Limits) (budget : ℕ) (opened : WorldOf) (is_new : IsNew trees limits budget opened)
    (schedule : List Event) (w : WorldOf) (follows : Follows schedule stopped.Most opened w)
    (last : WorldOf) (turns : TakesTurns w last) (r : Recorded) (is : IsRecordOf last.trees last.machine.limits last.budget r) (keeps : Keeps last r) where
  all_trees : last.trees ≡ trees
  all_trees = turns.same.trees ∙ trees_are trees limits budget opened is_new schedule stopped.Most w follows

  all_limits : last.machine.limits ≡ limits
  all_limits = turns.same.limits ∙ limits_are trees limits budget opened is_new schedule stopped.Most w follows

  all_budget : last.budget ≡ budget
  all_budget = turns.same.budget ∙ follows.same.budget ∙ is_new.budget_is

  record_is : IsRecordOf trees limits budget r
  record_is =
      subst (λ (t : Program). IsRecordOf t limits budget r) all_trees
      (subst (λ (l : Limits). IsRecordOf last.trees l budget r) all_limits (subst (λ b. IsRecordOf last.trees last.machine.limits b r) all_budget is))

  events_are : events_of r.schedule ≡ follows.front ++ turns.more
  events_are = (keeps turns.end turns.is).1 ∙ turns.events ∙ ap (λ l. l ++ turns.more) (front_is trees limits budget opened is_new schedule stopped.Most w follows)

  in_turn : AreInTurn trees limits.frames follows.front 0 turns.more
  in_turn =
      let by_trees : AreInTurn trees w.machine.limits.frames w.events 0 turns.more =
      subst (λ (t : Program). AreInTurn t w.machine.limits.frames w.events 0 turns.more) (trees_are trees limits budget opened is_new schedule stopped.Most w follows) turns.in_turn
      in
      let by_limits : AreInTurn trees limits.frames w.events 0 turns.more =
      subst (λ (l : Limits). AreInTurn trees l.frames w.events 0 turns.more) (limits_are trees limits budget opened is_new schedule stopped.Most w follows) by_trees
      in
      subst (λ l. AreInTurn trees limits.frames l 0 turns.more) (front_is trees limits budget opened is_new schedule stopped.Most w follows) by_limits

  all : (follows.left ≡ []) ⊎ (w.budget ≤ length w.events) → (follows.left ≡ []) ⊎ (length follows.front ≡ budget)
  all (inl none) = inl none
  all (inr used_up) =
      let few : length (events_of r.schedule) ≤ budget = record_is.3.few in
      let many : length (events_of r.schedule) ≡ length follows.front + length turns.more = ap length events_are ∙ length-append follows.front turns.more in
      let front : length w.events ≡ length follows.front = ap length (front_is trees limits budget opened is_new schedule stopped.Most w follows) in
      let same : w.budget ≡ budget = follows.same.budget ∙ is_new.budget_is in
      inr (omega (arith, few, many, front, same, used_up))

  pub whole : IsRecordOf trees limits budget r × Continues trees schedule limits.frames budget (events_of r.schedule)
  whole = (
    record_is,
    record {
      front = follows.front;
      left = follows.left;
      schedule_is = follows.events_are;
      all = all follows.stops;
      more = turns.more;
      events_are = events_are;
      in_turn = in_turn;
    },
  )

pub whole_of : (trees : Program) (limits : Limits) (budget : ℕ) (opened : WorldOf) (is_new : IsNew trees limits budget opened)
    (schedule : List Event) (why : Stopped) → why ≡ stopped.Most
    → (w : WorldOf) (follows : Follows schedule why opened w) (last : WorldOf) → TakesTurns w last → (r : Recorded)
    → IsRecordOf last.trees last.machine.limits last.budget r → Keeps last r
    → IsRecordOf trees limits budget r × Continues trees schedule limits.frames budget (events_of r.schedule)
whole_of trees limits budget opened is_new schedule why all_done w follows last turns r is keeps =
    whole trees limits budget opened is_new schedule w (subst (λ y. Follows schedule y opened w) all_done follows) last turns r is keeps
