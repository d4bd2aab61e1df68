-- What is seen of a thread, and what is told by it.
use Rattle.std.proofs.Common.{◌≡◌, inl, inr, ℕ, List, [], ◌∷◌, ◌++◌, length, Option, Some, Result, Ok, Err, true, false, sym, ap, ◌∙◌, subst}
use Rattle.std.proofs.lemmas.List.{append-nil}
use Rattle.std.proofs.lemmas.Option.{same_Some, none-some}
use Rattle.model.specs.declared.event.Event.{Event}
use Rattle.model.specs.declared.limits.Limits.{Limits}
use Rattle.model.specs.Classes.{Program}
use Rattle.model.specs.LimitStands.{bounds_of, inflated}
use Rattle.thread_stacks.specs.Stacks.{ShownFrame, ShownEntry, Invocation, Initialisation, IsTopFrame}
use Rattle.machine_state.specs.declared.answers.Answer.{Answer}
use Rattle.machine_state.specs.declared.answers.Answer.TheVariants as answer
use Rattle.machine_state.specs.declared.refusals.EventRefusal.{EventRefusal}
use Rattle.machine_state.specs.declared.state.Shared.{Shared}
use Rattle.machine_state.specs.linked_frames.Frames.{event_of}
use Rattle.machine_state.specs.shown_runs.Runs.{HasRun, AreRunsGoingOn, GoesOn}
use Rattle.machine.specs.Machines.{MachineOf, Steps}
use Rattle.machine.specs.schedule_runs.Done.{HasDone}
use Rattle.alone_events.specs.declared.ahead.Ahead.{Ahead}
use Rattle.alone_events.specs.declared.ahead.Ahead.TheVariants as ahead
use Rattle.alone_events.specs.declared.ahead.Before.{Before}
use Rattle.alone_events.specs.declared.seen.Seen.{Seen}
use Rattle.alone_events.specs.Seen.{RunsInFrame, HasMovedBy}
use Rattle.alone_events.specs.Ahead.{HasDoneBehind, DoesOrStays, HasCalledOrReturned, IsOwned, HasLeftMonitor, Tells, IsAloneBehind, GoesAhead, TellsAlone, AreMovesAloneSeen, AreReleasesAloneSeen}

-- ---- one thing is seen

one_top : (stack : List ShownEntry) (a b : ShownFrame) → IsTopFrame stack (Some a) → IsTopFrame stack (Some b) → a ≡ b
one_top [] a b p q = absurd (none-some a (sym p))
one_top (Invocation frame ∷ stack) a b p q = same_Some a b (p ∙ sym q)
one_top (Initialisation class phase ∷ stack) a b p q = absurd (none-some a (sym p))

abbrev seen_by : ℕ → Option ℕ → Seen
seen_by entries entered = record { entries = entries; entered = entered }

module _ (shared : Shared) (t : ℕ) where
  same_stack : (one other : Seen) (a : RunsInFrame shared t one) (b : RunsInFrame shared t other) → a.stack ≡ b.stack
  same_stack one other a b = same_Some a.stack b.stack (sym a.is_stack ∙ b.is_stack)

  pub same_seen : (one other : Seen) → RunsInFrame shared t one → RunsInFrame shared t other → one ≡ other
  same_seen one other a b =
      let stack = same_stack one other a b in
      let shown = one_top b.stack a.is_in.shown b.is_in.shown (subst (λ s. IsTopFrame s (Some a.is_in.shown)) stack a.is_in.top) b.is_in.top in
      let entries : one.entries ≡ other.entries = a.is_in.entries ∙ (ap length stack ∙ sym b.is_in.entries) in
      let entered : one.entered ≡ other.entered = a.is_in.entered ∙ (ap (λ (f : ShownFrame). f.entered) shown ∙ sym b.is_in.entered) in
      ap (λ n. seen_by n one.entered) entries ∙ ap (λ o. seen_by other.entries o) entered

-- ---- the event

nothing_done : (old new : MachineOf) → new ≡ record old { shared = new.shared }
    → ((files : List (List ℕ)) (trees : Program) (events : List Event) (has : HasDone old files trees events) → HasRun trees old.program (bounds_of old.limits) new.shared events)
    → HasDoneBehind [] old new
nothing_done old new is runs =
    record {
      program = ap (λ (x : MachineOf). x.program) is;
      limits_are = ap (λ (x : MachineOf). x.limits) is;
      done = λ files trees events has.
          let there : HasDone (record old { shared = new.shared }) files trees (events ++ []) =
          record { accepted = has.accepted; program = has.program; run = subst (HasRun trees old.program (bounds_of old.limits) new.shared) (sym (append-nil events)) (runs files trees events has) }
          in
          subst (λ m. HasDone m files trees (events ++ [])) (sym is) there;
    }

module _ (goes : AreRunsGoingOn) (t : ℕ) (old new : MachineOf) where
  turned : (result : Result Answer EventRefusal) → Steps result (event_of t) old new → (files : List (List ℕ)) (trees : Program) (events : List Event) (has : HasDone old files trees events)
      → GoesOn trees old.program (bounds_of old.limits) events has.run.lead.state (event_of t) result new.shared
  turned result steps files trees events has =
      goes files trees has.accepted old.program (bounds_of old.limits) events old.shared new.shared has.run (event_of t) result
      (steps.1 files trees (inflated trees old.limits.frames events) has.run.at (record { accepted = has.accepted; program = has.program; shown = has.run.shown }))

  pub done_once : Steps (Ok answer.Done) (event_of t) old new → DoesOrStays true t old new
  done_once steps =
      record {
        program = ap (λ (x : MachineOf). x.program) steps.0;
        limits_are = ap (λ (x : MachineOf). x.limits) steps.0;
        done = λ files trees events has.
            let there : HasDone (record old { shared = new.shared }) files trees (events ++ event_of t ∷ []) =
            record { accepted = has.accepted; program = has.program; run = turned (Ok answer.Done) steps files trees events has }
            in
            subst (λ m. HasDone m files trees (events ++ event_of t ∷ [])) (sym steps.0) there;
      }

  pub not_enabled : Steps (Ok answer.NotEnabled) (event_of t) old new → DoesOrStays false t old new
  not_enabled steps = nothing_done old new steps.0 (λ files trees events has. (turned (Ok answer.NotEnabled) steps files trees events has).1)

  pub refused : (told : EventRefusal) → Steps (Err told) (event_of t) old new → DoesOrStays false t old new
  refused told steps = nothing_done old new steps.0 (λ files trees events has. (turned (Err told) steps files trees events has).2)

-- ---- whether it was alone

module _ (t : ℕ) (old new : MachineOf) (done : HasDoneBehind (event_of t ∷ []) old new) where
  behind : (P : ℕ → (old new : Shared) → Type 0) → TellsAlone P → P t old.shared new.shared → IsAloneBehind t old
  behind P alone seen files trees events has =
      let then = (done.done files trees events has).run in
      let by_program = subst (λ p. HasRun trees p (bounds_of new.limits) new.shared (events ++ event_of t ∷ [])) done.program then in
      let by_limits = subst (λ (l : Limits). HasRun trees old.program (bounds_of l) new.shared (events ++ event_of t ∷ [])) done.limits_are by_program in
      alone files trees has.accepted old.program (bounds_of old.limits) old.shared new.shared t events has.run by_limits seen

  pub goes_by : AreMovesAloneSeen → AreReleasesAloneSeen → (before : Before) → RunsInFrame old.shared t before.frame → IsOwned old.shared t before.left
      → (a : Ahead) → Tells a before new.shared t → GoesAhead a t old new
  goes_by moves releases before was owned ahead.Stays told = absurd told
  goes_by moves releases before was owned ahead.Alone (inl told) =
      let called : HasCalledOrReturned t old.shared new.shared = record { before = before.frame; was = was; after = told.0; is = told.1.0; moved = told.1.1 } in
      (done, (inl called, behind HasCalledOrReturned moves called))
  goes_by moves releases before was owned ahead.Alone (inr told) =
      let left : HasLeftMonitor t old.shared new.shared = record { before = before; was = was; owned = owned; leaves = told } in
      (done, (inr left, behind HasLeftMonitor releases left))
  goes_by moves releases before was owned ahead.Past told = (
    done,
    λ called. told called.after called.is (subst (λ b. HasMovedBy b called.after) (same_seen old.shared t called.before before.frame called.was was) called.moved),
  )
