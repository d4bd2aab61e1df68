-- What the end of an invocation makes of its monitor.
use Rattle.std.proofs.Common.{◌≡◌, ℕ, List, [], ◌∷◌, Option, Some, None, Bool, true, false, if◌then◌else◌, Result, Ok, Err, length, drop, refl, sym, ap, subst, ◌∙◌}
use Rattle.std.specs.Result.{IsErrAnd}
use Rattle.model.specs.Operands.{words}
use Rattle.model.specs.Classes.{Program}
use Rattle.model.specs.State as model
use Rattle.model.specs.State.{FrameOf, StackEntryOf, StackOf, WorldOf}
use Rattle.model.specs.Outcomes.{IllegalMonitorState, Makes}
use Rattle.model.specs.LimitStands.{Bounds}
use Rattle.model.specs.Worlds.{with_exit}
use Rattle.model.specs.Step.{SteppedOf, PartOf, on_to, raised, leaving}
use Rattle.heap.specs.Heap.{Heap}
use Rattle.heap.specs.monitor_events.Tables.{MonitorsBecome}
use Rattle.linked_code.specs.declared.program.LinkedProgram.{LinkedProgram}
use Rattle.thread_stacks.specs.Stacks.{ShownEntry, Invocation, Initialisation}
use Rattle.machine_state.specs.shown_stacks.Shown.{ShowsStack}
use Rattle.machine_state.specs.declared.answers.Answer.{Answer}
use Rattle.machine_state.specs.declared.answers.Answer.TheVariants as answer
use Rattle.machine_state.specs.declared.refusals.EventRefusal.{EventRefusal}
use Rattle.machine_state.specs.declared.state.Shared.{Shared}
use Rattle.machine_state.specs.Shown.{Represents}
use Rattle.machine_state.specs.Events.{IsDone, MayBeRefused, Becomes}
use Rattle.machine_state.specs.Memory.{shown_counts, takes_memory}
use Rattle.machine_state.proofs.entries.Changing.{monitors_shown}
use Rattle.machine_state.proofs.linked_frames.Moves.{free_done}
use Rattle.machine_instructions.specs.returns.Leaving.{HasEntered, may_leave, SaysMayLeave, with_leave, Leaves}

-- ---- the monitor is left

pub left : (old : Shared) (heap : Heap) (t object : ℕ) (entered : Option ℕ) → entered ≡ Some object
    → MonitorsBecome (λ w. with_exit w t object) old.heap.locks.fat old.heap heap
    → Leaves t entered old (record old { heap = heap })
left old heap t object entered is becomes =
    subst (λ o. Leaves t o old (record old { heap = heap })) (sym is)
    (record {
      represents = λ trees p bounds world r. monitors_shown trees p bounds world old (record old { heap = heap }) r (λ w. with_exit w t object) old.heap.locks.fat becomes refl;
      flags = becomes.fat_are;
      rest = refl;
    })

-- ---- the object that the frame on top entered

pub entered_is : (trees : Program) (p : LinkedProgram) (from : List ShownEntry) (frame : FrameOf ℕ) (rest : StackOf ℕ)
    → ShowsStack trees p from (model.Invocation frame ∷ rest)
    → (entered : Option ℕ) → HasEntered from entered → frame.entered ≡ entered
entered_is trees p [] frame rest s entered h = absurd s
entered_is trees p (Invocation shown ∷ others) frame rest s entered h = s.0.entered ∙ sym h
entered_is trees p (Initialisation class phase ∷ others) frame rest s entered h = absurd s.0

pub under_shown : (trees : Program) (p : LinkedProgram) (from : List ShownEntry) (entry : StackEntryOf ℕ) (rest : StackOf ℕ)
    → ShowsStack trees p from (entry ∷ rest) → ShowsStack trees p (drop 1 from) rest
under_shown trees p [] entry rest s = absurd s
under_shown trees p (shown ∷ others) entry rest s = s.1

-- ---- the event

leaving_is : (trees : Program) (t : ℕ) (entered : Option ℕ) (world : WorldOf ℕ) (rest own : StackOf ℕ)
    → leaving words trees t entered world rest own ≡ (if may_leave world t entered then on_to (with_leave world t entered) rest
    else raised words trees t IllegalMonitorState world own)
leaving_is trees t None world rest own = refl
leaving_is trees t (Some object) world rest own = refl

module _ (trees : Program) (p : LinkedProgram) (bounds : Bounds) (inflated : List ℕ) (world : WorldOf ℕ) (old : Shared)
    (r : Represents trees p bounds old world)
    (t : ℕ) (entered : Option ℕ) (rest own : StackOf ℕ) where
  abbrev pub stepped : SteppedOf (PartOf ℕ)
  stepped = leaving words trees t entered world rest own

  by_owner : (owner : Bool) → SaysMayLeave owner t entered old.heap
      → stepped ≡ (if owner then on_to (with_leave world t entered) rest else raised words trees t IllegalMonitorState world own)
  by_owner owner says =
      leaving_is trees t entered world rest own
      ∙ ap (λ b. if b then on_to (with_leave world t entered) rest else raised words trees t IllegalMonitorState world own)
      ((λ i. may_leave (record world { monitors = sym r.world_is.monitors i }) t entered) ∙ sym (says world))

  -- another thread owns it, or none
  pub not_owned : SaysMayLeave false t entered old.heap → stepped ≡ raised words trees t IllegalMonitorState world own
  not_owned says = by_owner false says

  pub goes_on : SaysMayLeave true t entered old.heap → stepped ≡ on_to (with_leave world t entered) rest
  goes_on says = by_owner true says

  pub done : SaysMayLeave true t entered old.heap → (new : Shared) → Leaves t entered old new → (to : List ShownEntry)
      → ShowsStack trees p to rest → IsDone trees p bounds inflated world stepped old new to
  done says new l to shows =
      subst (λ s. IsDone trees p bounds inflated world s old new to) (sym (goes_on says))
      (free_done trees p bounds inflated world (with_leave world t entered) rest old new to (l.represents trees p bounds world r) shows l.flags
      (ap (λ (s : Shared). s.stacks) l.rest) (ap (λ (s : Shared). length s.threads.threads) l.rest))

-- ---- the frame on top ends

module _ (trees : Program) (p : LinkedProgram) (bounds : Bounds) (inflated : List ℕ) (world : WorldOf ℕ) (old : Shared)
    (r : Represents trees p bounds old world)
    (t : ℕ) (from : List ShownEntry) (frame : FrameOf ℕ) (rest : StackOf ℕ) (shows : ShowsStack trees p from (model.Invocation frame ∷ rest)) (entered : Option ℕ) (has : HasEntered from entered) where
  pub top_not_owned : SaysMayLeave false t entered old.heap
      → leaving words trees t frame.entered world rest rest ≡ raised words trees t IllegalMonitorState world rest
  top_not_owned says = ap (λ o. leaving words trees t o world rest rest) (entered_is trees p from frame rest shows entered has) ∙ not_owned trees p bounds inflated world old r t entered rest rest says

  pub top_ends : SaysMayLeave true t entered old.heap → (new : Shared) → Leaves t entered old new → (to : List ShownEntry)
      → to ≡ drop 1 from
      → IsDone trees p bounds inflated world (leaving words trees t frame.entered world rest rest) old new to
  top_ends says new l to same =
      subst (λ o. IsDone trees p bounds inflated world (leaving words trees t o world rest rest) old new to) (sym (entered_is trees p from frame rest shows entered has))
      (done trees p bounds inflated world old r t entered rest rest says new l to
      (subst (λ (st : List ShownEntry). ShowsStack trees p st rest) (sym same) (under_shown trees p from (model.Invocation frame) rest shows)))

-- ---- an exception in its place

module _ (trees : Program) (p : LinkedProgram) (bounds : Bounds) (inflated : List ℕ) (world : WorldOf ℕ) (old new : Shared) (t : ℕ)
    (rest : StackOf ℕ) (under : List ShownEntry) (stepped : SteppedOf (PartOf ℕ))
    (is : stepped ≡ raised words trees t IllegalMonitorState world rest) where
  -- it is pending over the stack without the frame
  pub raised_done : (told : Answer) → Becomes trees p bounds inflated world (raised words trees t IllegalMonitorState world rest) (Ok told) old new
      under under
      → (to : List ShownEntry) → to ≡ under → IsDone trees p bounds inflated world stepped old new to
  raised_done answer.Done b to same =
      subst (λ s. IsDone trees p bounds inflated world s old new to) (sym is)
      (subst (λ (st : List ShownEntry). IsDone trees p bounds inflated world (raised words trees t IllegalMonitorState world rest) old new st) (sym same) b)
  raised_done answer.NotEnabled b to same = let never = b.0 in absurd cc

  -- or it can't be made
  pub raise_refused : (why : EventRefusal) → Becomes trees p bounds inflated world (raised words trees t IllegalMonitorState world rest) (Err why) old new
      under under
      → (from : List ShownEntry) (result : Result Answer EventRefusal) → IsErrAnd result (λ told. told ≡ why)
      → Becomes trees p bounds inflated world stepped result old new from from
  raise_refused why b from (Ok told) e = absurd e
  raise_refused why b from (Err told) e =
      let made = b.0.is in
      let cost_is : b.0.cost ≡ Makes 0 = cc in (
        record {
          cost = Makes 0;
          next = _;
          is = is;
          may = subst (MayBeRefused trees bounds inflated world (Makes 0) true) (sym e)
              (subst (λ c. MayBeRefused trees bounds inflated world c (takes_memory world (shown_counts under) c b.0.next) why) cost_is b.0.may);
        },
        record { shared = b.1.shared; stack = refl },
      )
