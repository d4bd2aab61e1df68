-- Calls, returns, and questions of variables and types that are a thread's own.
use Rattle.std.proofs.Common.{◌≡◌, ℕ, List, [], ◌∷◌, Bool, true, false, if◌then◌else◌, Option, Some, None, refl, ap, ◌∙◌, subst}
use Rattle.std.specs.Prelude.{is_none, slice_get}
use Rattle.std.specs.Option.{option_and_then}
use Rattle.std.proofs.lemmas.Bool.{false≢true}
use Rattle.model.specs.declared.value.Value.{Value}
use Rattle.model.specs.ClassInitialisation.{Look, IsReady, IsNew, IsHeld, HasFailed, look_at}
use Rattle.model.specs.Classes.{Program, Body, body_of}
use Rattle.model.specs.Meanings.{meaning_of}
use Rattle.model.specs.Operands.{values, under}
use Rattle.model.specs.Outcomes.{Free}
use Rattle.model.specs.Sites.{MeaningOf, Site, site_at}
use Rattle.model.specs.State.{types_of, ThreadStatus, Running, Waiting, Relock, Ended, Frame, Invocation, Initialisation, StackOf, State}
use Rattle.model.specs.Step.{enabled_if, ops_of, step}
use Rattle.model.specs.WellTyped.{IsWellTyped}
use Rattle.model.specs.Worlds.{thread_at}
use Rattle.run_laws.specs.interleavings.Local.{is_going, with_stack}
use Rattle.run_laws.specs.laws.Steps.{Rooted}
use Rattle.run_laws.proofs.laws.LinkedOf.{linked_of}
use Rattle.run_laws.proofs.laws.Operations.{OfMeaning}
use Rattle.search_laws.specs.Alone.{next_event}
use Rattle.search_laws.specs.OwnEvents.{StandsAs, IsOwnEvent}
use Rattle.search_laws.specs.OwnedMonitors.{IsAt}
use Rattle.search_laws.specs.OwnSteps.{asks, is_ready, own_outcome, own_meant, own_at, own_in, own_stack, next_own, AreOwnStepsOwn}
use Rattle.search_laws.specs.Writes.{Variables}
use Rattle.search_laws.proofs.Instructed.{found, put, done_at, step_at, put_left, only_zero}
use Rattle.search_laws.proofs.Operands.{kinded}
use Rattle.search_laws.proofs.Steady.{not_some, IsSteady, Steady, meaning_steady}

-- ---- what is known of a thread whose next event is its own

record IsNextOwn (writes : Variables → Bool) (files : Program) (frames : ℕ) (state : State) (t : ℕ) (own : StackOf Value) : Type 0 where
  at : IsAt files state t
  looks : look_at t state.world at.meaning.looks ≡ IsReady
  does : own_outcome files frames at.frame at.stack (asks writes files at.site)
      (at.meaning.does (next_event t) state.world at.frame.place.slots (ops_of values at.meaning at.frame.place.slots) (under at.meaning.wants at.frame.place.slots))
      ≡ Some own

ready_of : (look : Look) → is_ready look ≡ true → look ≡ IsReady
ready_of IsReady h = refl
ready_of IsNew h = absurd (false≢true h)
ready_of IsHeld h = absurd (false≢true h)
ready_of HasFailed h = absurd (false≢true h)

none_of : {X : Type 0} (o : Option X) → is_none o ≡ true → o ≡ None
none_of None h = refl
none_of (Some x) h = absurd (false≢true h)

going : (s : ThreadStatus) (p : Option ℕ) → is_going s p ≡ true → (s ≡ Running) × (p ≡ None)
going Running p h = (refl, none_of p h)
going (Waiting object count) p h = absurd (false≢true h)
going (Relock object count cause) p h = absurd (false≢true h)
going (Ended exception) p h = absurd (false≢true h)

module _ (writes : Variables → Bool) (files : Program) (frames : ℕ) (state : State) (t : ℕ) (own : StackOf Value) where
  module _ (status : (thread_at state.world t).status ≡ Running) (pending : (thread_at state.world t).pending ≡ None) where
    by_meaning : (frame : Frame) (stack : StackOf Value) → slice_get state.stacks t ≡ Some (Invocation frame ∷ stack) → (body : Body)
        → body_of files frame.method ≡ Some body → (site : Site) → site_at frame.method body frame.place.offset ≡ Some site
        → (o : Option (MeaningOf Value)) → meaning_of values files site ≡ o
        → option_and_then (own_meant writes files frames t state.world frame stack site) o ≡ Some own → IsNextOwn writes files frames state t own
    by_meaning frame stack there body b site s None m e = not_some own e
    by_meaning frame stack there body b site s (Some meaning) m e = by (is_ready (look_at t state.world meaning.looks)) refl e
      where
        by : (k : Bool) → is_ready (look_at t state.world meaning.looks) ≡ k
            → (if k then own_outcome files frames frame stack (asks writes files site) (meaning.does (next_event t) state.world frame.place.slots (ops_of values meaning frame.place.slots) (under meaning.wants frame.place.slots)) else None) ≡ Some own
            → IsNextOwn writes files frames state t own
        by true q x =
            record {
              at = record {
                frame = frame;
                stack = stack;
                status = status;
                pending = pending;
                there = there;
                body = body;
                is_body = b;
                site = site;
                is_site = s;
                meaning = meaning;
                means = m;
              };
              looks = ready_of (look_at t state.world meaning.looks) q;
              does = x;
            }
        by false q x = not_some own x

    by_site : (frame : Frame) (stack : StackOf Value) → slice_get state.stacks t ≡ Some (Invocation frame ∷ stack) → (body : Body)
        → body_of files frame.method ≡ Some body → (o : Option Site) → site_at frame.method body frame.place.offset ≡ o
        → option_and_then (own_at writes files frames t state.world frame stack) o ≡ Some own → IsNextOwn writes files frames state t own
    by_site frame stack there body b None s e = not_some own e
    by_site frame stack there body b (Some site) s e = by_meaning frame stack there body b site s (meaning_of values files site) refl e

    by_body : (frame : Frame) (stack : StackOf Value) → slice_get state.stacks t ≡ Some (Invocation frame ∷ stack) → (o : Option Body)
        → body_of files frame.method ≡ o → option_and_then (own_in writes files frames t state.world frame stack) o ≡ Some own
        → IsNextOwn writes files frames state t own
    by_body frame stack there None b e = not_some own e
    by_body frame stack there (Some body) b e = by_site frame stack there body b (site_at frame.method body frame.place.offset) refl e

    by_stack : (o : Option (StackOf Value)) → slice_get state.stacks t ≡ o → option_and_then (own_stack writes files frames t state.world) o ≡ Some own
        → IsNextOwn writes files frames state t own
    by_stack None q e = not_some own e
    by_stack (Some []) q e = not_some own e
    by_stack (Some (Invocation frame ∷ stack)) q e = by_body frame stack q (body_of files frame.method) refl e
    by_stack (Some (Initialisation class phase ∷ stack)) q e = not_some own e

  next_own_of : next_own writes files frames state t ≡ Some own → IsNextOwn writes files frames state t own
  next_own_of e = by (is_going (thread_at state.world t).status (thread_at state.world t).pending) refl e
    where
      by : (b : Bool) → is_going (thread_at state.world t).status (thread_at state.world t).pending ≡ b
          → (if b then option_and_then (own_stack writes files frames t state.world) (slice_get state.stacks t) else None) ≡ Some own
          → IsNextOwn writes files frames state t own
      by true g x =
          let k = going (thread_at state.world t).status (thread_at state.world t).pending g in by_stack k.0 k.1 (slice_get state.stacks t) refl x
      by false g x = not_some own x

-- ---- its event, wherever it stands so

module _ (writes : Variables → Bool) (files : Program) (rooted : Rooted files) (frames : ℕ) (state : State) (h : IsWellTyped files state) (t : ℕ) (own : StackOf Value)
    (n : IsNextOwn writes files frames state t own) where
  abbrev at : IsAt files state t
  at = n.at

  abbrev ops_now : List Value
  ops_now = ops_of values at.meaning at.frame.place.slots

  abbrev rest_now : List Value
  rest_now = under at.meaning.wants at.frame.place.slots

  steady_at : (later : State) → (s : StandsAs writes state t later)
      → IsSteady files frames t at.frame at.stack own writes at.site state.world later.world s.types s.variables s.statics ops_now rest_now at.meaning
  steady_at later s =
      let table = subst (OfMeaning (Steady files frames t at.frame at.stack own writes at.site state.world later.world s.types s.variables s.statics ops_now rest_now)) at.means
      (meaning_steady files frames t at.frame at.stack own writes at.site state.world later.world s.types s.variables s.statics ops_now rest_now) in
      table (kinded files (types_of state.world.heap) at.meaning.wants at.body.code.max_stack at.frame.place.slots (found files rooted frames state t at state h at.there at.status at.pending)) n.looks n.does

  goes_now : (later : State) → IsWellTyped files later → StandsAs writes state t later → step files frames later (next_event t) ≡ Some (with_stack later t own)
  goes_now later g s =
      let x = steady_at later s in
      step_at files rooted frames state t at later g s.alone (s.ready at.meaning.looks n.looks) 0
      ∙ (ap (λ b. put files rooted frames state t at later g s.alone (enabled_if b (done_at files rooted frames state t at later g s.alone 0))) (x.may 0)
      ∙ (ap (put files rooted frames state t at later g s.alone) x.becomes.becomes
      ∙ put_left files rooted frames state t at later g s.alone Free later.world own refl x.becomes.left))

  own_event : IsOwnEvent files frames writes state t own
  own_event =
      record {
        stack = Invocation at.frame ∷ at.stack;
        there = at.there;
        runs = at.status;
        goes = goes_now;
        only = λ later next pick g s e.
            only_zero files rooted frames state t at later g s.alone (s.ready at.meaning.looks n.looks) (λ p q. (steady_at later s).may p ∙ q) next pick e;
      }

pub own_steps_own : AreOwnStepsOwn
own_steps_own files trees accepted frames state h t own writes e =
    let rooted = (linked_of files trees accepted.linkable.spelled accepted.linkable.no_refusal).rooted in
    own_event writes trees rooted frames state h t own (next_own_of writes trees frames state t own e)
