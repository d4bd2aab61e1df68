-- An event takes no object away, and leaves each with its type.
use Rattle.std.proofs.Common.{◌≡◌, ℕ, Option, Some, None, refl, sym, ap, ◌∙◌, subst}
use Rattle.std.specs.Prelude.{slice_get}
use Rattle.std.proofs.lemmas.Option.{get_or_from_slice_get}
use Rattle.model.specs.declared.event.Event.{Event}
use Rattle.model.specs.declared.value.Value.{Value}
use Rattle.model.specs.Classes.{Program}
use Rattle.model.specs.Operands.{words, values}
use Rattle.model.specs.State.{types_of, Thread, StackOf, State, StateOf}
use Rattle.model.specs.Outcomes.{Cost}
use Rattle.model.specs.Worlds.{no_thread, thread_at}
use Rattle.model.specs.Step.{SteppedOf, NotEnabled, WrongKind, Next, PartOf, settled, thread_event, with_part, event_of, stepped}
use Rattle.model.specs.Typing.{AreTyped}
use Rattle.model.specs.WellTyped.{Extends, IsStackTyped, IsWellTyped}
use Rattle.model.specs.Words.{words_of, AreWellTypedWords}
use Rattle.run_laws.proofs.laws.Linked.{Linked}
use Rattle.run_laws.proofs.typed_runs.Flows.{InstructionsTyped}
use Rattle.run_laws.proofs.typed_runs.StepParts.{OnPart}
use Rattle.run_laws.proofs.typed_runs.Settled.{settled_typed, thread_there}
use Rattle.run_laws.specs.word_runs.Words.{map_stepped}
use Rattle.run_laws.proofs.word_runs.WordWorlds.{types_words}
use Rattle.run_laws.proofs.word_runs.Carried.{carried}
use Rattle.run_laws.proofs.soundness.Sound.{fits_of, by_status, links, instructs}
use Rattle.run_laws.specs.typed_threads.Objects.{AreObjectsKept}
use Rattle.run_laws.proofs.typed_threads.Instances.{types_are, keeps_of}

-- what becomes of an event extends the types
abbrev Extending : State → SteppedOf State → Type 0
Extending state NotEnabled = Unit {0}
Extending state WrongKind = Unit {0}
Extending state (Next cost next) = Extends (types_of state.world.heap) (types_of next.world.heap)

module _ (files : Program) (linked : Linked files) (accepted : AreTyped files) (instructions : InstructionsTyped files) (frames : ℕ)
    (state : State) (h : IsWellTyped files state) (event : Event) where
  part_extends : (x : SteppedOf (PartOf Value)) → OnPart files event.thread state.world x → Extending state (with_part state event.thread x)
  part_extends NotEnabled x = tt
  part_extends WrongKind x = tt
  part_extends (Next cost p) x = x.changes.extends

  event_extends : (o : Option (StackOf Value)) → slice_get state.stacks event.thread ≡ o
      → Extending state (event_of values files frames state event o)
  event_extends None e = tt
  event_extends (Some stack) e =
      let at = thread_there files (types_of state.world.heap) state.world.threads state.stacks event.thread stack h.threads e in
      let is = ap (λ (th : Thread). th.status) (get_or_from_slice_get state.world.threads event.thread at.0 no_thread at.1.0) in
      let status = (thread_at state.world event.thread).status in
      let x = thread_event values files frames event state.world stack status in
      let typed = by_status files linked accepted instructions frames event state.world (fits_of files state h) at.0 at.1.0 at.1.1.object stack status (sym is) (subst (IsStackTyped files (types_of state.world.heap) at.0.pending stack) (sym is) at.1.1.stack_typed) in
      part_extends (settled event.thread x) (settled_typed files event.thread state.world at.0 at.1.0 x typed)

  pub step_extends : Extending state (stepped values files frames state event)
  step_extends = event_extends (slice_get state.stacks event.thread) refl

-- an event at words comes of one at values
pub record FromValues (y : SteppedOf State) (next : StateOf ℕ) : Type 0 where
  pub cost : Cost
  pub after : State
  pub is : y ≡ Next cost after
  pub are : words_of after ≡ next

from_values : (y : SteppedOf State) (cost : Cost) (next : StateOf ℕ) → map_stepped words_of y ≡ Next cost next → FromValues y next
from_values NotEnabled cost next e = absurd (no_next e)
  where
    no_next : {S : Type 0} {c : Cost} {s : S} → NotEnabled ≡ Next c s → ⊥
    no_next e = absurd cc
from_values WrongKind cost next e = absurd (no_next e)
  where
    no_next : {S : Type 0} {c : Cost} {s : S} → WrongKind ≡ Next c s → ⊥
    no_next e = absurd cc
from_values (Next c after) cost next e = record { cost = c; after = after; is = refl; are = of_next e }
  where
    of_next : Next c (words_of after) ≡ Next cost next → words_of after ≡ next
    of_next e = cc

pub stepped_at_values : (trees : Program) (linked : Linked trees) (frames : ℕ) (before : StateOf ℕ) (event : Event) (cost : Cost)
    (next : StateOf ℕ) (h : AreWellTypedWords trees before) → stepped words trees frames before event ≡ Next cost next
    → FromValues (stepped values trees frames h.0 event) next
stepped_at_values trees linked frames before event cost next h e =
    from_values (stepped values trees frames h.0 event) cost next
    (sym (carried trees linked.rooted frames h.0 event h.1.typed) ∙ subst (λ (w : StateOf ℕ). stepped words trees frames w event ≡ Next cost next) h.1.are e)

pub objects_kept : AreObjectsKept
objects_kept files trees accepted frames before event cost next h e =
    let linked = links files trees accepted in
    let f = stepped_at_values trees linked frames before event cost next h e in
    let x = subst (Extending h.0) f.is (step_extends trees linked accepted.typed (instructs files trees accepted) frames h.0 h.1.typed event) in
    let to = ap (λ (w : StateOf ℕ). types_of w.world.heap) (sym f.are) ∙ types_words f.after.world.heap in
    keeps_of before.world.heap next.world.heap
    (subst (λ os. Extends os (types_of next.world.heap)) (sym (types_are trees before h)) (subst (Extends (types_of h.0.world.heap)) (sym to) x))
