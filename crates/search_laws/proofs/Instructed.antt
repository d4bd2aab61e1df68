-- The event of a thread that is to do an instruction, wherever it stands so.
use Rattle.std.proofs.Common.{◌≡◌, ℕ, ◌-◌, List, [], ◌∷◌, ◌++◌, length, Bool, true, false, ◌==◌, if◌then◌else◌, Option, Some, None, refl, sym, ap, ◌∙◌, subst, arith}
use Rattle.std.specs.Prelude.{slice_get, slice_set, replicate}
use Rattle.std.specs.Option.{option_and_then}
use Rattle.std.proofs.lemmas.Bool.{eqb-true}
use Rattle.std.proofs.lemmas.List.{append-nil}
use Rattle.std.proofs.lemmas.Option.{none-some, get_or_from_slice_get}
use Rattle.model.specs.declared.event.Event.{Event}
use Rattle.model.specs.declared.value.Value.{Value}
use Rattle.model.specs.Classes.{Program}
use Rattle.model.specs.Meanings.{meaning_of}
use Rattle.model.specs.ClassInitialisation.{IsReady, look_at}
use Rattle.model.specs.Names.{Name}
use Rattle.model.specs.Operands.{values}
use Rattle.model.specs.Outcomes.{Cost}
use Rattle.model.specs.State.{types_of, Running, StackEntryOf, Invocation, StackOf, Thread, World, State}
use Rattle.model.specs.Step.{SteppedOf, WrongKind, Next, PartOf, part, enabled_if, unpicked, settled, ops_of, done, needing, needing_class, bytecode_by, bytecode_in, going_event, thread_event, with_part, event_of, next_by, step}
use Rattle.model.specs.WellTyped.{IsStackTyped, IsRunning, IsWellTyped}
use Rattle.model.specs.Worlds.{thread_at, no_thread}
use Rattle.model.specs.WrongKind.{finds_operands, finds_in}
use Rattle.run_laws.specs.interleavings.Statements.{IsLeftAlone}
use Rattle.run_laws.specs.laws.Steps.{Rooted}
use Rattle.run_laws.proofs.laws.Progress.{ready_finds}
use Rattle.run_laws.proofs.typed_runs.Settled.{lengths_same, thread_there}
use Rattle.search_laws.specs.OwnedMonitors.{IsAt}

-- a stack that is not empty
pub record IsLeft (own : StackOf Value) : Type 0 where
  pub entry : StackEntryOf Value
  pub rest : StackOf Value
  pub is : own ≡ entry ∷ rest

ready_needs : (files : Program) (t : ℕ) (class : Option Name) (world : World) (stack : StackOf Value) (x : SteppedOf (PartOf Value))
    → look_at t world class ≡ IsReady → needing_class values files t class world stack x ≡ x
ready_needs files t None world stack x e = refl
ready_needs files t (Some class) world stack x e = ap (λ look. needing values files t class look world stack x) e

-- where none comes first
pub none_ready : (t : ℕ) (world : World) (class : Option Name) → class ≡ None → look_at t world class ≡ IsReady
none_ready t world class e = ap (look_at t world) e

pub stays : (t : ℕ) (cost : Cost) (world : World) (own : StackOf Value) → IsLeft own
    → settled t (Next cost (part world own)) ≡ Next cost (part world own)
stays t cost world own l = subst (λ k. settled t (Next cost (part world k)) ≡ Next cost (part world k)) (sym l.is) refl

module _ (files : Program) (rooted : Rooted files) (frames : ℕ) (state : State) (t : ℕ) (at : IsAt files state t) where
  abbrev pub whole : StackOf Value
  whole = Invocation at.frame ∷ at.stack

  abbrev pub operands_at : List Value
  operands_at = ops_of values at.meaning at.frame.place.slots

  -- it finds its operands
  pub found : (later : State) → IsWellTyped files later → slice_get later.stacks t ≡ Some whole → (thread_at later.world t).status ≡ Running
      → (thread_at later.world t).pending ≡ None
      → values.finds files (types_of later.world.heap) at.meaning.wants at.body.code.max_stack at.frame.place.slots ≡ true
  found later g q runs none =
      let os = types_of later.world.heap in
      let th = thread_there files os later.world.threads later.stacks t whole g.threads q in
      let is = get_or_from_slice_get later.world.threads t th.0 no_thread th.1.0 in
      let status : th.0.status ≡ Running = sym (ap (λ (z : Thread). z.status) is) ∙ runs in
      let pending : th.0.pending ≡ None = sym (ap (λ (z : Thread). z.pending) is) ∙ none in
      let running : IsRunning files os None whole = subst (λ p. IsRunning files os p whole) pending (subst (λ s. IsStackTyped files os th.0.pending whole s) status th.1.1.stack_typed) in
      let all = ready_finds files rooted os at.frame running.0 in
      subst (λ o. finds_operands files os at.body.code.max_stack at.frame o ≡ true) at.means
      (subst (λ o. finds_operands files os at.body.code.max_stack at.frame (option_and_then (meaning_of values files) o) ≡ true) at.is_site
      (subst (λ o. finds_in files os at.frame o ≡ true) at.is_body all))

  module _ (later : State) (g : IsWellTyped files later) (s : IsLeftAlone state later t) where
    abbrev pub put : SteppedOf (PartOf Value) → Option State
    put x = next_by (with_part later t (settled t x))

    abbrev pub event_at : ℕ → Event
    event_at pick = record { thread = t; pick = pick }

    there_now : slice_get later.stacks t ≡ Some whole
    there_now = s.stack ∙ at.there

    runs_now : (thread_at later.world t).status ≡ Running
    runs_now = s.status ∙ at.status

    none_now : (thread_at later.world t).pending ≡ None
    none_now = s.pending ∙ at.pending

    abbrev pub done_at : ℕ → SteppedOf (PartOf Value)
    done_at pick = done values files frames (event_at pick) later.world at.frame at.stack at.meaning

    abbrev pub may_at : ℕ → Bool
    may_at pick = at.meaning.may (event_at pick) later.world operands_at

    -- where no class comes first, or one that the thread may use
    pub step_at : look_at t later.world at.meaning.looks ≡ IsReady → (pick : ℕ) → step files frames later (event_at pick) ≡ put (enabled_if (may_at pick) (done_at pick))
    step_at ready pick =
        ap (λ o. next_by (event_of values files frames later (event_at pick) o)) there_now
        ∙ (ap (λ z. put (thread_event values files frames (event_at pick) later.world whole z)) runs_now
        ∙ (ap (λ o. put (going_event values files frames (event_at pick) later.world whole o)) none_now
        ∙ (ap (λ o. put (bytecode_in values files frames (event_at pick) later.world at.frame at.stack o)) at.is_body
        ∙ (ap (λ o. put (bytecode_by values files frames (event_at pick) later.world at.frame at.stack at.body.code.max_stack (option_and_then (meaning_of values files) o))) at.is_site
        ∙ (ap (λ o. put (bytecode_by values files frames (event_at pick) later.world at.frame at.stack at.body.code.max_stack o)) at.means
        ∙ (ap (λ (b : Bool). put (if b then enabled_if (may_at pick) (needing_class values files t at.meaning.looks later.world whole (done_at pick)) else unpicked (event_at pick) WrongKind)) (found later g there_now runs_now none_now)
        ∙ ap (λ x. put (enabled_if (may_at pick) x)) (ready_needs files t at.meaning.looks later.world whole (done_at pick) ready)))))))

    -- what the thread leaves, with as many threads as there are
    pub put_left : (cost : Cost) (world : World) (own : StackOf Value) → world.threads ≡ later.world.threads → IsLeft own
        → put (Next cost (part world own)) ≡ Some (let z : State = record { world = world; stacks = slice_set later.stacks t own } in z)
    put_left cost world own same left =
        let e = lengths_same files (types_of later.world.heap) later.world.threads later.stacks g.threads in
        let n = ap length same in
        let none : length world.threads - length later.stacks ≡ 0 = omega (arith, e, n) in
        let ss = slice_set later.stacks t own in
        ap (λ x. next_by (with_part later t x)) (stays t cost world own left)
        ∙ (ap (λ k. Some (let z : State = record { world = world; stacks = ss ++ replicate k [] } in z)) none
        ∙ ap (λ k. Some (let z : State = record { world = world; stacks = k } in z)) (append-nil ss))

    -- one that takes pick 0 alone has no other event
    pub only_zero : look_at t later.world at.meaning.looks ≡ IsReady → ((pick : ℕ) → (pick == 0) ≡ false → may_at pick ≡ false) → (next : State) (pick : ℕ)
        → step files frames later (event_at pick) ≡ Some next → pick ≡ 0
    only_zero ready none next pick e = by (pick == 0) refl
      where
        by : (b : Bool) → (pick == 0) ≡ b → pick ≡ 0
        by true q = eqb-true pick 0 q
        by false q = absurd (none-some next (sym (step_at ready pick ∙ ap (λ b. put (enabled_if b (done_at pick))) (none pick q)) ∙ e))
