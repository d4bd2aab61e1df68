-- What a typing says where a frame stands: its instruction, where that leads, and where its handlers begin.
use Rattle.std.proofs.Common.{◌≡◌, ℕ, ◌+◌, List, [], ◌∷◌, ◌++◌, Bool, true, false, ◌&&◌, Option, Some, None, refl, sym, ap, ◌∙◌, subst}
use Rattle.std.specs.Prelude.{if◌then◌else◌, unwrap_or}
use Rattle.std.specs.Option.{option_map, option_and_then}
use Rattle.std.specs.List.{AllByRecursion}
use Rattle.std.proofs.lemmas.Bool.{and_parts}
use Rattle.std.proofs.lemmas.Option.{same_Some}
use Rattle.model.specs.declared.event.Event.{Event}
use Rattle.model.specs.declared.value.Value.{Value}
use Rattle.model.specs.Classes.{Program, Body}
use Rattle.model.specs.Instruction.{Sized, sized_at, length_at}
use Rattle.model.specs.Types.{type_meets}
use Rattle.model.specs.Operands.{values, over_types, is_ready, under}
use Rattle.model.specs.TypeOrder.{FrameType}
use Rattle.model.specs.State.{types_of, Frame, World}
use Rattle.model.specs.Sites.{MeaningOf, Site, site_with}
use Rattle.model.specs.Meanings.{meaning_of}
use Rattle.model.specs.Step.{next_of, ops_of}
use Rattle.model.specs.Typing as typing
use Rattle.model.specs.Typing.{Reaches, may_stand, successors, handlers_from, flow_by, flow_at}
use Rattle.model.specs.Names.{java_lang_thread}
use Rattle.model.specs.Worlds.{thread_at}
use Rattle.model.specs.WellTyped.{is_object_in, Stands, Ready}
use Rattle.run_laws.proofs.typed_runs.Changes.{Fits, Live, OutcomeTyped}
use Rattle.run_laws.proofs.laws.Linked.{Linked}
use Rattle.run_laws.proofs.typed_runs.Going.{Here, Allows}

-- what is to be shown of each instruction
abbrev pub InstructionsTyped : Program → Type 0
InstructionsTyped files =
    (event : Event) (world : World) (frame : Frame) (site : Site) (here : Here files event.thread world frame site) (meaning : MeaningOf Value)
    → meaning_of values files site ≡ Some meaning
    → Allows files frame here.ready.stopped.stands site meaning
    → meaning.may event world (ops_of values meaning frame.place.slots) ≡ true
    → OutcomeTyped files event.thread world
    frame (meaning.does event world frame.place.slots (ops_of values meaning frame.place.slots) (under meaning.wants frame.place.slots))

-- the instruction where a frame stands, and what its typing says
pub record Flow (files : Program) (frame : Frame) (stands : Stands files frame) : Type 0 where
  pub sized : Sized
  pub is_sized : sized_at stands.body.code.code frame.place.offset ≡ Some sized
  pub meaning : MeaningOf Value
  pub is_meaning : meaning_of values files (site_with frame.method stands.body frame.place.offset sized) ≡ Some meaning
  pub allows : Allows files frame stands (site_with frame.method stands.body frame.place.offset sized) meaning
  pub handled : AllByRecursion (λ lead. Reaches files stands.typing lead.0 lead.1)
      (handlers_from files stands.body.pool frame.place.offset stands.type stands.body.code.exceptions)

-- a branch that was taken
taken : (b : Bool) (xs leads : List (ℕ × FrameType)) → (if b then Some xs else None) ≡ Some leads → (b ≡ true) × (xs ≡ leads)
taken true xs leads h = (refl, same_Some xs leads h)
taken false xs leads h = absurd cc

every_parts : {A : Type 0} (P : A → Type 0) (xs ys : List A) → AllByRecursion P (xs ++ ys) → AllByRecursion P xs × AllByRecursion P ys
every_parts P [] ys h = (tt, h)
every_parts P (x ∷ xs) ys h = let q = every_parts P xs ys h.1 in ((h.0, q.0), q.1)

module _ (files : Program) (frame : Frame) (stands : Stands files frame) where
  flow_meaning : (sized : Sized) (leads : List (ℕ × FrameType)) (o : Option (MeaningOf Value))
      → sized_at stands.body.code.code frame.place.offset ≡ Some sized
      → meaning_of values files (site_with frame.method stands.body frame.place.offset sized) ≡ o
      → flow_by files (site_with frame.method stands.body frame.place.offset sized) stands.type o ≡ Some leads
      → AllByRecursion (λ lead. Reaches files stands.typing lead.0 lead.1) leads → Flow files frame stands
  flow_meaning sized leads None e m h reached = absurd cc
  flow_meaning sized leads (Some meaning) e m h reached =
      let site = site_with frame.method stands.body frame.place.offset sized in
      let t = taken (may_stand site stands.type site.instr && is_ready (type_meets files) over_types meaning.wants site.body.code.max_stack stands.type.slots) _ leads h in
      let parts = every_parts (λ lead. Reaches files stands.typing lead.0 lead.1) (successors site meaning stands.type) (handlers_from files site.body.pool site.offset stands.type site.body.code.exceptions) (subst (AllByRecursion (λ lead. Reaches files stands.typing lead.0 lead.1)) (sym t.1) reached) in
      record {
        sized = sized;
        is_sized = e;
        meaning = meaning;
        is_meaning = m;
        allows = record { finds = (and_parts _ _ t.0).1; leads = parts.0 };
        handled = parts.1;
      }

  flow_sized : (leads : List (ℕ × FrameType)) (o : Option Sized) → sized_at stands.body.code.code frame.place.offset ≡ o
      → flow_at files stands.type (option_map (site_with frame.method stands.body frame.place.offset) o) ≡ Some leads
      → AllByRecursion (λ lead. Reaches files stands.typing lead.0 lead.1) leads → Flow files frame stands
  flow_sized leads None e h reached = absurd cc
  flow_sized leads (Some sized) e h reached =
      flow_meaning sized leads (meaning_of values files (site_with frame.method stands.body frame.place.offset sized)) e refl h reached

  pub flow_of : Flow files frame stands
  flow_of =
      let rule = stands.holds.agrees frame.place.offset stands.type stands.typed in
      flow_sized rule.leads (sized_at stands.body.code.code frame.place.offset) refl rule.flows rule.reached

  -- the offset after it
  pub next_is : (sized : Sized) → sized_at stands.body.code.code frame.place.offset ≡ Some sized
      → frame.place.offset + sized.1 ≡ next_of files frame
  next_is sized e =
      let length = ap (λ (o : Option Sized). unwrap_or (option_map (λ (s : Sized). s.1) o) 0) e in
      let whole = ap (λ (o : Option Body). unwrap_or (option_and_then (λ (body : Body). length_at body.code.code frame.place.offset) o) 0) stands.is_body in
      ap (λ n. frame.place.offset + n) (sym (whole ∙ length))

-- a frame that is ready is at its instruction
abbrev pub here_of : (files : Program) → Linked files → typing.AreTyped files → (t : ℕ) (world : World) (frame : Frame) → Fits files world
    → Live world t → is_object_in files (types_of world.heap) java_lang_thread (thread_at world t).object ≡ true
    → (ready : Ready files (types_of world.heap) frame) → (sized : Sized)
    → sized_at ready.stopped.stands.body.code.code frame.place.offset ≡ Some sized
    → Here files t world frame (site_with frame.method ready.stopped.stands.body frame.place.offset sized)
here_of files linked accepted t world frame fits live self ready sized e =
    let stands = ready.stopped.stands in
    record {
      linked = linked;
      accepted = accepted;
      fits = fits;
      live = live;
      self = self;
      ready = ready;
      is_body = stands.is_body;
      method_is = refl;
      next_is = next_is files frame stands sized e;
      size = sized.1;
      sized = e;
      starts = stands.holds.starts frame.place.offset stands.type stands.typed;
    }
