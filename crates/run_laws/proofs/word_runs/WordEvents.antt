-- What becomes of a part of a state, by its words: exceptions, classes, calls and returns.
use Rattle.std.proofs.Common.{◌≡◌, ℕ, suc, List, [], ◌∷◌, map, Bool, true, false, nat_lt, if◌then◌else◌, Option, Some, None, refl, sym, ap, ◌∙◌}
use Rattle.std.proofs.lemmas.List.{map-append, length-map}
use Rattle.model.specs.declared.value.Value.{Value}
use Rattle.model.specs.declared.value.Value.TheVariants as value
use Rattle.model.specs.declared.class_file.ExceptionEntry.{ExceptionEntry}
use Rattle.model.specs.Names.{Name, Member, throwable_message, throwable_cause}
use Rattle.model.specs.Classes.{Program, Body}
use Rattle.model.specs.Operands.{words, values, word_of}
use Rattle.model.specs.State.{ObjectOf, Frame, Invocation, Initialisation, StackOf, Super, World, WakeCause, Notified, Interrupted}
use Rattle.model.specs.Outcomes.{MachineException, exception_class, NoClassDefFound, StackOverflow, IllegalMonitorState, ExceptionInInitializer, InterruptedWait, Makes, OutcomeOf, Goes, Raises, Throws, Interrupts, Calls, Returns, Waits}
use Rattle.model.specs.Worlds.{allocated, with_pending, with_interrupted, may_enter, entry_cost, with_entry, is_owner, with_exit}
use Rattle.model.specs.Opening.{first_instance, string_reference}
use Rattle.model.specs.MachineExceptions.{message_of, with_message, with_cause, machine_exception}
use Rattle.model.specs.ClassInitialisation.{Look, IsReady, IsNew, IsHeld, HasFailed, look_by, status_of}
use Rattle.model.specs.Frames.{frame_with, frame_count, at_call}
use Rattle.model.specs.Step.{SteppedOf, Next, PartOf, part, on_to, enabled_if, raised_for, raised, raised_by_interrupt, needing, needing_class, entering, pushed, leaving, next_of, returned, become, initialiser_event, unwound, failed, after_wait}
use Rattle.model.specs.Words.{map_frame, map_stack}
use Rattle.run_laws.specs.word_runs.Words.{map_outcome, map_part, map_stepped}
use Rattle.run_laws.proofs.word_runs.WordWorlds.{world_words, object_words, allocated_words, with_field_words, first_instance_words, begun_words}
use Rattle.run_laws.proofs.word_runs.WordCalls.{frame_words}

abbrev pub stack_words : StackOf Value → StackOf ℕ
stack_words stack = map_stack word_of stack

-- an answer for words is the one for values
abbrev pub Carries : SteppedOf (PartOf ℕ) → SteppedOf (PartOf Value) → Type 0
Carries x y = x ≡ map_stepped (map_part word_of) y

pub enabled_words : (b : Bool) (x : SteppedOf (PartOf ℕ)) (y : SteppedOf (PartOf Value)) → Carries x y
    → Carries (enabled_if b x) (enabled_if b y)
enabled_words true x y e = e
enabled_words false x y e = refl

pub either_words : (b : Bool) (x u : SteppedOf (PartOf ℕ)) (y v : SteppedOf (PartOf Value)) → Carries x y → Carries u v
    → Carries (if b then x else u) (if b then y else v)
either_words true x u y v e f = e
either_words false x u y v e f = f

-- ---- exceptions

module _ (files : Program) where
  exception_words : (fault : MachineException) (cause : Option ℕ)
      → machine_exception words files fault cause ≡ object_words (machine_exception values files fault cause)
  exception_words fault cause =
      ap (λ o. with_cause words cause (with_message words files (message_of fault) o)) (first_instance_words files (exception_class fault))
      ∙ (ap (with_cause words cause) (message_words (message_of fault) (first_instance values files (exception_class fault)))
      ∙ cause_words cause (with_message values files (message_of fault) (first_instance values files (exception_class fault))))
    where
      message_words : (text : Option (List ℕ)) (o : ObjectOf Value) → with_message words files text (object_words o) ≡ object_words (with_message values files text o)
      message_words None o = refl
      message_words (Some text) o = with_field_words throwable_message (value.Reference (string_reference files text)) o

      cause_words : (exception : Option ℕ) (o : ObjectOf Value) → with_cause words exception (object_words o) ≡ object_words (with_cause values exception o)
      cause_words None o = refl
      cause_words (Some exception) o = with_field_words throwable_cause (value.Reference exception) o

  raised_for_words : (t : ℕ) (fault : MachineException) (cause : Option ℕ) (world : World) (stack : StackOf Value)
      → Carries (raised_for words files t fault cause (world_words world) (stack_words stack)) (raised_for values files t fault cause world stack)
  raised_for_words t fault cause world stack =
      let o = machine_exception values files fault cause in
      let e = ap (allocated (world_words world)) (exception_words fault cause) ∙ allocated_words world o in
      let n = length-map world.heap object_words in
      λ i. Next (Makes 0) (part (with_pending (e i) t (n i)) (stack_words stack))

  pub raised_words : (t : ℕ) (fault : MachineException) (world : World) (stack : StackOf Value)
      → Carries (raised words files t fault (world_words world) (stack_words stack)) (raised values files t fault world stack)
  raised_words t fault world stack = raised_for_words t fault None world stack

  pub interrupted_words : (t : ℕ) (world : World) (stack : StackOf Value)
      → Carries (raised_by_interrupt words files t (world_words world) (stack_words stack)) (raised_by_interrupt values files t world stack)
  interrupted_words t world stack = raised_words t InterruptedWait (with_interrupted world t false) stack

  pub failed_words : (t exception : ℕ) (b : Bool) (world : World) (stack : StackOf Value)
      → Carries (failed words files t exception b (world_words world) (stack_words stack)) (failed values files t exception b world stack)
  failed_words t exception true world stack = refl
  failed_words t exception false world stack = raised_for_words t ExceptionInInitializer (Some exception) world stack

-- ---- classes

module _ (files : Program) where
  needing_words : (t : ℕ) (class : Name) (look : Look) (world : World) (stack : StackOf Value) (x : SteppedOf (PartOf ℕ))
      (y : SteppedOf (PartOf Value)) → Carries x y
      → Carries (needing words files t class look (world_words world) (stack_words stack) x)
      (needing values files t class look world stack y)
  needing_words t class IsReady world stack x y e = e
  needing_words t class IsNew world stack x y e = ap (λ w. on_to w (Initialisation class Super ∷ stack_words stack)) (begun_words files t class world)
  needing_words t class IsHeld world stack x y e = refl
  needing_words t class HasFailed world stack x y e = raised_words files t NoClassDefFound world stack

  pub needing_class_words : (t : ℕ) (class : Option Name) (world : World) (stack : StackOf Value) (x : SteppedOf (PartOf ℕ))
      (y : SteppedOf (PartOf Value)) → Carries x y
      → Carries (needing_class words files t class (world_words world) (stack_words stack) x)
      (needing_class values files t class world stack y)
  needing_class_words t None world stack x y e = e
  needing_class_words t (Some class) world stack x y e = needing_words t class (look_by t (status_of world class)) world stack x y e

-- ---- calls and returns

entering_words : (t : ℕ) (world : World) (rest : StackOf Value) (frame : Frame) (o : Option ℕ)
    → Carries (entering t (world_words world) (stack_words rest) (map_frame word_of frame) o) (entering t world rest frame o)
entering_words t world rest frame None = refl
entering_words t world rest frame (Some object) =
    enabled_words (may_enter world t object) (Next (entry_cost world object) (part (world_words (with_entry world t object)) (stack_words (Invocation frame ∷ rest)))) (Next (entry_cost world object) (part (with_entry world t object) (Invocation frame ∷ rest))) refl

count_words : (stack : StackOf Value) → frame_count (stack_words stack) ≡ frame_count stack
count_words [] = refl
count_words (Invocation frame ∷ stack) = ap suc (count_words stack)
count_words (Initialisation class phase ∷ stack) = count_words stack

pub pushed_words : (files : Program) (frames t : ℕ) (world after : World) (stack rest : StackOf Value) (frame : Frame)
    → Carries (pushed words files frames t (world_words world) (world_words after) (stack_words stack) (stack_words rest) (map_frame word_of frame))
    (pushed values files frames t world after stack rest frame)
pushed_words files frames t world after stack rest frame =
    ap (λ n. if nat_lt n frames then entering t (world_words after) (stack_words rest) (map_frame word_of frame) frame.entered else raised words files t StackOverflow (world_words world) (stack_words stack)) (count_words stack)
    ∙ either_words (nat_lt (frame_count stack) frames) (entering t (world_words after) (stack_words rest) (map_frame word_of frame) frame.entered) (raised words files t StackOverflow (world_words world) (stack_words stack)) (entering t after rest frame frame.entered) (raised values files t StackOverflow world stack)
    (entering_words t after rest frame frame.entered) (raised_words files t StackOverflow world stack)

pub leaving_words : (files : Program) (t : ℕ) (o : Option ℕ) (world : World) (rest stack : StackOf Value)
    → Carries (leaving words files t o (world_words world) (stack_words rest) (stack_words stack)) (leaving values files t o world rest stack)
leaving_words files t None world rest stack = refl
leaving_words files t (Some object) world rest stack =
    either_words (is_owner world t object) (on_to (world_words (with_exit world t object)) (stack_words rest)) (raised words files t IllegalMonitorState (world_words world) (stack_words stack)) (on_to (with_exit world t object) rest) (raised values files t IllegalMonitorState world stack)
    refl (raised_words files t IllegalMonitorState world stack)

pub returned_words : (files : Program) (results : List Value) (stack : StackOf Value)
    → returned files (map word_of results) (stack_words stack) ≡ stack_words (returned files results stack)
returned_words files results [] = refl
returned_words files results (Invocation frame ∷ stack) =
    ap (λ l. Invocation (record {
      method = frame.method;
      place = record { offset = next_of files frame; slots = record { locals = map word_of frame.place.slots.locals; stack = l } };
      entered = frame.entered;
    }) ∷ stack_words stack) (sym (map-append word_of results frame.place.slots.stack))
returned_words files results (Initialisation class phase ∷ stack) = refl

-- what an instruction makes of the stack
pub become_words : (files : Program) (frames t : ℕ) (world : World) (frame : Frame) (stack : StackOf Value) (o : OutcomeOf Value)
    → Carries (become words files frames t (world_words world) (map_frame word_of frame) (stack_words stack) (map_outcome word_of o))
    (become values files frames t world frame stack o)
become_words files frames t world frame stack (Goes cost after slots to) = refl
become_words files frames t world frame stack (Raises fault) = raised_words files t fault world (Invocation frame ∷ stack)
become_words files frames t world frame stack (Throws exception) = refl
become_words files frames t world frame stack Interrupts = interrupted_words files t world (Invocation frame ∷ stack)
become_words files frames t world frame stack (Calls callee rest) =
    pushed_words files frames t world world (Invocation frame ∷ stack) (Invocation (at_call frame rest) ∷ stack) callee
become_words files frames t world frame stack (Returns after results) =
    ap (λ s. leaving words files t frame.entered (world_words after) s (stack_words (Invocation frame ∷ stack))) (returned_words files results stack)
    ∙ leaving_words files t frame.entered after (returned files results stack) (Invocation frame ∷ stack)
become_words files frames t world frame stack (Waits cost after rest) = refl

-- ---- events of other entries

pub initialiser_words : (files : Program) (frames t : ℕ) (m : Member) (world : World) (stack : StackOf Value) (o : Option Body)
    → Carries (initialiser_event words files frames t m (world_words world) (stack_words stack) o)
    (initialiser_event values files frames t m world stack o)
initialiser_words files frames t m world stack None = refl
initialiser_words files frames t m world stack (Some body) =
    ap (λ f. pushed words files frames t (world_words world) (world_words world) (stack_words stack) (stack_words stack) f) (frame_words m [] None body)
    ∙ pushed_words files frames t world world stack stack (frame_with values m [] None body)

pub unwound_words : (files : Program) (t exception : ℕ) (world : World) (frame : Frame) (stack : StackOf Value) (o : Option ExceptionEntry)
    → Carries (unwound words files t exception (world_words world) (map_frame word_of frame) (stack_words stack) o)
    (unwound values files t exception world frame stack o)
unwound_words files t exception world frame stack None = leaving_words files t frame.entered world stack stack
unwound_words files t exception world frame stack (Some entry) = refl

pub after_wait_words : (files : Program) (t : ℕ) (cause : WakeCause) (world : World) (stack : StackOf Value)
    → Carries (after_wait words files t cause (world_words world) (stack_words stack)) (after_wait values files t cause world stack)
after_wait_words files t Notified world stack = ap (λ s. on_to (world_words world) s) (returned_words files [] stack)
after_wait_words files t Interrupted world stack = interrupted_words files t world stack
