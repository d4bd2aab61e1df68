-- How a thread stands at an instruction, with the look at the class that it needs.
use Rattle.std.proofs.Common.{◌≡◌, ℕ, List, ◌∷◌, Option, Some, None, Bool, true, false, if◌then◌else◌, refl, sym, ap, ◌∙◌}
use Rattle.std.specs.Option.{option_map_or, option_and_then}
use Rattle.model.specs.Names.{Name}
use Rattle.model.specs.Classes.{Program, body_of, is_built_in}
use Rattle.model.specs.ClassInitialisation.{Look, IsReady, IsNew, IsHeld, HasFailed, look_at, look_by, is_held, status_in}
use Rattle.model.specs.Meaning.{waiting_at}
use Rattle.model.specs.Meanings.{meaning_of}
use Rattle.model.specs.Operands.{words}
use Rattle.model.specs.Report.{ThreadEnd, Runnable, Blocked, Initialising}
use Rattle.model.specs.Sites.{MeaningOf, Site}
use Rattle.model.specs.State.{Initialised, Invocation, FrameOf, StackOf, WorldOf}
use Rattle.model.specs.Step.{SteppedOf, PartOf, NotEnabled, is_enabled_by, enabled_if, needing, needing_class, ops_of, done, bytecode_by, bytecode_in, bytecode_event}
use Rattle.run_laws.specs.word_reports.Reports.{instruction_end_of, site_end_of, frame_end_of}
use Rattle.machine_state.specs.Instructions.{IsAt, AreInstructionsDone}
use Rattle.machine_state.specs.linked_frames.Frames.{event_of}
use Rattle.machine_threads.specs.waiting_instructions.Held.{ready_end}
use Rattle.machine_threads.proofs.waiting_instructions.Meant.{Kind, Quick, Enters, Invokes, kind_of}

-- ---- the look

module _ (trees : Program) (t : ℕ) (world : WorldOf ℕ) (stack : StackOf ℕ) (after : SteppedOf (PartOf ℕ)) where
  held_by : (looks : Option Name) → look_at t world looks ≡ IsHeld → needing_class words trees t looks world stack after ≡ NotEnabled
  held_by None e = absurd cc
  held_by (Some class) e = ap (λ (look : Look). needing words trees t class look world stack after) e

  new_by : (looks : Option Name) → look_at t world looks ≡ IsNew
      → is_enabled_by (needing_class words trees t looks world stack after) ≡ true
  new_by None e = absurd cc
  new_by (Some class) e = ap (λ (look : Look). is_enabled_by (needing words trees t class look world stack after)) e

  failed_by : (looks : Option Name) → look_at t world looks ≡ HasFailed
      → is_enabled_by (needing_class words trees t looks world stack after) ≡ true
  failed_by None e = absurd cc
  failed_by (Some class) e = ap (λ (look : Look). is_enabled_by (needing words trees t class look world stack after)) e

-- ---- a class that is not ready holds no other thread

-- it is one of a file
file_class : (t : ℕ) (world : WorldOf ℕ) (class : Name) → (look_at t world (Some class) ≡ IsReady → ⊥) → is_built_in class ≡ false
file_class t world class n = by (is_built_in class) refl
  where
    by : (b : Bool) → is_built_in class ≡ b → b ≡ false
    by true e = absurd (n (ap (λ b. look_by t (if b then Initialised else status_in class world.classes)) e))
    by false e = refl

module _ (trees : Program) (site : Site) (m : MeaningOf ℕ) (means : meaning_of words trees site ≡ Some m) (t : ℕ) (world : WorldOf ℕ)
    (ops : List ℕ) (n : look_at t world m.looks ≡ IsReady → ⊥) where
  unready_may : m.may (event_of t) world ops ≡ true
  unready_may = by (kind_of trees site m means)
    where
      by_class : (looks : Option Name) → m.looks ≡ looks
          → ((class : Name) → m.looks ≡ Some class → is_built_in class ≡ false → m.may (event_of t) world ops ≡ true)
          → m.may (event_of t) world ops ≡ true
      by_class None e h = absurd (n (ap (look_at t world) e))
      by_class (Some class) e h = h class e (file_class t world class (λ q. n (ap (look_at t world) e ∙ q)))

      by : Kind trees site m → m.may (event_of t) world ops ≡ true
      by (Quick q) = q.may t world ops
      by (Enters w e) = absurd (n (ap (λ (x : MeaningOf ℕ). look_at t world x.looks) e))
      by (Invokes w c) = by_class m.looks refl (λ class e file. c.by_class class e file t world ops)

-- ---- where a thread stands

module _ (trees : Program) (limit t : ℕ) (world : WorldOf ℕ) (frame : FrameOf ℕ) (rest : StackOf ℕ) (site : Site) (meaning : MeaningOf ℕ)
    (at : IsAt trees frame site meaning) where
  abbrev may : Bool
  may = meaning.may (event_of t) world (ops_of words meaning frame.place.slots)

  abbrev finished : SteppedOf (PartOf ℕ)
  finished = done words trees limit (event_of t) world frame rest meaning

  abbrev first : SteppedOf (PartOf ℕ)
  first = needing_class words trees t meaning.looks world (Invocation frame ∷ rest) finished

  abbrev whole : SteppedOf (PartOf ℕ)
  whole = bytecode_event words trees limit (event_of t) world frame rest

  whole_is : whole ≡ enabled_if may first
  whole_is =
      ap (bytecode_in words trees limit (event_of t) world frame rest) at.is_body
      ∙ ap (λ (s : Option Site). bytecode_by words trees limit (event_of t) world frame rest at.body.code.max_stack (option_and_then (meaning_of words trees) s)) at.stands
      ∙ ap (bytecode_by words trees limit (event_of t) world frame rest at.body.code.max_stack) at.means

  abbrev waits : ThreadEnd
  waits = frame_end_of words trees world t frame (body_of trees frame.method)

  waits_is : waits ≡ instruction_end_of words world t frame site meaning
  waits_is =
      ap (frame_end_of words trees world t frame) at.is_body
      ∙ ap (site_end_of words trees world t frame) at.stands
      ∙ ap (λ (m : Option (MeaningOf ℕ)). option_map_or (instruction_end_of words world t frame site) m Blocked) at.means

  abbrev stands : ThreadEnd
  stands = if is_enabled_by whole then Runnable else waits

  -- the class is ready
  pub ready_stands : AreInstructionsDone → look_at t world meaning.looks ≡ IsReady
      → stands ≡ ready_end trees limit t world frame rest site meaning
  ready_stands all ready =
      ap (λ (s : SteppedOf (PartOf ℕ)). if is_enabled_by s then Runnable else waits) (all trees limit (event_of t) world frame rest site meaning at ready)
      ∙ ap (λ (e : ThreadEnd). if is_enabled_by (enabled_if may finished) then Runnable else e)
      (waits_is ∙ ap (λ (look : Look). if is_held look then Initialising else if may then Blocked else waiting_at site.instr) ready)

  -- another thread initialises it
  pub held_stands : look_at t world meaning.looks ≡ IsHeld → stands ≡ Initialising
  held_stands held =
      ap (λ (s : SteppedOf (PartOf ℕ)). if is_enabled_by s then Runnable else waits) (whole_is ∙ ap (enabled_if may) (held_by trees t world (Invocation frame ∷ rest) finished meaning.looks held) ∙ never may)
      ∙ waits_is ∙ ap (λ (look : Look). if is_held look then Initialising else if may then Blocked else waiting_at site.instr) held
    where
      none : SteppedOf (PartOf ℕ)
      none = NotEnabled

      never : (b : Bool) → enabled_if b none ≡ NotEnabled
      never true = refl
      never false = refl

  enabled_first : (look_at t world meaning.looks ≡ IsReady → ⊥) → is_enabled_by first ≡ true → stands ≡ Runnable
  enabled_first n e =
      ap (λ b. if b then Runnable else waits)
      (ap is_enabled_by whole_is ∙ ap (λ b. is_enabled_by (enabled_if b first)) (unready_may trees site meaning at.means t world (ops_of words meaning frame.place.slots) n) ∙ e)

  -- the thread is the first that needs it, or its initialisation has failed
  pub new_stands : look_at t world meaning.looks ≡ IsNew → stands ≡ Runnable
  new_stands e = enabled_first (λ q. let both : IsReady ≡ IsNew = sym q ∙ e in cc) (new_by trees t world (Invocation frame ∷ rest) finished meaning.looks e)

  pub failed_stands : look_at t world meaning.looks ≡ HasFailed → stands ≡ Runnable
  failed_stands e = enabled_first (λ q. let both : IsReady ≡ HasFailed = sym q ∙ e in cc) (failed_by trees t world (Invocation frame ∷ rest) finished meaning.looks e)
