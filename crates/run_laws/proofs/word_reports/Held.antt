-- For what a thread waits, by its words.
use Rattle.std.proofs.Common.{◌≡◌, ℕ, List, [], ◌∷◌, ◌++◌, map, take, drop, length, true, if◌then◌else◌, Option, Some, None, refl, sym, ap, ◌∙◌, subst}
use Rattle.std.specs.Prelude.{slice_index_or}
use Rattle.std.specs.Option.{option_and_then, option_map_or}
use Rattle.model.specs.declared.event.Event.{Event}
use Rattle.model.specs.declared.value.Value.{Value}
use Rattle.model.specs.declared.value.Value.TheVariants as value
use Rattle.model.specs.Classes.{Program, Body, body_of}
use Rattle.model.specs.ReferenceTypes.{ReferenceType}
use Rattle.model.specs.Types.{value_meets}
use Rattle.model.specs.Operands.{Slots, Wants, words, values, over_values, over_words, operands, is_ready, word_of}
use Rattle.model.specs.State.{types_of, Frame, Invocation, Initialisation, StackOf, World}
use Rattle.model.specs.ClassInitialisation.{look_at, is_held}
use Rattle.model.specs.Sites.{MeaningOf, Site, site_at}
use Rattle.model.specs.Meanings.{meaning_of}
use Rattle.model.specs.Step.{ops_of}
use Rattle.model.specs.Report.{Blocked, Initialising}
use Rattle.model.specs.Meaning.{waiting_at}
use Rattle.model.specs.WrongKind.{finds_operands, finds_in}
use Rattle.model.specs.WellTyped.{IsRunning}
use Rattle.model.specs.Words.{map_slots, map_frame}
use Rattle.run_laws.specs.laws.Steps.{Rooted}
use Rattle.run_laws.proofs.laws.Lists.{Pairwise}
use Rattle.run_laws.proofs.laws.Rows.{ready_popped}
use Rattle.run_laws.proofs.laws.Progress.{ready_finds}
use Rattle.run_laws.proofs.laws.WordLists.{operands_words}
use Rattle.run_laws.proofs.word_runs.WordWorlds.{world_words}
use Rattle.run_laws.proofs.word_runs.WordMeanings.{Kinded, Same}
use Rattle.run_laws.proofs.word_runs.WordTable.{SameIf, meaning_same}
use Rattle.run_laws.proofs.word_runs.WordEvents.{stack_words}
use Rattle.run_laws.specs.word_reports.Reports.{instruction_end_of, site_end_of, frame_end_of, held_end_of}

after_reads : {A B : Type 0} (f : A → B) (rs : List A) (ys : List B) → drop (length rs) (map f rs ++ ys) ≡ ys
after_reads f [] ys = refl
after_reads f (r ∷ rs) ys = after_reads f rs ys

-- operands that are found are as wanted
kinded : (files : Program) (os : List ReferenceType) (w : Wants) (max : ℕ) (s : Slots Value)
    → is_ready (value_meets files os) over_values w max s ≡ true → Kinded files os w (operands over_values w s)
kinded files os w max s e =
    subst (λ l. Pairwise (value_meets files os) w.pops l) (sym (after_reads (λ r. slice_index_or s.locals r.0 value.Unset) w.reads (take (length w.pops) s.stack)))
    (ready_popped (value_meets files os) over_values w max s e)

module _ (files : Program) (world : World) (t : ℕ) where
  abbrev event : Event
  event = record { thread = t; pick = 0 }

  module _ (frame : Frame) where
    module _ (v : MeaningOf Value) (w : MeaningOf ℕ) (same : Same files v w) (q : Kinded files (types_of world.heap) v.wants (ops_of values v frame.place.slots)) where
      ops_same : ops_of words w (map_slots word_of frame.place.slots) ≡ map word_of (ops_of values v frame.place.slots)
      ops_same = ap (λ x. operands over_words x (map_slots word_of frame.place.slots)) same.wants ∙ operands_words v.wants frame.place.slots

      allowed_words : w.may event (world_words world) (ops_of words w (map_slots word_of frame.place.slots))
          ≡ v.may event world (ops_of values v frame.place.slots)
      allowed_words = ap (λ o. w.may event (world_words world) o) ops_same ∙ same.may event world (ops_of values v frame.place.slots) q

      instruction_words : (site : Site) → instruction_end_of words (world_words world) t (map_frame word_of frame) site w
          ≡ instruction_end_of values world t frame site v
      instruction_words site =
          ap (λ l. if is_held (look_at t world l) then Initialising else if w.may event (world_words world) (ops_of words w (map_slots word_of frame.place.slots)) then Blocked else waiting_at site.instr) same.looks
          ∙ ap (λ b. if is_held (look_at t world v.looks) then Initialising else if b then Blocked else waiting_at site.instr) allowed_words

    meaning_words : (site : Site) (max : ℕ) (v : Option (MeaningOf Value)) (w : Option (MeaningOf ℕ)) → SameIf files v w
        → finds_operands files (types_of world.heap) max frame v ≡ true
        → option_map_or (instruction_end_of words (world_words world) t (map_frame word_of frame) site) w Blocked
        ≡ option_map_or (instruction_end_of values world t frame site) v Blocked
    meaning_words site max None None s e = refl
    meaning_words site max None (Some w) s e = absurd s
    meaning_words site max (Some v) None s e = absurd s
    meaning_words site max (Some v) (Some w) s e = instruction_words v w s (kinded files (types_of world.heap) v.wants max frame.place.slots e) site

    site_words : (max : ℕ) (o : Option Site)
        → finds_operands files (types_of world.heap) max frame (option_and_then (meaning_of values files) o) ≡ true
        → site_end_of words files (world_words world) t (map_frame word_of frame) o ≡ site_end_of values files world t frame o
    site_words max None e = refl
    site_words max (Some site) e = meaning_words site max (meaning_of values files site) (meaning_of words files site) (meaning_same files site) e

    frame_words : (o : Option Body) → finds_in files (types_of world.heap) frame o ≡ true
        → frame_end_of words files (world_words world) t (map_frame word_of frame) o ≡ frame_end_of values files world t frame o
    frame_words None e = refl
    frame_words (Some body) e = site_words body.code.max_stack (site_at frame.method body frame.place.offset) e

  -- of a thread that runs; where an exception is pending over a frame, the thread may step
  pub held_words : Rooted files → (stack : StackOf Value) (pending : Option ℕ) → IsRunning files (types_of world.heap) pending stack
      → ((exception : ℕ) (frame : Frame) (rest : StackOf Value) → pending ≡ Some exception → stack ≡ Invocation frame ∷ rest → ⊥)
      → held_end_of words files (world_words world) t (stack_words stack) ≡ held_end_of values files world t stack
  held_words rooted [] pending h may = refl
  held_words rooted (Initialisation class phase ∷ stack) pending h may = refl
  held_words rooted (Invocation frame ∷ stack) None h may = frame_words frame (body_of files frame.method) (ready_finds files rooted (types_of world.heap) frame h.0)
  held_words rooted (Invocation frame ∷ stack) (Some exception) h may = absurd (may exception frame stack refl refl)
