-- What an object answers of its number and of its class, and what that makes of the event.
use Rattle.std.proofs.Common.{◌≡◌, ◌-◌, ◌%◌, ◌^◌, ℕ, zero, suc, List, [], ◌∷◌, Result, Ok, take, drop, refl, sym, ap, subst, arith}
use Rattle.std.specs.Prelude.{length}
use Rattle.std.specs.Result.{IsErrAnd}
use Rattle.std.proofs.lemmas.Option.{get_or_from_slice_get}
use Rattle.model.specs.declared.object_method.ObjectMethod.{ObjectMethod}
use Rattle.model.specs.declared.object_method.ObjectMethod.TheVariants as asked
use Rattle.model.specs.Classes.{Program}
use Rattle.model.specs.LimitStands.{Bounds}
use Rattle.model.specs.Names.{Name}
use Rattle.model.specs.ObjectMethods.{ObjectAnswer, IsNull, HasNoClass, Answers, Composes, IsOf, object_answer, object_place, answer_about, tells, type_at}
use Rattle.model.specs.Opening.{class_reference}
use Rattle.model.specs.Operands.{words, word_reference}
use Rattle.model.specs.Sites.{int_operand, referent}
use Rattle.model.specs.State as model
use Rattle.model.specs.State.{Characters, FrameOf, StackOf, WorldOf, StateOf}
use Rattle.model.specs.Outcomes.{Makes}
use Rattle.model.specs.Step.{SteppedOf, PartOf, part, become}
use Rattle.model.specs.Texts.{Text}
use Rattle.model.specs.Worlds.{allocated}
use Rattle.linked_code.specs.declared.method.BuiltInMethod.TheVariants as method
use Rattle.linked_code.specs.declared.program.LinkedProgram.{LinkedProgram}
use Rattle.run_laws.specs.word_operands.Receivers.{is_any}
use Rattle.thread_stacks.specs.Stacks.{ShownEntry}
use Rattle.machine_state.specs.declared.answers.Effect.{Effect}
use Rattle.machine_state.specs.declared.answers.Effect.TheVariants as effect
use Rattle.machine_state.specs.declared.answers.MachineException.TheVariants as exception
use Rattle.machine_state.specs.declared.refusals.EventRefusal.{EventRefusal}
use Rattle.machine_state.specs.declared.refusals.EventRefusal.TheVariants as refusal
use Rattle.machine_state.specs.declared.state.Shared.{Shared}
use Rattle.machine_state.specs.Instructions.{Does}
use Rattle.machine_instructions.specs.thread_methods.Called.{IsCalling, RefersTo}
use Rattle.machine_instructions.specs.thread_methods.Moves.{Answers as AnswersBy}
use Rattle.machine_instructions.specs.thread_methods.NewTexts.{composes}
use Rattle.machine_instructions.proofs.thread_methods.Calls.{answered as answered_by, gone_on, refused}

module _ (trees : Program) (p : LinkedProgram) (bounds : Bounds) (inflated : List ℕ) (t : ℕ) (old : Shared) (from : List ShownEntry)
    (state : StateOf ℕ) (frame : FrameOf ℕ) (rest : StackOf ℕ) (m : ObjectMethod) (count next offset : ℕ)
    (is : IsCalling trees p bounds inflated t old from state frame rest (method.ObjectAnswers m) count next offset) (frames : ℕ) where
  abbrev pub world : WorldOf ℕ
  world = state.world

  abbrev pub ops : List ℕ
  ops = take count frame.place.slots.stack

  -- what is wanted
  abbrev pub wanted : ObjectAnswer
  wanted = object_answer trees m (referent words ops (object_place m)) (type_at world) (int_operand words ops 0)

  abbrev pub event : ObjectAnswer → SteppedOf (PartOf ℕ)
  event answer = become words trees frames t world frame rest (tells words trees answer offset world frame.place.slots (drop count frame.place.slots.stack))

  abbrev pub DoesBy : ObjectAnswer → Result Effect EventRefusal → (new : Shared) → (to : List ShownEntry) → Type 0
  DoesBy answer result new to = Does trees p bounds inflated t world (model.Invocation frame ∷ rest) (event answer) result old new from to

  -- ---- the answers

  pub gives : (bits : ℕ) → Answers bits ≡ wanted → (word : ℕ) → word ≡ bits → (result : Result Effect EventRefusal) (to : List ShownEntry)
      → AnswersBy result count word next from to → DoesBy wanted result old to
  gives bits e word is_word result to h =
      subst (λ answer. DoesBy answer result old to) e
      (answered_by trees p bounds inflated t old from state frame rest (method.ObjectAnswers m) count next offset is word bits is_word result to h)

  pub gives_class : (class : Name) → IsOf class ≡ wanted → (word : ℕ) → word ≡ suc (class_reference trees class) → (result : Result Effect EventRefusal)
      (to : List ShownEntry) → AnswersBy result count word next from to → DoesBy wanted result old to
  gives_class class e word is_word result to h =
      subst (λ answer. DoesBy answer result old to) e
      (answered_by trees p bounds inflated t old from state frame rest (method.ObjectAnswers m) count next offset is word (suc (class_reference trees class)) is_word result to h)

  pub has_none : HasNoClass ≡ wanted → DoesBy wanted (Ok (effect.Raises exception.IncompatibleClassChange)) old from
  has_none e = (ap event (sym e), record { shared = refl; stack = refl })

  pub is_null : IsNull ≡ wanted → DoesBy wanted (Ok (effect.Raises exception.NullPointer)) old from
  is_null e = (ap event (sym e), record { shared = refl; stack = refl })

  -- a String of the text, as a call that makes one does
  pub composed : (text : Text) → Composes text ≡ wanted → (units : Text) → text ≡ units → (result : Result Effect EventRefusal) (new : Shared) (to : List ShownEntry)
      → Does trees p bounds inflated t world (model.Invocation frame ∷ rest) (become words trees frames t world frame rest (composes world frame units count offset)) result old new from to
      → DoesBy wanted result new to
  composed text e units same result new to h =
      subst (λ answer. DoesBy answer result new to) e
      (subst (λ u. Does trees p bounds inflated t world (model.Invocation frame ∷ rest) (become words trees frames t world frame rest (composes world frame u count offset)) result old new from to) (sym same) h)

  -- there was no memory for it
  pub lacks : (text : Text) → Composes text ≡ wanted → (result : Result Effect EventRefusal) → IsErrAnd result (λ told. told ≡ refusal.Memory)
      → DoesBy wanted result old from
  lacks text e result told =
      refused trees p bounds inflated t old from state frame rest (method.ObjectAnswers m) count next offset is old (event wanted) (Makes (length text))
      (part (allocated world (Characters text)) (gone_on trees p bounds inflated t old from state frame rest (method.ObjectAnswers m) count next offset is (suc (length world.heap) ∷ [])))
      (ap event (sym e)) refusal.Memory refl refl result told

  -- ---- of an object that is there

  pub told : (refers : RefersTo world.heap ops (object_place m) is_any)
      → answer_about trees m refers.reference (type_at world refers.reference) (int_operand words ops 0) ≡ wanted
  told refers =
      ap (λ w. object_answer trees m (word_reference w) (type_at world) (int_operand words ops 0))
      (sym (get_or_from_slice_get ops (object_place m) (suc refers.reference) 0 refers.word))

-- null has the number 0
pub identity : (trees : Program) (shown : WorldOf ℕ) (int w : ℕ)
    → Answers ((w - 1) % 2 ^ 32) ≡ object_answer trees asked.IdentityHashCode (word_reference w) (type_at shown) int
identity trees shown int zero = refl
identity trees shown int (suc r) =
    let same : suc r - 1 ≡ r = omega arith in ap (λ n. Answers (n % 2 ^ 32)) same
