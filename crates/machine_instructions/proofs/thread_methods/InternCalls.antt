-- What `intern` gives.
use Rattle.std.proofs.Common.{◌≡◌, ◌<◌, ◌≤◌, ◌+◌, ◌-◌, ◌++◌, ℕ, zero, suc, List, [], ◌∷◌, Option, Some, None, Result, Ok, Err, length, length-append, take, drop, refl, sym, ap, subst, arith, ◌∙◌}
use Rattle.std.specs.Result.{IsErrAnd}
use Rattle.std.specs.Global.{Global}
use Rattle.std.specs.Prelude.{slice_index_or, Vec}
use Rattle.model.specs.declared.text_method.TextMethod.TheVariants as asks
use Rattle.model.specs.Classes.{Program}
use Rattle.model.specs.LimitStands.{Bounds}
use Rattle.model.specs.Opening.{string_references}
use Rattle.model.specs.Operands.{words}
use Rattle.model.specs.Outcomes.{Free}
use Rattle.model.specs.Sites.{object_of}
use Rattle.model.specs.State as model
use Rattle.model.specs.State.{FrameOf, StackOf, WorldOf, StateOf}
use Rattle.model.specs.Step.{SteppedOf, PartOf, part, become}
use Rattle.model.specs.TextMethods.{StandsFor, if_there, gives_standing, standing_for, with_interned}
use Rattle.model.specs.Texts.{Text}
use Rattle.linked_code.specs.declared.method.BuiltInMethod.TheVariants as method
use Rattle.linked_code.specs.declared.program.LinkedProgram.{LinkedProgram}
use Rattle.thread_stacks.specs.Stacks.{ShownEntry}
use Rattle.machine_state.specs.shown_stacks.Shown.{ShowsFrame, ShowsStack}
use Rattle.machine_state.specs.declared.answers.Effect.{Effect}
use Rattle.machine_state.specs.declared.answers.Effect.TheVariants as effect
use Rattle.machine_state.specs.declared.refusals.EventRefusal.{EventRefusal}
use Rattle.machine_state.specs.declared.refusals.EventRefusal.TheVariants as refusal
use Rattle.machine_state.specs.declared.state.Shared.{Shared}
use Rattle.machine_state.specs.Shown.{Represents}
use Rattle.machine_state.specs.Instructions.{Does}
use Rattle.machine_state.specs.Memory.{shown_counts}
use Rattle.machine_state.proofs.Memory.{takes_by_interning}
use Rattle.machine_instructions.specs.thread_methods.Called.{IsCalling}
use Rattle.machine_instructions.specs.thread_methods.Moves.{operand_of, Grows, Answers as AnswersBy}
use Rattle.machine_instructions.specs.thread_methods.Texts.{text_by}
use Rattle.machine_instructions.specs.thread_methods.TextWrites.{standing_in}
use Rattle.machine_instructions.proofs.thread_methods.Calls.{answered, gone_on, passed, refused}
use Rattle.machine_instructions.proofs.thread_methods.FilledTexts.{object_by}
use Rattle.machine_instructions.proofs.thread_methods.StandingTexts.{standing_is, found_there}
use Rattle.machine_instructions.proofs.thread_methods.StringCalls.{no_growth}
use Rattle.machine_instructions.proofs.thread_methods.TextWriteCalls.{DoesBy, enough, event, read, text_read, wanted}

module _ (trees : Program) (p : LinkedProgram) (bounds : Bounds) (inflated : List ℕ) (t : ℕ) (old : Shared) (from : List ShownEntry)
    (state : StateOf ℕ) (frame : FrameOf ℕ) (rest : StackOf ℕ) (count next offset : ℕ)
    (is : IsCalling trees p bounds inflated t old from state frame rest (method.StringWrites asks.Intern) count next offset) (frames : ℕ)
    (text : Text) (text_is : Some text ≡ text_by old.heap.objects (operand_of 0 from)) where
  abbrev world : WorldOf ℕ
  world = state.world

  abbrev ops : List ℕ
  ops = take count frame.place.slots.stack

  abbrev DoesWanted : Result Effect EventRefusal → (new : Shared) → (to : List ShownEntry) → Type 0
  DoesWanted result new to =
      DoesBy trees p bounds inflated t old from state frame rest asks.Intern count next offset is frames
      (wanted trees p bounds inflated t old from state frame rest asks.Intern count next offset is frames) result new to

  stands_for : wanted trees p bounds inflated t old from state frame rest asks.Intern count next offset is frames ≡ StandsFor text
  stands_for =
      ap (λ o. if_there o StandsFor)
      (sym (text_is ∙ text_read trees p bounds inflated t old from state frame rest asks.Intern count next offset is frames 0 (omega arith)))

  -- by what stands for the text
  abbrev giving : Option ℕ → SteppedOf (PartOf ℕ)
  giving standing = become words trees frames t world frame rest (gives_standing words standing offset world frame.place.slots ops (drop count frame.place.slots.stack))

  by_standing : (standing : Option ℕ) → standing ≡ standing_in p old.heap.objects old.interned.items text → (result : Result Effect EventRefusal)
      (new : Shared) (to : List ShownEntry) → Does trees p bounds inflated t world (model.Invocation frame ∷ rest) (giving standing) result old new from to
      → DoesWanted result new to
  by_standing standing e result new to h =
      subst (λ stepped. Does trees p bounds inflated t world (model.Invocation frame ∷ rest) stepped result old new from to)
      (ap giving (e ∙ standing_is trees p is.program old.heap.objects world is.lent.represents.world_is.objects text old.interned.items is.lent.represents.world_is.interned)
      ∙ ap (event trees p bounds inflated t old from state frame rest asks.Intern count next offset is frames) (sym stands_for)) h

  -- one that is there
  pub gives_found : (string : ℕ) → Some string ≡ standing_in p old.heap.objects old.interned.items text
      → (word : ℕ) → (string < length old.heap.objects → word ≡ string + 1) → (result : Result Effect EventRefusal) (to : List ShownEntry)
      → AnswersBy result count word next from to → DoesWanted result old to
  gives_found string e word is_word result to h =
      let there = found_there trees p is.program old.heap.objects world is.lent.represents.world_is.objects text string old.interned.items (sym e) in
      let same : word ≡ suc string = let w = is_word there in omega (arith, w) in
      by_standing (Some string) e result old to
      (answered trees p bounds inflated t old from state frame rest (method.StringWrites asks.Intern) count next offset is word (suc string) same result to h)

  -- ---- the receiver, from now on

  module _ (none : None ≡ standing_in p old.heap.objects old.interned.items text) where
    abbrev after : WorldOf ℕ
    after = with_interned world (object_of words ops 0)

    -- there was no memory for the row
    pub lacks_row : (result : Result Effect EventRefusal) → IsErrAnd result (λ told. told ≡ refusal.Memory) → DoesWanted result old from
    lacks_row result told =
        let longer : length world.interned < length after.interned = let more = length-append world.interned (object_of words ops 0 ∷ []) in omega (arith, more) in
        by_standing None none result old from
        (refused trees p bounds inflated t old from state frame rest (method.StringWrites asks.Intern) count next offset is old (giving None) Free
        (part after (gone_on trees p bounds inflated t old from state frame rest (method.StringWrites asks.Intern) count next offset is (slice_index_or ops 0 0 ∷ [])))
        refl refusal.Memory (takes_by_interning world (shown_counts from) Free
        (part after (gone_on trees p bounds inflated t old from state frame rest (method.StringWrites asks.Intern) count next offset is (slice_index_or ops 0 0 ∷ []))) longer) refl result told)

    shows : ShowsFrame trees p is.shown frame × ShowsStack trees p is.others rest
    shows = subst (λ s. ShowsStack trees p s (model.Invocation frame ∷ rest)) is.is_stack is.lent.shows_stack

    stays_low : Grows count from → ⊥
    stays_low grows =
        no_growth count frame.place.slots.stack (enough trees p bounds inflated t old from state frame rest asks.Intern count next offset is frames)
        (subst (λ ops. length ops < suc (length (drop count ops))) (sym shows.0.operands) (subst (Grows count) is.is_stack grows))

    module _ (object : ℕ) (object_is : object ≡ operand_of 0 from - 1) (interned : Vec ℕ Global) (items : interned.items ≡ old.interned.items ++ object ∷ [])
        (word : ℕ) (is_word : word ≡ operand_of 0 from) where
      abbrev row : Shared
      row = record old { interned = interned }

      receiver : operand_of 0 from ≡ slice_index_or ops 0 0
      receiver = read trees p bounds inflated t old from state frame rest asks.Intern count next offset is frames 0 (omega arith)

      of_receiver : object ≡ object_of words ops 0
      of_receiver = object_is ∙ ap (λ w. w - 1) receiver ∙ sym (object_by (slice_index_or ops 0 0))

      represents : Represents trees p bounds row after
      represents =
          let r = is.lent.represents in
          record {
            world_is = record {
              objects = r.world_is.objects;
              counted = r.world_is.counted;
              monitors = r.world_is.monitors;
              statics = r.world_is.statics;
              statuses = r.world_is.statuses;
              ready = r.world_is.ready;
              threads = r.world_is.threads;
              printed = r.world_is.printed;
              interned = items ∙ (λ i. r.world_is.interned i ++ of_receiver i ∷ []);
              unnamed = r.world_is.unnamed;
            };
            limits = record {
              opening = r.limits.opening;
              objects = r.limits.objects;
              cells = r.limits.cells;
              monitors = r.limits.monitors;
              threads = r.limits.threads;
            };
          }

      pub gives_receiver : (result : Result Effect EventRefusal) (to : List ShownEntry) → AnswersBy result count word next from to → DoesWanted result row to
      gives_receiver (Ok done) to h =
          by_standing None none (Ok done) row to
          (passed trees p bounds inflated t old from state frame rest (method.StringWrites asks.Intern) count next offset is done word (slice_index_or ops 0 0) (is_word ∙ receiver) to h
          after row represents refl refl refl)
      gives_receiver (Err refusal.Objects) to h = absurd h
      gives_receiver (Err refusal.Cells) to h = absurd h
      gives_receiver (Err refusal.Monitors) to h = absurd h
      gives_receiver (Err refusal.Threads) to h = absurd h
      gives_receiver (Err refusal.LockCount) to h = absurd h
      gives_receiver (Err refusal.Memory) to h = absurd (stays_low h.1)
