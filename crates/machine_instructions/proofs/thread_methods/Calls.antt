-- A call by the frame on top of a thread: its operands, and the stack and the state after it.
use Rattle.std.proofs.Common.{◌≡◌, ◌<◌, ◌-◌, ℕ, zero, suc, List, [], ◌∷◌, ◌++◌, length, take, drop, Bool, true, Some, Result, Ok, Err, refl, sym, ap, subst, inl, arith, ◌∙◌}
use Rattle.std.specs.Prelude.{slice_get, slice_index_or, unwrap_or}
use Rattle.std.specs.Result.{IsErrAnd}
use Rattle.std.proofs.lemmas.Option.{get_or_from_slice_get}
use Rattle.model.specs.Classes.{Program}
use Rattle.model.specs.Operands.{word_reference, words}
use Rattle.model.specs.State as model
use Rattle.model.specs.State.{ObjectOf, Thread, FrameOf, StackOf, WorldOf, StateOf}
use Rattle.model.specs.Outcomes.{Cost, Free}
use Rattle.model.specs.LimitStands.{Bounds}
use Rattle.model.specs.BuiltInMethods.{object_of}
use Rattle.model.specs.Worlds.{thread_at}
use Rattle.model.specs.Frames.{at_offset, at_call}
use Rattle.model.specs.Step.{SteppedOf, PartOf, Next, part}
use Rattle.heap.specs.java_threads.Table.{thread_at as row_at}
use Rattle.linked_code.specs.declared.method.BuiltInMethod.{BuiltInMethod}
use Rattle.linked_code.specs.declared.program.LinkedProgram.{LinkedProgram}
use Rattle.thread_stacks.specs.Stacks.{ShownEntry, on_top, without}
use Rattle.machine_state.specs.shown_stacks.Shown.{ShowsFrame, ShowsStack}
use Rattle.machine_state.specs.declared.answers.Effect.{Effect}
use Rattle.machine_state.specs.declared.answers.Effect.TheVariants as effect
use Rattle.machine_state.specs.declared.refusals.EventRefusal.{EventRefusal}
use Rattle.machine_state.specs.declared.refusals.EventRefusal.TheVariants as refusal
use Rattle.machine_state.specs.declared.state.Shared.{Shared}
use Rattle.machine_state.specs.Shown.{Represents}
use Rattle.machine_state.specs.Events.{IsDone, MayBeRefused}
use Rattle.machine_state.specs.Instructions.{Does}
use Rattle.heap.specs.monitor_events.Tables.{among, over}
use Rattle.machine_instructions.specs.thread_methods.Called.{RefersTo, IsCalling}
use Rattle.machine_state.specs.Memory.{operand_counts, shown_counts, has_grown, takes_memory}
use Rattle.machine_state.proofs.Memory.{grown_frame, takes_by_growth}
use Rattle.machine_instructions.specs.thread_methods.Moves.{operand_of, went_on, Grows, Answers}

-- ---- operands

pub taken : (count : ℕ) (words : List ℕ) (k w : ℕ) → slice_get (take count words) k ≡ Some w → slice_get words k ≡ Some w
taken zero words k w e = absurd cc
taken (suc count) [] k w e = absurd cc
taken (suc count) (x ∷ words) zero w e = e
taken (suc count) (x ∷ words) (suc k) w e = taken count words k w e

-- the one on top is there where any is taken
pub first_taken : (count : ℕ) (words : List ℕ) → 0 < length (take count words)
    → slice_index_or (take count words) 0 0 ≡ slice_index_or words 0 0
first_taken zero words h = absurd (omega (arith, h))
first_taken (suc count) [] h = refl
first_taken (suc count) (x ∷ words) h = refl

module _ (trees : Program) (p : LinkedProgram) (bounds : Bounds) (inflated : List ℕ) (t : ℕ) (old : Shared) (from : List ShownEntry)
    (state : StateOf ℕ) (frame : FrameOf ℕ) (rest : StackOf ℕ) (called : BuiltInMethod) (count next offset : ℕ)
    (is : IsCalling trees p bounds inflated t old from state frame rest called count next offset) where
  abbrev pub world : WorldOf ℕ
  world = state.world

  abbrev pub represented : Represents trees p bounds old world
  represented = is.lent.represents

  shows : ShowsFrame trees p is.shown frame × ShowsStack trees p is.others rest
  shows = subst (λ s. ShowsStack trees p s (model.Invocation frame ∷ rest)) is.is_stack is.lent.shows_stack

  pub operand_is : (k : ℕ) → operand_of k from ≡ slice_index_or frame.place.slots.stack k 0
  operand_is k = ap (operand_of k) is.is_stack ∙ ap (λ words. slice_index_or words k 0) (sym shows.0.operands)

  -- the object to which an operand refers, as the definitions and as the code read it
  module _ (k : ℕ) (test : ObjectOf ℕ → Bool) (refers : RefersTo world.heap (take count frame.place.slots.stack) k test) where
    pub object_read : unwrap_or (word_reference (slice_index_or (take count frame.place.slots.stack) k 0)) 0 ≡ refers.reference
    object_read = ap (λ w. unwrap_or (word_reference w) 0) (get_or_from_slice_get (take count frame.place.slots.stack) k (suc refers.reference) 0 refers.word)

    pub object_is : operand_of k from - 1 ≡ refers.reference
    object_is =
        ap (λ w. w - 1) (operand_is k ∙ get_or_from_slice_get frame.place.slots.stack k (suc refers.reference) 0 (taken count frame.place.slots.stack k (suc refers.reference) refers.word))
        ∙ omega arith

    pub same_object : (object : ℕ) → object ≡ operand_of k from - 1
        → unwrap_or (word_reference (slice_index_or (take count frame.place.slots.stack) k 0)) 0 ≡ object
    same_object object e = object_read ∙ sym (e ∙ object_is)

  -- ---- the stack after it

  -- the frame goes on with these results
  abbrev pub gone_on : List ℕ → StackOf ℕ
  gone_on results = model.Invocation (at_offset frame offset (record { locals = frame.place.slots.locals; stack = results ++ drop count frame.place.slots.stack })) ∷ rest

  pub went : (results : List ℕ) → ShowsStack trees p (on_top (went_on count results next) from) (gone_on results)
  went results =
      subst (λ s. ShowsStack trees p (on_top (went_on count results next) s) (gone_on results)) (sym is.is_stack) (
        record {
          method = shows.0.method;
          offset = sym is.goes_on;
          locals = shows.0.locals;
          operands = ap (λ words. results ++ drop count words) shows.0.operands;
          entered = shows.0.entered;
        },
        shows.1,
      )

  -- it has more operands where the frame that is kept has
  grows : (word : ℕ) → Grows count from → has_grown (shown_counts from) (operand_counts (gone_on (word ∷ []))) ≡ true
  grows word more =
      grown_frame trees p is.shown is.others rest shows.1 from is.is_stack
      (at_offset frame offset (record { locals = frame.place.slots.locals; stack = word ∷ drop count frame.place.slots.stack }))
      (subst (λ ops. length is.shown.operands < suc (length (drop count ops))) (sym shows.0.operands) (subst (Grows count) is.is_stack more))

  pub stayed : ShowsStack trees p (on_top (without count) from) (model.Invocation (at_call frame (drop count frame.place.slots.stack))
      ∷ rest)
  stayed =
      subst (λ s. ShowsStack trees p (on_top (without count) s) (model.Invocation (at_call frame (drop count frame.place.slots.stack)) ∷ rest)) (sym is.is_stack) (
        record {
          method = shows.0.method;
          offset = shows.0.offset;
          locals = shows.0.locals;
          operands = ap (drop count) shows.0.operands;
          entered = shows.0.entered;
        },
        shows.1,
      )

  -- ---- the event

  -- it is done where it takes nothing, no lock is made fat, and no thread is new
  pub free : (after : WorldOf ℕ) (new : Shared) → Represents trees p bounds new after
      → new.heap.locks.fat ≡ old.heap.locks.fat → new.stacks.items ≡ old.stacks.items
      → length new.threads.threads ≡ length old.threads.threads
      → (to : List ShownEntry) (results : List ℕ) → to ≡ on_top (went_on count results next) from
      → IsDone trees p bounds inflated world (Next Free (part after (gone_on results))) old new to
  free after new r fat stacks threads to results is_to =
      record {
        cost = Free;
        next = part after (gone_on results);
        is = refl;
        becomes = record {
          within = refl;
          there = tt;
          represents = r;
          stack = subst (λ s. ShowsStack trees p s (gone_on results)) (sym is_to) (went results);
          flags = fat;
          others = inl (record { stacks = stacks; threads = threads });
        };
      }

  -- nothing shared has changed
  pub same : (to : List ShownEntry) (results : List ℕ) → to ≡ on_top (went_on count results next) from
      → IsDone trees p bounds inflated world (Next Free (part world (gone_on results))) old old to
  same = free world old represented refl refl refl

  -- there is no memory for its result, whatever is shared with it
  pub lacks : (word : ℕ) (why : EventRefusal) (to : List ShownEntry) → Answers (Err why) count word next from to
      → (shared : WorldOf ℕ) (value : ℕ) (result : Result Effect EventRefusal) → IsErrAnd result (λ told. told ≡ why)
      → Does trees p bounds inflated t world (model.Invocation frame
      ∷ rest) (Next Free (part shared (gone_on (value ∷ [])))) result old old from to
  lacks word why to h shared value (Ok told) e = absurd e
  lacks word refusal.Objects to h shared value (Err told) e = absurd h
  lacks word refusal.Cells to h shared value (Err told) e = absurd h
  lacks word refusal.Monitors to h shared value (Err told) e = absurd h
  lacks word refusal.Threads to h shared value (Err told) e = absurd h
  lacks word refusal.LockCount to h shared value (Err told) e = absurd h
  lacks word refusal.Memory to h shared value (Err told) e = (
    record { cost = Free; next = after; is = refl; may = subst (MayBeRefused trees bounds inflated world Free takes) (sym e) (takes_by_growth world (shown_counts from) Free after grown) },
    record { shared = refl; stack = h.0 },
  )
    where
      after : PartOf ℕ
      after = part shared (gone_on (value ∷ []))

      takes : Bool
      takes = takes_memory world (shown_counts from) Free after

      grown : has_grown (shown_counts from) (operand_counts after.stack) ≡ true
      grown = grows value h.1

  -- it has a result, or there is no memory for it
  with_result : (result : Result Effect EventRefusal) (word : ℕ) (to : List ShownEntry) → Answers result count word next from to
      → Does trees p bounds inflated t world (model.Invocation frame
      ∷ rest) (Next Free (part world (gone_on (word ∷ [])))) result old old from to
  with_result (Ok effect.Done) word to e = same to (word ∷ []) e
  with_result (Ok (effect.Raises fault)) word to e = absurd e
  with_result (Ok (effect.Throws thrown)) word to e = absurd e
  with_result (Ok effect.Interrupts) word to e = absurd e
  with_result (Ok effect.NotEnabled) word to e = absurd e
  with_result (Err why) word to e = lacks word why to e world word (Err why) refl

  pub answered : (word value : ℕ) → word ≡ value → (result : Result Effect EventRefusal) (to : List ShownEntry)
      → Answers result count word next from to
      → Does trees p bounds inflated t world (model.Invocation frame
      ∷ rest) (Next Free (part world (gone_on (value ∷ [])))) result old old from to
  answered word value e result to h =
      subst (λ v. Does trees p bounds inflated t world (model.Invocation frame ∷ rest) (Next Free (part world (gone_on (v ∷ [])))) result old old from to) e
      (with_result result word to h)

  -- it has a result, and shared state has changed after that
  pub passed : (done : Effect) (word value : ℕ) → word ≡ value → (to : List ShownEntry) → Answers (Ok done) count word next from to
      → (after : WorldOf ℕ) (new : Shared) → Represents trees p bounds new after
      → new.heap.locks.fat ≡ old.heap.locks.fat → new.stacks.items ≡ old.stacks.items
      → length new.threads.threads ≡ length old.threads.threads
      → Does trees p bounds inflated t world (model.Invocation frame
      ∷ rest) (Next Free (part after (gone_on (value ∷ [])))) (Ok done) old new from to
  passed effect.Done word value e to h after new r fat stacks threads = free after new r fat stacks threads to (value ∷ []) (h ∙ ap (λ w. on_top (went_on count (w ∷ []) next) from) e)
  passed (effect.Raises fault) word value e to h after new r fat stacks threads = absurd h
  passed (effect.Throws thrown) word value e to h after new r fat stacks threads = absurd h
  passed effect.Interrupts word value e to h after new r fat stacks threads = absurd h
  passed effect.NotEnabled word value e to h after new r fat stacks threads = absurd h

  -- ---- what is asked

  pub among_is : among world old.threads ≡ world
  among_is = λ i. record world { threads = represented.world_is.threads i }

  pub over_is : over world old.heap ≡ world
  over_is = λ i. record world { monitors = represented.world_is.monitors i }

  -- the row of the thread itself
  pub row_is : {B : Type 0} (read : Thread → B) → read (row_at old.threads.threads t) ≡ read (thread_at world t)
  row_is read = ap (λ (threads : List Thread). read (row_at threads t)) represented.world_is.threads

  module _ (test : ObjectOf ℕ → Bool) (refers : RefersTo world.heap (take count frame.place.slots.stack) 0 test) (object : ℕ) (is_object : object ≡ operand_of 0 from - 1) where
    -- what is answered of the object in a world that is this one
    answers_in : {B : Type 0} (other : WorldOf ℕ) → other ≡ world → (ask : WorldOf ℕ → ℕ → B) (flag : B) → flag ≡ ask other object
        → flag ≡ ask world (object_of words (take count frame.place.slots.stack) 0)
    answers_in other e ask flag h = h ∙ (λ i. ask (e i) (sym (same_object 0 test refers object is_object) i))

    -- by the table of threads, and by the heap
    pub says : {B : Type 0} (ask : WorldOf ℕ → ℕ → B) (flag : B) → flag ≡ ask (among world old.threads) object
        → flag ≡ ask world (object_of words (take count frame.place.slots.stack) 0)
    says = answers_in (among world old.threads) among_is

    pub says_over : {B : Type 0} (ask : WorldOf ℕ → ℕ → B) (flag : B) → flag ≡ ask (over world old.heap) object
        → flag ≡ ask world (object_of words (take count frame.place.slots.stack) 0)
    says_over = answers_in (over world old.heap) over_is

  -- ---- after it

  -- there are as many threads, where the worlds have as many
  pub as_many : (after : WorldOf ℕ) (new : Shared) → Represents trees p bounds new after → length after.threads ≡ length world.threads
      → length new.threads.threads ≡ length old.threads.threads
  as_many after new r e = ap (λ (threads : List Thread). length threads) r.world_is.threads ∙ e ∙ ap (λ (threads : List Thread). length threads) (sym represented.world_is.threads)

  -- a refusal changes nothing
  pub refused : (new : Shared) (stepped : SteppedOf (PartOf ℕ)) (cost : Cost) (after : PartOf ℕ) → stepped ≡ Next cost after
      → (told : EventRefusal) → MayBeRefused trees bounds inflated world cost (takes_memory world (shown_counts from) cost after) told → new ≡ old
      → (result : Result Effect EventRefusal) → IsErrAnd result (λ e. e ≡ told)
      → Does trees p bounds inflated t world (model.Invocation frame ∷ rest) stepped result old new from from
  refused new stepped cost after e told may unchanged (Ok other) h = absurd h
  refused new stepped cost after e told may unchanged (Err other) h =
      (record { cost = cost; next = after; is = e; may = subst (MayBeRefused trees bounds inflated world cost (takes_memory world (shown_counts from) cost after)) (sym h) may }, record { shared = unchanged; stack = refl })
