-- Copies of objects: which may be made, and how many of their words count.
use Rattle.std.proofs.Common.{◌≡◌, ◌<◌, ◌≤◌, ◌+◌, ◌-◌, ◌^◌, ℕ, zero, suc, List, [], ◌∷◌, Option, Some, None, Result, Ok, Err, Bool, true, false, if◌then◌else◌, length, map, take, drop, refl, sym, ap, subst, inl, arith, length-append, ◌∙◌}
use Rattle.std.specs.Result.{IsErrAnd}
use Rattle.std.specs.Prelude.{filter, slice_get, slice_index_or}
use Rattle.std.proofs.lemmas.Option.{get_or_from_slice_get}
use Rattle.model.specs.Names.{Name, Member, java_lang_string}
use Rattle.model.specs.BuiltIn.{built_in_classes}
use Rattle.model.specs.Classes.{Program, name_of}
use Rattle.model.specs.Cloning.{cloned, is_cloneable}
use Rattle.model.specs.HiddenMembers.{is_cell}
use Rattle.model.specs.LimitStands.{Bounds}
use Rattle.model.specs.Lookup.{instance_fields}
use Rattle.model.specs.Operands.{words}
use Rattle.model.specs.Outcomes.{Makes}
use Rattle.model.specs.ReferenceTypes.{ClassType}
use Rattle.model.specs.Sites.{object_of}
use Rattle.model.specs.State as model
use Rattle.model.specs.State.{ObjectOf, Instance, Primitives, References, Characters, FrameOf, StackOf, WorldOf, StateOf, type_of}
use Rattle.model.specs.Step.{SteppedOf, PartOf, part, become}
use Rattle.model.specs.Worlds.{allocated, cells_of, is_cell_field, no_object, object_at}
use Rattle.heap.specs.declared.kind.ObjectKind.{ObjectKind}
use Rattle.heap.specs.declared.kind.ObjectKind.TheVariants as kind
use Rattle.heap.specs.declared.refusal.AllocRefusal.{AllocRefusal}
use Rattle.heap.specs.declared.refusal.AllocRefusal.TheVariants as heap_refusal
use Rattle.heap.specs.Heap.{Object, Heap}
use Rattle.run_laws.specs.word_operands.Receivers.{is_any}
use Rattle.linked_code.specs.declared.class.LinkedClass.{LinkedClass}
use Rattle.linked_code.specs.declared.method.BuiltInMethod.TheVariants as method
use Rattle.linked_code.specs.declared.program.LinkedProgram.{LinkedProgram}
use Rattle.linked_code.specs.Numbers.{IsClassAt}
use Rattle.linked_code.specs.Programs.{IsLinkedProgram}
use Rattle.thread_stacks.specs.Stacks.{ShownEntry, on_top}
use Rattle.machine_state.specs.method_selection.Rows.{AreClassesRead}
use Rattle.machine_state.specs.shown_objects.Shown as shown
use Rattle.machine_state.specs.shown_objects.Shown.{IsKindOf, ShowsObject, names_of}
use Rattle.machine_state.specs.shown_stacks.Shown.{ShowsFrame, ShowsStack}
use Rattle.machine_state.specs.allocations.Allocated.{IsMade}
use Rattle.machine_state.specs.declared.answers.Effect.{Effect}
use Rattle.machine_state.specs.declared.answers.Effect.TheVariants as effect
use Rattle.machine_state.specs.declared.answers.MachineException.TheVariants as exception
use Rattle.machine_state.specs.declared.refusals.EventRefusal.{EventRefusal}
use Rattle.machine_state.specs.declared.refusals.EventRefusal.TheVariants as refusal
use Rattle.machine_state.specs.declared.state.Shared.{Shared}
use Rattle.machine_state.specs.Events.{MayBeRefused, limit_of}
use Rattle.machine_state.specs.Refusals.{of_heap}
use Rattle.machine_state.specs.Instructions.{Does}
use Rattle.machine_state.proofs.allocations.Allocating.{refused as heap_refused}
use Rattle.machine_state.proofs.allocations.Filling.{copies_made}
use Rattle.machine_state.proofs.shown_objects.Cells.{cells_named}
use Rattle.machine_state.proofs.shown_objects.Objects.{shown_at}
use Rattle.machine_instructions.specs.thread_methods.Called.{IsCalling}
use Rattle.machine_instructions.specs.thread_methods.Clones.{IsCopied, IsCopyRefused, copied_cells, kind_cells, object_cells, row_cells}
use Rattle.machine_instructions.specs.thread_methods.Moves.{operand_of, went_on, Grows, Answers as AnswersBy}
use Rattle.machine_instructions.proofs.thread_methods.Calls.{gone_on, object_is, object_read, refused, went}
use Rattle.machine_instructions.proofs.thread_methods.StringCalls.{no_growth}
use Rattle.std.proofs.lemmas.Option.{slice_get_within}

-- a String is not cloned
string_not : (trees : Program) → is_cloneable trees (ClassType java_lang_string) ≡ false
unfolding built_in_classes
string_not trees = refl

-- what is told of a kind: whether the object may be cloned, and how many cells it has
module _ (trees : Program) (p : LinkedProgram) (linked : IsLinkedProgram trees p) (read : AreClassesRead) where
  row_is : (number : ℕ) (class : Name) → IsClassAt trees number class
      → row_cells (slice_get p.classes.items number) ≡ (if is_cloneable trees (ClassType class) then Some (length (filter is_cell (instance_fields trees class))) else None)
  row_is number class at =
      let h = read trees p linked number class at in
      ap row_cells h.is
      ∙ ((λ i. if h.linked.cloneable i then Some (h.linked.cells i) else None)
      ∙ ap (λ c. if is_cloneable trees (ClassType c) then Some (length (filter is_cell (instance_fields trees c))) else None) h.named)

  pub cells_told : (k : ObjectKind) (m : ObjectOf ℕ) (ws : List ℕ) → IsKindOf trees p.components.items k m → ws ≡ shown.cells_of m
      → kind_cells p k (length ws) ≡ (if is_cloneable trees (type_of m) then Some (cells_of m) else None)
  cells_told (kind.Instance number) (Instance class fields) ws is e =
      let count : length (filter is_cell (instance_fields trees class)) ≡ length (filter is_cell_field fields) =
      ap (λ l. length (filter is_cell l)) (sym is.1) ∙ sym (cells_named fields) in
      row_is number class is.0 ∙ ap (λ n. if is_cloneable trees (ClassType class) then Some n else None) count
  cells_told (kind.Instance number) (Characters text) ws is e =
      row_is number java_lang_string is.0
      ∙ (ap (λ b. if b then Some (length (filter is_cell (instance_fields trees java_lang_string))) else None) (string_not trees)
      ∙ sym (ap (λ b. if b then Some (length text) else None) (string_not trees)))
  cells_told (kind.Instance number) (Primitives of elements) ws is e = absurd is
  cells_told (kind.Instance number) (References of elements) ws is e = absurd is
  cells_told kind.Ints (Primitives of elements) ws is e = ap (λ (l : List ℕ). Some (length l)) e
  cells_told kind.Ints (Instance class fields) ws is e = absurd is
  cells_told kind.Ints (References of elements) ws is e = absurd is
  cells_told kind.Ints (Characters text) ws is e = absurd is
  cells_told (kind.Narrow narrow) (Primitives of elements) ws is e = ap (λ (l : List ℕ). Some (length l)) e
  cells_told (kind.Narrow narrow) (Instance class fields) ws is e = absurd is
  cells_told (kind.Narrow narrow) (References of elements) ws is e = absurd is
  cells_told (kind.Narrow narrow) (Characters text) ws is e = absurd is
  cells_told (kind.References number) (References of elements) ws is e = ap (λ (l : List ℕ). Some (length l)) e
  cells_told (kind.References number) (Instance class fields) ws is e = absurd is
  cells_told (kind.References number) (Primitives of elements) ws is e = absurd is
  cells_told (kind.References number) (Characters text) ws is e = absurd is

none_is : (b : Bool) (n : ℕ) → None ≡ (if b then Some n else None) → b ≡ false
none_is true n e = absurd cc
none_is false n e = refl

some_is : (b : Bool) (n cells : ℕ) → Some cells ≡ (if b then Some n else None) → (b ≡ true) × (cells ≡ n)
some_is true n cells e = (refl, cc)
some_is false n cells e = absurd cc

module _ (trees : Program) (p : LinkedProgram) (bounds : Bounds) (inflated : List ℕ) (t : ℕ) (old : Shared) (from : List ShownEntry)
    (state : StateOf ℕ) (frame : FrameOf ℕ) (rest : StackOf ℕ) (count next offset : ℕ)
    (is : IsCalling trees p bounds inflated t old from state frame rest method.ObjectClone count next offset) (frames : ℕ) (read : AreClassesRead)
    (object : ℕ) (is_object : object ≡ operand_of 0 from - 1) where
  abbrev world : WorldOf ℕ
  world = state.world

  abbrev ops : List ℕ
  ops = take count frame.place.slots.stack

  abbrev original : ObjectOf ℕ
  original = is.arguments.object

  abbrev pub event : Bool → ObjectOf ℕ → SteppedOf (PartOf ℕ)
  event may o = become words trees frames t world frame rest (cloned words may o offset world frame.place.slots (drop count frame.place.slots.stack))

  abbrev whole : SteppedOf (PartOf ℕ)
  whole = event (is_cloneable trees (type_of (object_at world (object_of words ops 0)))) (object_at world (object_of words ops 0))

  abbrev pub DoesBy : Result Effect EventRefusal → (new : Shared) → (to : List ShownEntry) → Type 0
  DoesBy result new to = Does trees p bounds inflated t world (model.Invocation frame ∷ rest) whole result old new from to

  code_reads : object ≡ is.arguments.reference
  code_reads = is_object ∙ object_is trees p bounds inflated t old from state frame rest method.ObjectClone count next offset is 0 is_any is.arguments

  found : (o : Object) × (slice_get old.heap.objects is.arguments.reference ≡ Some o) × ShowsObject trees p.components.items o original
  found = shown_at trees p.components.items old.heap.objects world.heap is.arguments.reference original is.lent.represents.world_is.objects is.arguments.there

  there : slice_get old.heap.objects object ≡ Some found.0
  there = ap (slice_get old.heap.objects) code_reads ∙ found.1

  whole_is : whole ≡ event (is_cloneable trees (type_of original)) original
  whole_is =
      ap (λ r. event (is_cloneable trees (type_of (object_at world r))) (object_at world r))
      (object_read trees p bounds inflated t old from state frame rest method.ObjectClone count next offset is 0 is_any is.arguments)
      ∙ ap (λ o. event (is_cloneable trees (type_of o)) o) (get_or_from_slice_get world.heap is.arguments.reference original no_object is.arguments.there)

  told : copied_cells p old.heap.objects object ≡ (if is_cloneable trees (type_of original) then Some (cells_of original) else None)
  told = ap (object_cells p) there ∙ cells_told trees p is.program.linked read found.0.kind original found.0.words found.2.kind found.2.words

  pub raises : None ≡ copied_cells p old.heap.objects object → DoesBy (Ok (effect.Raises exception.CloneNotSupported)) old from
  raises e = (whole_is ∙ ap (λ b. event b original) (none_is (is_cloneable trees (type_of original)) (cells_of original) (e ∙ told)), record { shared = refl; stack = refl })

  module _ (cells : ℕ) (e : Some cells ≡ copied_cells p old.heap.objects object) where
    may : (is_cloneable trees (type_of original) ≡ true) × (cells ≡ cells_of original)
    may = some_is (is_cloneable trees (type_of original)) (cells_of original) cells (e ∙ told)

    abbrev own : StackOf ℕ
    own = gone_on trees p bounds inflated t old from state frame rest method.ObjectClone count next offset is (suc (length world.heap) ∷ [])

    abbrev after : PartOf ℕ
    after = part (allocated world original) own

    event_is : whole ≡ event true original
    event_is = whole_is ∙ ap (λ b. event b original) may.0

    shows : ShowsFrame trees p is.shown frame × ShowsStack trees p is.others rest
    shows = subst (λ s. ShowsStack trees p s (model.Invocation frame ∷ rest)) is.is_stack is.lent.shows_stack

    some : 0 < length ops
    some = slice_get_within ops 0 (suc is.arguments.reference) is.arguments.word

    stays_low : Grows count from → ⊥
    stays_low grows =
        no_growth count frame.place.slots.stack some
        (subst (λ ops. length ops < suc (length (drop count ops))) (sym shows.0.operands) (subst (Grows count) is.is_stack grows))

    module _ (heap : Heap) where
      abbrev new : Shared
      new = record old { heap = heap }

      module _ (copied : IsCopied (slice_get old.heap.objects object) cells old.heap heap) (word : ℕ) (is_word : word ≡ length heap.objects) (fits : word < 2 ^ 32) where
        last : IsCopied (Some found.0) cells old.heap heap
        last = subst (λ o. IsCopied o cells old.heap heap) there copied

        counted : word ≡ length old.heap.objects + 1
        counted = is_word ∙ ap (λ (h : Heap). length h.objects) last.after ∙ length-append old.heap.objects (found.0 ∷ [])

        is_made : IsMade trees p bounds inflated world original (length old.heap.objects) cells old new
        is_made =
            copies_made trees p bounds inflated world old new is.lent.represents found.0 original cells found.2 may.1 (omega (arith, counted, fits)) last.opened last.objects last.cells_fit
            (ap (λ h. record old { heap = h }) last.after)

        word_is : word ≡ suc (length world.heap)
        word_is = let same = is_made.next in omega (arith, counted, same)

        pub makes : (result : Result Effect EventRefusal) (to : List ShownEntry) → AnswersBy result count word next from to → DoesBy result new to
        makes (Ok effect.Done) to h =
            let stack_is : to ≡ on_top (went_on count (suc (length world.heap) ∷ []) next) from = h ∙ ap (λ w. on_top (went_on count (w ∷ []) next) from) word_is in
            record {
              cost = Makes (cells_of original);
              next = after;
              is = event_is;
              becomes = record {
                within = ap (λ n. limit_of trees bounds inflated world (Makes n)) (sym may.1) ∙ is_made.within;
                there = tt;
                represents = is_made.represents;
                stack = subst (λ s. ShowsStack trees p s own) (sym stack_is) (went trees p bounds inflated t old from state frame rest method.ObjectClone count next offset is (suc (length world.heap) ∷ []));
                flags = is_made.flags;
                others = inl (record { stacks = refl; threads = refl });
              };
            }
        makes (Ok (effect.Raises fault)) to h = absurd h
        makes (Ok (effect.Throws thrown)) to h = absurd h
        makes (Ok effect.Interrupts) to h = absurd h
        makes (Ok effect.NotEnabled) to h = absurd h
        makes (Err refusal.Objects) to h = absurd h
        makes (Err refusal.Cells) to h = absurd h
        makes (Err refusal.Monitors) to h = absurd h
        makes (Err refusal.Threads) to h = absurd h
        makes (Err refusal.LockCount) to h = absurd h
        makes (Err refusal.Memory) to h = absurd (stays_low h.1)

      -- it is refused
      unmade_by : (why : AllocRefusal) → MayBeRefused trees bounds inflated world (Makes cells) true (of_heap why) × (heap ≡ old.heap) → (result : Result Effect EventRefusal)
          → IsErrAnd result (λ told. told ≡ of_heap why) → DoesBy result new from
      unmade_by why both result h =
          refused trees p bounds inflated t old from state frame rest method.ObjectClone count next offset is new whole (Makes (cells_of original)) after
          event_is (of_heap why) (subst (λ n. MayBeRefused trees bounds inflated world (Makes n) true (of_heap why)) may.1 both.0) (ap (λ h. record old { heap = h }) both.1) result h

      pub unmade : (why : AllocRefusal) → IsCopyRefused why cells old.heap heap → (result : Result Effect EventRefusal)
          → IsErrAnd result (λ told. told ≡ of_heap why) → DoesBy result new from
      unmade heap_refusal.Objects told = unmade_by heap_refusal.Objects (heap_refused trees p bounds inflated world old new is.lent.represents cells heap_refusal.Objects told)
      unmade heap_refusal.Cells told = unmade_by heap_refusal.Cells (heap_refused trees p bounds inflated world old new is.lent.represents cells heap_refusal.Cells told)
      unmade heap_refusal.Memory told = unmade_by heap_refusal.Memory (refl, told)
