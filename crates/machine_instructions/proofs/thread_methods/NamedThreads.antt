-- A call of a method that names a Thread: the Thread is there, and its fields are words in their slots.
use Rattle.std.proofs.Common.{◌≡◌, ◌<◌, ◌+◌, ◌-◌, ◌%◌, ◌^◌, ℕ, zero, suc, List, [], ◌∷◌, Some, true, length, take, refl, sym, ap, subst, arith, ◌∙◌}
use Rattle.std.specs.Prelude.{slice_get, slice_index_or}
use Rattle.std.proofs.lemmas.Option.{get_or_from_slice_get, slice_get_within}
use Rattle.model.specs.declared.name_method.NameMethod.{NameMethod}
use Rattle.model.specs.Names.{Name, Member, java_lang_thread, thread_target, thread_name, thread_ordinal}
use Rattle.model.specs.BuiltInMethods.{object_of}
use Rattle.model.specs.Classes.{Program, is_subclass}
use Rattle.model.specs.LimitStands.{Bounds}
use Rattle.model.specs.Operands.{words}
use Rattle.model.specs.State as model
use Rattle.model.specs.State.{ObjectOf, Instance, FrameOf, StackOf, WorldOf, StateOf}
use Rattle.model.specs.Lookup.{instance_fields}
use Rattle.linked_code.specs.Numbers.{slot_in}
use Rattle.model.specs.ThreadNames.{with_name, with_one_unnamed, with_ordinal}
use Rattle.model.specs.Worlds.{no_object, object_at, with_field, with_object}
use Rattle.heap.specs.Heap.{Heap, put_field}
use Rattle.run_laws.specs.laws.Steps.{Rooted}
use Rattle.run_laws.proofs.laws.LinkedOf.{linked_of}
use Rattle.run_laws.specs.word_operands.Receivers.{has_class_below}
use Rattle.linked_code.specs.declared.method.BuiltInMethod.TheVariants as method
use Rattle.linked_code.specs.declared.program.LinkedProgram.{LinkedProgram}
use Rattle.thread_stacks.specs.Stacks.{ShownEntry}
use Rattle.machine_state.specs.Shown.{Represents}
use Rattle.machine_state.specs.declared.state.Shared.{Shared}
use Rattle.machine_instructions.specs.thread_methods.Called.{IsCalling, RefersTo, named_place}
use Rattle.machine_instructions.specs.thread_methods.Moves.{operand_of}
use Rattle.machine_instructions.specs.thread_methods.Naming.{numbered}
use Rattle.machine_instructions.proofs.thread_methods.Calls.{object_is, object_read, operand_is}
use Rattle.machine_instructions.proofs.thread_methods.StringCalls.{taken}
use Rattle.machine_instructions.proofs.thread_methods.ThreadFields.{target_slot, name_slot, ordinal_slot, instance}
use Rattle.machine_instructions.proofs.thread_methods.Written.{written, twice_written, with_word_in}

-- one more Thread without a name is counted
pub counted_one : (trees : Program) (p : LinkedProgram) (bounds : Bounds) (world : WorldOf ℕ) (old : Shared) → Represents trees p bounds old world
    → Represents trees p bounds (record old { unnamed = (old.unnamed + 1) % 2 ^ 32 }) (with_one_unnamed world)
counted_one trees p bounds world old r =
    record {
      world_is = record {
        objects = r.world_is.objects;
        counted = r.world_is.counted;
        monitors = r.world_is.monitors;
        statics = r.world_is.statics;
        statuses = r.world_is.statuses;
        ready = r.world_is.ready;
        threads = r.world_is.threads;
        printed = r.world_is.printed;
        interned = r.world_is.interned;
        unnamed = ap (λ n. (n + 1) % 2 ^ 32) r.world_is.unnamed;
      };
      limits = record {
        opening = r.limits.opening;
        objects = r.limits.objects;
        cells = r.limits.cells;
        monitors = r.limits.monitors;
        threads = r.limits.threads;
      };
    }

module _ (trees : Program) (p : LinkedProgram) (bounds : Bounds) (inflated : List ℕ) (t : ℕ) (old : Shared) (from : List ShownEntry)
    (state : StateOf ℕ) (frame : FrameOf ℕ) (rest : StackOf ℕ) (names : NameMethod) (count next offset : ℕ)
    (is : IsCalling trees p bounds inflated t old from state frame rest (method.ThreadNames names) count next offset) where
  abbrev world : WorldOf ℕ
  world = state.world

  abbrev pub ops : List ℕ
  ops = take count frame.place.slots.stack

  abbrev refers : RefersTo world.heap ops (named_place names) (has_class_below trees java_lang_thread)
  refers = is.arguments

  abbrev pub reference : ℕ
  reference = refers.reference

  -- there are as many operands
  pub enough : named_place names < length ops
  enough = slice_get_within ops (named_place names) (suc refers.reference) refers.word

  pub read : (k : ℕ) → k < length ops → operand_of k from ≡ slice_index_or ops k 0
  read k h =
      operand_is trees p bounds inflated t old from state frame rest (method.ThreadNames names) count next offset is k
      ∙ sym (taken count frame.place.slots.stack k h)

  -- the Thread, as the definitions and as the code read it
  pub object_is_thread : object_of words ops (named_place names) ≡ reference
  object_is_thread = object_read trees p bounds inflated t old from state frame rest (method.ThreadNames names) count next offset is (named_place names) (has_class_below trees java_lang_thread) refers

  pub code_reads : (object : ℕ) → object ≡ operand_of (named_place names) from - 1 → object ≡ reference
  code_reads object e = e ∙ object_is trees p bounds inflated t old from state frame rest (method.ThreadNames names) count next offset is (named_place names) (has_class_below trees java_lang_thread) refers

  abbrev found : (class : Name) × ((fields : List (Member × ℕ)) × (refers.object ≡ Instance class fields) × (is_subclass trees class java_lang_thread ≡ true))
  found = instance trees refers.object refers.fits

  abbrev pub class : Name
  class = found.0

  abbrev pub fields : List (Member × ℕ)
  fields = found.1.0

  pub there : slice_get world.heap reference ≡ Some (Instance class fields)
  there = refers.there ∙ ap (λ (o : ObjectOf ℕ). Some o) found.1.1

  rooted : Rooted trees
  rooted = (linked_of is.program.files trees is.program.linkable.spelled is.program.linkable.no_refusal).rooted

  pub name_slot_at : slot_in (instance_fields trees class) thread_name ≡ Some 1
  name_slot_at = name_slot trees rooted class found.1.2

  pub ordinal_slot_at : slot_in (instance_fields trees class) thread_ordinal ≡ Some 2
  ordinal_slot_at = ordinal_slot trees rooted class found.1.2

  -- the name is put into its slot
  pub name_put : (name : ℕ) → Represents trees p bounds (with_word_in old reference 1 name) (with_name world reference name)
  name_put name =
      written trees p bounds world old is.lent.represents reference class fields there thread_name 1 (name_slot trees rooted class found.1.2) name

  -- the target is put into its slot, and then the name
  pub target_and_name_put : (target name : ℕ) → Represents trees p bounds (with_word_in (with_word_in old reference 0 target) reference 1 name)
      (with_object world reference (with_field thread_name name (with_field thread_target target (object_at world reference))))
  target_and_name_put target name =
      twice_written trees p bounds world old is.lent.represents reference class fields there thread_target thread_name 0 1
      (target_slot trees rooted class found.1.2) (name_slot trees rooted class found.1.2) target name

  -- the number is put into its slot, and one more is counted
  abbrev number_of : WorldOf ℕ
  number_of = with_object world reference (with_field thread_ordinal world.unnamed (object_at world reference))

  pub number_put : Represents trees p bounds (numbered old reference) (with_one_unnamed number_of)
  number_put =
      let put = written trees p bounds world old is.lent.represents reference class fields there thread_ordinal 2 (ordinal_slot trees rooted class found.1.2) old.unnamed in
      let same = is.lent.represents.world_is.unnamed in
      counted_one trees p bounds number_of (with_word_in old reference 2 old.unnamed)
      (subst (λ n. Represents trees p bounds (with_word_in old reference 2 old.unnamed) (with_object world reference (with_field thread_ordinal n (object_at world reference)))) same put)

  -- the target is put, the number, and one more is counted
  pub target_and_number_put : (target : ℕ) → Represents trees p bounds (numbered (with_word_in old reference 0 target) reference)
      (with_one_unnamed (with_object world reference (with_field thread_ordinal world.unnamed (with_field thread_target target (object_at world reference)))))
  target_and_number_put target =
      let put = twice_written trees p bounds world old is.lent.represents reference class fields there thread_target thread_ordinal 0 2
      (target_slot trees rooted class found.1.2) (ordinal_slot trees rooted class found.1.2) target old.unnamed in
      let same = is.lent.represents.world_is.unnamed in
      counted_one trees p bounds
      (with_object world reference (with_field thread_ordinal world.unnamed (with_field thread_target target (object_at world reference))))
      (with_word_in (with_word_in old reference 0 target) reference 2 old.unnamed)
      (subst (λ n. Represents trees p bounds (with_word_in (with_word_in old reference 0 target) reference 2 old.unnamed)
      (with_object world reference (with_field thread_ordinal n (with_field thread_target target (object_at world reference))))) same put)
