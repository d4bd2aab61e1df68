-- The method without code that is told of an instruction is the one that it runs.
use Rattle.std.proofs.Common.{◌≡◌, refl, sym, ap, subst, ◌∙◌, ℕ, List, [], map, Bool, true, false, Option, Some, None, if◌then◌else◌}
use Rattle.std.specs.Prelude.{is_some, slice_get}
use Rattle.std.specs.Option.{option_and_then, option_map}
use Rattle.std.proofs.lemmas.Option.{same_Some, none-some}
use Rattle.next_accesses.specs.declared.accessing_calls.AccessingMethod.{AccessingMethod}
use Rattle.model.specs.declared.instr.Instr.{Instr}
use Rattle.model.specs.declared.instr.Instr.TheVariants as instr
use Rattle.model.specs.declared.instr.Invocation.TheVariants as invocation
use Rattle.model.specs.declared.value.Value.{Value}
use Rattle.model.specs.BuiltInMethods.{BuiltInMethod, ObjectClone, StringWrites, StringBuilderBuilds}
use Rattle.model.specs.Calls.{parameter_count, special_class}
use Rattle.model.specs.Classes.{Program, Body, body_of, body_in, with_pool, name_of, class_of, is_subclass}
use Rattle.model.specs.Instruction.{Sized, sized_at}
use Rattle.model.specs.LimitStands.{Bounds}
use Rattle.model.specs.Lookup.{find_method}
use Rattle.model.specs.Names.{Name, name_eq, Member, constructor_name}
use Rattle.model.specs.Operands.{values, word_of}
use Rattle.model.specs.Pool.{method_at, interface_method_at}
use Rattle.model.specs.Sites.{MeaningOf, Site, site_with}
use Rattle.model.specs.State.{ObjectOf, types_of, State}
use Rattle.model.specs.Tree.{FileTree, CodeTree, MethodTree}
use Rattle.model.specs.Words.{map_frame, map_world, words_of}
use Rattle.run_laws.specs.soundness.Runs.{IsNoEventWrong}
use Rattle.run_laws.specs.word_operands.Receivers.{receiver, receiver_of, is_called_on, is_any, AreReceived}
use Rattle.run_laws.proofs.laws.Unrefused.{names_differ}
use Rattle.hierarchy.specs.Places.{class_at, place_of}
use Rattle.hierarchy.specs.declared.place.MemberPlace.{MemberPlace}
use Rattle.hierarchy.proofs.Apart.{class_of_its_name}
use Rattle.linked_code.specs.declared.program.LinkedProgram.{LinkedProgram}
use Rattle.linked_code.specs.Numbers.{IsMethodAt}
use Rattle.linked_code.specs.Numbers as linked_code
use Rattle.linked_program.proofs.linked_calls.Specials.{special_there}
use Rattle.method_tables.specs.method_links.Methods.{member_of, member_at, methods_of}
use Rattle.method_tables.specs.method_links.Methods as method_links
use Rattle.thread_stacks.specs.Stacks.{ShownFrame, ShownEntry}
use Rattle.machine_state.specs.declared.state.Shared.{Shared}
use Rattle.machine_state.specs.linked_frames.Frames.{AreTopsShown}
use Rattle.machine_state.specs.shown_objects.Shown.{ShowsObjects}
use Rattle.data_races.specs.EventActions.{Instruction, operands_of, without_code, method_run, built_in_at}
use Rattle.data_races.proofs.BuilderCalls.{accessing_method}
use Rattle.data_races.proofs.BuilderRuns.{does_build}
use Rattle.thread_rules.specs.next_rules.Meant.{IsAtInstruction}
use Rattle.next_accesses.specs.accessing_calls.Called.{as_accessing, IsReceiverThere, CallsVirtual, CallsInterface, CallsSpecial, CallsBy, CallsIn, TellsAccessing, called_virtual, called_interface, called_special}
use Rattle.next_accesses.specs.next_access.Next.{IsReached}
use Rattle.next_accesses.specs.read_operands.Reads.{AreOperandsRead}
use Rattle.next_accesses.proofs.accessing_calls.SpecialSites.{above}
use Rattle.next_accesses.proofs.accessing_calls.Receiving.{receiver_there, virtual_told, interface_told, special_told, virtual_names, interface_names, special_names, constructor_there, static_looks}
use Rattle.next_accesses.proofs.next_access.Meant.{operands_are, numbered, body_is, finds, received}

-- ---- the class of a method, by the place of its number

same_methods : (files : Program) → method_links.methods_of files ≡ linked_code.methods_of files
unfolding method_links.methods_of linked_code.methods_of
same_methods files = refl

record IsIn (trees : Program) (place : MemberPlace) (method : Member) : Type 0 where
  file : FileTree
  class_is : class_at trees place.class ≡ Some file
  named : name_of file ≡ method.class

in_class : (trees : Program) (place : MemberPlace) (method : Member) → member_at trees place ≡ Some method → IsIn trees place method
in_class trees place method e = by (class_at trees place.class) refl e
  where
    within : (file : FileTree) → class_at trees place.class ≡ Some file → (o : Option MethodTree) → option_map (member_of file) o ≡ Some method → IsIn trees place method
    within file c None h = absurd (none-some method h)
    within file c (Some tree) h = record { file = file; class_is = c; named = ap (λ (m : Member). m.class) (same_Some (member_of file tree) method h) }

    by : (o : Option FileTree) → class_at trees place.class ≡ o → option_and_then (λ (file : FileTree). option_map (member_of file) (slice_get file.methods place.member)) o ≡ Some method
        → IsIn trees place method
    by None c h = absurd (none-some method h)
    by (Some file) c h = within file c (slice_get file.methods place.member) h

placed : (trees : Program) (number : ℕ) (place : MemberPlace)
    → option_map (member_at trees) (Some place) ≡ option_map (λ (m : Member). Some m) (slice_get (methods_of trees) number)
    → (method : Member) → IsMethodAt trees number method → member_at trees place ≡ Some method
placed trees number place e method at =
    let is : slice_get (methods_of trees) number ≡ Some method = ap (λ l. slice_get l number) (same_methods trees) ∙ at in
    let both : Some (member_at trees place) ≡ Some (Some method) = e ∙ ap (option_map (λ (m : Member). Some m)) is in
    cc

pool_of : (file : FileTree) (o : Option CodeTree) (body : Body) → option_map (with_pool file.pool) o ≡ Some body → body.pool ≡ file.pool
pool_of file None body e = absurd (none-some body e)
pool_of file (Some code) body e = sym (ap (λ (b : Body). b.pool) (same_Some (with_pool file.pool code) body e))

none_or_some : {A : Type 0} (o : Option A) → ((x : A) → o ≡ Some x → ⊥) → None ≡ o
none_or_some None h = refl
none_or_some (Some x) h = absurd (h x refl)

module _ (wrong : IsNoEventWrong) (receives : AreReceived) (reads : AreOperandsRead) (tops : AreTopsShown) (trees : Program) (p : LinkedProgram)
    (shared : Shared) (t : ℕ) (frame : ShownFrame) (bounds : Bounds) (state : State) (r : IsReached trees p bounds shared state) (stack : List ShownEntry)
    (at : IsAtInstruction trees p bounds r.inflated t shared stack state) (top : at.runs.shown ≡ frame) where
  abbrev instruction : Instruction
  instruction = at.instruction

  abbrev site : Site
  site = instruction.site

  abbrev method : Member
  method = at.stands.frame.method

  abbrev heap : List (ObjectOf ℕ)
  heap = (map_world word_of state.world).heap

  abbrev told_of : Option AccessingMethod
  told_of = option_and_then as_accessing (built_in_at trees state.world instruction)

  site_method : site.method ≡ method
  site_method = by (sized_at at.stands.body.code.code at.stands.frame.place.offset) at.stands.at
    where
      by : (o : Option Sized) → option_map (site_with method at.stands.body at.stands.frame.place.offset) o ≡ Some site → site.method ≡ method
      by None e = absurd (none-some site e)
      by (Some sized) e = sym (ap (λ (s : Site). s.method) (same_Some (site_with method at.stands.body at.stands.frame.place.offset sized) site e))

  module _ (place : MemberPlace) (c : IsIn trees place method) where
    pool_is : site.body.pool ≡ c.file.pool
    pool_is =
        let own : class_of trees method.class ≡ Some c.file =
        ap (class_of trees) (sym c.named) ∙ class_of_its_name trees place.class c.file (names_differ trees r.program.linkable.no_refusal) c.class_is in
        ap (λ (b : Body). b.pool) (body_is wrong receives reads tops trees p shared t frame bounds state r stack at top)
        ∙ pool_of c.file _ at.stands.body (sym (ap (option_and_then (body_in method.name method.descriptor)) own) ∙ at.stands.has_body)

    abbrev words_are : map word_of instruction.slots.stack ≡ frame.operands
    words_are = operands_are wrong receives reads tops trees p shared t frame bounds state r stack at top

    abbrev max : ℕ
    max = at.stands.body.code.max_stack

    all_found : values.finds trees (types_of state.world.heap) instruction.meaning.wants max instruction.slots ≡ true
    all_found = finds wrong receives reads tops trees p shared t frame bounds state r stack at top

    there : (named : Member) (test : ObjectOf ℕ → Bool) → receiver_of trees site site.instr ≡ Some (receiver (parameter_count named) test) → IsReceiverThere heap frame.operands named
    there named test e =
        subst (λ ns. IsReceiverThere heap ns named) words_are
        (receiver_there heap (map word_of instruction.slots.stack) named test
        (received wrong receives reads tops trees p shared t frame bounds state r stack at top (receiver (parameter_count named) test) e))

    abbrev shows : ShowsObjects trees p.components.items shared.heap.objects heap
    shows = r.shown.represents.world_is.objects

    in_file : (index : ℕ) (named : Member) → method_at site.body.pool index ≡ Some named → method_at c.file.pool index ≡ Some named
    in_file index named e = subst (λ pool. method_at pool index ≡ Some named) pool_is e

    module _ (told : Option AccessingMethod) where
      virtual : (index : ℕ) → site.instr ≡ instr.Invoke invocation.Virtual index
          → ((named : Member) → method_at c.file.pool index ≡ Some named → CallsVirtual trees p shared.heap.objects frame.operands named told) → told ≡ told_of
      virtual index i calls = by (method_at site.body.pool index) refl
        where
          by : (o : Option Member) → method_at site.body.pool index ≡ o → told ≡ told_of
          by None e = absurd (virtual_names trees site instruction.meaning at.stands.means index method i e)
          by (Some named) e =
              calls named (in_file index named e) r.program heap shows
              (there named (is_called_on trees named.class) (ap (receiver_of trees site) i ∙ ap (option_map (λ (m : Member). receiver (parameter_count m) (is_called_on trees m.class))) e))
              ∙ sym (subst (λ ns. told_of ≡ called_virtual trees heap ns named) words_are
              (virtual_told trees site state.world max instruction.slots instruction.meaning all_found at.stands.means index named i e))

      interface : (index count last : ℕ) → site.instr ≡ instr.InvokeInterface index count last
          → ((named : Member) → interface_method_at c.file.pool index ≡ Some named → CallsInterface trees p shared.heap.objects frame.operands named told) → told ≡ told_of
      interface index count last i calls = by (interface_method_at site.body.pool index) refl
        where
          by : (o : Option Member) → interface_method_at site.body.pool index ≡ o → told ≡ told_of
          by None e = absurd (interface_names trees site instruction.meaning at.stands.means index method count last i e)
          by (Some named) e =
              calls named (subst (λ pool. interface_method_at pool index ≡ Some named) pool_is e) r.program heap shows
              (there named is_any (ap (receiver_of trees site) i ∙ ap (option_map (λ (m : Member). receiver (parameter_count m) is_any)) e))
              ∙ sym (subst (λ ns. told_of ≡ called_interface trees heap ns named) words_are
              (interface_told trees site state.world max instruction.slots instruction.meaning all_found at.stands.means index named count last i e))

      current_is : name_of c.file ≡ site.method.class
      current_is = c.named ∙ sym (ap (λ (m : Member). m.class) site_method)

      begins : (index : ℕ) (named : Member) → site.instr ≡ instr.Invoke invocation.Special index → method_at site.body.pool index ≡ Some named
          → name_eq named.name constructor_name ≡ false → is_some (place_of trees (special_class trees (name_of c.file) named.class)) ≡ true
      begins index named i e other = by (place_of trees (special_class trees (name_of c.file) named.class)) refl
        where
          by : (o : Option ℕ) → place_of trees (special_class trees (name_of c.file) named.class) ≡ o → is_some o ≡ true
          by (Some n) q = refl
          by None q =
              let above_it : is_subclass trees (name_of c.file) named.class ≡ true =
              ap (λ n. is_subclass trees n named.class) c.named
              ∙ above trees p bounds r.inflated t shared stack (words_of state) (map_frame word_of at.stands.frame) at.rest at.code site at.meaning at.linked at.runs index named i e other
              in
              absurd (special_there trees (r.program.files, r.program.linkable) place.class c.file c.class_is named above_it q)

      special : (index : ℕ) → site.instr ≡ instr.Invoke invocation.Special index
          → ((named : Member) → method_at c.file.pool index ≡ Some named → CallsSpecial trees p frame.operands (name_of c.file) named told) → told ≡ told_of
      special index i calls = by (method_at site.body.pool index) refl
        where
          by : (o : Option Member) → method_at site.body.pool index ≡ o → told ≡ told_of
          by None e = absurd (special_names trees site instruction.meaning at.stands.means index method i e)
          by (Some named) e =
              calls named (in_file index named e) r.program
              (constructor_there trees site instruction.meaning at.stands.means index named i e) (begins index named i e)
              ∙ (ap (λ n. called_special trees frame.operands n named) current_is
              ∙ sym (subst (λ ns. told_of ≡ called_special trees ns site.method.class named) words_are
              (special_told trees site state.world max instruction.slots instruction.meaning all_found at.stands.means index named i e)))

    -- any other instruction runs none
    record Runs (b : AccessingMethod) (o : Option BuiltInMethod) : Type 0 where
      method : BuiltInMethod
      is : o ≡ Some method
      accesses : accessing_method method ≡ Some method

    runs_of : (b : AccessingMethod) (o : Option BuiltInMethod) → option_and_then as_accessing o ≡ Some b → Runs b o
    runs_of b None e = absurd (none-some b e)
    runs_of b (Some (StringBuilderBuilds x)) e = record { method = StringBuilderBuilds x; is = refl; accesses = refl }
    runs_of b (Some (StringWrites x)) e = record { method = StringWrites x; is = refl; accesses = refl }
    runs_of b (Some ObjectClone) e = record { method = ObjectClone; is = refl; accesses = refl }
    runs_of b (Some _) e = absurd (none-some b e)

    static : (index : ℕ) → site.instr ≡ instr.Invoke invocation.Static index → None ≡ told_of
    static index i =
        none_or_some told_of
        (λ b e.
        let m = runs_of b (built_in_at trees state.world instruction) e in
        let d = does_build trees site instruction.meaning at.stands.means state.world (operands_of instruction) m.method (record { runs = m.is; accesses = m.accesses }) in
        static_looks trees site instruction.meaning at.stands.means index method i (ap (λ (m : MeaningOf Value). m.looks) d.call.is))

    other : (i : Instr) → site.instr ≡ i → method_run trees site state.world (operands_of instruction) i ≡ None → None ≡ told_of
    other i e none =
        sym (ap (λ o. option_and_then as_accessing (option_and_then (λ (m : Member). without_code m (body_of trees m)) o)) (ap (method_run trees site state.world (operands_of instruction)) e ∙ none))

    by_instr : (i : Instr) → site.instr ≡ i → (told : Option AccessingMethod) → CallsBy trees p shared.heap.objects frame.operands c.file i told → told ≡ told_of
    by_instr (instr.Invoke invocation.Virtual index) e told h = virtual told index e h
    by_instr (instr.Invoke invocation.Special index) e told h = special told index e h
    by_instr (instr.Invoke invocation.Static index) e told h = h ∙ static index e
    by_instr (instr.InvokeInterface index count last) e told h = interface told index count last e h
    by_instr _ e told h = h ∙ other _ e refl

-- ---- what a function tells

module _ (wrong : IsNoEventWrong) (receives : AreReceived) (reads : AreOperandsRead) (tops : AreTopsShown) (trees : Program) (p : LinkedProgram)
    (shared : Shared) (t : ℕ) (frame : ShownFrame) (i : Instr) (told : Option AccessingMethod) where
  pub called_told : (place : MemberPlace) → option_map (member_at trees) (Some place) ≡ option_map (λ (m : Member). Some m) (slice_get (methods_of trees) frame.method)
      → CallsIn trees p shared.heap.objects frame.operands place.class i told → TellsAccessing trees p shared t frame i told
  called_told place e calls bounds state r stack at top is =
      let number = numbered wrong receives reads tops trees p shared t frame bounds state r stack at top in
      let c = in_class trees place at.stands.frame.method (placed trees frame.method place e at.stands.frame.method number) in
      by_instr wrong receives reads tops trees p shared t frame bounds state r stack at top place c i is told (calls c.file c.class_is)

  pub no_place : None ≡ option_map (λ (m : Member). Some m) (slice_get (methods_of trees) frame.method) → TellsAccessing trees p shared t frame i told
  no_place e bounds state r stack at top is =
      let number = numbered wrong receives reads tops trees p shared t frame bounds state r stack at top in
      let there : slice_get (methods_of trees) frame.method ≡ Some at.stands.frame.method = ap (λ l. slice_get l frame.method) (same_methods trees) ∙ number in
      absurd (let bad : None ≡ Some (Some at.stands.frame.method) = e ∙ ap (option_map (λ (m : Member). Some m)) there in cc)
