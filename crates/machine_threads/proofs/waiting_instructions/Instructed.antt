-- How a thread stands at an instruction whose class is ready.
use Rattle.std.proofs.Common.{◌≡◌, ℕ, List, [], Option, Some, None, Bool, true, false, if◌then◌else◌, refl, sym, ap, subst, ◌∙◌}
use Rattle.model.specs.declared.instr.ArrayKind.TheVariants as array_kind
use Rattle.model.specs.declared.instr.Returned.TheVariants as returned
use Rattle.model.specs.Classes.{Program}
use Rattle.model.specs.Meaning.{waiting_at}
use Rattle.model.specs.Meanings.{local_or, meaning_of}
use Rattle.model.specs.MonitorMeanings.{monitor_enter_meaning}
use Rattle.model.specs.Operands.{words, under}
use Rattle.model.specs.Outcomes.{OutcomeOf, not_null}
use Rattle.model.specs.Report.{ThreadEnd, Runnable, Blocked}
use Rattle.model.specs.Sites.{MeaningOf, Site, referent, pushing_at}
use Rattle.model.specs.Worlds.{entry_cost, with_entry}
use Rattle.model.specs.State.{FrameOf, StackOf, WorldOf}
use Rattle.model.specs.Step.{SteppedOf, PartOf, is_enabled_by, enabled_if, ops_of, become, done}
use Rattle.linked_code.specs.declared.instruction.LinkedInstruction.{LinkedInstruction}
use Rattle.linked_code.specs.declared.instruction.LinkedInstruction.TheVariants as linked
use Rattle.linked_code.specs.declared.program.LinkedProgram.{LinkedProgram}
use Rattle.linked_code.specs.Calls.{IsDirectCall, CallsConstructor, CallsSpecial, CallsOnly}
use Rattle.linked_code.specs.Linked.{IsLinked}
use Rattle.model.specs.Primitives.{primitive_of}
use Rattle.machine_state.specs.Instructions.{instruction_event}
use Rattle.machine_state.specs.linked_frames.Frames.{event_of}
use Rattle.machine_threads.specs.declared.waiting_instructions.kinds.Standing.{Standing}
use Rattle.machine_threads.specs.declared.waiting_instructions.kinds.Standing.TheVariants as standing
use Rattle.machine_threads.specs.waiting_instructions.Waits.{IsEnd}
use Rattle.machine_threads.specs.waiting_instructions.Held.{StandsBy, ready_end}
use Rattle.machine_threads.proofs.waiting_instructions.Quick.{IsQuick, stays_enabled, quick_row, quick_system_stream, quick_get_static, quick_put_static, quick_get_field, quick_put_field, quick_println, quick_return, quick_object, quick_new, quick_primitives, quick_references, quick_length, quick_load, quick_store, quick_cast, quick_instance, quick_throw, quick_exit}
use Rattle.machine_threads.proofs.waiting_instructions.Meant.{IsCall, calls_static, calls_virtual, calls_interface, calls_special, calls_constructor, joins, enters}
use Rattle.machine_threads.proofs.waiting_instructions.Enabled.{may_by}
use Rattle.std.proofs.lemmas.Option.{same_Some}

-- ---- what an instruction means

module _ (trees : Program) (p : LinkedProgram) (at : ℕ → ℕ) (code : List LinkedInstruction) (site : Site) (k : ℕ) (meaning : MeaningOf ℕ)
    (means : meaning_of words trees site ≡ Some meaning) where
  -- the meaning is the one of its definition
  of : (P : MeaningOf ℕ → Type 0) (m : MeaningOf ℕ) → meaning_of words trees site ≡ Some m → P m → P meaning
  of P m is h = subst P (same_Some m meaning (sym is ∙ means)) h

  quick : (m : MeaningOf ℕ) → meaning_of words trees site ≡ Some m → IsQuick m → IsQuick meaning
  quick = of IsQuick

  -- one that enters no monitor and calls no method by its number is quick
  pub quick_of : (i : LinkedInstruction) → IsLinked trees p at code site k i → (i ≡ linked.MonitorEnter → ⊥)
      → ((parameters class method : ℕ) → i ≡ linked.InvokeStatic parameters class method → ⊥)
      → ((parameters method : ℕ) → i ≡ linked.InvokeSpecial parameters method → ⊥)
      → ((parameters place : ℕ) → i ≡ linked.InvokeVirtual parameters place → ⊥)
      → ((parameters selector : ℕ) → i ≡ linked.InvokeInterface parameters selector → ⊥) → IsQuick meaning
  quick_of (linked.GetField slot) l n0 n1 n2 n3 n4 = quick _ l.is (quick_get_field trees site _ _ _)
  quick_of (linked.PutField slot) l n0 n1 n2 n3 n4 = quick _ l.is (quick_put_field trees site _ _ _)
  quick_of (linked.PutBooleanField slot) l n0 n1 n2 n3 n4 = quick _ l.is (quick_put_field trees site _ _ _)
  quick_of (linked.PutByteField slot) l n0 n1 n2 n3 n4 = quick _ l.is (quick_put_field trees site _ _ _)
  quick_of (linked.PutCharField slot) l n0 n1 n2 n3 n4 = quick _ l.is (quick_put_field trees site _ _ _)
  quick_of (linked.PutShortField slot) l n0 n1 n2 n3 n4 = quick _ l.is (quick_put_field trees site _ _ _)
  quick_of (linked.GetStatic class slot) l n0 n1 n2 n3 n4 = quick _ l.is (quick_get_static trees site _ _)
  quick_of (linked.PutStatic class slot) l n0 n1 n2 n3 n4 = quick _ l.is (quick_put_static trees site _ _)
  quick_of (linked.PutBooleanStatic class slot) l n0 n1 n2 n3 n4 = quick _ l.is (quick_put_static trees site _ _)
  quick_of (linked.PutByteStatic class slot) l n0 n1 n2 n3 n4 = quick _ l.is (quick_put_static trees site _ _)
  quick_of (linked.PutCharStatic class slot) l n0 n1 n2 n3 n4 = quick _ l.is (quick_put_static trees site _ _)
  quick_of (linked.PutShortStatic class slot) l n0 n1 n2 n3 n4 = quick _ l.is (quick_put_static trees site _ _)
  quick_of (linked.GetSystemStream word) l n0 n1 n2 n3 n4 = quick _ l.is (quick_system_stream trees site _ _)
  quick_of linked.LoadElement l n0 n1 n2 n3 n4 = quick _ l.is (quick_load trees site 0 l.kind)
  quick_of linked.StoreInt l n0 n1 n2 n3 n4 = quick _ l.is (quick_store trees site 0 array_kind.Int)
  quick_of linked.StoreNarrow l n0 n1 n2 n3 n4 = quick _ l.stores.is (quick_store trees site 0 l.kind)
  quick_of linked.StoreReference l n0 n1 n2 n3 n4 = quick _ l.is (quick_store trees site 0 array_kind.Reference)
  quick_of linked.ArrayLength l n0 n1 n2 n3 n4 = quick _ l.is (quick_length trees site 0)
  quick_of (linked.LoadObject word) l n0 n1 n2 n3 n4 = quick _ l.is (quick_object trees site 0 _ _)
  quick_of (linked.New class cells uncounted) l n0 n1 n2 n3 n4 = quick _ l.is (quick_new trees site 0 _)
  quick_of (linked.NewArray type) l n0 n1 n2 n3 n4 = quick _ l.is (quick_primitives trees site 0 (primitive_of type))
  quick_of (linked.NewReferenceArray number) l n0 n1 n2 n3 n4 = quick _ l.is (quick_references trees site 0 l.of)
  quick_of (linked.CheckCast type) l n0 n1 n2 n3 n4 = quick _ l.0.is (quick_cast trees site 0 _)
  quick_of (linked.InstanceOf type) l n0 n1 n2 n3 n4 = quick _ l.0.is (quick_instance trees site 0 _)
  quick_of linked.Throw l n0 n1 n2 n3 n4 = quick _ l (quick_throw trees site 0)
  quick_of linked.MonitorEnter l n0 n1 n2 n3 n4 = absurd (n0 refl)
  quick_of linked.MonitorExit l n0 n1 n2 n3 n4 = quick _ l.is (quick_exit trees site 0)
  quick_of (linked.InvokeStatic parameters class method) l n0 n1 n2 n3 n4 = absurd (n1 parameters class method refl)
  quick_of (linked.InvokeSpecial parameters method) l n0 n1 n2 n3 n4 = absurd (n2 parameters method refl)
  quick_of (linked.InvokeVirtual parameters place) l n0 n1 n2 n3 n4 = absurd (n3 parameters place refl)
  quick_of (linked.InvokeInterface parameters selector) l n0 n1 n2 n3 n4 = absurd (n4 parameters selector refl)
  quick_of linked.Println l n0 n1 n2 n3 n4 = quick _ l (quick_println trees site _)
  quick_of linked.Return l n0 n1 n2 n3 n4 = quick _ l (quick_return trees site 0 site.method.descriptor returned.Nothing)
  quick_of linked.ReturnValue l n0 n1 n2 n3 n4 = quick _ l.is (quick_return trees site 0 site.method.descriptor l.kind)
  quick_of i l n0 n1 n2 n3 n4 = quick _ (ap (local_or words trees site) l.is) (quick_row trees site 0 l.row)

  -- ---- calls

  pub static_calls : (parameters class method : ℕ) → IsLinked trees p at code site k (linked.InvokeStatic parameters class method)
      → IsCall trees site meaning
  static_calls parameters class method l = of (IsCall trees site) _ l.is (calls_static trees site l.callee)

  pub virtual_calls : (parameters place : ℕ) → IsLinked trees p at code site k (linked.InvokeVirtual parameters place)
      → IsCall trees site meaning
  virtual_calls parameters place l = of (IsCall trees site) _ l.is (calls_virtual trees site l.named l.callee)

  pub interface_calls : (parameters selector : ℕ) → IsLinked trees p at code site k (linked.InvokeInterface parameters selector)
      → IsCall trees site meaning
  interface_calls parameters selector l = of (IsCall trees site) _ l.is (calls_interface trees site l.named l.callee)

  direct_calls : (parameters method : ℕ) → IsDirectCall trees site parameters method → IsCall trees site meaning
  direct_calls parameters method (CallsConstructor callee is counted instance constructs numbered) = of (IsCall trees site) _ is (calls_constructor trees site callee)
  direct_calls parameters method (CallsSpecial named callee is counted other found numbered special) = of (IsCall trees site) _ is (calls_special trees site named.class callee)
  direct_calls parameters method (CallsOnly named callee is counted numbered) = of (IsCall trees site) _ is (calls_virtual trees site named callee)

  pub special_calls : (parameters method : ℕ) → IsLinked trees p at code site k (linked.InvokeSpecial parameters method)
      → IsCall trees site meaning
  special_calls parameters method l = direct_calls parameters method l.calls

-- ---- how a thread stands at it

module _ (trees : Program) (limit t : ℕ) (world : WorldOf ℕ) (frame : FrameOf ℕ) (rest : StackOf ℕ) (site : Site) (meaning : MeaningOf ℕ)
    (means : meaning_of words trees site ≡ Some meaning) where
  abbrev may : Bool
  may = meaning.may (event_of t) world (ops_of words meaning frame.place.slots)

  abbrev outcome : OutcomeOf ℕ
  outcome = meaning.does (event_of t) world frame.place.slots (ops_of words meaning frame.place.slots) (under meaning.wants frame.place.slots)

  abbrev event : ℕ → SteppedOf (PartOf ℕ)
  event n = instruction_event trees n (event_of t) world frame rest meaning

  abbrev end_by : Bool → Bool → ThreadEnd
  end_by enabled b = if enabled then Runnable else if b then Blocked else waiting_at site.instr

  -- one that is quick
  pub quick_end : IsQuick meaning → ready_end trees limit t world frame rest site meaning ≡ Runnable
  quick_end q =
      let enabled : is_enabled_by (event limit) ≡ true =
      ap (λ b. is_enabled_by (enabled_if b (become words trees limit t world frame rest outcome))) (q.may t world (ops_of words meaning frame.place.slots))
      ∙ stays_enabled trees limit t world frame rest outcome (q.stays t world frame.place.slots (ops_of words meaning frame.place.slots) (under meaning.wants frame.place.slots))
      in
      ap (λ b. end_by b may) enabled

  may_from : (b : Bool) → is_enabled_by (event 0) ≡ b → may ≡ b
  may_from b h = may_by trees t world frame rest outcome may b h

  -- a call
  pub call_end : IsCall trees site meaning → (result : Standing) → StandsBy result limit event
      → IsEnd trees result (ready_end trees limit t world frame rest site meaning)
  call_end c standing.Runnable h = ap (λ b. end_by b may) h
  call_end c standing.Blocked h = ap (λ b. end_by b may) h.0 ∙ ap (λ b. end_by false b) (may_from true h.1)
  call_end c standing.Joining h =
      ap (λ b. end_by b may) h.0 ∙ ap (λ b. end_by false b) (may_from false h.1)
      ∙ joins trees site meaning means t world frame.place.slots (ops_of words meaning frame.place.slots) (may_from false h.1) c
  call_end c standing.Ended h = absurd h
  call_end c (standing.Threw class) h = absurd h
  call_end c standing.Waiting h = absurd h
  call_end c standing.Initialising h = absurd h

  -- monitorenter
  module _ (e : meaning_of words trees site ≡ Some (monitor_enter_meaning words site)) where
    same : meaning ≡ monitor_enter_meaning words site
    same = same_Some _ _ (sym means ∙ e)

    enabled_of : (m : MeaningOf ℕ) → m ≡ monitor_enter_meaning words site
        → m.may (event_of t) world (ops_of words m frame.place.slots) ≡ true
        → is_enabled_by (instruction_event trees limit (event_of t) world frame rest m) ≡ true
    enabled_of m is h =
        ap (λ b. is_enabled_by (enabled_if b (done words trees limit (event_of t) world frame rest m))) h
        ∙ ap (λ (x : MeaningOf ℕ). is_enabled_by (done words trees limit (event_of t) world frame rest x)) is
        ∙ goes (referent words (ops_of words (monitor_enter_meaning words site) frame.place.slots) 0)
      where
        goes : (o : Option ℕ) → is_enabled_by (become words trees limit t world frame
            rest (not_null o (λ r. pushing_at (entry_cost world r) site.next [] (with_entry world t r)
            frame.place.slots (under (monitor_enter_meaning words site).wants frame.place.slots)))) ≡ true
        goes None = refl
        goes (Some r) = refl

    pub entered_end : may ≡ true → ready_end trees limit t world frame rest site meaning ≡ Runnable
    entered_end h = ap (λ b. end_by b may) (enabled_of meaning same h)

    pub blocked_end : may ≡ false → ready_end trees limit t world frame rest site meaning ≡ Blocked
    blocked_end h =
        ap (λ b. end_by (is_enabled_by (enabled_if b (become words trees limit t world frame rest outcome))) b) h
        ∙ enters trees site meaning means t world frame.place.slots (ops_of words meaning frame.place.slots) h same
