-- What the instruction of a place of linked code means: what never waits, or a call.
use Rattle.std.proofs.Common.{◌≡◌, ℕ, List, Some, refl, sym, ap, subst, ◌∙◌}
use Rattle.std.proofs.lemmas.Option.{same_Some}
use Rattle.model.specs.declared.instr.ArrayKind.TheVariants as array_kind
use Rattle.model.specs.declared.instr.Returned.TheVariants as returned
use Rattle.model.specs.Classes.{Program}
use Rattle.model.specs.Meanings.{local_or, meaning_of}
use Rattle.model.specs.Operands.{words}
use Rattle.model.specs.Primitives.{primitive_of}
use Rattle.model.specs.Sites.{MeaningOf, Site}
use Rattle.linked_code.specs.Calls.{IsDirectCall, CallsConstructor, CallsSpecial, CallsOnly}
use Rattle.linked_code.specs.Linked.{IsLinked}
use Rattle.linked_code.specs.declared.instruction.LinkedInstruction.{LinkedInstruction}
use Rattle.linked_code.specs.declared.instruction.LinkedInstruction.TheVariants as linked
use Rattle.linked_code.specs.declared.program.LinkedProgram.{LinkedProgram}
use Rattle.machine_threads.proofs.waiting_instructions.Meant.{IsCall, calls_static, calls_virtual, calls_interface, calls_special, calls_constructor}
use Rattle.machine_threads.proofs.waiting_instructions.Quick.{IsQuick, quick_row, quick_system_stream, quick_get_static, quick_put_static, quick_get_field, quick_put_field, quick_println, quick_return, quick_object, quick_new, quick_primitives, quick_references, quick_length, quick_load, quick_store, quick_cast, quick_instance, quick_throw, quick_exit}

-- ---- what an instruction means

module _ (trees : Program) (p : LinkedProgram) (at : ℕ → ℕ) (code : List LinkedInstruction) (site : Site) (k : ℕ) (meaning : MeaningOf ℕ)
    (means : meaning_of words trees site ≡ Some meaning) where
  -- the meaning is the one of its definition
  of : (P : MeaningOf ℕ → Type 0) (m : MeaningOf ℕ) → meaning_of words trees site ≡ Some m → P m → P meaning
  of P m is h = subst P (same_Some m meaning (sym is ∙ means)) h

  quick : (m : MeaningOf ℕ) → meaning_of words trees site ≡ Some m → IsQuick m → IsQuick meaning
  quick = of IsQuick

  -- one that enters no monitor and calls no method by its number is quick
  pub quick_of : (i : LinkedInstruction) → IsLinked trees p at code site k i → (i ≡ linked.MonitorEnter → ⊥)
      → ((parameters class method : ℕ) → i ≡ linked.InvokeStatic parameters class method → ⊥)
      → ((parameters method : ℕ) → i ≡ linked.InvokeSpecial parameters method → ⊥)
      → ((parameters place : ℕ) → i ≡ linked.InvokeVirtual parameters place → ⊥)
      → ((parameters selector : ℕ) → i ≡ linked.InvokeInterface parameters selector → ⊥) → IsQuick meaning
  quick_of (linked.GetField slot) l n0 n1 n2 n3 n4 = quick _ l.is (quick_get_field trees site _ _ _)
  quick_of (linked.PutField slot) l n0 n1 n2 n3 n4 = quick _ l.is (quick_put_field trees site _ _ _)
  quick_of (linked.PutBooleanField slot) l n0 n1 n2 n3 n4 = quick _ l.is (quick_put_field trees site _ _ _)
  quick_of (linked.PutByteField slot) l n0 n1 n2 n3 n4 = quick _ l.is (quick_put_field trees site _ _ _)
  quick_of (linked.PutCharField slot) l n0 n1 n2 n3 n4 = quick _ l.is (quick_put_field trees site _ _ _)
  quick_of (linked.PutShortField slot) l n0 n1 n2 n3 n4 = quick _ l.is (quick_put_field trees site _ _ _)
  quick_of (linked.GetStatic class slot) l n0 n1 n2 n3 n4 = quick _ l.is (quick_get_static trees site _ _)
  quick_of (linked.PutStatic class slot) l n0 n1 n2 n3 n4 = quick _ l.is (quick_put_static trees site _ _)
  quick_of (linked.PutBooleanStatic class slot) l n0 n1 n2 n3 n4 = quick _ l.is (quick_put_static trees site _ _)
  quick_of (linked.PutByteStatic class slot) l n0 n1 n2 n3 n4 = quick _ l.is (quick_put_static trees site _ _)
  quick_of (linked.PutCharStatic class slot) l n0 n1 n2 n3 n4 = quick _ l.is (quick_put_static trees site _ _)
  quick_of (linked.PutShortStatic class slot) l n0 n1 n2 n3 n4 = quick _ l.is (quick_put_static trees site _ _)
  quick_of (linked.GetSystemStream word) l n0 n1 n2 n3 n4 = quick _ l.is (quick_system_stream trees site _ _)
  quick_of linked.LoadElement l n0 n1 n2 n3 n4 = quick _ l.is (quick_load trees site 0 l.kind)
  quick_of linked.StoreInt l n0 n1 n2 n3 n4 = quick _ l.is (quick_store trees site 0 array_kind.Int)
  quick_of linked.StoreNarrow l n0 n1 n2 n3 n4 = quick _ l.stores.is (quick_store trees site 0 l.kind)
  quick_of linked.StoreReference l n0 n1 n2 n3 n4 = quick _ l.is (quick_store trees site 0 array_kind.Reference)
  quick_of linked.ArrayLength l n0 n1 n2 n3 n4 = quick _ l.is (quick_length trees site 0)
  quick_of (linked.LoadObject word) l n0 n1 n2 n3 n4 = quick _ l.is (quick_object trees site 0 _ _)
  quick_of (linked.New class cells uncounted) l n0 n1 n2 n3 n4 = quick _ l.is (quick_new trees site 0 _)
  quick_of (linked.NewArray type) l n0 n1 n2 n3 n4 = quick _ l.is (quick_primitives trees site 0 (primitive_of type))
  quick_of (linked.NewReferenceArray number) l n0 n1 n2 n3 n4 = quick _ l.is (quick_references trees site 0 l.of)
  quick_of (linked.CheckCast type) l n0 n1 n2 n3 n4 = quick _ l.0.is (quick_cast trees site 0 _)
  quick_of (linked.InstanceOf type) l n0 n1 n2 n3 n4 = quick _ l.0.is (quick_instance trees site 0 _)
  quick_of linked.Throw l n0 n1 n2 n3 n4 = quick _ l (quick_throw trees site 0)
  quick_of linked.MonitorEnter l n0 n1 n2 n3 n4 = absurd (n0 refl)
  quick_of linked.MonitorExit l n0 n1 n2 n3 n4 = quick _ l.is (quick_exit trees site 0)
  quick_of (linked.InvokeStatic parameters class method) l n0 n1 n2 n3 n4 = absurd (n1 parameters class method refl)
  quick_of (linked.InvokeSpecial parameters method) l n0 n1 n2 n3 n4 = absurd (n2 parameters method refl)
  quick_of (linked.InvokeVirtual parameters place) l n0 n1 n2 n3 n4 = absurd (n3 parameters place refl)
  quick_of (linked.InvokeInterface parameters selector) l n0 n1 n2 n3 n4 = absurd (n4 parameters selector refl)
  quick_of linked.Println l n0 n1 n2 n3 n4 = quick _ l (quick_println trees site _)
  quick_of linked.Return l n0 n1 n2 n3 n4 = quick _ l (quick_return trees site 0 site.method.descriptor returned.Nothing)
  quick_of linked.ReturnValue l n0 n1 n2 n3 n4 = quick _ l.is (quick_return trees site 0 site.method.descriptor l.kind)
  quick_of i l n0 n1 n2 n3 n4 = quick _ (ap (local_or words trees site) l.is) (quick_row trees site 0 l.row)

  -- ---- calls

  pub static_calls : (parameters class method : ℕ) → IsLinked trees p at code site k (linked.InvokeStatic parameters class method)
      → IsCall trees site meaning
  static_calls parameters class method l = of (IsCall trees site) _ l.is (calls_static trees site l.callee)

  pub virtual_calls : (parameters place : ℕ) → IsLinked trees p at code site k (linked.InvokeVirtual parameters place)
      → IsCall trees site meaning
  virtual_calls parameters place l = of (IsCall trees site) _ l.is (calls_virtual trees site l.named l.callee)

  pub interface_calls : (parameters selector : ℕ) → IsLinked trees p at code site k (linked.InvokeInterface parameters selector)
      → IsCall trees site meaning
  interface_calls parameters selector l = of (IsCall trees site) _ l.is (calls_interface trees site l.named l.callee)

  direct_calls : (parameters method : ℕ) → IsDirectCall trees site parameters method → IsCall trees site meaning
  direct_calls parameters method (CallsConstructor callee is counted instance constructs numbered) = of (IsCall trees site) _ is (calls_constructor trees site callee)
  direct_calls parameters method (CallsSpecial named callee is counted other found numbered special) = of (IsCall trees site) _ is (calls_special trees site named.class callee)
  direct_calls parameters method (CallsOnly named callee is counted numbered) = of (IsCall trees site) _ is (calls_virtual trees site named callee)

  pub special_calls : (parameters method : ℕ) → IsLinked trees p at code site k (linked.InvokeSpecial parameters method)
      → IsCall trees site meaning
  special_calls parameters method l = direct_calls parameters method l.calls
