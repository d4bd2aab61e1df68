-- The class that each instruction looks for.
use Rattle.std.proofs.Common.{◌≡◌, ℕ, List, Option, Some, None, refl, sym, ap, subst, ◌∙◌}
use Rattle.std.proofs.lemmas.Option.{same_Some}
use Rattle.model.specs.declared.instr.ArrayKind.{ArrayKind}
use Rattle.model.specs.declared.instr.ArrayKind.TheVariants as array_kind
use Rattle.model.specs.declared.instr.Returned.{Returned}
use Rattle.model.specs.declared.instr.Returned.TheVariants as returned
use Rattle.model.specs.Names.{Name, java_lang_system}
use Rattle.model.specs.BuiltIn.{built_in_classes}
use Rattle.model.specs.Classes.{Program}
use Rattle.model.specs.Arrays.{load_of, store_of}
use Rattle.model.specs.Calls.{return_of}
use Rattle.model.specs.Meanings.{local_or, meaning_of}
use Rattle.model.specs.Operands.{words}
use Rattle.model.specs.Sites.{MeaningOf, Site}
use Rattle.linked_code.specs.declared.instruction.LinkedInstruction.{LinkedInstruction}
use Rattle.linked_code.specs.declared.instruction.LinkedInstruction.TheVariants as linked
use Rattle.linked_code.specs.declared.program.LinkedProgram.{LinkedProgram}
use Rattle.linked_code.specs.Numbers.{IsClassAt, IsClassIf}
use Rattle.linked_code.specs.Calls.{IsDirectCall, CallsConstructor, CallsSpecial, CallsOnly}
use Rattle.state_actions.specs.looked_classes.Looked.{class_looked, LooksFor}

-- ---- families

load_looks : (trees : Program) (site : Site) (kind : ArrayKind) → (load_of words trees site kind).looks ≡ None
load_looks trees site array_kind.Int = refl
load_looks trees site array_kind.Reference = refl
load_looks trees site array_kind.ByteOrBoolean = refl
load_looks trees site array_kind.Char = refl
load_looks trees site array_kind.Short = refl

store_looks : (trees : Program) (site : Site) (kind : ArrayKind) → (store_of words trees site kind).looks ≡ None
store_looks trees site array_kind.Int = refl
store_looks trees site array_kind.Reference = refl
store_looks trees site array_kind.ByteOrBoolean = refl
store_looks trees site array_kind.Char = refl
store_looks trees site array_kind.Short = refl

return_looks : (trees : Program) (descriptor : Name) (kind : Returned) → (return_of words trees descriptor kind).looks ≡ None
return_looks trees descriptor returned.Nothing = refl
return_looks trees descriptor returned.Int = refl
return_looks trees descriptor returned.Reference = refl

-- System is the class of number 5
system_is : (files : Program) → IsClassAt files 5 java_lang_system
unfolding built_in_classes
system_is files = (_, refl, refl)

module _ (trees : Program) (p : LinkedProgram) (at : ℕ → ℕ) (code : List LinkedInstruction) (site : Site) (k : ℕ) (meaning : MeaningOf ℕ)
    (means : meaning_of words trees site ≡ Some meaning) where
  -- the meaning is the one of its definition, which needs no class
  none : (m : MeaningOf ℕ) → meaning_of words trees site ≡ Some m → m.looks ≡ None → IsClassIf trees None meaning.looks
  none m is looks =
      let same : meaning ≡ m = same_Some meaning m (sym means ∙ is) in
      subst (λ (o : Option Name). IsClassIf trees None o) (sym (ap (λ (x : MeaningOf ℕ). x.looks) same ∙ looks)) tt

  -- or needs one
  some : (m : MeaningOf ℕ) (class : Name) (number : ℕ) → meaning_of words trees site ≡ Some m → m.looks ≡ Some class
      → IsClassAt trees number class → IsClassIf trees (Some number) meaning.looks
  some m class number is looks numbered =
      let same : meaning ≡ m = same_Some meaning m (sym means ∙ is) in
      subst (λ (o : Option Name). IsClassIf trees (Some number) o) (sym (ap (λ (x : MeaningOf ℕ). x.looks) same ∙ looks)) numbered

  direct : (parameters method : ℕ) → IsDirectCall trees site parameters method → IsClassIf trees None meaning.looks
  direct parameters method (CallsConstructor callee is counted instance constructs numbered) = none _ is refl
  direct parameters method (CallsSpecial named callee is counted other found numbered special) = none _ is refl
  direct parameters method (CallsOnly named callee is counted numbered) = none _ is refl

-- ---- each instruction, in a line

pub looks : (i : LinkedInstruction) → LooksFor i (class_looked i)
looks (linked.GetField slot) trees p at code site k meaning l means = none trees p at code site k meaning means _ l.is refl
looks (linked.PutField slot) trees p at code site k meaning l means = none trees p at code site k meaning means _ l.is refl
looks (linked.PutBooleanField slot) trees p at code site k meaning l means = none trees p at code site k meaning means _ l.is refl
looks (linked.PutByteField slot) trees p at code site k meaning l means = none trees p at code site k meaning means _ l.is refl
looks (linked.PutCharField slot) trees p at code site k meaning l means = none trees p at code site k meaning means _ l.is refl
looks (linked.PutShortField slot) trees p at code site k meaning l means = none trees p at code site k meaning means _ l.is refl
looks (linked.GetStatic class slot) trees p at code site k meaning l means = some trees p at code site k meaning means _ _ class l.is refl l.declared
looks (linked.PutStatic class slot) trees p at code site k meaning l means = some trees p at code site k meaning means _ _ class l.is refl l.declared
looks (linked.PutBooleanStatic class slot) trees p at code site k meaning l means = some trees p at code site k meaning means _ _ class l.is refl l.declared
looks (linked.PutByteStatic class slot) trees p at code site k meaning l means = some trees p at code site k meaning means _ _ class l.is refl l.declared
looks (linked.PutCharStatic class slot) trees p at code site k meaning l means = some trees p at code site k meaning means _ _ class l.is refl l.declared
looks (linked.PutShortStatic class slot) trees p at code site k meaning l means = some trees p at code site k meaning means _ _ class l.is refl l.declared
looks (linked.GetSystemStream word) trees p at code site k meaning l means = some trees p at code site k meaning means _ java_lang_system 5 l.is refl (system_is trees)
looks linked.LoadElement trees p at code site k meaning l means = none trees p at code site k meaning means _ l.is (load_looks trees site l.kind)
looks linked.StoreInt trees p at code site k meaning l means = none trees p at code site k meaning means _ l.is (store_looks trees site array_kind.Int)
looks linked.StoreNarrow trees p at code site k meaning l means = none trees p at code site k meaning means _ l.stores.is (store_looks trees site l.kind)
looks linked.StoreReference trees p at code site k meaning l means = none trees p at code site k meaning means _ l.is (store_looks trees site array_kind.Reference)
looks linked.ArrayLength trees p at code site k meaning l means = none trees p at code site k meaning means _ l.is refl
looks (linked.LoadObject word) trees p at code site k meaning l means = none trees p at code site k meaning means _ l.is refl
looks (linked.New class fields cells) trees p at code site k meaning l means = some trees p at code site k meaning means _ _ class l.is refl l.numbered
looks (linked.NewArray of) trees p at code site k meaning l means = none trees p at code site k meaning means _ l.is refl
looks (linked.NewReferenceArray number) trees p at code site k meaning l means = none trees p at code site k meaning means _ l.is refl
looks (linked.CheckCast type) trees p at code site k meaning l means = none trees p at code site k meaning means _ l.0.is refl
looks (linked.InstanceOf type) trees p at code site k meaning l means = none trees p at code site k meaning means _ l.0.is refl
looks linked.Throw trees p at code site k meaning l means = none trees p at code site k meaning means _ l refl
looks linked.MonitorEnter trees p at code site k meaning l means = none trees p at code site k meaning means _ l.is refl
looks linked.MonitorExit trees p at code site k meaning l means = none trees p at code site k meaning means _ l.is refl
looks (linked.InvokeStatic parameters class method) trees p at code site k meaning l means = some trees p at code site k meaning means _ _ class l.is refl l.declared
looks (linked.InvokeSpecial parameters method) trees p at code site k meaning l means = direct trees p at code site k meaning means parameters method l.calls
looks (linked.InvokeVirtual parameters place) trees p at code site k meaning l means = none trees p at code site k meaning means _ l.is refl
looks (linked.InvokeInterface parameters selector) trees p at code site k meaning l means = none trees p at code site k meaning means _ l.is refl
looks linked.Println trees p at code site k meaning l means = none trees p at code site k meaning means _ l refl
looks linked.Return trees p at code site k meaning l means = none trees p at code site k meaning means _ l (return_looks trees site.method.descriptor returned.Nothing)
looks linked.ReturnValue trees p at code site k meaning l means = none trees p at code site k meaning means _ l.is (return_looks trees site.method.descriptor l.kind)
looks _ trees p at code site k meaning l means = none trees p at code site k meaning means _ (ap (local_or words trees site) l.is) refl
