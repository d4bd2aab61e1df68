-- What each instruction needs.
use Rattle.std.proofs.Common.{◌≡◌, ℕ, ◌+◌, List, Option, Some, None, true, refl, sym, ap, ◌∙◌}
use Rattle.std.specs.Prelude.{if◌then◌else◌}
use Rattle.std.proofs.lemmas.Option.{same_Some}
use Rattle.model.specs.declared.instr.ArrayKind.{ArrayKind}
use Rattle.model.specs.declared.instr.ArrayKind.TheVariants as array_kind
use Rattle.model.specs.declared.instr.Returned.{Returned}
use Rattle.model.specs.declared.instr.Returned.TheVariants as returned
use Rattle.model.specs.Names.{Name, java_lang_system}
use Rattle.model.specs.BuiltIn.{built_in_classes}
use Rattle.model.specs.Classes.{Program, is_built_in}
use Rattle.model.specs.Arrays.{load_of, store_of}
use Rattle.model.specs.Calls.{return_of}
use Rattle.model.specs.ClassInitialisation.{IsReady, look_at, look_by, status_in}
use Rattle.model.specs.Meanings.{local_or, system_stream_meaning, meaning_of}
use Rattle.model.specs.Operands.{words}
use Rattle.model.specs.Sites.{MeaningOf, Site}
use Rattle.model.specs.State.{Initialised, WorldOf}
use Rattle.linked_code.specs.declared.instruction.LinkedInstruction.{LinkedInstruction}
use Rattle.linked_code.specs.declared.instruction.LinkedInstruction.TheVariants as linked
use Rattle.linked_code.specs.declared.program.LinkedProgram.{LinkedProgram}
use Rattle.linked_code.specs.Numbers.{IsClassAt}
use Rattle.linked_code.specs.Calls.{IsDirectCall, CallsConstructor, CallsSpecial, CallsOnly}
use Rattle.machine_threads.specs.instruction_needs.Needs.{IsNeeded, class_in, Needs}

-- ---- families

load_looks : (trees : Program) (site : Site) (kind : ArrayKind) → (load_of words trees site kind).looks ≡ None
load_looks trees site array_kind.Int = refl
load_looks trees site array_kind.Reference = refl
load_looks trees site array_kind.ByteOrBoolean = refl
load_looks trees site array_kind.Char = refl
load_looks trees site array_kind.Short = refl

store_looks : (trees : Program) (site : Site) (kind : ArrayKind) → (store_of words trees site kind).looks ≡ None
store_looks trees site array_kind.Int = refl
store_looks trees site array_kind.Reference = refl
store_looks trees site array_kind.ByteOrBoolean = refl
store_looks trees site array_kind.Char = refl
store_looks trees site array_kind.Short = refl

return_looks : (trees : Program) (descriptor : Name) (kind : Returned) → (return_of words trees descriptor kind).looks ≡ None
return_looks trees descriptor returned.Nothing = refl
return_looks trees descriptor returned.Int = refl
return_looks trees descriptor returned.Reference = refl

-- System is initialised from the start
system_built_in : is_built_in java_lang_system ≡ true
unfolding built_in_classes
system_built_in = refl

system_ready : (t : ℕ) (world : WorldOf ℕ) → look_at t world (Some java_lang_system) ≡ IsReady
system_ready t world = ap (λ b. look_by t (if b then Initialised else status_in java_lang_system world.classes)) system_built_in

module _ (trees : Program) (p : LinkedProgram) (at : ℕ → ℕ) (code : List LinkedInstruction) (site : Site) (k : ℕ) (meaning : MeaningOf ℕ)
    (means : meaning_of words trees site ≡ Some meaning) where
  -- the meaning is the one of its definition, which needs no class
  none : (m : MeaningOf ℕ) → meaning_of words trees site ≡ Some m → m.looks ≡ None → IsNeeded trees meaning.looks None
  none m is looks =
      let same : meaning ≡ m = same_Some meaning m (sym means ∙ is) in
      λ t world. ap (λ (o : Option Name). look_at t world o) (ap (λ (x : MeaningOf ℕ). x.looks) same ∙ looks)

  -- or needs one
  some : (m : MeaningOf ℕ) (class : Name) (number : ℕ) → meaning_of words trees site ≡ Some m → m.looks ≡ Some class
      → IsClassAt trees number class → IsNeeded trees meaning.looks (Some number)
  some m class number is looks numbered =
      let same : meaning ≡ m = same_Some meaning m (sym means ∙ is) in
      (class, ap (λ (x : MeaningOf ℕ). x.looks) same ∙ looks, numbered)

  direct : (parameters method : ℕ) → IsDirectCall trees site parameters method → IsNeeded trees meaning.looks None
  direct parameters method (CallsConstructor callee is counted instance constructs numbered) = none _ is refl
  direct parameters method (CallsSpecial named callee is counted other found numbered special) = none _ is refl
  direct parameters method (CallsOnly named callee is counted numbered) = none _ is refl

  system : (stream : ℕ) → meaning_of words trees site ≡ Some (system_stream_meaning words (at (k + 1)) stream)
      → IsNeeded trees meaning.looks None
  system stream is =
      let same : meaning ≡ system_stream_meaning words (at (k + 1)) stream = same_Some meaning _ (sym means ∙ is) in
      λ t world. ap (λ (x : MeaningOf ℕ). look_at t world x.looks) same ∙ system_ready t world

-- ---- each instruction, in a line

pub needs : (i : LinkedInstruction) → Needs i (class_in i)
needs (linked.GetField slot) trees p at code site k meaning l means = none trees p at code site k meaning means _ l.is refl
needs (linked.PutField slot) trees p at code site k meaning l means = none trees p at code site k meaning means _ l.is refl
needs (linked.PutBooleanField slot) trees p at code site k meaning l means = none trees p at code site k meaning means _ l.is refl
needs (linked.PutByteField slot) trees p at code site k meaning l means = none trees p at code site k meaning means _ l.is refl
needs (linked.PutCharField slot) trees p at code site k meaning l means = none trees p at code site k meaning means _ l.is refl
needs (linked.PutShortField slot) trees p at code site k meaning l means = none trees p at code site k meaning means _ l.is refl
needs (linked.GetStatic class slot) trees p at code site k meaning l means = some trees p at code site k meaning means _ _ class l.is refl l.declared
needs (linked.PutStatic class slot) trees p at code site k meaning l means = some trees p at code site k meaning means _ _ class l.is refl l.declared
needs (linked.PutBooleanStatic class slot) trees p at code site k meaning l means = some trees p at code site k meaning means _ _ class l.is refl l.declared
needs (linked.PutByteStatic class slot) trees p at code site k meaning l means = some trees p at code site k meaning means _ _ class l.is refl l.declared
needs (linked.PutCharStatic class slot) trees p at code site k meaning l means = some trees p at code site k meaning means _ _ class l.is refl l.declared
needs (linked.PutShortStatic class slot) trees p at code site k meaning l means = some trees p at code site k meaning means _ _ class l.is refl l.declared
needs (linked.GetSystemStream word) trees p at code site k meaning l means = system trees p at code site k meaning means l.stream l.is
needs linked.LoadElement trees p at code site k meaning l means = none trees p at code site k meaning means _ l.is (load_looks trees site l.kind)
needs linked.StoreInt trees p at code site k meaning l means = none trees p at code site k meaning means _ l.is (store_looks trees site array_kind.Int)
needs linked.StoreNarrow trees p at code site k meaning l means = none trees p at code site k meaning means _ l.stores.is (store_looks trees site l.kind)
needs linked.StoreReference trees p at code site k meaning l means = none trees p at code site k meaning means _ l.is (store_looks trees site array_kind.Reference)
needs linked.ArrayLength trees p at code site k meaning l means = none trees p at code site k meaning means _ l.is refl
needs (linked.LoadObject word) trees p at code site k meaning l means = none trees p at code site k meaning means _ l.is refl
needs (linked.New class cells uncounted) trees p at code site k meaning l means = some trees p at code site k meaning means _ _ class l.is refl l.numbered
needs (linked.NewArray of) trees p at code site k meaning l means = none trees p at code site k meaning means _ l.is refl
needs (linked.NewReferenceArray number) trees p at code site k meaning l means = none trees p at code site k meaning means _ l.is refl
needs (linked.CheckCast type) trees p at code site k meaning l means = none trees p at code site k meaning means _ l.0.is refl
needs (linked.InstanceOf type) trees p at code site k meaning l means = none trees p at code site k meaning means _ l.0.is refl
needs linked.Throw trees p at code site k meaning l means = none trees p at code site k meaning means _ l refl
needs linked.MonitorEnter trees p at code site k meaning l means = none trees p at code site k meaning means _ l.is refl
needs linked.MonitorExit trees p at code site k meaning l means = none trees p at code site k meaning means _ l.is refl
needs (linked.InvokeStatic parameters class method) trees p at code site k meaning l means = some trees p at code site k meaning means _ _ class l.is refl l.declared
needs (linked.InvokeSpecial parameters method) trees p at code site k meaning l means = direct trees p at code site k meaning means parameters method l.calls
needs (linked.InvokeVirtual parameters place) trees p at code site k meaning l means = none trees p at code site k meaning means _ l.is refl
needs (linked.InvokeInterface parameters selector) trees p at code site k meaning l means = none trees p at code site k meaning means _ l.is refl
needs linked.Println trees p at code site k meaning l means = none trees p at code site k meaning means _ l refl
needs linked.Return trees p at code site k meaning l means = none trees p at code site k meaning means _ l (return_looks trees site.method.descriptor returned.Nothing)
needs linked.ReturnValue trees p at code site k meaning l means = none trees p at code site k meaning means _ l.is (return_looks trees site.method.descriptor l.kind)
needs _ trees p at code site k meaning l means = none trees p at code site k meaning means _ (ap (local_or words trees site) l.is) refl
