-- What each instruction lets of the pick of its event, before its class is looked at (JVMS 5.5).
use Rattle.std.proofs.Common.{◌≡◌, ℕ, List, [], ◌∷◌, Option, Some, None, Bool, true, false, refl, sym, ap, subst, ◌∙◌, ◌&&◌, ◌==◌}
use Rattle.std.specs.Prelude.{codes, find, unwrap_or, if◌then◌else◌}
use Rattle.std.specs.Option.{option_map}
use Rattle.std.specs.List.{AllByRecursion}
use Rattle.std.proofs.lemmas.Option.{same_Some}
use Rattle.model.specs.declared.event.Event.{Event}
use Rattle.model.specs.declared.instr.ArrayKind.{ArrayKind}
use Rattle.model.specs.declared.instr.ArrayKind.TheVariants as array_kind
use Rattle.model.specs.declared.instr.Returned.{Returned}
use Rattle.model.specs.declared.instr.Returned.TheVariants as returned
use Rattle.model.specs.Names.{Name, Member, name_eq}
use Rattle.model.specs.BuiltIn.{built_in_classes}
use Rattle.model.specs.BuiltInMethods.{BuiltInMethod, Construct, ConstructWithMessage, ConstructWithCause, built_in_methods, constructor_of, is_row_of, built_in_method, built_in_may}
use Rattle.model.specs.Classes.{Program, Body, is_built_in, body_of}
use Rattle.model.specs.Arrays.{load_of, store_of}
use Rattle.model.specs.Calls.{return_of, static_call, may_run}
use Rattle.model.specs.Meanings.{local_or, meaning_of}
use Rattle.model.specs.Operands.{words}
use Rattle.model.specs.Sites.{MeaningOf, Site}
use Rattle.model.specs.State.{WorldOf}
use Rattle.run_laws.proofs.laws.Found.{every_all}
use Rattle.run_laws.proofs.laws.Classes.{names_same}
use Rattle.linked_code.specs.declared.instruction.LinkedInstruction.{LinkedInstruction}
use Rattle.linked_code.specs.declared.instruction.LinkedInstruction.TheVariants as linked
use Rattle.linked_code.specs.declared.program.LinkedProgram.{LinkedProgram}
use Rattle.linked_code.specs.Linked.{IsLinked}
use Rattle.linked_code.specs.Calls.{IsDirectCall, CallsConstructor, CallsSpecial, CallsOnly}
use Rattle.machine_threads.specs.instruction_events.Families.{is_call}

-- it lets pick 0, and no other
abbrev pub Plain : MeaningOf ℕ → Type 0
Plain m = (event : Event) (world : WorldOf ℕ) (ops : List ℕ) → m.may event world ops ≡ (event.pick == 0)

-- it lets none but 0
abbrev pub PicksNone : MeaningOf ℕ → Type 0
PicksNone m = (event : Event) (world : WorldOf ℕ) (ops : List ℕ) → (event.pick == 0) ≡ false → m.may event world ops ≡ false

-- one that needs a class of a file lets pick 0 and no other; and one that calls nothing lets no other
pub record Mays (i : LinkedInstruction) (m : MeaningOf ℕ) : Type 0 where
  pub by_class : (class : Name) → m.looks ≡ Some class → is_built_in class ≡ false → Plain m
  pub unpicked : is_call i ≡ false → PicksNone m

plain : (i : LinkedInstruction) (m : MeaningOf ℕ) → Plain m → Mays i m
plain i m h = record { by_class = λ class looks built. h; unpicked = λ own event world ops e. h event world ops ∙ e }

classless : (i : LinkedInstruction) (m : MeaningOf ℕ) → m.looks ≡ None → (is_call i ≡ false → PicksNone m) → Mays i m
classless i m none h = record { by_class = λ class looks built. let both : None ≡ Some class = sym none ∙ looks in absurd cc; unpicked = h }

-- ---- families

load_plain : (trees : Program) (site : Site) (kind : ArrayKind) → Plain (load_of words trees site kind)
load_plain trees site array_kind.Int = λ event world ops. refl
load_plain trees site array_kind.Reference = λ event world ops. refl
load_plain trees site array_kind.ByteOrBoolean = λ event world ops. refl
load_plain trees site array_kind.Char = λ event world ops. refl
load_plain trees site array_kind.Short = λ event world ops. refl

store_plain : (trees : Program) (site : Site) (kind : ArrayKind) → Plain (store_of words trees site kind)
store_plain trees site array_kind.Int = λ event world ops. refl
store_plain trees site array_kind.Reference = λ event world ops. refl
store_plain trees site array_kind.ByteOrBoolean = λ event world ops. refl
store_plain trees site array_kind.Char = λ event world ops. refl
store_plain trees site array_kind.Short = λ event world ops. refl

return_plain : (trees : Program) (descriptor : Name) (kind : Returned) → Plain (return_of words trees descriptor kind)
return_plain trees descriptor returned.Nothing = λ event world ops. refl
return_plain trees descriptor returned.Int = λ event world ops. refl
return_plain trees descriptor returned.Reference = λ event world ops. refl

and_false : (a b : Bool) → a ≡ false → (a && b) ≡ false
and_false a b e = ap (λ x. x && b) e

-- ---- a static method of a class of a file: it is none of the built-in ones

other_name : (class other : Name) → is_built_in class ≡ true → is_built_in other ≡ false → (b : Bool) → name_eq class other ≡ b → b ≡ false
other_name class other stands file true e =
    let same : class ≡ other = names_same class other e in
    let both : true ≡ false = sym stands ∙ ap is_built_in same ∙ file in
    absurd cc
other_name class other stands file false e = refl

abbrev Rows : Type 0
Rows = List (Member × BuiltInMethod)

by_test : (method : Member) (row : Member × BuiltInMethod) (rows : Rows) → is_row_of method row ≡ false
    → find (is_row_of method) rows ≡ None → find (is_row_of method) (row ∷ rows) ≡ None
by_test method row rows e rest = ap (λ b. if b then Some row else find (is_row_of method) rows) e ∙ rest

not_found : (method : Member) → is_built_in method.class ≡ false → (rows : Rows)
    → AllByRecursion (λ (row : Member × BuiltInMethod). is_built_in row.0.class ≡ true) rows → find (is_row_of method) rows ≡ None
not_found method file [] h = refl
not_found method file (row ∷ rows) h =
    by_test method row rows (and_false (name_eq row.0.class method.class) _ (other_name row.0.class method.class h.0 file (name_eq row.0.class method.class) refl))
    (not_found method file rows h.1)

rows_built_in : AllByRecursion (λ (row : Member × BuiltInMethod). is_built_in row.0.class ≡ true) built_in_methods
unfolding built_in_classes
rows_built_in = every_all (λ (row : Member × BuiltInMethod). is_built_in row.0.class) built_in_methods refl

constructs : (method : Member) → is_built_in method.class ≡ false → built_in_method method ≡ constructor_of method.descriptor
constructs method file =
    ap (λ (o : Option (Member × BuiltInMethod)). unwrap_or (option_map (λ (row : Member × BuiltInMethod). row.1) o) (constructor_of method.descriptor))
    (not_found method file built_in_methods rows_built_in)

-- a constructor picks none
constructed_plain : (descriptor : Name) (event : Event) (world : WorldOf ℕ) (ops : List ℕ)
    → built_in_may words (constructor_of descriptor) event world ops ≡ (event.pick == 0)
constructed_plain descriptor event world ops = by (name_eq descriptor (codes "(Ljava/lang/String;)V")) (name_eq descriptor (codes "(Ljava/lang/String;Ljava/lang/Throwable;)V"))
  where
    by : (one two : Bool) → built_in_may words (if one then ConstructWithMessage else if two then ConstructWithCause else Construct) event world ops ≡ (event.pick == 0)
    by true two = refl
    by false true = refl
    by false false = refl

run_plain : (event : Event) (world : WorldOf ℕ) (ops : List ℕ) (method : Member) → is_built_in method.class ≡ false → (body : Option Body)
    → may_run words event world ops method body ≡ (event.pick == 0)
run_plain event world ops method file None = ap (λ b. built_in_may words b event world ops) (constructs method file) ∙ constructed_plain method.descriptor event world ops
run_plain event world ops method file (Some body) = refl

static_mays : (trees : Program) (site : Site) (callee : Member) (i : LinkedInstruction) → is_call i ≡ true
    → Mays i (static_call words trees site callee)
static_mays trees site callee i calls = record {
  by_class = λ class looks file event world ops. let same : callee.class ≡ class = same_Some callee.class class looks in run_plain event world ops callee (ap is_built_in same ∙ file) (body_of trees callee);
  unpicked = λ own event world ops e. let both : true ≡ false = sym calls ∙ own in absurd cc;
}

module _ (trees : Program) (p : LinkedProgram) (at : ℕ → ℕ) (code : List LinkedInstruction) (site : Site) (k : ℕ) (meaning : MeaningOf ℕ)
    (means : meaning_of words trees site ≡ Some meaning) where
  -- the meaning is the one of its definition
  by : (i : LinkedInstruction) (m : MeaningOf ℕ) → meaning_of words trees site ≡ Some m → Mays i m → Mays i meaning
  by i m is h = subst (Mays i) (same_Some m meaning (sym is ∙ means)) h

  as_plain : (i : LinkedInstruction) (m : MeaningOf ℕ) → meaning_of words trees site ≡ Some m → Plain m → Mays i meaning
  as_plain i m is h = by i m is (plain i m h)

  calling : (i : LinkedInstruction) (m : MeaningOf ℕ) → is_call i ≡ true → meaning_of words trees site ≡ Some m → m.looks ≡ None
      → Mays i meaning
  calling i m calls is none = by i m is (classless i m none (λ own. let both : true ≡ false = sym calls ∙ own in absurd cc))

  direct : (parameters method : ℕ) → IsDirectCall trees site parameters method → Mays (linked.InvokeSpecial parameters method) meaning
  direct parameters method (CallsConstructor callee is counted instance constructs numbered) = calling _ _ refl is refl
  direct parameters method (CallsSpecial named callee is counted other found numbered special) = calling _ _ refl is refl
  direct parameters method (CallsOnly named callee is counted numbered) = calling _ _ refl is refl

-- ---- each instruction, in a line

pub mays : (i : LinkedInstruction) (trees : Program) (p : LinkedProgram) (at : ℕ → ℕ) (code : List LinkedInstruction) (site : Site) (k : ℕ)
    (meaning : MeaningOf ℕ)
    → IsLinked trees p at code site k i → meaning_of words trees site ≡ Some meaning → Mays i meaning
mays (linked.GetField slot) trees p at code site k meaning l means = as_plain trees p at code site k meaning means _ _ l.is (λ event world ops. refl)
mays (linked.PutField slot) trees p at code site k meaning l means = as_plain trees p at code site k meaning means _ _ l.is (λ event world ops. refl)
mays (linked.PutBooleanField slot) trees p at code site k meaning l means = as_plain trees p at code site k meaning means _ _ l.is (λ event world ops. refl)
mays (linked.PutByteField slot) trees p at code site k meaning l means = as_plain trees p at code site k meaning means _ _ l.is (λ event world ops. refl)
mays (linked.PutCharField slot) trees p at code site k meaning l means = as_plain trees p at code site k meaning means _ _ l.is (λ event world ops. refl)
mays (linked.PutShortField slot) trees p at code site k meaning l means = as_plain trees p at code site k meaning means _ _ l.is (λ event world ops. refl)
mays (linked.GetStatic class slot) trees p at code site k meaning l means = as_plain trees p at code site k meaning means _ _ l.is (λ event world ops. refl)
mays (linked.PutStatic class slot) trees p at code site k meaning l means = as_plain trees p at code site k meaning means _ _ l.is (λ event world ops. refl)
mays (linked.PutBooleanStatic class slot) trees p at code site k meaning l means = as_plain trees p at code site k meaning means _ _ l.is (λ event world ops. refl)
mays (linked.PutByteStatic class slot) trees p at code site k meaning l means = as_plain trees p at code site k meaning means _ _ l.is (λ event world ops. refl)
mays (linked.PutCharStatic class slot) trees p at code site k meaning l means = as_plain trees p at code site k meaning means _ _ l.is (λ event world ops. refl)
mays (linked.PutShortStatic class slot) trees p at code site k meaning l means = as_plain trees p at code site k meaning means _ _ l.is (λ event world ops. refl)
mays (linked.GetSystemStream word) trees p at code site k meaning l means = as_plain trees p at code site k meaning means _ _ l.is (λ event world ops. refl)
mays linked.LoadElement trees p at code site k meaning l means = as_plain trees p at code site k meaning means _ _ l.is (load_plain trees site l.kind)
mays linked.StoreInt trees p at code site k meaning l means = as_plain trees p at code site k meaning means _ _ l.is (store_plain trees site array_kind.Int)
mays linked.StoreNarrow trees p at code site k meaning l means = as_plain trees p at code site k meaning means _ _ l.stores.is (store_plain trees site l.kind)
mays linked.StoreReference trees p at code site k meaning l means = as_plain trees p at code site k meaning means _ _ l.is (store_plain trees site array_kind.Reference)
mays linked.ArrayLength trees p at code site k meaning l means = as_plain trees p at code site k meaning means _ _ l.is (λ event world ops. refl)
mays (linked.LoadObject word) trees p at code site k meaning l means = as_plain trees p at code site k meaning means _ _ l.is (λ event world ops. refl)
mays (linked.New class cells uncounted) trees p at code site k meaning l means = as_plain trees p at code site k meaning means _ _ l.is (λ event world ops. refl)
mays (linked.NewArray of) trees p at code site k meaning l means = as_plain trees p at code site k meaning means _ _ l.is (λ event world ops. refl)
mays (linked.NewReferenceArray number) trees p at code site k meaning l means = as_plain trees p at code site k meaning means _ _ l.is (λ event world ops. refl)
mays (linked.CheckCast type) trees p at code site k meaning l means = as_plain trees p at code site k meaning means _ _ l.0.is (λ event world ops. refl)
mays (linked.InstanceOf type) trees p at code site k meaning l means = as_plain trees p at code site k meaning means _ _ l.0.is (λ event world ops. refl)
mays linked.Throw trees p at code site k meaning l means = as_plain trees p at code site k meaning means _ _ l (λ event world ops. refl)
mays linked.MonitorEnter trees p at code site k meaning l means = by trees p at code site k meaning means _ _ l.is (classless _ _ refl (λ own event world ops e. and_false (event.pick == 0) _ e))
mays linked.MonitorExit trees p at code site k meaning l means = as_plain trees p at code site k meaning means _ _ l.is (λ event world ops. refl)
mays (linked.InvokeStatic parameters class method) trees p at code site k meaning l means = by trees p at code site k meaning means _ _ l.is (static_mays trees site l.callee _ refl)
mays (linked.InvokeSpecial parameters method) trees p at code site k meaning l means = direct trees p at code site k meaning means parameters method l.calls
mays (linked.InvokeVirtual parameters place) trees p at code site k meaning l means = calling trees p at code site k meaning means _ _ refl l.is refl
mays (linked.InvokeInterface parameters selector) trees p at code site k meaning l means = calling trees p at code site k meaning means _ _ refl l.is refl
mays linked.Println trees p at code site k meaning l means = calling trees p at code site k meaning means _ _ refl l refl
mays linked.Return trees p at code site k meaning l means = as_plain trees p at code site k meaning means _ _ l (return_plain trees site.method.descriptor returned.Nothing)
mays linked.ReturnValue trees p at code site k meaning l means = as_plain trees p at code site k meaning means _ _ l.is (return_plain trees site.method.descriptor l.kind)
mays i trees p at code site k meaning l means = as_plain trees p at code site k meaning means _ _ (ap (local_or words trees site) l.is) (λ event world ops. refl)
