-- What is not enabled with a pick past 0: every instruction but a call of a notify.
use Rattle.std.proofs.Common.{◌≡◌, ℕ, zero, suc, List, [], ◌∷◌, Option, Some, None, Bool, true, false, if◌then◌else◌, ◌&&◌, ◌==◌, nat_lt, length, refl, sym, ap, subst, ◌∙◌, arith}
use Rattle.std.specs.Option.{option_and_then}
use Rattle.std.proofs.lemmas.Bool.{true≢false, le-ltb}
use Rattle.std.proofs.lemmas.Bool.Decides.{nat_tests}
use Rattle.std.proofs.lemmas.Option.{same_Some}
use Rattle.model.specs.declared.instr.ArrayKind.{ArrayKind}
use Rattle.model.specs.declared.instr.ArrayKind.TheVariants as array_kind
use Rattle.model.specs.declared.instr.Returned.{Returned}
use Rattle.model.specs.declared.instr.Returned.TheVariants as returned
use Rattle.model.specs.Names.{Member, Name}
use Rattle.model.specs.Arrays.{load_of, store_of}
use Rattle.model.specs.BuiltInMethods as built_in
use Rattle.model.specs.BuiltInMethods.{BuiltInMethod, built_in_method, built_in_may, if_owner}
use Rattle.model.specs.Calls.{is_one, may_run, return_of, static_call}
use Rattle.model.specs.Classes.{Body, Program, body_of}
use Rattle.model.specs.Lookup.{is_static_method}
use Rattle.model.specs.Meanings.{local_or, meaning_of}
use Rattle.model.specs.Operands.{Slots, words}
use Rattle.model.specs.Outcomes.{IllegalMonitorState, OutcomeOf, Raises}
use Rattle.model.specs.Sites.{MeaningOf, Site, pushing, site_at}
use Rattle.model.specs.State.{FrameOf, Invocation, StackOf, WorldOf}
use Rattle.model.specs.Step.{PartOf, SteppedOf, become, bytecode_by, bytecode_event, bytecode_in, done, enabled_if, is_enabled_by, needing_class, ops_of, unpicked}
use Rattle.run_laws.proofs.word_runs.WordBuiltIns.{placed, receiver_place}
use Rattle.linked_code.specs.declared.instruction.LinkedInstruction.{LinkedInstruction}
use Rattle.linked_code.specs.declared.instruction.LinkedInstruction.TheVariants as linked
use Rattle.linked_code.specs.declared.program.LinkedProgram.{LinkedProgram}
use Rattle.linked_code.specs.Linked.{IsLinked}
use Rattle.machine_state.specs.Instructions.{IsAt}
use Rattle.program_runs.specs.policies.Picks.{picked}

-- ---- numbers

pub past_zero : (k : ℕ) → (suc k == 0) ≡ false
past_zero k = grind (arith, nat_tests)

pub none_below : (k : ℕ) → nat_lt (suc k) 0 ≡ false
none_below k = le-ltb (suc k) 0 (omega arith)

-- an event that picks nothing is not enabled so
pub unpicked_off : {S : Type 0} (t k : ℕ) (x : SteppedOf S) → is_enabled_by (unpicked (picked t (suc k)) x) ≡ nat_lt (suc k) 0
unpicked_off t k x = ap (λ b. is_enabled_by (enabled_if b x)) (past_zero k) ∙ sym (none_below k)

and_false : (a b : Bool) → a ≡ false → (a && b) ≡ false
and_false a b e = ap (λ x. x && b) e

-- ---- built-in methods

pub others_may : (b : BuiltInMethod) → (b ≡ built_in.ObjectNotify → ⊥) → (t k : ℕ) (world : WorldOf ℕ) (ops : List ℕ)
    → built_in_may words b (picked t (suc k)) world ops ≡ false
others_may built_in.Construct n t k world ops = past_zero k
others_may built_in.ObjectClone n t k world ops = past_zero k
others_may built_in.ConstructWithMessage n t k world ops = past_zero k
others_may built_in.ConstructWithCause n t k world ops = past_zero k
others_may built_in.ObjectWait n t k world ops = past_zero k
others_may built_in.ObjectNotify n t k world ops = absurd (n refl)
others_may built_in.ObjectNotifyAll n t k world ops = past_zero k
others_may built_in.ThreadStart n t k world ops = past_zero k
others_may built_in.ThreadInterrupt n t k world ops = past_zero k
others_may built_in.ThreadIsInterrupted n t k world ops = past_zero k
others_may built_in.ThreadInterrupted n t k world ops = past_zero k
others_may built_in.ThreadYield n t k world ops = past_zero k
others_may built_in.ThreadCurrentThread n t k world ops = past_zero k
others_may built_in.ThreadJoin n t k world ops = and_false (suc k == 0) _ (past_zero k)
others_may built_in.ThreadIsAlive n t k world ops = past_zero k
others_may (built_in.ThreadNames names) n t k world ops = past_zero k
others_may (built_in.PrintStreamPrints print) n t k world ops = past_zero k
others_may (built_in.StringAnswers method) n t k world ops = past_zero k
others_may (built_in.StringWrites writes) n t k world ops = past_zero k
others_may (built_in.StringBuilderBuilds method) n t k world ops = past_zero k
others_may (built_in.ObjectAnswers method) n t k world ops = past_zero k

-- a notify picks one of the members, by the owner
pub notify_may : (owner : Bool) (n k : ℕ) → (if owner && nat_lt 0 n then nat_lt (suc k) n else (suc k == 0)) ≡ nat_lt (suc k) (if owner then n else 0)
notify_may false n k = past_zero k ∙ sym (none_below k)
notify_may true n k = by (nat_lt 0 n) refl
  where
    by : (b : Bool) → nat_lt 0 n ≡ b → (if b then nat_lt (suc k) n else (suc k == 0)) ≡ nat_lt (suc k) n
    by true e = refl
    by false e = grind (arith, nat_tests, e)

pub notify_enabled : (trees : Program) (frames t : ℕ) (world : WorldOf ℕ) (frame : FrameOf ℕ) (rest : StackOf ℕ) (owner : Bool) (next : ℕ) (after : WorldOf ℕ) (slots : Slots ℕ) (under : List ℕ)
    → is_enabled_by (become words trees frames t world frame rest (if_owner owner (pushing next [] after slots under))) ≡ true
notify_enabled trees frames t world frame rest true next after slots under = refl
notify_enabled trees frames t world frame rest false next after slots under = refl

pub enabled_by_may : {S : Type 0} (may : Bool) (x : SteppedOf S) → is_enabled_by x ≡ true → is_enabled_by (enabled_if may x) ≡ may
enabled_by_may true x e = e
enabled_by_may false x e = refl

-- ---- meanings

abbrev pub PicksNone : MeaningOf ℕ → Type 0
PicksNone m = (t k : ℕ) (world : WorldOf ℕ) (ops : List ℕ) → m.may (picked t (suc k)) world ops ≡ false

load_none : (trees : Program) (site : Site) (kind : ArrayKind) → PicksNone (load_of words trees site kind)
load_none trees site array_kind.Int = λ t k world ops. past_zero k
load_none trees site array_kind.Reference = λ t k world ops. past_zero k
load_none trees site array_kind.ByteOrBoolean = λ t k world ops. past_zero k
load_none trees site array_kind.Char = λ t k world ops. past_zero k
load_none trees site array_kind.Short = λ t k world ops. past_zero k

store_none : (trees : Program) (site : Site) (kind : ArrayKind) → PicksNone (store_of words trees site kind)
store_none trees site array_kind.Int = λ t k world ops. past_zero k
store_none trees site array_kind.Reference = λ t k world ops. past_zero k
store_none trees site array_kind.ByteOrBoolean = λ t k world ops. past_zero k
store_none trees site array_kind.Char = λ t k world ops. past_zero k
store_none trees site array_kind.Short = λ t k world ops. past_zero k

return_none : (trees : Program) (descriptor : Name) (kind : Returned) → PicksNone (return_of words trees descriptor kind)
return_none trees descriptor returned.Nothing = λ t k world ops. past_zero k
return_none trees descriptor returned.Int = λ t k world ops. past_zero k
return_none trees descriptor returned.Reference = λ t k world ops. past_zero k

-- a static method is none that picks
static_none : (trees : Program) (site : Site) (callee : Member) → is_one is_static_method trees callee ≡ true → PicksNone (static_call words trees site callee)
static_none trees site callee static t k world ops = by (body_of trees callee)
  where
    not_notify : built_in_method callee ≡ built_in.ObjectNotify → ⊥
    not_notify e = true≢false (sym static ∙ (placed trees callee 0 (ap receiver_place e)).instance)

    by : (o : Option Body) → may_run words (picked t (suc k)) world ops callee o ≡ false
    by None = others_may (built_in_method callee) not_notify t k world ops
    by (Some body) = past_zero k

module _ (trees : Program) (p : LinkedProgram) (at : ℕ → ℕ) (code : List LinkedInstruction) (site : Site) (place : ℕ) (meaning : MeaningOf ℕ)
    (means : meaning_of words trees site ≡ Some meaning) where
  -- the meaning is the one of its definition
  of : (m : MeaningOf ℕ) → meaning_of words trees site ≡ Some m → PicksNone m → PicksNone meaning
  of m is h = subst PicksNone (same_Some m meaning (sym is ∙ means)) h

  plain : (m : MeaningOf ℕ) → meaning_of words trees site ≡ Some m → ((t k : ℕ) (world : WorldOf ℕ) (ops : List ℕ) → m.may (picked t (suc k)) world ops ≡ (suc k == 0))
      → PicksNone meaning
  plain m is h = of m is (λ t k world ops. h t k world ops ∙ past_zero k)

  -- each instruction but a call on an object, in a line
  pub picks_none : (i : LinkedInstruction) → IsLinked trees p at code site place i
      → ((parameters method : ℕ) → i ≡ linked.InvokeSpecial parameters method → ⊥)
      → ((parameters place : ℕ) → i ≡ linked.InvokeVirtual parameters place → ⊥)
      → ((parameters selector : ℕ) → i ≡ linked.InvokeInterface parameters selector → ⊥) → PicksNone meaning
  picks_none (linked.GetField slot) l n0 n1 n2 = plain _ l.is (λ t k world ops. refl)
  picks_none (linked.PutField slot) l n0 n1 n2 = plain _ l.is (λ t k world ops. refl)
  picks_none (linked.PutBooleanField slot) l n0 n1 n2 = plain _ l.is (λ t k world ops. refl)
  picks_none (linked.PutByteField slot) l n0 n1 n2 = plain _ l.is (λ t k world ops. refl)
  picks_none (linked.PutCharField slot) l n0 n1 n2 = plain _ l.is (λ t k world ops. refl)
  picks_none (linked.PutShortField slot) l n0 n1 n2 = plain _ l.is (λ t k world ops. refl)
  picks_none (linked.GetStatic class slot) l n0 n1 n2 = plain _ l.is (λ t k world ops. refl)
  picks_none (linked.PutStatic class slot) l n0 n1 n2 = plain _ l.is (λ t k world ops. refl)
  picks_none (linked.PutBooleanStatic class slot) l n0 n1 n2 = plain _ l.is (λ t k world ops. refl)
  picks_none (linked.PutByteStatic class slot) l n0 n1 n2 = plain _ l.is (λ t k world ops. refl)
  picks_none (linked.PutCharStatic class slot) l n0 n1 n2 = plain _ l.is (λ t k world ops. refl)
  picks_none (linked.PutShortStatic class slot) l n0 n1 n2 = plain _ l.is (λ t k world ops. refl)
  picks_none (linked.GetSystemStream word) l n0 n1 n2 = plain _ l.is (λ t k world ops. refl)
  picks_none linked.LoadElement l n0 n1 n2 = of _ l.is (load_none trees site l.kind)
  picks_none linked.StoreInt l n0 n1 n2 = of _ l.is (store_none trees site array_kind.Int)
  picks_none linked.StoreNarrow l n0 n1 n2 = of _ l.stores.is (store_none trees site l.kind)
  picks_none linked.StoreReference l n0 n1 n2 = of _ l.is (store_none trees site array_kind.Reference)
  picks_none linked.ArrayLength l n0 n1 n2 = plain _ l.is (λ t k world ops. refl)
  picks_none (linked.LoadObject word) l n0 n1 n2 = plain _ l.is (λ t k world ops. refl)
  picks_none (linked.New class cells uncounted) l n0 n1 n2 = plain _ l.is (λ t k world ops. refl)
  picks_none (linked.NewArray type) l n0 n1 n2 = plain _ l.is (λ t k world ops. refl)
  picks_none (linked.NewReferenceArray number) l n0 n1 n2 = plain _ l.is (λ t k world ops. refl)
  picks_none (linked.CheckCast type) l n0 n1 n2 = plain _ l.0.is (λ t k world ops. refl)
  picks_none (linked.InstanceOf type) l n0 n1 n2 = plain _ l.0.is (λ t k world ops. refl)
  picks_none linked.Throw l n0 n1 n2 = plain _ l (λ t k world ops. refl)
  picks_none linked.MonitorEnter l n0 n1 n2 = of _ l.is (λ t k world ops. and_false (suc k == 0) _ (past_zero k))
  picks_none linked.MonitorExit l n0 n1 n2 = plain _ l.is (λ t k world ops. refl)
  picks_none (linked.InvokeStatic parameters class method) l n0 n1 n2 = of _ l.is (static_none trees site l.callee l.static)
  picks_none (linked.InvokeSpecial parameters method) l n0 n1 n2 = absurd (n0 parameters method refl)
  picks_none (linked.InvokeVirtual parameters place) l n0 n1 n2 = absurd (n1 parameters place refl)
  picks_none (linked.InvokeInterface parameters selector) l n0 n1 n2 = absurd (n2 parameters selector refl)
  picks_none linked.Println l n0 n1 n2 = plain _ l (λ t k world ops. refl)
  picks_none linked.Return l n0 n1 n2 = of _ l (return_none trees site.method.descriptor returned.Nothing)
  picks_none linked.ReturnValue l n0 n1 n2 = of _ l.is (return_none trees site.method.descriptor l.kind)
  picks_none i l n0 n1 n2 = plain _ (ap (local_or words trees site) l.is) (λ t k world ops. refl)

-- ---- the event of a thread that stands there

module _ (trees : Program) (frames t k : ℕ) (world : WorldOf ℕ) (frame : FrameOf ℕ) (rest : StackOf ℕ) (site : Site) (meaning : MeaningOf ℕ)
    (at : IsAt trees frame site meaning) where
  abbrev may : Bool
  may = meaning.may (picked t (suc k)) world (ops_of words meaning frame.place.slots)

  abbrev first : SteppedOf (PartOf ℕ)
  first = needing_class words trees t meaning.looks world (Invocation frame ∷ rest) (done words trees frames (picked t (suc k)) world frame rest meaning)

  whole_is : bytecode_event words trees frames (picked t (suc k)) world frame rest ≡ enabled_if may first
  whole_is =
      ap (bytecode_in words trees frames (picked t (suc k)) world frame rest) at.is_body
      ∙ ap (λ (s : Option Site). bytecode_by words trees frames (picked t (suc k)) world frame rest at.body.code.max_stack (option_and_then (meaning_of words trees) s)) at.stands
      ∙ ap (bytecode_by words trees frames (picked t (suc k)) world frame rest at.body.code.max_stack) at.means

  pub not_may : PicksNone meaning → is_enabled_by (bytecode_event words trees frames (picked t (suc k)) world frame rest) ≡ nat_lt (suc k) 0
  not_may none =
      ap is_enabled_by whole_is
      ∙ ap (λ b. is_enabled_by (enabled_if b first)) (none t k world (ops_of words meaning frame.place.slots))
      ∙ sym (none_below k)
