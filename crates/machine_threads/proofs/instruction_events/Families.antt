-- What is left of the instructions behind those of a family.
use Rattle.std.proofs.Common.{◌≡◌, ℕ, List, true, false, refl, sym, subst}
use Rattle.std.specs.Prelude.{Result}
use Rattle.model.specs.Classes.{Program}
use Rattle.model.specs.Sites.{Site}
use Rattle.linked_code.specs.declared.instruction.LinkedInstruction.{LinkedInstruction}
use Rattle.linked_code.specs.declared.instruction.LinkedInstruction.TheVariants as linked
use Rattle.linked_code.specs.declared.program.LinkedProgram.{LinkedProgram}
use Rattle.model.specs.declared.primitive.Primitive.{Primitive}
use Rattle.linked_code.specs.declared.types.LinkedType.{LinkedType}
use Rattle.linked_code.specs.Linked.{IsLinked}
use Rattle.thread_stacks.specs.Stacks.{ShownEntry}
use Rattle.machine_state.specs.declared.answers.Effect.{Effect}
use Rattle.machine_state.specs.declared.refusals.EventRefusal.{EventRefusal}
use Rattle.machine_state.specs.declared.state.Shared.{Shared}
use Rattle.machine_state.specs.linked_frames.Frames.{DoesOwn}
use Rattle.machine_instructions.specs.local_instructions.Local.{is_local}
use Rattle.machine_threads.specs.instruction_events.Families.{is_call, is_field_or_local}
use Rattle.machine_threads.specs.instruction_events.Doing.{DoesFieldOrLocal}

-- what is said of an instruction that is the same
pub own_same : (p : LinkedProgram) (i j : LinkedInstruction) (t : ℕ) (result : Result Effect EventRefusal) (old new : Shared)
    (from to : List ShownEntry) → i ≡ j → DoesOwn p j t result old new from to → DoesOwn p i t result old new from to
own_same p i j t result old new from to e h = subst (λ (x : LinkedInstruction). DoesOwn p x t result old new from to) (sym e) h

pub field_same : (p : LinkedProgram) (i j : LinkedInstruction) (result : Result Effect EventRefusal) (old new : Shared)
    (from to : List ShownEntry) → i ≡ j → ((t : ℕ) → DoesOwn p j t result old new from to) → DoesFieldOrLocal p i result old new from to
field_same p i j result old new from to e h = λ reached t. own_same p i j t result old new from to e (h t)

-- behind those on fields come the local ones
pub local_left : (i : LinkedInstruction) → is_field_or_local i ≡ true → ((slot : ℕ) → i ≡ linked.GetField slot → ⊥)
    → ((slot : ℕ) → i ≡ linked.PutField slot → ⊥) → ((slot : ℕ) → i ≡ linked.PutBooleanField slot → ⊥)
    → ((slot : ℕ) → i ≡ linked.PutByteField slot → ⊥) → ((slot : ℕ) → i ≡ linked.PutCharField slot → ⊥)
    → ((slot : ℕ) → i ≡ linked.PutShortField slot → ⊥) → ((class : ℕ) (slot : ℕ) → i ≡ linked.GetStatic class slot → ⊥)
    → ((class : ℕ) (slot : ℕ) → i ≡ linked.PutStatic class slot → ⊥)
    → ((class : ℕ) (slot : ℕ) → i ≡ linked.PutBooleanStatic class slot → ⊥)
    → ((class : ℕ) (slot : ℕ) → i ≡ linked.PutByteStatic class slot → ⊥)
    → ((class : ℕ) (slot : ℕ) → i ≡ linked.PutCharStatic class slot → ⊥)
    → ((class : ℕ) (slot : ℕ) → i ≡ linked.PutShortStatic class slot → ⊥) → is_local i ≡ true
local_left (linked.GetField slot) e n0 n1 n2 n3 n4 n5 n6 n7 n8 n9 n10 n11 = absurd (n0 slot refl)
local_left (linked.PutField slot) e n0 n1 n2 n3 n4 n5 n6 n7 n8 n9 n10 n11 = absurd (n1 slot refl)
local_left (linked.PutBooleanField slot) e n0 n1 n2 n3 n4 n5 n6 n7 n8 n9 n10 n11 = absurd (n2 slot refl)
local_left (linked.PutByteField slot) e n0 n1 n2 n3 n4 n5 n6 n7 n8 n9 n10 n11 = absurd (n3 slot refl)
local_left (linked.PutCharField slot) e n0 n1 n2 n3 n4 n5 n6 n7 n8 n9 n10 n11 = absurd (n4 slot refl)
local_left (linked.PutShortField slot) e n0 n1 n2 n3 n4 n5 n6 n7 n8 n9 n10 n11 = absurd (n5 slot refl)
local_left (linked.GetStatic class slot) e n0 n1 n2 n3 n4 n5 n6 n7 n8 n9 n10 n11 = absurd (n6 class slot refl)
local_left (linked.PutStatic class slot) e n0 n1 n2 n3 n4 n5 n6 n7 n8 n9 n10 n11 = absurd (n7 class slot refl)
local_left (linked.PutBooleanStatic class slot) e n0 n1 n2 n3 n4 n5 n6 n7 n8 n9 n10 n11 = absurd (n8 class slot refl)
local_left (linked.PutByteStatic class slot) e n0 n1 n2 n3 n4 n5 n6 n7 n8 n9 n10 n11 = absurd (n9 class slot refl)
local_left (linked.PutCharStatic class slot) e n0 n1 n2 n3 n4 n5 n6 n7 n8 n9 n10 n11 = absurd (n10 class slot refl)
local_left (linked.PutShortStatic class slot) e n0 n1 n2 n3 n4 n5 n6 n7 n8 n9 n10 n11 = absurd (n11 class slot refl)
local_left i e n0 n1 n2 n3 n4 n5 n6 n7 n8 n9 n10 n11 = e

-- behind the others that call nothing come those on fields and the local ones: no frame stands at a part of a switch
pub field_left : (trees : Program) (p : LinkedProgram) (at : ℕ → ℕ) (code : List LinkedInstruction) (site : Site) (k : ℕ)
    (i : LinkedInstruction) → is_call i ≡ false → IsLinked trees p at code site k i → ((word : ℕ) → i ≡ linked.GetSystemStream word → ⊥)
    → (i ≡ linked.LoadElement → ⊥) → (i ≡ linked.StoreInt → ⊥) → (i ≡ linked.StoreNarrow → ⊥) → (i ≡ linked.StoreReference → ⊥)
    → (i ≡ linked.ArrayLength → ⊥) → ((word : ℕ) → i ≡ linked.LoadObject word → ⊥)
    → ((class : ℕ) (cells : ℕ) (uncounted : ℕ) → i ≡ linked.New class cells uncounted → ⊥) → ((of : Primitive) → i ≡ linked.NewArray of → ⊥)
    → ((number : ℕ) → i ≡ linked.NewReferenceArray number → ⊥) → ((type : LinkedType) → i ≡ linked.CheckCast type → ⊥)
    → ((type : LinkedType) → i ≡ linked.InstanceOf type → ⊥) → (i ≡ linked.Throw → ⊥) → (i ≡ linked.MonitorEnter → ⊥)
    → (i ≡ linked.MonitorExit → ⊥) → (i ≡ linked.Return → ⊥) → (i ≡ linked.ReturnValue → ⊥) → is_field_or_local i ≡ true
field_left trees p at code site k (linked.GetSystemStream word) e l n0 n1 n2 n3 n4 n5 n6 n7 n8 n9 n10 n11 n12 n13 n14 n15 n16 = absurd (n0 word refl)
field_left trees p at code site k linked.LoadElement e l n0 n1 n2 n3 n4 n5 n6 n7 n8 n9 n10 n11 n12 n13 n14 n15 n16 = absurd (n1 refl)
field_left trees p at code site k linked.StoreInt e l n0 n1 n2 n3 n4 n5 n6 n7 n8 n9 n10 n11 n12 n13 n14 n15 n16 = absurd (n2 refl)
field_left trees p at code site k linked.StoreNarrow e l n0 n1 n2 n3 n4 n5 n6 n7 n8 n9 n10 n11 n12 n13 n14 n15 n16 = absurd (n3 refl)
field_left trees p at code site k linked.StoreReference e l n0 n1 n2 n3 n4 n5 n6 n7 n8 n9 n10 n11 n12 n13 n14 n15 n16 = absurd (n4 refl)
field_left trees p at code site k linked.ArrayLength e l n0 n1 n2 n3 n4 n5 n6 n7 n8 n9 n10 n11 n12 n13 n14 n15 n16 = absurd (n5 refl)
field_left trees p at code site k (linked.LoadObject word) e l n0 n1 n2 n3 n4 n5 n6 n7 n8 n9 n10 n11 n12 n13 n14 n15 n16 = absurd (n6 word refl)
field_left trees p at code site k (linked.New class cells uncounted) e l n0 n1 n2 n3 n4 n5 n6 n7 n8 n9 n10 n11 n12 n13 n14 n15 n16 = absurd (n7 class cells uncounted refl)
field_left trees p at code site k (linked.NewArray of) e l n0 n1 n2 n3 n4 n5 n6 n7 n8 n9 n10 n11 n12 n13 n14 n15 n16 = absurd (n8 of refl)
field_left trees p at code site k (linked.NewReferenceArray number) e l n0 n1 n2 n3 n4 n5 n6 n7 n8 n9 n10 n11 n12 n13 n14 n15 n16 = absurd (n9 number refl)
field_left trees p at code site k (linked.CheckCast type) e l n0 n1 n2 n3 n4 n5 n6 n7 n8 n9 n10 n11 n12 n13 n14 n15 n16 = absurd (n10 type refl)
field_left trees p at code site k (linked.InstanceOf type) e l n0 n1 n2 n3 n4 n5 n6 n7 n8 n9 n10 n11 n12 n13 n14 n15 n16 = absurd (n11 type refl)
field_left trees p at code site k linked.Throw e l n0 n1 n2 n3 n4 n5 n6 n7 n8 n9 n10 n11 n12 n13 n14 n15 n16 = absurd (n12 refl)
field_left trees p at code site k linked.MonitorEnter e l n0 n1 n2 n3 n4 n5 n6 n7 n8 n9 n10 n11 n12 n13 n14 n15 n16 = absurd (n13 refl)
field_left trees p at code site k linked.MonitorExit e l n0 n1 n2 n3 n4 n5 n6 n7 n8 n9 n10 n11 n12 n13 n14 n15 n16 = absurd (n14 refl)
field_left trees p at code site k linked.Return e l n0 n1 n2 n3 n4 n5 n6 n7 n8 n9 n10 n11 n12 n13 n14 n15 n16 = absurd (n15 refl)
field_left trees p at code site k linked.ReturnValue e l n0 n1 n2 n3 n4 n5 n6 n7 n8 n9 n10 n11 n12 n13 n14 n15 n16 = absurd (n16 refl)
field_left trees p at code site k (linked.InvokeStatic parameters class method) e l n0 n1 n2 n3 n4 n5 n6 n7 n8 n9 n10 n11 n12 n13 n14 n15 n16 = absurd cc
field_left trees p at code site k (linked.InvokeSpecial parameters method) e l n0 n1 n2 n3 n4 n5 n6 n7 n8 n9 n10 n11 n12 n13 n14 n15 n16 = absurd cc
field_left trees p at code site k (linked.InvokeVirtual parameters place) e l n0 n1 n2 n3 n4 n5 n6 n7 n8 n9 n10 n11 n12 n13 n14 n15 n16 = absurd cc
field_left trees p at code site k (linked.InvokeInterface parameters selector) e l n0 n1 n2 n3 n4 n5 n6 n7 n8 n9 n10 n11 n12 n13 n14 n15 n16 = absurd cc
field_left trees p at code site k linked.Println e l n0 n1 n2 n3 n4 n5 n6 n7 n8 n9 n10 n11 n12 n13 n14 n15 n16 = absurd cc
field_left trees p at code site k (linked.Bound high) e l n0 n1 n2 n3 n4 n5 n6 n7 n8 n9 n10 n11 n12 n13 n14 n15 n16 = absurd l.same
field_left trees p at code site k (linked.Match key) e l n0 n1 n2 n3 n4 n5 n6 n7 n8 n9 n10 n11 n12 n13 n14 n15 n16 = absurd l.same
field_left trees p at code site k (linked.Jump to) e l n0 n1 n2 n3 n4 n5 n6 n7 n8 n9 n10 n11 n12 n13 n14 n15 n16 = absurd l.same
field_left trees p at code site k i e l n0 n1 n2 n3 n4 n5 n6 n7 n8 n9 n10 n11 n12 n13 n14 n15 n16 = refl
