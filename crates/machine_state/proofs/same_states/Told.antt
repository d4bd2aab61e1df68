-- What is kept shows one state at most.
use Rattle.std.proofs.Common.{◌≡◌, ℕ, suc, List, [], ◌∷◌, Option, false, refl, sym, ap, ◌∙◌, subst}
use Rattle.std.specs.Prelude.{map}
use Rattle.std.proofs.lemmas.Bool.{true≢false}
use Rattle.std.proofs.lemmas.Option.{same_Some}
use Rattle.model.specs.Names.{Name, Member, name_eq, java_lang_string}
use Rattle.model.specs.Classes.{Program, name_of}
use Rattle.model.specs.Lookup.{instance_fields}
use Rattle.model.specs.ReferenceTypes.{ReferenceType, ClassType, PrimitiveArray}
use Rattle.model.specs.DescribedTypes.{arrays}
use Rattle.model.specs.Texts.{Text}
use Rattle.model.specs.State as model
use Rattle.model.specs.State.{ObjectOf, Instance, Primitives, References, Characters, ClassStatus, Monitor, Thread, FrameOf, StackEntryOf, StackOf, Phase, WorldOf, StateOf}
use Rattle.heap.specs.declared.kind.ObjectKind.{ObjectKind}
use Rattle.heap.specs.declared.kind.ObjectKind.TheVariants as kind
use Rattle.heap.specs.Heap.{Object}
use Rattle.linked_code.specs.declared.program.LinkedProgram.{LinkedProgram}
use Rattle.linked_code.specs.declared.types.Element.{Element}
use Rattle.linked_code.specs.declared.types.Element.TheVariants as element
use Rattle.linked_code.specs.declared.types.LinkedType.{LinkedType}
use Rattle.model.specs.Primitives.{primitive_of}
use Rattle.linked_code.specs.Numbers.{IsClassAt, IsMethodAt, IsType, IsTypeAt, IsTypeWith}
use Rattle.thread_stacks.specs.Stacks.{ShownFrame, ShownEntry, Invocation, Initialisation}
use Rattle.machine_state.specs.shown_objects.Shown.{names_of, words_in, cells_of, IsKindOf, ShowsObjects}
use Rattle.machine_state.specs.shown_stacks.Shown.{ShowsFrame, ShowsEntry, ShowsStack}
use Rattle.machine_state.specs.declared.state.Shared.{Shared}
use Rattle.machine_state.specs.Shown.{shown_status, ShowsWorld}
use Rattle.machine_state.specs.state_events.Whole.{ShowsStacks}
use Rattle.machine_state.specs.same_states.Same.{AreAlike, AreWordsTold}

-- ---- lists

same_head : {X : Type 0} (x y : X) (xs ys : List X) → x ∷ xs ≡ y ∷ ys → x ≡ y
same_head x y xs ys e = cc

same_tail : {X : Type 0} (x y : X) (xs ys : List X) → x ∷ xs ≡ y ∷ ys → xs ≡ ys
same_tail x y xs ys e = cc

module _ {A B : Type 0} where
  -- pairs are told by their parts
  pairs : (xs ys : List (A × B)) → map (λ (p : A × B). p.0) xs ≡ map (λ (p : A × B). p.0) ys
      → map (λ (p : A × B). p.1) xs ≡ map (λ (p : A × B). p.1) ys → xs ≡ ys
  pairs [] [] e f = refl
  pairs [] (y ∷ ys) e f = absurd cc
  pairs (x ∷ xs) [] e f = absurd cc
  pairs (x ∷ xs) (y ∷ ys) e f =
      let rest = pairs xs ys (same_tail x.0 y.0 _ _ e) (same_tail x.1 y.1 _ _ f) in
      let left = same_head x.0 y.0 _ _ e in
      let right = same_head x.1 y.1 _ _ f in
      ap (λ (a : A). (a, x.1) ∷ xs) left ∙ (ap (λ (b : B). (y.0, b) ∷ xs) right ∙ ap (λ l. y ∷ l) rest)

-- ---- numbers

class_once : (files : Program) (number : ℕ) (one other : Name) → IsClassAt files number one → IsClassAt files number other → one ≡ other
class_once files number one other a b =
    let same : a.0 ≡ b.0 = same_Some a.0 b.0 (sym a.1 ∙ b.1) in
    sym a.2 ∙ (ap name_of same ∙ b.2)

method_once : (files : Program) (number : ℕ) (one other : Member) → IsMethodAt files number one → IsMethodAt files number other
    → one ≡ other
method_once files number one other a b = same_Some one other (sym a ∙ b)

same_suc : (m n : ℕ) → suc m ≡ suc n → m ≡ n
same_suc m n e = cc

type_with : (files : Program) (dimensions : ℕ) (of : Element) (one other : ReferenceType) → IsTypeWith files dimensions of one
    → IsTypeWith files dimensions of other → one ≡ other
type_with files dimensions (element.Class number) one other a b =
    a.is ∙ (ap (λ class. arrays dimensions (ClassType class)) (class_once files number a.class b.class a.numbered b.numbered) ∙ sym b.is)
type_with files dimensions (element.Primitive of) one other a b =
    a.is ∙ (ap (λ around. arrays around (PrimitiveArray (primitive_of of))) (same_suc a.around b.around (sym a.count ∙ b.count)) ∙ sym b.is)

type_once : (files : Program) (types : List LinkedType) (number : ℕ) (one other : ReferenceType) → IsTypeAt files types number one
    → IsTypeAt files types number other → one ≡ other
type_once files types number one other a b =
    let same : a.0 ≡ b.0 = same_Some a.0 b.0 (sym a.1 ∙ b.1) in
    type_with files b.0.dimensions b.0.element one other (subst (λ (of : LinkedType). IsType files of one) same a.2) b.2

-- ---- objects

module _ (files : Program) (components : List LinkedType) where
  instances : (number : ℕ) (class other : Name) (fields others : List (Member × ℕ)) → IsClassAt files number class
      → IsClassAt files number other
      → names_of fields ≡ instance_fields files class → names_of others ≡ instance_fields files other → words_in fields ≡ words_in others
      → Instance class fields ≡ Instance other others
  instances number class other fields others a b n m e =
      let same = class_once files number class other a b in
      let names = n ∙ (ap (instance_fields files) same ∙ sym m) in
      ap (λ (c : Name). Instance c fields) same ∙ ap (λ (l : List (Member × ℕ)). Instance other l) (pairs fields others names e)

  -- an instance of another class is no String
  no_string : {P : Type 0} (number : ℕ) (class : Name) → IsClassAt files number class → name_eq class java_lang_string ≡ false
      → IsClassAt files number java_lang_string → P
  no_string number class a plain b =
      let same = class_once files number class java_lang_string a b in
      absurd (true≢false (ap (λ c. name_eq c java_lang_string) (sym same) ∙ plain))

  by_kind : (k : ObjectKind) (one other : ObjectOf ℕ) → IsKindOf files components k one → IsKindOf files components k other
      → cells_of one ≡ cells_of other → one ≡ other
  by_kind (kind.Instance number) (Instance class fields) (Instance other others) a b e = instances number class other fields others a.0 b.0 a.1 b.1 e
  by_kind (kind.Instance number) (Instance class fields) (Primitives of elements) a b e = absurd b
  by_kind (kind.Instance number) (Instance class fields) (References of elements) a b e = absurd b
  by_kind (kind.Instance number) (Instance class fields) (Characters text) a b e = no_string number class a.0 a.2 b.0
  by_kind (kind.Instance number) (Characters text) (Instance class fields) a b e = no_string number class b.0 b.2 a.0
  by_kind (kind.Instance number) (Characters text) (Characters others) a b e = ap (λ (t : Text). Characters t) e
  by_kind (kind.Instance number) (Characters text) (Primitives of elements) a b e = absurd b
  by_kind (kind.Instance number) (Characters text) (References of elements) a b e = absurd b
  by_kind (kind.Instance number) (Primitives of elements) other a b e = absurd a
  by_kind (kind.Instance number) (References of elements) other a b e = absurd a
  by_kind kind.Ints (Primitives of elements) (Primitives to others) a b e = ap (λ t. Primitives t elements) (a ∙ sym b) ∙ ap (λ l. Primitives to l) e
  by_kind kind.Ints (Primitives of elements) (Instance other others) a b e = absurd b
  by_kind kind.Ints (Primitives of elements) (References to others) a b e = absurd b
  by_kind kind.Ints (Primitives of elements) (Characters text) a b e = absurd b
  by_kind kind.Ints (Characters text) other a b e = absurd a
  by_kind kind.Ints (Instance class fields) other a b e = absurd a
  by_kind kind.Ints (References of elements) other a b e = absurd a
  by_kind (kind.Narrow narrow) (Primitives of elements) (Primitives to others) a b e = ap (λ t. Primitives t elements) (a ∙ sym b) ∙ ap (λ l. Primitives to l) e
  by_kind (kind.Narrow narrow) (Primitives of elements) (Instance other others) a b e = absurd b
  by_kind (kind.Narrow narrow) (Primitives of elements) (References to others) a b e = absurd b
  by_kind (kind.Narrow narrow) (Primitives of elements) (Characters text) a b e = absurd b
  by_kind (kind.Narrow narrow) (Characters text) other a b e = absurd a
  by_kind (kind.Narrow narrow) (Instance class fields) other a b e = absurd a
  by_kind (kind.Narrow narrow) (References of elements) other a b e = absurd a
  by_kind (kind.References number) (References of elements) (References to others) a b e =
      ap (λ t. References t elements) (type_once files components number of to a b) ∙ ap (λ l. References to l) e
  by_kind (kind.References number) (References of elements) (Instance other others) a b e = absurd b
  by_kind (kind.References number) (References of elements) (Primitives to others) a b e = absurd b
  by_kind (kind.References number) (References of elements) (Characters text) a b e = absurd b
  by_kind (kind.References number) (Characters text) other a b e = absurd a
  by_kind (kind.References number) (Instance class fields) other a b e = absurd a
  by_kind (kind.References number) (Primitives of elements) other a b e = absurd a

  objects_once : (shown : List Object) (one other : List (ObjectOf ℕ)) → ShowsObjects files components shown one
      → ShowsObjects files components shown other → one ≡ other
  objects_once [] [] [] a b = refl
  objects_once [] [] (n ∷ ns) a b = absurd b
  objects_once [] (m ∷ ms) other a b = absurd a
  objects_once (o ∷ os) [] other a b = absurd a
  objects_once (o ∷ os) (m ∷ ms) [] a b = absurd b
  objects_once (o ∷ os) (m ∷ ms) (n ∷ ns) a b =
      ap (λ x. x ∷ ms) (by_kind o.kind m n a.0.kind b.0.kind (sym a.0.words ∙ b.0.words)) ∙ ap (λ l. n ∷ l) (objects_once os ms ns a.1 b.1)

-- ---- stacks

abbrev frame_of : Member → ℕ → List ℕ → List ℕ → Option ℕ → FrameOf ℕ
frame_of method offset locals stack entered = record { method = method; place = record { offset = offset; slots = record { locals = locals; stack = stack } }; entered = entered }

module _ (files : Program) (p : LinkedProgram) where
  frames_once : (shown : ShownFrame) (one other : FrameOf ℕ) → ShowsFrame files p shown one → ShowsFrame files p shown other → one ≡ other
  frames_once shown one other a b =
      let f = one.place in
      let g = other.place in
      ap (λ m. frame_of m f.offset f.slots.locals f.slots.stack one.entered) (method_once files shown.method one.method other.method a.method b.method)
      ∙ (ap (λ o. frame_of other.method o f.slots.locals f.slots.stack one.entered) (a.offset ∙ sym b.offset)
      ∙ (ap (λ l. frame_of other.method g.offset l f.slots.stack one.entered) (a.locals ∙ sym b.locals)
      ∙ (ap (λ s. frame_of other.method g.offset g.slots.locals s one.entered) (a.operands ∙ sym b.operands)
      ∙ ap (λ e. frame_of other.method g.offset g.slots.locals g.slots.stack e) (a.entered ∙ sym b.entered))))

  entries_once : (shown : ShownEntry) (one other : StackEntryOf ℕ) → ShowsEntry files p shown one → ShowsEntry files p shown other
      → one ≡ other
  entries_once (Invocation shown) (model.Invocation f) (model.Invocation g) a b = ap (λ (x : FrameOf ℕ). model.Invocation x) (frames_once shown f g a b)
  entries_once (Invocation shown) (model.Invocation f) (model.Initialisation class phase) a b = absurd b
  entries_once (Invocation shown) (model.Initialisation class phase) other a b = absurd a
  entries_once (Initialisation number at) (model.Initialisation class phase) (model.Initialisation named to) a b =
      ap (λ (c : Name). model.Initialisation c phase) (class_once files number class named a.0 b.0) ∙ ap (λ (t : Phase). model.Initialisation named t) (sym a.1 ∙ b.1)
  entries_once (Initialisation number at) (model.Initialisation class phase) (model.Invocation g) a b = absurd b
  entries_once (Initialisation number at) (model.Invocation f) other a b = absurd a

  stack_once : (shown : List ShownEntry) (one other : StackOf ℕ) → ShowsStack files p shown one → ShowsStack files p shown other
      → one ≡ other
  stack_once [] [] [] a b = refl
  stack_once [] [] (n ∷ ns) a b = absurd b
  stack_once [] (m ∷ ms) other a b = absurd a
  stack_once (o ∷ os) [] other a b = absurd a
  stack_once (o ∷ os) (m ∷ ms) [] a b = absurd b
  stack_once (o ∷ os) (m ∷ ms) (n ∷ ns) a b = ap (λ x. x ∷ ms) (entries_once o m n a.0 b.0) ∙ ap (λ l. n ∷ l) (stack_once os ms ns a.1 b.1)

  stacks_once : (shown : List (List ShownEntry)) (one other : List (StackOf ℕ)) → ShowsStacks files p shown one
      → ShowsStacks files p shown other → one ≡ other
  stacks_once [] [] [] a b = refl
  stacks_once [] [] (n ∷ ns) a b = absurd b
  stacks_once [] (m ∷ ms) other a b = absurd a
  stacks_once (o ∷ os) [] other a b = absurd a
  stacks_once (o ∷ os) (m ∷ ms) [] a b = absurd b
  stacks_once (o ∷ os) (m ∷ ms) (n ∷ ns) a b = ap (λ x. x ∷ ms) (stack_once o m n a.0 b.0) ∙ ap (λ l. n ∷ l) (stacks_once os ms ns a.1 b.1)

-- ---- a state

abbrev world_of : List (ObjectOf ℕ) → List (Member × ℕ) → List (Name × ClassStatus) → List Monitor → List Thread → List ℕ → List ℕ → ℕ → WorldOf ℕ
world_of heap statics classes monitors threads printed interned unnamed =
    record {
      heap = heap;
      statics = statics;
      classes = classes;
      monitors = monitors;
      threads = threads;
      printed = printed;
      interned = interned;
      unnamed = unnamed;
    }

module _ (files : Program) (p : LinkedProgram) (one other : Shared) (alike : AreAlike one other) where
  worlds_once : (world there : WorldOf ℕ) → ShowsWorld files p one world → ShowsWorld files p other there → world ≡ there
  worlds_once world there a b =
      let objects = objects_once files p.components.items other.heap.objects world.heap there.heap (subst (λ l. ShowsObjects files p.components.items l world.heap) alike.objects a.objects) b.objects in
      let statics = pairs world.statics there.statics (a.statics.names ∙ sym b.statics.names) (sym a.statics.words ∙ (alike.statics ∙ b.statics.words)) in
      let classes = pairs world.classes there.classes (a.statuses.names ∙ sym b.statuses.names) (a.statuses.are ∙ (ap (λ l. map shown_status l) alike.statuses ∙ sym b.statuses.are)) in
      let monitors = sym a.monitors ∙ (alike.monitors ∙ b.monitors) in
      let threads = sym a.threads ∙ (alike.threads ∙ b.threads) in
      let printed = sym a.printed ∙ (alike.printed ∙ b.printed) in
      let interned = sym a.interned ∙ (alike.interned ∙ b.interned) in
      let unnamed = sym a.unnamed ∙ (alike.unnamed ∙ b.unnamed) in
      λ i. world_of (objects i) (statics i) (classes i) (monitors i) (threads i) (printed i) (interned i) (unnamed i)

abbrev state_of : WorldOf ℕ → List (StackOf ℕ) → StateOf ℕ
state_of world stacks = record { world = world; stacks = stacks }

pub words_told : AreWordsTold
words_told trees p bounds inflated inflated_there one other state there a b alike =
    let world = worlds_once trees p one other alike state.world there.world a.represents.world_is b.represents.world_is in
    let stacks = stacks_once trees p other.stacks.items state.stacks there.stacks (subst (λ l. ShowsStacks trees p l state.stacks) alike.stacks a.stacks) b.stacks in
    ap (λ w. state_of w state.stacks) world ∙ ap (λ l. state_of there.world l) stacks
