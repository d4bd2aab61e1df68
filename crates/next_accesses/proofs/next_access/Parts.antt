-- Only the accesses among the actions of an event are reads and writes.
use Rattle.std.proofs.Common.{◌≡◌, refl, sym, ap, ◌∙◌, ℕ, List, [], ◌∷◌, ◌++◌, Bool, true, false, map}
use Rattle.std.specs.Prelude.{Option, Some, None, not, ◌&&◌, if◌then◌else◌, length, ◌-◌}
use Rattle.std.specs.Option.{option_map_or, option_and_then}
use Rattle.std.specs.List.{filter}
use Rattle.std.proofs.lemmas.List.{append-nil}
use Rattle.std.proofs.lemmas.List.Elements.{filter-append}
use Rattle.model.specs.declared.builder_method.BuilderMethod.{BuilderMethod}
use Rattle.model.specs.declared.builder_method.BuilderMethod.TheVariants.{ConstructEmpty, ConstructOfString, AppendString, AppendInt, AppendChar, AppendBuilder, ToString}
use Rattle.model.specs.declared.event.Event.{Event}
use Rattle.model.specs.declared.value.Value.{Value}
use Rattle.model.specs.declared.instr.FieldAccess.{FieldAccess}
use Rattle.model.specs.declared.instr.FieldAccess.TheVariants as access
use Rattle.model.specs.declared.instr.Instr.{Instr}
use Rattle.model.specs.declared.instr.Instr.TheVariants as instr
use Rattle.model.specs.Names.{Name, Member, builder_text}
use Rattle.model.specs.Pool.{field_at}
use Rattle.model.specs.Classes.{Program}
use Rattle.model.specs.Lookup.{find_field, instance_fields}
use Rattle.model.specs.Operands.{values}
use Rattle.model.specs.ReferenceTypes.{ReferenceType, ClassType, PrimitiveArray, ReferenceArray}
use Rattle.model.specs.Rows.{counting}
use Rattle.model.specs.declared.text_method.TextMethod.{TextMethod}
use Rattle.model.specs.declared.text_method.TextMethod.TheVariants as text_method
use Rattle.model.specs.State.{World, Notified, Interrupted, type_of}
use Rattle.model.specs.Worlds.{thread_at, thread_of, is_owner, object_at, elements_of}
use Rattle.model.specs.Sites.{Site, referent, int_operand}
use Rattle.model.specs.BuiltInMethods.{BuiltInMethod, ObjectWait, ThreadStart, ThreadInterrupt, ThreadIsInterrupted, ThreadInterrupted, ThreadJoin, ThreadIsAlive, ObjectClone, StringWrites, StringBuilderBuilds}
use Rattle.data_races.specs.Variables.{Variable, InstanceField, StaticField, Element}
use Rattle.data_races.specs.Actions.{Action, Read, Write, Lock, Unlock, Finish, Start, Interrupt, ClearInterrupt, Wake, FinishInitialisation, FindStarted, FindFinished, FindInterrupted, FindNotInterrupted, FindInitialised}
use Rattle.data_races.specs.EventActions.{Rule, Begins, Does, Initialises, Relocks, Other, needed_class, only_if, is_finished, found_class, of_thread, is_over, found_alive, found_status, found_own, found_by_join, found_on, interrupts_on, at_reference, is_variable, named_access, field_access, access_by, text_access, builder_accesses, elements_accessed, element_accesses, string_accesses, copy_accesses, clone_accesses, built_in_accesses, accesses_at, built_in_at, receiver_of, is_done, goes_on, outcome_at, operands_of, finds_of, accesses_of, interrupts_of, owned, waiting, besides, finished_classes, started, end_actions, clear_actions, actions_to}
use Rattle.model.specs.ClassInitialisation.{status_of}
use Rattle.next_accesses.specs.next_access.Next.{is_access}

abbrev reads_of : List Action → List Action
reads_of xs = filter is_access xs

-- of two parts one alone has any
drops : (xs ys all : List Action) → reads_of xs ≡ [] → reads_of ys ≡ all → reads_of (xs ++ ys) ≡ all
drops xs ys all e g = filter-append is_access xs ys ∙ ap (λ l. l ++ reads_of ys) e ∙ g

keeps : (xs ys all : List Action) → reads_of xs ≡ all → reads_of ys ≡ [] → reads_of (xs ++ ys) ≡ all
keeps xs ys all e g = filter-append is_access xs ys ∙ ap (λ l. l ++ reads_of ys) e ∙ ap (λ l. all ++ l) g ∙ append-nil all

none_mapped : {A : Type 0} (f : A → Action) (xs : List A) → ((x : A) → is_access (f x) ≡ false) → reads_of (map f xs) ≡ []
none_mapped f [] h = refl
none_mapped f (x ∷ xs) h = ap (λ b. if b then f x ∷ reads_of (map f xs) else reads_of (map f xs)) (h x) ∙ none_mapped f xs h

none_if : (b : Bool) (xs : List Action) → reads_of xs ≡ [] → reads_of (only_if b xs) ≡ []
none_if true xs e = e
none_if false xs e = refl

none_either : (b : Bool) (xs ys : List Action) → reads_of xs ≡ [] → reads_of ys ≡ [] → reads_of (if b then xs else ys) ≡ []
none_either true xs ys e g = e
none_either false xs ys e g = g

none_of_thread : (o : Option ℕ) (f : ℕ → List Action) → ((u : ℕ) → reads_of (f u) ≡ []) → reads_of (of_thread o f) ≡ []
none_of_thread None f h = refl
none_of_thread (Some u) f h = h u

none_option : {A : Type 0} (f : A → List Action) (o : Option A) → ((x : A) → reads_of (f x) ≡ []) → reads_of (option_map_or f o []) ≡ []
none_option f None h = refl
none_option f (Some x) h = h x

-- ---- what is found

none_class : (world : World) (o : Option Name) → reads_of (found_class world o) ≡ []
none_class world None = refl
none_class world (Some class) = none_if (is_finished (status_of world class)) (FindInitialised class ∷ []) refl

none_own : (world : World) (t : ℕ) → reads_of (found_own world t) ≡ []
none_own world t = none_if (thread_at world t).interrupted (FindInterrupted t ∷ []) refl

none_alive : (world : World) (u : ℕ) → reads_of (found_alive world u) ≡ []
none_alive world u = none_either (is_over world u) (FindFinished u ∷ []) (FindStarted u ∷ []) refl refl

none_status : (world : World) (u : ℕ) → reads_of (found_status world u) ≡ []
none_status world u = none_either (thread_at world u).interrupted (FindInterrupted u ∷ []) (FindNotInterrupted u ∷ []) refl refl

none_join : (world : World) (t u : ℕ) → reads_of (found_by_join world t u) ≡ []
none_join world t u =
    none_either (is_over world u) (FindFinished u ∷ []) (found_own world t ++ FindStarted u ∷ []) refl (drops (found_own world t) (FindStarted u ∷ []) [] (none_own world t) refl)

none_on : (world : World) (t object : ℕ) (m : BuiltInMethod) → reads_of (found_on world t object m) ≡ []
none_on world t object ObjectWait = none_if (is_owner world t object) (found_own world t) (none_own world t)
none_on world t object ThreadStart = none_of_thread (thread_of world object) _ (λ u. refl)
none_on world t object ThreadInterrupt = none_of_thread (thread_of world object) (found_alive world) (none_alive world)
none_on world t object ThreadIsInterrupted = none_of_thread (thread_of world object) (found_status world) (none_status world)
none_on world t object ThreadInterrupted = none_own world t
none_on world t object ThreadJoin = none_of_thread (thread_of world object) (found_by_join world t) (none_join world t)
none_on world t object ThreadIsAlive = none_of_thread (thread_of world object) (found_alive world) (none_alive world)
none_on world t object _ = refl

none_found : (files : Program) (event : Event) (world : World) (r : Rule) → reads_of (finds_of files event world r) ≡ []
none_found files event world Begins = refl
none_found files event world (Does instruction) =
    none_if (is_done event.thread world instruction) _ (none_option (found_on world event.thread (receiver_of instruction)) (built_in_at files world instruction) (none_on world event.thread (receiver_of instruction)))
none_found files event world (Initialises class phase) = refl
none_found files event world (Relocks Notified) = refl
none_found files event world (Relocks Interrupted) = refl
none_found files event world Other = refl

-- ---- whom it interrupts, and how it ends

none_interrupted : (world : World) (object : ℕ) (m : BuiltInMethod) → reads_of (interrupts_on world object m) ≡ []
none_interrupted world object ThreadInterrupt = none_of_thread (thread_of world object) _ (λ u. none_if (not (is_over world u)) (Interrupt u ∷ []) refl)
none_interrupted world object _ = refl

none_interrupts : (files : Program) (event : Event) (world : World) (r : Rule) → reads_of (interrupts_of files event world r) ≡ []
none_interrupts files event world (Does instruction) =
    none_if (is_done event.thread world instruction) _ (none_option (interrupts_on world (receiver_of instruction)) (built_in_at files world instruction) (none_interrupted world (receiver_of instruction)))
none_interrupts files event world _ = refl

none_cleared : (t : ℕ) (old new : World) → reads_of (clear_actions t old new) ≡ []
none_cleared t old new = none_if ((thread_at old t).interrupted && not (thread_at new t).interrupted) (ClearInterrupt t ∷ []) refl

none_ended : (t : ℕ) (old new : World) → reads_of (end_actions t old new) ≡ []
none_ended t old new =
    let woken = besides (waiting old) (waiting new) in
    none_if (is_over new t) (map Wake woken ++ Finish t ∷ []) (drops (map Wake woken) (Finish t ∷ []) [] (none_mapped Wake woken (λ u. refl)) refl)

-- ---- accesses

all_at : (ops : List Value) (k : ℕ) (f : ℕ → Action) → ((r : ℕ) → is_access (f r) ≡ true) → reads_of (at_reference ops k f) ≡ at_reference ops k f
all_at ops k f h = by (referent values ops k)
  where
    by : (o : Option ℕ) → reads_of (option_map_or (λ r. f r ∷ []) o []) ≡ option_map_or (λ r. f r ∷ []) o []
    by None = refl
    by (Some r) = ap (λ b. if b then f r ∷ [] else []) (h r)

all_if : (b : Bool) (xs : List Action) → reads_of xs ≡ xs → reads_of (only_if b xs) ≡ only_if b xs
all_if true xs e = e
all_if false xs e = refl

all_variable : (ops : List Value) (how : FieldAccess) (field : Member) → reads_of (named_access ops how field) ≡ named_access ops how field
all_variable ops access.GetStatic field = refl
all_variable ops access.PutStatic field = refl
all_variable ops access.GetField field = all_at ops 0 (λ r. Read (InstanceField r field)) (λ r. refl)
all_variable ops access.PutField field = all_at ops 1 (λ r. Write (InstanceField r field)) (λ r. refl)

all_field : (ops : List Value) (how : FieldAccess) (field : Member) → reads_of (field_access ops how field) ≡ field_access ops how field
all_field ops how field = all_if (is_variable field) (named_access ops how field) (all_variable ops how field)

all_named : (ops : List Value) (how : FieldAccess) (o : Option Member) → reads_of (option_map_or (field_access ops how) o []) ≡ option_map_or (field_access ops how) o []
all_named ops how None = refl
all_named ops how (Some field) = all_field ops how field

all_accesses : (files : Program) (site : Site) (ops : List Value) (i : Instr) → reads_of (access_by files site ops i) ≡ access_by files site ops i
all_accesses files site ops (instr.Field how index) = all_named ops how (option_and_then (find_field files) (field_at site.body.pool index))
all_accesses files site ops (instr.LoadElement kind) = all_at ops 1 (λ r. Read (Element r (int_operand values ops 0))) (λ r. refl)
all_accesses files site ops (instr.StoreElement kind) = all_at ops 2 (λ r. Write (Element r (int_operand values ops 1))) (λ r. refl)
all_accesses files site ops _ = refl

all_both : (xs ys : List Action) → reads_of xs ≡ xs → reads_of ys ≡ ys → reads_of (xs ++ ys) ≡ xs ++ ys
all_both xs ys e g = filter-append is_access xs ys ∙ ap (λ l. l ++ reads_of ys) e ∙ ap (λ l. xs ++ l) g

all_text : (ops : List Value) (k : ℕ) (f : Variable → Action) → ((v : Variable) → is_access (f v) ≡ true) → reads_of (text_access ops k f) ≡ text_access ops k f
all_text ops k f h = all_at ops k (λ r. f (InstanceField r builder_text)) (λ r. h (InstanceField r builder_text))

all_appended : (ops : List Value) → reads_of (text_access ops 1 Read ++ text_access ops 1 Write) ≡ text_access ops 1 Read ++ text_access ops 1 Write
all_appended ops = all_both (text_access ops 1 Read) (text_access ops 1 Write) (all_text ops 1 Read (λ v. refl)) (all_text ops 1 Write (λ v. refl))

all_builder : (ops : List Value) (b : BuilderMethod) → reads_of (builder_accesses ops b) ≡ builder_accesses ops b
all_builder ops ConstructEmpty = all_text ops 0 Write (λ v. refl)
all_builder ops ConstructOfString = all_text ops 1 Write (λ v. refl)
all_builder ops AppendString = all_appended ops
all_builder ops AppendInt = all_appended ops
all_builder ops AppendChar = all_appended ops
all_builder ops AppendBuilder =
    all_both (text_access ops 1 Read ++ text_access ops 0 Read) (text_access ops 1 Write)
    (all_both (text_access ops 1 Read) (text_access ops 0 Read) (all_text ops 1 Read (λ v. refl)) (all_text ops 0 Read (λ v. refl))) (all_text ops 1 Write (λ v. refl))
all_builder ops ToString = all_text ops 0 Read (λ v. refl)

all_mapped : {A : Type 0} (f : A → Action) (xs : List A) → ((x : A) → is_access (f x) ≡ true) → reads_of (map f xs) ≡ map f xs
all_mapped f [] h = refl
all_mapped f (x ∷ xs) h =
    ap (λ b. if b then f x ∷ reads_of (map f xs) else reads_of (map f xs)) (h x) ∙ ap (λ l. f x ∷ l) (all_mapped f xs h)

all_elements : (f : Variable → Action) → ((v : Variable) → is_access (f v) ≡ true) → (array index count : ℕ)
    → reads_of (elements_accessed f array index count) ≡ elements_accessed f array index count
all_elements f h array index count = all_mapped (λ k. f (Element array k)) (counting index count) (λ k. h (Element array k))

all_array : (ops : List Value) (k : ℕ) (f : Variable → Action) → ((v : Variable) → is_access (f v) ≡ true) → (index count : ℕ)
    → reads_of (element_accesses ops k f index count) ≡ element_accesses ops k f index count
all_array ops k f h index count = by (referent values ops k)
  where
    by : (o : Option ℕ) → reads_of (option_map_or (λ array. elements_accessed f array index count) o [])
        ≡ option_map_or (λ array. elements_accessed f array index count) o []
    by None = refl
    by (Some array) = all_elements f h array index count

all_string : (ops : List Value) (m : TextMethod) → reads_of (string_accesses ops m) ≡ string_accesses ops m
all_string ops text_method.ConstructEmpty = refl
all_string ops text_method.ConstructOfString = refl
all_string ops text_method.ConstructOfChars = all_array ops 2 Read (λ v. refl) (int_operand values ops 1) (int_operand values ops 0)
all_string ops text_method.GetChars = all_array ops 1 Write (λ v. refl) (int_operand values ops 0) (int_operand values ops 2 - int_operand values ops 3)
all_string ops text_method.Intern = refl

all_copied : (files : Program) (object : ℕ) (type : ReferenceType) (count : ℕ) → reads_of (copy_accesses files object type count) ≡ copy_accesses files object type count
all_copied files object (ClassType class) count = all_mapped (λ field. Read (InstanceField object field)) (filter is_variable (instance_fields files class)) (λ field. refl)
all_copied files object (PrimitiveArray of) count = all_elements Read (λ v. refl) object 0 count
all_copied files object (ReferenceArray of) count = all_elements Read (λ v. refl) object 0 count

all_cloned : (files : Program) (world : World) (o : Option ℕ) → reads_of (option_map_or (clone_accesses files world) o []) ≡ option_map_or (clone_accesses files world) o []
all_cloned files world None = refl
all_cloned files world (Some r) = all_copied files r (type_of (object_at world r)) (length (elements_of (object_at world r)))

all_method : (files : Program) (world : World) (ops : List Value) (o : Option BuiltInMethod)
    → reads_of (option_map_or (built_in_accesses files world ops) o []) ≡ option_map_or (built_in_accesses files world ops) o []
all_method files world ops None = refl
all_method files world ops (Some (StringBuilderBuilds b)) = all_builder ops b
all_method files world ops (Some (StringWrites m)) = all_string ops m
all_method files world ops (Some ObjectClone) = all_cloned files world (referent values ops 0)
all_method files world ops (Some _) = refl

all_of : (files : Program) (event : Event) (world : World) (r : Rule) → reads_of (accesses_of files event world r) ≡ accesses_of files event world r
all_of files event world (Does instruction) =
    all_if (is_done event.thread world instruction && goes_on (outcome_at event world instruction)) (accesses_at files world instruction)
    (all_both (access_by files instruction.site (operands_of instruction) instruction.site.instr) (option_map_or (built_in_accesses files world (operands_of instruction)) (built_in_at files world instruction) [])
    (all_accesses files instruction.site (operands_of instruction) instruction.site.instr) (all_method files world (operands_of instruction) (built_in_at files world instruction)))
all_of files event world _ = refl

-- ---- all of them

pub accesses_alone : (files : Program) (event : Event) (old : World) (r : Rule) (new : World)
    → filter is_access (actions_to files event old r new) ≡ accesses_of files event old r
accesses_alone files event old r new =
    let class = found_class old (needed_class files event.thread r) in
    let found = finds_of files event old r in
    let locks = map Lock (besides (owned event.thread new) (owned event.thread old)) in
    let accesses = accesses_of files event old r in
    let unlocks = map Unlock (besides (owned event.thread old) (owned event.thread new)) in
    let starts = map Start (started old new) in
    let interrupts = interrupts_of files event old r in
    let clears = clear_actions event.thread old new in
    let ends = map FinishInitialisation (finished_classes old new) in
    let last = end_actions event.thread old new in
    let to_found = class ++ found in
    let to_locks = to_found ++ locks in
    let to_accesses = to_locks ++ accesses in
    let to_unlocks = to_accesses ++ unlocks in
    let to_starts = to_unlocks ++ starts in
    let to_interrupts = to_starts ++ interrupts in
    let to_clears = to_interrupts ++ clears in
    let to_ends = to_clears ++ ends in
    let none_before : reads_of to_locks ≡ [] =
    drops to_found locks [] (drops class found [] (none_class old (needed_class files event.thread r)) (none_found files event old r))
    (none_mapped Lock (besides (owned event.thread new) (owned event.thread old)) (λ o. refl))
    in
    let so_far : reads_of to_accesses ≡ accesses = drops to_locks accesses accesses none_before (all_of files event old r) in
    let to_unlocks_are = keeps to_accesses unlocks accesses so_far (none_mapped Unlock (besides (owned event.thread old) (owned event.thread new)) (λ o. refl)) in
    let to_starts_are = keeps to_unlocks starts accesses to_unlocks_are (none_mapped Start (started old new) (λ o. refl)) in
    let to_interrupts_are = keeps to_starts interrupts accesses to_starts_are (none_interrupts files event old r) in
    let to_clears_are = keeps to_interrupts clears accesses to_interrupts_are (none_cleared event.thread old new) in
    let to_ends_are = keeps to_clears ends accesses to_clears_are (none_mapped FinishInitialisation (finished_classes old new) (λ o. refl)) in
    keeps to_ends last accesses to_ends_are (none_ended event.thread old new)
