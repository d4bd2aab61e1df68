-- How far the initialisation of a class is (JVMS 5.5), and what the constants of a class are (JVMS 4.7.2).
use Rattle.std.specs.Prelude.{ℕ, List, [], ◌∷◌, Option, Some, None, Bool, true, false, ◌==◌, if◌then◌else◌}
use Rattle.std.specs.Option.{option_map, option_map_or, option_and_then}
use Rattle.model.specs.Names.{Name, name_eq}
use Rattle.model.specs.Tree.{Entry, Utf8, Integer, Float, Long, Double, Class, String, Field, Method, InterfaceMethod, NameAndType, Unusable, FieldPart, ConstantOf, SkippedOfField, FieldTree, FileTree}
use Rattle.model.specs.Spelling.{entry_at}
use Rattle.model.specs.Pool.{utf8_at}
use Rattle.model.specs.Classes.{Program, class_of, is_built_in}
use Rattle.model.specs.Lookup.{field_member}
use Rattle.model.specs.Operands.{Carrier}
use Rattle.model.specs.State.{ClassStatus, NotInitialised, InProgress, Initialised, Erroneous, WorldOf}
use Rattle.model.specs.Opening.{string_reference}
use Rattle.model.specs.Worlds.{with_static, put_value}

-- ---- statuses

abbrev pub status_in : Name → List (Name × ClassStatus) → ClassStatus
status_in class [] = NotInitialised
status_in class (c ∷ cs) = if name_eq c.0 class then c.1 else status_in class cs

-- the built-in classes are initialised from the start (own)
abbrev pub status_of : {A : Type 0} → WorldOf A → Name → ClassStatus
status_of world class = if is_built_in class then Initialised else status_in class world.classes

abbrev pub with_status_in : Name → ClassStatus → List (Name × ClassStatus) → List (Name × ClassStatus)
with_status_in class status [] = []
with_status_in class status (c ∷ cs) = if name_eq c.0 class then (c.0, status) ∷ cs else c ∷ with_status_in class status cs

abbrev pub with_class_status : {A : Type 0} → WorldOf A → Name → ClassStatus → WorldOf A
with_class_status world class status = record world { classes = with_status_in class status world.classes }

-- how a thread finds a class that must be initialised
pub data Look : Type 0 where
  IsReady : Look
  IsNew : Look
  IsHeld : Look
  HasFailed : Look

abbrev pub look_by : ℕ → ClassStatus → Look
look_by t NotInitialised = IsNew
look_by t (InProgress by) = if by == t then IsReady else IsHeld
look_by t Initialised = IsReady
look_by t Erroneous = HasFailed

abbrev pub look_at : {A : Type 0} → ℕ → WorldOf A → Option Name → Look
look_at t world None = IsReady
look_at t world (Some class) = look_by t (status_of world class)

abbrev pub is_held : Look → Bool
is_held IsReady = false
is_held IsNew = false
is_held IsHeld = true
is_held HasFailed = false

-- ---- constants

-- the index of the ConstantValue of a static field, if it has one
abbrev pub constant_in : List FieldPart → Option ℕ
constant_in [] = None
constant_in (ConstantOf name index ∷ parts) = Some index
constant_in (SkippedOfField a ∷ parts) = constant_in parts

-- an int, or the object of a string constant
abbrev pub constant_of : {A : Type 0} → Carrier A → Program → List Entry → Entry → Option A
constant_of C files pool (Utf8 text) = None
constant_of C files pool (Integer bits) = Some (C.int bits)
constant_of C files pool (Float bits) = None
constant_of C files pool (Long bits) = None
constant_of C files pool (Double bits) = None
constant_of C files pool (Class name) = None
constant_of C files pool (String text) = option_map (λ (bytes : List ℕ). C.reference (string_reference files bytes)) (utf8_at pool text)
constant_of C files pool (Field class name_and_type) = None
constant_of C files pool (Method class name_and_type) = None
constant_of C files pool (InterfaceMethod class name_and_type) = None
constant_of C files pool (NameAndType name descriptor) = None
constant_of C files pool Unusable = None

abbrev pub constant_value : {A : Type 0} → Carrier A → Program → List Entry → FieldTree → Option A
constant_value C files pool field = option_and_then (λ index. constant_of C files pool (entry_at pool index)) (constant_in field.parts)

-- each is set as by a put (JVMS 5.5, step 6)
abbrev pub with_constant : {A : Type 0} → Carrier A → Program → Name → List Entry → WorldOf A → FieldTree → WorldOf A
with_constant C files class pool world field =
    option_map_or (λ value. with_static world (field_member class pool field) (put_value C (field_member class pool field) value)) (constant_value C files pool field) world

abbrev pub with_constants : {A : Type 0} → Carrier A → Program → Name → List Entry → WorldOf A → List FieldTree → WorldOf A
with_constants C files class pool world [] = world
with_constants C files class pool world (field ∷ fields) = with_constants C files class pool (with_constant C files class pool world field) fields

-- a thread begins to initialise a class: its constants are set
abbrev pub with_class_begun : {A : Type 0} → Carrier A → Program → ℕ → Name → WorldOf A → WorldOf A
with_class_begun C files t class world =
    option_map_or (λ (file : FileTree). with_constants C files class file.pool (with_class_status world class (InProgress t)) file.fields) (class_of files class) (with_class_status world class (InProgress t))
