-- What instructions on classes and their objects mean (JVMS 6.5): `new`, `checkcast`, `instanceof`, and `ldc` of a Class or a String.
use Rattle.std.specs.Prelude.{ℕ, List, [], ◌∷◌, Option, Some, None, Bool, true, false, if◌then◌else◌, length, map}
use Rattle.std.specs.Option.{option_map, option_and_then}
use Rattle.model.specs.Names.{Name, java_lang_class, java_lang_object, java_lang_string}
use Rattle.model.specs.Tree.{Entry, Utf8, Integer, Float, Long, Double, Class, String, Field, Method, InterfaceMethod, NameAndType, Unusable, FileTree}
use Rattle.model.specs.Spelling.{entry_at}
use Rattle.model.specs.Pool.{utf8_at, class_name_at}
use Rattle.model.specs.Classes.{Program, class_of}
use Rattle.model.specs.ReferenceTypes.{ReferenceType, ClassType}
use Rattle.model.specs.Types.{VerificationType, IntType, OfType, Uninitialised, AReference}
use Rattle.model.specs.DescribedTypes.{type_named, made_type}
use Rattle.model.specs.InitialisedTypes.{forgotten}
use Rattle.model.specs.Operands.{Slots, Carrier}
use Rattle.model.specs.State.{types_of, WorldOf}
use Rattle.model.specs.Opening.{new_instance, class_reference, string_reference}
use Rattle.model.specs.Outcomes.{OutcomeOf, Raises, ClassCast, Makes}
use Rattle.model.specs.Worlds.{allocated, cells_of}
use Rattle.model.specs.Sites.{MeaningOf, Site, picks_none, wants_of, to_next, pushing, pushing_at, operand, referent}

-- any initialised reference, or null
abbrev pub any_object : ReferenceType
any_object = ClassType java_lang_object

-- ---- new: .. -> .., objectref

-- what was made here before is not to be used any more
abbrev pub new_leads : Site → Name → Slots VerificationType → List VerificationType → List VerificationType
    → List (ℕ × Slots VerificationType)
new_leads site class ts ops rest =
    (site.next, record { locals = map (forgotten site.offset) ts.locals; stack = Uninitialised site.offset class ∷ rest }) ∷ []

-- The class is initialised; then an object of it is made, whose fields are 0 or null.
abbrev pub new_meaning : {A : Type 0} → Carrier A → Program → Site → Name → MeaningOf A
new_meaning C files site class =
    record {
      looks = Some class;
      wants = wants_of [] 1;
      leads = new_leads site class;
      may = picks_none;
      does = λ event world slots ops rest.
          pushing_at (Makes (cells_of (new_instance C files class))) site.next (C.reference (length world.heap) ∷ []) (allocated world (new_instance C files class)) slots rest;
    }

abbrev pub new_named : {A : Type 0} → Carrier A → Program → Site → Name → Option (MeaningOf A)
new_named C files site class = option_map (λ (file : FileTree). new_meaning C files site class) (class_of files class)

-- ---- checkcast: .., objectref -> .., objectref

abbrev pub cast : {A : Type 0} → Bool → ℕ → A → WorldOf A → Slots A → List A → OutcomeOf A
cast true next value world slots rest = pushing next (value ∷ []) world slots rest
cast false next value world slots rest = Raises ClassCast

-- Null and an instance of the type stay as they are; anything else is a ClassCastException.
abbrev pub check_cast_meaning : {A : Type 0} → Carrier A → Program → Site → ReferenceType → MeaningOf A
check_cast_meaning C files site type =
    record {
      looks = None;
      wants = wants_of (AReference any_object ∷ []) 1;
      leads = to_next site.next (OfType (made_type files type) ∷ []);
      may = picks_none;
      does = λ event world slots ops rest.
          cast (C.is_instance files (types_of world.heap) type (operand C ops 0)) site.next (operand C ops 0) world slots rest;
    }

-- ---- instanceof: .., objectref -> .., result

abbrev pub instance_bit : Option ℕ → Bool → ℕ
instance_bit None instance = 0
instance_bit (Some r) instance = if instance then 1 else 0

-- 1 for an instance of the type, 0 for null and anything else.
abbrev pub instance_of_meaning : {A : Type 0} → Carrier A → Program → Site → ReferenceType → MeaningOf A
instance_of_meaning C files site type =
    record {
      looks = None;
      wants = wants_of (AReference any_object ∷ []) 1;
      leads = to_next site.next (IntType ∷ []);
      may = picks_none;
      does = λ event world slots ops rest.
          pushing site.next (C.int (instance_bit (referent C ops 0) (C.is_instance files (types_of world.heap) type (operand C ops 0))) ∷ []) world slots rest;
    }

-- ---- ldc, ldc_w: .. -> .., value

-- A reference to an object that is there from the start.
abbrev pub object_meaning : {A : Type 0} → Carrier A → Site → Name → ℕ → MeaningOf A
object_meaning C site class r =
    record {
      looks = None;
      wants = wants_of [] 1;
      leads = to_next site.next (OfType (ClassType class) ∷ []);
      may = picks_none;
      does = λ event world slots ops rest. pushing site.next (C.reference r ∷ []) world slots rest;
    }

-- the Class object of a class that is there
abbrev pub class_constant : {A : Type 0} → Carrier A → Program → Site → Name → Option (MeaningOf A)
class_constant C files site class = option_map (λ (file : FileTree). object_meaning C site java_lang_class (class_reference files class)) (class_of files class)

-- an Integer is loaded by a local instruction
abbrev pub constant_meaning : {A : Type 0} → Carrier A → Program → Site → Entry → Option (MeaningOf A)
constant_meaning C files site (Utf8 text) = None
constant_meaning C files site (Integer bits) = None
constant_meaning C files site (Float bits) = None
constant_meaning C files site (Long bits) = None
constant_meaning C files site (Double bits) = None
constant_meaning C files site (Class name) = option_and_then (class_constant C files site) (utf8_at site.body.pool name)
constant_meaning C files site (String text) =
    option_map (λ (bytes : List ℕ). object_meaning C site java_lang_string (string_reference files bytes)) (utf8_at site.body.pool text)
constant_meaning C files site (Field class name_and_type) = None
constant_meaning C files site (Method class name_and_type) = None
constant_meaning C files site (InterfaceMethod class name_and_type) = None
constant_meaning C files site (NameAndType name descriptor) = None
constant_meaning C files site Unusable = None

-- ---- what the index of a site names

abbrev pub new_at : {A : Type 0} → Carrier A → Program → Site → ℕ → Option (MeaningOf A)
new_at C files site index = option_and_then (new_named C files site) (class_name_at site.body.pool index)

abbrev pub check_cast_at : {A : Type 0} → Carrier A → Program → Site → ℕ → Option (MeaningOf A)
check_cast_at C files site index = option_map (λ (name : Name). check_cast_meaning C files site (type_named name)) (class_name_at site.body.pool index)

abbrev pub instance_of_at : {A : Type 0} → Carrier A → Program → Site → ℕ → Option (MeaningOf A)
instance_of_at C files site index = option_map (λ (name : Name). instance_of_meaning C files site (type_named name)) (class_name_at site.body.pool index)

abbrev pub constant_at : {A : Type 0} → Carrier A → Program → Site → ℕ → Option (MeaningOf A)
constant_at C files site index = constant_meaning C files site (entry_at site.body.pool index)
