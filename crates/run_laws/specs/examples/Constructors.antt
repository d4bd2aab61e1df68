-- A class A with an int field x, a constructor and a main that makes an A: typings where objects are not initialised yet; and what
-- single instructions do to such types.
use Rattle.std.specs.Prelude.{◌≡◌, ℕ, List, [], ◌∷◌, Option, Some, None, Bool, true, false, codes}
use Rattle.model.specs.Names.{Member, main_of, constructor_name, java_lang_object, java_lang_throwable}
use Rattle.model.specs.Tree.{Entry, Utf8, Class, NameAndType, Field, Method, CodeTree, CodeOf, FileTree}
use Rattle.model.specs.Classes.{Program, Body, body_of}
use Rattle.model.specs.ReferenceTypes.{ReferenceType, ClassType, PrimitiveArray}
use Rattle.model.specs.ReferenceTypes as primitive
use Rattle.model.specs.Types.{VerificationType, Unusable, IntType, NullType, OfType, Uninitialised, UninitialisedThis}
use Rattle.model.specs.TypeOrder.{FrameType}
use Rattle.model.specs.Typing.{IsTyping, HasTyping, flow}
use Rattle.run_laws.specs.examples.Bytes.{hex}
use Rattle.run_laws.specs.examples.Typings.{typing_in, strings}

abbrev pub pool : List Entry
pool =
    Utf8 (codes "A") ∷ Class 1 ∷ Utf8 java_lang_object ∷ Class 3 ∷ Utf8 constructor_name ∷ Utf8 (codes "()V") ∷ NameAndType 5 6
    ∷ Method 4 7 ∷ Method 2 7 ∷ Utf8 (codes "x") ∷ Utf8 (codes "I") ∷ NameAndType 10 11 ∷ Field 2 12 ∷ Utf8 (codes "Code")
    ∷ Utf8 (codes "main") ∷ Utf8 (codes "([Ljava/lang/String;)V") ∷ []

-- 0 aload_0, 1 iconst_5, 2 putfield x, 5 aload_0, 6 invokespecial Object.<init>, 9 return
abbrev pub constructor_code : CodeTree
constructor_code = record { max_stack = 2; max_locals = 1; code = hex (codes "2a 08 b5000d 2a b70008 b1"); exceptions = []; attributes = [] }

-- 0 new A, 3 dup, 4 invokespecial A.<init>, 7 astore_1, 8 return; what is thrown from 0 on and before 8 goes to 9 pop, 10 return
abbrev pub main_code : CodeTree
main_code =
    record {
      max_stack = 2;
      max_locals = 2;
      code = hex (codes "bb0002 59 b70009 4c b1 57 b1");
      exceptions = record { start = 0; end = 8; handler = 9; catch_type = 0 } ∷ [];
      attributes = [];
    }

abbrev pub file : FileTree
file =
    record {
      pool = pool;
      flags = 0x0021;
      this_class = 2;
      super_class = 4;
      interfaces = [];
      fields = record { flags = 0; name = 10; descriptor = 11; parts = [] } ∷ [];
      methods =
          record { flags = 0x0001; name = 5; descriptor = 6; parts = CodeOf 14 constructor_code ∷ [] }
          ∷ record { flags = 0x0009; name = 15; descriptor = 16; parts = CodeOf 14 main_code ∷ [] } ∷ [];
      attributes = [];
    }

abbrev pub files : Program
files = file ∷ []

abbrev pub body_with : CodeTree → Body
body_with code = record { pool = pool; code = code }

abbrev pub constructor : Member
constructor = record { class = codes "A"; name = constructor_name; descriptor = codes "()V" }

abbrev pub frame : List VerificationType → List VerificationType → Bool → FrameType
frame locals stack constructed = record { slots = record { locals = locals; stack = stack }; constructed = constructed }

abbrev pub an_a : VerificationType
an_a = OfType (ClassType (codes "A"))

abbrev pub this : VerificationType
this = UninitialisedThis (codes "A")

-- what the `new` at 0 makes
abbrev pub new_a : VerificationType
new_a = Uninitialised 0 (codes "A")

-- its field may be put before a constructor of the superclass was called
abbrev pub constructor_types : List (ℕ × FrameType)
constructor_types =
    (0, frame (this ∷ []) [] false) ∷ (1, frame (this ∷ []) (this ∷ []) false) ∷ (2, frame (this ∷ []) (IntType ∷ this ∷ []) false)
    ∷ (5, frame (this ∷ []) [] false) ∷ (6, frame (this ∷ []) (this ∷ []) false) ∷ (9, frame (an_a ∷ []) [] true) ∷ []

-- the call of the constructor initialises both copies
abbrev pub main_types : List (ℕ × FrameType)
main_types =
    (0, frame (strings ∷ Unusable ∷ []) [] true)
    ∷ (3, frame (strings ∷ Unusable ∷ []) (new_a ∷ []) true)
    ∷ (4, frame (strings ∷ Unusable ∷ []) (new_a ∷ new_a ∷ []) true)
    ∷ (7, frame (strings ∷ Unusable ∷ []) (an_a ∷ []) true)
    ∷ (8, frame (strings ∷ an_a ∷ []) [] true)
    ∷ (9, frame (strings ∷ Unusable ∷ []) (OfType (ClassType java_lang_throwable) ∷ []) true)
    ∷ (10, frame (strings ∷ Unusable ∷ []) [] true)
    ∷ []

-- where an instruction leads by itself, as the first one of a main or of the constructor with four places
abbrev pub leads : Member → List ℕ → FrameType → Option (List (ℕ × FrameType))
leads method code t = flow files method (body_with (record { max_stack = 4; max_locals = 1; code = code; exceptions = []; attributes = [] })) 0 t

abbrev pub in_main : List ℕ → VerificationType → List VerificationType → Option (List (ℕ × FrameType))
in_main code local stack = leads (main_of (codes "A")) (hex code) (frame (local ∷ []) stack true)

abbrev pub in_constructor : List ℕ → VerificationType → List VerificationType → Option (List (ℕ × FrameType))
in_constructor code local stack = leads constructor (hex code) (frame (local ∷ []) stack false)

abbrev pub one_lead : ℕ → VerificationType → List VerificationType → Bool → Option (List (ℕ × FrameType))
one_lead offset local stack constructed = Some ((offset, frame (local ∷ []) stack constructed) ∷ [])

pub record Constructors : Type 0 where
  pub is_constructor : body_of files constructor ≡ Some (body_with constructor_code)
  pub is_main : body_of files (main_of (codes "A")) ≡ Some (body_with main_code)
  pub constructor_typed : IsTyping files constructor (body_with constructor_code) (typing_in constructor_types)
  pub main_typed : IsTyping files (main_of (codes "A")) (body_with main_code) (typing_in main_types)
  -- new A: copies from here in local variables cannot be used any more, and there may be none on the stack
  pub new_forgets : in_main (codes "bb0002") new_a [] ≡ one_lead 3 Unusable (new_a ∷ []) true
  pub new_keeps_others : in_main (codes "bb0002") (Uninitialised 7 (codes "A")) []
      ≡ one_lead 3 (Uninitialised 7 (codes "A")) (new_a ∷ []) true
  pub new_refuses_copy : in_main (codes "bb0002") IntType (IntType ∷ new_a ∷ []) ≡ None
  -- invokespecial A.<init>
  pub initialises : in_main (codes "b70009") new_a (new_a ∷ new_a ∷ NullType ∷ []) ≡ one_lead 3 an_a (an_a ∷ NullType ∷ []) true
  pub initialises_one : in_main (codes "b70009") (Uninitialised 7 (codes "A")) (new_a ∷ [])
      ≡ one_lead 3 (Uninitialised 7 (codes "A")) [] true
  pub not_again : in_main (codes "b70009") IntType (an_a ∷ []) ≡ None
  pub not_null : in_main (codes "b70009") IntType (NullType ∷ []) ≡ None
  pub not_of_superclass : in_main (codes "b70008") IntType (new_a ∷ []) ≡ None
  pub this_by_superclass : in_constructor (codes "b70008") this (this ∷ []) ≡ one_lead 3 an_a [] true
  pub this_by_own : in_constructor (codes "b70009") this (this ∷ []) ≡ one_lead 3 an_a [] true
  -- return
  pub returns_unconstructed : in_constructor (codes "b1") this [] ≡ None
  pub returns_constructed : leads constructor (hex (codes "b1")) (frame (an_a ∷ []) [] true) ≡ Some []
  -- putfield and getfield of x
  pub put_before : in_constructor (codes "b5000d") this (IntType ∷ this ∷ []) ≡ one_lead 3 this [] false
  pub put_into_new : in_main (codes "b5000d") IntType (IntType ∷ new_a ∷ []) ≡ None
  pub get_before : in_constructor (codes "b4000d") this (this ∷ []) ≡ None
  pub get_after : in_main (codes "b4000d") IntType (an_a ∷ []) ≡ one_lead 3 IntType (IntType ∷ []) true
  -- what is not initialised may be moved, and not be compared or thrown
  pub moved : in_main (codes "2a") new_a [] ≡ one_lead 1 new_a (new_a ∷ []) true
  pub compared : in_main (codes "c60003") IntType (new_a ∷ []) ≡ None
  pub thrown : in_main (codes "bf") IntType (new_a ∷ []) ≡ None
  -- aaload, and baload
  pub load_of_null : in_main (codes "32") IntType (IntType ∷ NullType ∷ []) ≡ one_lead 1 IntType (NullType ∷ []) true
  pub load_of_strings : in_main (codes "32") IntType (IntType ∷ strings ∷ [])
      ≡ one_lead 1 IntType (OfType (ClassType (codes "java/lang/String")) ∷ []) true
  pub byte_of_booleans : in_main (codes "33") IntType (IntType ∷ OfType (PrimitiveArray primitive.Boolean) ∷ [])
      ≡ one_lead 1 IntType (IntType ∷ []) true
  pub byte_of_ints : in_main (codes "33") IntType (IntType ∷ OfType (PrimitiveArray primitive.Int) ∷ []) ≡ None
  pub byte_of_object : in_main (codes "33") IntType (IntType ∷ OfType (ClassType java_lang_object) ∷ []) ≡ None

-- a constructor that only returns has no typing
abbrev pub OnlyReturns : Type 0
OnlyReturns =
    HasTyping files constructor (body_with (record { max_stack = 0; max_locals = 1; code = hex (codes "b1"); exceptions = []; attributes = [] })) → ⊥
