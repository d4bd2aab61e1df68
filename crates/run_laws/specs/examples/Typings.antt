-- Typings of small methods, each by its list of frame types; and codes that have none.
use Rattle.std.specs.Prelude.{◌≡◌, ℕ, List, [], ◌∷◌, Some, None, true, ◌==◌, if◌then◌else◌, codes}
use Rattle.model.specs.Names.{main_of, thread_run, java_io_print_stream, java_lang_object, java_lang_string, java_lang_thread}
use Rattle.model.specs.built_in.Thread.{thread_class}
use Rattle.model.specs.Tree.{Entry}
use Rattle.model.specs.Classes.{Program, Body, body_of}
use Rattle.model.specs.ReferenceTypes.{ClassType, ReferenceArray}
use Rattle.model.specs.Types.{VerificationType, Unusable, IntType, NullType, OfType}
use Rattle.model.specs.TypeOrder.{FrameType}
use Rattle.model.specs.Typing.{Typing, IsTyping, HasTyping}
use Rattle.run_laws.specs.examples.Bytes.{hex}
use Rattle.run_laws.specs.examples.Printing as printing
use Rattle.run_laws.specs.examples.PrintsSeven.{pool, file_with, prints_seven_file}

-- frame types at the offsets of a list
abbrev pub typing_in : List (ℕ × FrameType) → Typing
typing_in [] offset = None
typing_in (entry ∷ entries) offset = if entry.0 == offset then Some entry.1 else typing_in entries offset

abbrev pub frame : List VerificationType → List VerificationType → FrameType
frame locals stack = record { slots = record { locals = locals; stack = stack }; constructed = true }

abbrev pub strings : VerificationType
strings = OfType (ReferenceArray (ClassType java_lang_string))

abbrev pub stream : VerificationType
stream = OfType (ClassType java_io_print_stream)

abbrev pub body_with : List Entry → ℕ → ℕ → List ℕ → Body
body_with pool max_stack max_locals code =
    record { pool = pool; code = record { max_stack = max_stack; max_locals = max_locals; code = code; exceptions = []; attributes = [] } }

-- main of A, whose body this is, has these frame types
pub record IsMainTyped (files : Program) (body : Body) (types : List (ℕ × FrameType)) : Type 0 where
  pub is_main : body_of files (main_of (codes "A")) ≡ Some body
  pub typed : IsTyping files (main_of (codes "A")) body (typing_in types)

-- getstatic System.out, bipush 7, invokevirtual println, return
abbrev pub prints_seven_types : List (ℕ × FrameType)
prints_seven_types =
    (0, frame (strings ∷ []) []) ∷ (3, frame (strings ∷ []) (stream ∷ [])) ∷ (5, frame (strings ∷ []) (IntType ∷ stream ∷ [])) ∷ (8, frame (strings ∷ []) []) ∷ []

abbrev pub PrintsSevenTyped : Type 0
PrintsSevenTyped = IsMainTyped (prints_seven_file ∷ []) (body_with pool 2 1 (hex (codes "b2000d 1007 b60013 b1"))) prints_seven_types

-- aload_0, pop, return
abbrev pub pop_types : List (ℕ × FrameType)
pop_types = (0, frame (strings ∷ []) []) ∷ (1, frame (strings ∷ []) (strings ∷ [])) ∷ (2, frame (strings ∷ []) []) ∷ []

abbrev pub PopTyped : Type 0
PopTyped = IsMainTyped (file_with (hex (codes "2a57b1")) ∷ []) (body_with pool 2 1 (hex (codes "2a57b1"))) pop_types

-- return, iadd: what no path reaches needs no types
abbrev pub unreached_types : List (ℕ × FrameType)
unreached_types = (0, frame (strings ∷ []) []) ∷ []

abbrev pub UnreachedTyped : Type 0
UnreachedTyped = IsMainTyped (file_with (hex (codes "b160")) ∷ []) (body_with pool 2 1 (hex (codes "b160"))) unreached_types

-- 0 iconst_0, 1 istore_1, 2 iload_1, 3 iconst_5, 4 if_icmpge 13, 7 iinc 1 1, 10 goto 2, 13 return: at 2 two paths meet
abbrev pub loop_code : List ℕ
loop_code = hex (codes "03 3c 1b 08 a20009 840101 a7fff8 b1")

-- the second local variable was not written, or holds an int
abbrev pub unset_with : List VerificationType → FrameType
unset_with stack = frame (strings ∷ Unusable ∷ []) stack

abbrev pub int_with : List VerificationType → FrameType
int_with stack = frame (strings ∷ IntType ∷ []) stack

abbrev pub loop_types : List (ℕ × FrameType)
loop_types =
    (0, unset_with []) ∷ (1, unset_with (IntType ∷ [])) ∷ (2, int_with []) ∷ (3, int_with (IntType ∷ []))
    ∷ (4, int_with (IntType ∷ IntType ∷ [])) ∷ (7, int_with []) ∷ (10, int_with []) ∷ (13, int_with []) ∷ []

abbrev pub LoopTyped : Type 0
LoopTyped = IsMainTyped (printing.file_with 2 2 loop_code ∷ []) (body_with printing.pool 2 2 loop_code) loop_types

-- 0 iconst_0, 1 ifeq 9, 4 iconst_1, 5 istore_1, 6 goto 11, 9 aconst_null, 10 astore_1, 11 return: at 11 the local variable
-- holds an int on one path and null on the other, and cannot be used
abbrev pub fork_code : List ℕ
fork_code = hex (codes "03 990008 04 3c a70005 01 4c b1")

abbrev pub fork_types : List (ℕ × FrameType)
fork_types =
    (0, unset_with []) ∷ (1, unset_with (IntType ∷ [])) ∷ (4, unset_with []) ∷ (5, unset_with (IntType ∷ []))
    ∷ (6, int_with []) ∷ (9, unset_with []) ∷ (10, unset_with (NullType ∷ [])) ∷ (11, unset_with []) ∷ []

abbrev pub ForkTyped : Type 0
ForkTyped = IsMainTyped (printing.file_with 2 2 fork_code ∷ []) (body_with printing.pool 2 2 fork_code) fork_types

-- Thread.run, which is built in: 0 aload_0, 1 getfield target, 4 ifnull 16, 7 aload_0, 8 getfield target, 11 invokeinterface
-- Runnable.run, 16 return
abbrev pub run_body : Body
run_body = body_with thread_class.pool 1 1 (hex (codes "2a b40010 c6000c 2a b40010 b900140100 b1"))

abbrev pub thread : VerificationType
thread = OfType (ClassType java_lang_thread)

-- the field is declared as a Runnable, an interface
abbrev pub object : VerificationType
object = OfType (ClassType java_lang_object)

abbrev pub run_types : List (ℕ × FrameType)
run_types =
    (0, frame (thread ∷ []) []) ∷ (1, frame (thread ∷ []) (thread ∷ [])) ∷ (4, frame (thread ∷ []) (object ∷ [])) ∷ (7, frame (thread ∷ []) [])
    ∷ (8, frame (thread ∷ []) (thread ∷ [])) ∷ (11, frame (thread ∷ []) (object ∷ [])) ∷ (16, frame (thread ∷ []) []) ∷ []

pub record RunTyped : Type 0 where
  pub is_run : body_of [] thread_run ≡ Some run_body
  pub typed : IsTyping [] thread_run run_body (typing_in run_types)

pub record Typings : Type 0 where
  pub prints_seven : PrintsSevenTyped
  pub pop_reference : PopTyped
  pub unreached : UnreachedTyped
  pub loop : LoopTyped
  pub fork : ForkTyped
  pub run : RunTyped

-- ---- codes without a typing

-- main of A with this code, two places of the stack and so many local variables, has no typing
abbrev pub Untypable : ℕ → List ℕ → Type 0
Untypable max_locals code =
    HasTyping (printing.file_with 2 max_locals code ∷ []) (main_of (codes "A")) (body_with printing.pool 2 max_locals code) → ⊥

pub record Untypables : Type 0 where
  -- iconst_0, iadd, return: an operand is missing
  pub missing_operand : Untypable 1 (hex (codes "0360b1"))
  -- nop: the code can run off its end
  pub past_the_end : Untypable 1 (hex (codes "00"))
  -- aload_0, ireturn: main returns nothing
  pub other_return : Untypable 1 (hex (codes "2aac"))
  -- iconst_0 three times, return: the stack has two places
  pub too_deep : Untypable 1 (hex (codes "030303b1"))
  -- iload_1, return: nothing was written to the local variable
  pub unset_local : Untypable 2 (hex (codes "1bb1"))
  -- 0 iconst_0, 1 ifeq 5, 4 iconst_1, 5 return: at 5 the stack has one place or none
  pub unequal_depths : Untypable 1 (hex (codes "0399000404b1"))
