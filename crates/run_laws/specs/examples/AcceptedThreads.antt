-- A program in Java of two classes and two threads is accepted: it links, and each of its methods passes verification (JVMS 4.10),
-- with a constructor that takes an int, a handler of ArithmeticException, and Thread.run. It runs by two schedules; java 17 prints
-- the same two numbers, in an order that the JLS leaves open (17.4).
--     class T extends Thread {
--         int n;
--         T(int n) { this.n = n; }
--         public void run() { System.out.println(n); }
--     }
--     class A {
--         public static void main(String[] args) {
--             T t = new T(7);
--             t.start();
--             try { System.out.println(1 / 0); } catch (ArithmeticException e) { System.out.println(8); }
--         }
--     }
use Rattle.std.specs.Prelude.{◌≡◌, ℕ, List, [], ◌∷◌, ◌++◌, Some, None, false, codes}
use Rattle.model.specs.declared.end.End.TheVariants as ends
use Rattle.model.specs.Names.{Member, main_of, constructor_name}
use Rattle.model.specs.Classes.{Program, Body, body_of}
use Rattle.model.specs.ReferenceTypes.{ClassType}
use Rattle.model.specs.Types.{VerificationType, Unusable, IntType, OfType, Uninitialised, UninitialisedThis}
use Rattle.model.specs.TypeOrder.{FrameType}
use Rattle.model.specs.Typing.{IsTyping}
use Rattle.model.specs.Accepted.{IsAccepted}
use Rattle.run_laws.specs.examples.Typings.{typing_in, frame, strings, stream}
use Rattle.run_laws.specs.examples.Reports.{times, usual, Reports}
use Rattle.run_laws.specs.examples.AcceptedThreadsClasses.{class_a, class_a_bytes, class_t, class_t_bytes}

abbrev pub files : Program
files = class_a ∷ class_t ∷ []

abbrev pub constructor_of_a : Member
constructor_of_a = record { class = codes "A"; name = constructor_name; descriptor = codes "()V" }

abbrev pub constructor_of_t : Member
constructor_of_t = record { class = codes "T"; name = constructor_name; descriptor = codes "(I)V" }

abbrev pub run_of_t : Member
run_of_t = record { class = codes "T"; name = codes "run"; descriptor = codes "()V" }

-- ---- frame types

abbrev pub an_a : VerificationType
an_a = OfType (ClassType (codes "A"))

abbrev pub a_t : VerificationType
a_t = OfType (ClassType (codes "T"))

abbrev pub caught : VerificationType
caught = OfType (ClassType (codes "java/lang/ArithmeticException"))

-- what the `new` at 0 of main makes
abbrev pub new_t : VerificationType
new_t = Uninitialised 0 (codes "T")

abbrev pub this_a : VerificationType
this_a = UninitialisedThis (codes "A")

abbrev pub this_t : VerificationType
this_t = UninitialisedThis (codes "T")

-- in a constructor, before that of the superclass was called
abbrev pub unconstructed : List VerificationType → List VerificationType → FrameType
unconstructed locals stack = record { slots = record { locals = locals; stack = stack }; constructed = false }

abbrev pub constructor_of_a_types : List (ℕ × FrameType)
constructor_of_a_types =
    (0, unconstructed (this_a ∷ []) []) ∷ (1, unconstructed (this_a ∷ []) (this_a ∷ [])) ∷ (4, frame (an_a ∷ []) []) ∷ []

abbrev pub constructor_of_t_types : List (ℕ × FrameType)
constructor_of_t_types =
    (0, unconstructed (this_t ∷ IntType ∷ []) []) ∷ (1, unconstructed (this_t ∷ IntType ∷ []) (this_t ∷ []))
    ∷ (4, frame (a_t ∷ IntType ∷ []) []) ∷ (5, frame (a_t ∷ IntType ∷ []) (a_t ∷ []))
    ∷ (6, frame (a_t ∷ IntType ∷ []) (IntType ∷ a_t ∷ [])) ∷ (9, frame (a_t ∷ IntType ∷ []) []) ∷ []

abbrev pub run_of_t_types : List (ℕ × FrameType)
run_of_t_types =
    (0, frame (a_t ∷ []) []) ∷ (3, frame (a_t ∷ []) (stream ∷ [])) ∷ (4, frame (a_t ∷ []) (a_t ∷ stream ∷ []))
    ∷ (7, frame (a_t ∷ []) (IntType ∷ stream ∷ [])) ∷ (10, frame (a_t ∷ []) []) ∷ []

-- in main: before the T is stored, behind it, and in the handler behind the store of the exception
abbrev pub at_begin : List VerificationType → FrameType
at_begin stack = frame (strings ∷ Unusable ∷ Unusable ∷ []) stack

abbrev pub with_t : List VerificationType → FrameType
with_t stack = frame (strings ∷ a_t ∷ Unusable ∷ []) stack

abbrev pub with_caught : List VerificationType → FrameType
with_caught stack = frame (strings ∷ a_t ∷ caught ∷ []) stack

-- the handler begins at 26; at 35 its path and the other one meet, and the third local variable cannot be used
abbrev pub main_types : List (ℕ × FrameType)
main_types =
    (0, at_begin []) ∷ (3, at_begin (new_t ∷ [])) ∷ (4, at_begin (new_t ∷ new_t ∷ [])) ∷ (6, at_begin (IntType ∷ new_t ∷ new_t ∷ []))
    ∷ (9, at_begin (a_t ∷ [])) ∷ (10, with_t []) ∷ (11, with_t (a_t ∷ [])) ∷ (14, with_t []) ∷ (17, with_t (stream ∷ []))
    ∷ (18, with_t (IntType ∷ stream ∷ [])) ∷ (19, with_t (IntType ∷ IntType ∷ stream ∷ [])) ∷ (20, with_t (IntType ∷ stream ∷ []))
    ∷ (23, with_t []) ∷ (26, with_t (caught ∷ [])) ∷ (27, with_caught []) ∷ (30, with_caught (stream ∷ []))
    ∷ (32, with_caught (IntType ∷ stream ∷ [])) ∷ (35, with_t []) ∷ []

-- a method has a code, and these frame types are a typing of it
pub record IsTypedBy (method : Member) (types : List (ℕ × FrameType)) : Type 0 where
  pub body : Body
  pub is_body : body_of files method ≡ Some body
  pub typed : IsTyping files method body (typing_in types)

pub record AcceptedThreads : Type 0 where
  pub accepted : IsAccepted (class_a_bytes ∷ class_t_bytes ∷ []) files
  pub constructor_of_a_typed : IsTypedBy constructor_of_a constructor_of_a_types
  pub main_typed : IsTypedBy (main_of (codes "A")) main_types
  pub constructor_of_t_typed : IsTypedBy constructor_of_t constructor_of_t_types
  pub run_of_t_typed : IsTypedBy run_of_t run_of_t_types
  -- main's thread first, then the other one
  pub main_first : Reports files usual (times 30 0
      ++ times 6 1) None ends.Quiet (codes "8\n7\nthread 0 ended\nthread 1 ended\nevents 36\nend quiet\n")
  -- the other one as a whole while main's exception is pending
  pub other_first : Reports files usual (times 24 0
      ++ (times 6 1 ++ times 6 0)) None ends.Quiet (codes "7\n8\nthread 0 ended\nthread 1 ended\nevents 36\nend quiet\n")
