-- A class A whose main prints 7: its bytes, their tree, and its run.
use Rattle.std.specs.Prelude.{◌≡◌, ℕ, suc, true, pos, List, [], ◌∷◌, ◌++◌, Option, Some, None, map, replicate, codes}
use Rattle.std.specs.Option.{option_map, option_and_then}
use Rattle.model.specs.Names.{main_of, java_lang_object, java_lang_system, java_io_print_stream}
use Rattle.model.specs.Tree.{Entry, Utf8, Class, NameAndType, Field, Method, FileTree}
use Rattle.model.specs.State.{State, Invocation, Initialisation, Super, End, StackOf, ClassStatus, NotInitialised, InProgress, Initialised}
use Rattle.model.specs.Step.{NotEnabled, is_enabled, status_of}
use Rattle.model.specs.Outcomes.{Cost, Free}
use Rattle.model.specs.declared.value.Value.{Value}
use Rattle.model.specs.declared.value.Value.TheVariants as value
use Rattle.run_laws.specs.examples.Bytes.{hex}
use Rattle.run_laws.specs.examples.Runs.{frames, event_of, after, then_stepped, printed_in, stacks_in, cost_of, Prints, with_main}

abbrev pub prints_seven_bytes : List ℕ
prints_seven_bytes =
    hex (codes "cafebabe 0000 0031 0014 010001 41 070001 010010 6a6176612f6c616e672f4f626a656374 070003 010004 6d61696e")
    ++ hex (codes "010016 285b4c6a6176612f6c616e672f537472696e673b2956 010004 436f6465")
    ++ hex (codes "010010 6a6176612f6c616e672f53797374656d 070008 010003 6f7574 010015 4c6a6176612f696f2f5072696e7453747265616d3b")
    ++ hex (codes "0c000a000b 090009000c 010013 6a6176612f696f2f5072696e7453747265616d 07000e 010007 7072696e746c6e 010004 28492956")
    ++ hex (codes "0c00100011 0a000f0012")
    ++ hex (codes "0020 0002 0004 0000 0000 0001 0009 0005 0006 0001 0007 00000015 0002 0001 00000009 b2000d1007b60013b1 0000 0000 0000")

abbrev pub pool : List Entry
pool =
    Utf8 (codes "A") ∷ Class 1 ∷ Utf8 java_lang_object ∷ Class 3 ∷ Utf8 (codes "main")
    ∷ Utf8 (codes "([Ljava/lang/String;)V") ∷ Utf8 (codes "Code")
    ∷ Utf8 java_lang_system ∷ Class 8 ∷ Utf8 (codes "out") ∷ Utf8 (codes "Ljava/io/PrintStream;")
    ∷ NameAndType 10 11 ∷ Field 9 12 ∷ Utf8 java_io_print_stream ∷ Class 14 ∷ Utf8 (codes "println") ∷ Utf8 (codes "(I)V")
    ∷ NameAndType 16 17 ∷ Method 15 18 ∷ []

-- the class with another code, which may use two places of the stack and one local variable
abbrev pub file_with : List ℕ → FileTree
file_with code = record (with_main pool 2 4 5 6 7 2 1 code) { flags = 0x0020 }

-- getstatic System.out, bipush 7, invokevirtual println, return
abbrev pub prints_seven_file : FileTree
prints_seven_file = file_with (hex (codes "b2000d 1007 b60013 b1"))

-- Three events initialise the class, the fourth begins main, and four instructions follow. After three events the one event
-- that is enabled is that of thread 0 with pick 0.
pub record PrintsSeven : Type 0 where
  pub prints : Prints prints_seven_bytes prints_seven_file 8 (pos 7 ∷ []) (codes "7\nthread 0 ended\nevents 8\nend quiet\n")
  pub other_thread : (thread pick : ℕ) → then_stepped
      prints_seven_file (after prints_seven_file 3) (record { thread = suc thread; pick = pick }) ≡ Some NotEnabled
  pub other_pick : (pick : ℕ) → then_stepped prints_seven_file (after prints_seven_file 3) (record { thread = 0; pick = suc pick })
      ≡ Some NotEnabled
  pub this_one : option_map (λ state. is_enabled (prints_seven_file ∷ []) frames state (event_of 0)) (after prints_seven_file 3) ≡ Some true

abbrev pub status_in : Option State → Option ClassStatus
status_in state = option_map (λ (s : State). status_of s.world (codes "A")) state

-- what the event after so many takes that a limit may forbid
abbrev pub cost_after : ℕ → Option Cost
cost_after n = option_and_then cost_of (then_stepped prints_seven_file (after prints_seven_file n) (event_of 0))

-- a stack with the frame of main alone, which stands at an offset, with the arguments in its local variable
abbrev pub main_at : ℕ → List Value → List (StackOf Value)
main_at offset stack =
    (Invocation (record {
      method = main_of (codes "A");
      place = record { offset = offset; slots = record { locals = value.Reference 1 ∷ []; stack = stack } };
      entered = None;
    }) ∷ [])
    ∷ []

-- the state after each event
pub record EventByEvent : Type 0 where
  pub opening : stacks_in (after prints_seven_file 0) ≡ Some ([] ∷ [])
  pub class_begun : stacks_in (after prints_seven_file 1) ≡ Some ((Initialisation (codes "A") Super ∷ []) ∷ [])
  pub superclass_first : stacks_in (after prints_seven_file 2) ≡ Some ((Initialisation (codes "A") End ∷ []) ∷ [])
  pub class_done : stacks_in (after prints_seven_file 3) ≡ Some ([] ∷ [])
  pub statuses : map (λ n. status_in (after prints_seven_file n)) (0 ∷ 1 ∷ 2 ∷ 3 ∷ [])
      ≡ Some NotInitialised ∷ Some (InProgress 0) ∷ Some (InProgress 0) ∷ Some Initialised ∷ []
  pub main_begun : stacks_in (after prints_seven_file 4) ≡ Some (main_at 0 [])
  pub stream_pushed : stacks_in (after prints_seven_file 5) ≡ Some (main_at 3 (value.Reference 0 ∷ []))
  pub seven_pushed : stacks_in (after prints_seven_file 6) ≡ Some (main_at 5 (value.Int 7 ∷ value.Reference 0 ∷ []))
  pub not_yet : printed_in (after prints_seven_file 6) ≡ Some []
  pub printed : stacks_in (after prints_seven_file 7) ≡ Some (main_at 8 [])
  pub seven : printed_in (after prints_seven_file 7) ≡ Some (codes "7\n")
  pub returned : stacks_in (after prints_seven_file 8) ≡ Some ([] ∷ [])
  pub costs : map cost_after (0 ∷ 1 ∷ 2 ∷ 3 ∷ 4 ∷ 5 ∷ 6 ∷ 7 ∷ []) ≡ replicate 8 (Some Free)
