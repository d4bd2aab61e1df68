-- Typings of the methods with code of java/lang/Throwable, each by its list of frame types.
-- Made by `tools/build-built-in` of the class files of builtin/classes. Not to be edited.
use Rattle.std.specs.Prelude.{ℕ, List, [], ◌∷◌, ◌++◌, codes}
use Rattle.model.specs.Names.{Member, java_lang_throwable}
use Rattle.model.specs.ReferenceTypes.{ClassType, ReferenceArray}
use Rattle.model.specs.Types.{Unusable, IntType, NullType, OfType, Uninitialised, UninitialisedThis}
use Rattle.model.specs.TypeOrder.{FrameType}
use Rattle.run_laws.specs.examples.Typings.{stream}
use Rattle.run_laws.specs.examples.FrameTypes.{string, class, throwable, of, with_locals, before_this, member}

-- Throwable.<init>(Ljava/lang/Throwable;)V
abbrev pub throwable_init_types : List (ℕ × FrameType)
throwable_init_types =
    before_this (UninitialisedThis (codes "java/lang/Throwable") ∷ throwable ∷ []) ((0, [])
    ∷ (1, UninitialisedThis (codes "java/lang/Throwable") ∷ [])
    ∷ (2, throwable ∷ UninitialisedThis (codes "java/lang/Throwable") ∷ [])
    ∷ (5, UninitialisedThis (codes "java/lang/Throwable") ∷ [])
    ∷ (6, NullType ∷ UninitialisedThis (codes "java/lang/Throwable") ∷ [])
    ∷ (9, UninitialisedThis (codes "java/lang/Throwable") ∷ [])
    ∷ (10, throwable ∷ UninitialisedThis (codes "java/lang/Throwable") ∷ [])
    ∷ (13, string ∷ UninitialisedThis (codes "java/lang/Throwable") ∷ [])
    ∷ (14, throwable ∷ string ∷ UninitialisedThis (codes "java/lang/Throwable") ∷ []) ∷ [])
    ++ with_locals (throwable ∷ throwable ∷ []) ((17, []) ∷ [])

-- Throwable.getMessage()Ljava/lang/String;
abbrev pub throwable_get_message_types : List (ℕ × FrameType)
throwable_get_message_types =
    with_locals (throwable ∷ []) ((0, []) ∷ (1, throwable ∷ []) ∷ (4, string ∷ []) ∷ [])

-- Throwable.getLocalizedMessage()Ljava/lang/String;
abbrev pub throwable_get_localized_message_types : List (ℕ × FrameType)
throwable_get_localized_message_types =
    with_locals (throwable ∷ []) ((0, []) ∷ (1, throwable ∷ []) ∷ (4, string ∷ []) ∷ [])

-- Throwable.getCause()Ljava/lang/Throwable;
abbrev pub throwable_get_cause_types : List (ℕ × FrameType)
throwable_get_cause_types =
    with_locals (throwable ∷ []) ((0, []) ∷ (1, throwable ∷ []) ∷ (4, throwable ∷ []) ∷ [])

-- Throwable.initCause(Ljava/lang/Throwable;)Ljava/lang/Throwable;
abbrev pub throwable_init_cause_types : List (ℕ × FrameType)
throwable_init_cause_types =
    with_locals (throwable ∷ throwable ∷ Unusable ∷ []) ((0, []) ∷ (1, throwable ∷ []) ∷ (4, throwable ∷ [])
    ∷ (7, []) ∷ (8, throwable ∷ []) ∷ (11, []) ∷ (13, string ∷ []) ∷ (16, []) ∷ (17, throwable ∷ [])
    ∷ (20, string ∷ []) ∷ [])
    ++ (with_locals (throwable ∷ throwable ∷ string ∷ []) ((21, [])
    ∷ (24, Uninitialised 21 (codes "java/lang/IllegalStateException") ∷ [])
    ∷ (
      25,
      Uninitialised 21 (codes "java/lang/IllegalStateException")
          ∷ Uninitialised 21 (codes "java/lang/IllegalStateException")
          ∷ [],
    )
    ∷ (
      27,
      string
          ∷ Uninitialised 21 (codes "java/lang/IllegalStateException")
          ∷ Uninitialised 21 (codes "java/lang/IllegalStateException")
          ∷ [],
    )
    ∷ (
      28,
      string
          ∷ string
          ∷ Uninitialised 21 (codes "java/lang/IllegalStateException")
          ∷ Uninitialised 21 (codes "java/lang/IllegalStateException")
          ∷ [],
    )
    ∷ (
      31,
      string
          ∷ Uninitialised 21 (codes "java/lang/IllegalStateException")
          ∷ Uninitialised 21 (codes "java/lang/IllegalStateException")
          ∷ [],
    )
    ∷ (
      32,
      throwable
          ∷ string
          ∷ Uninitialised 21 (codes "java/lang/IllegalStateException")
          ∷ Uninitialised 21 (codes "java/lang/IllegalStateException")
          ∷ [],
    ) ∷ (35, of (codes "java/lang/IllegalStateException") ∷ []) ∷ [])
    ++ with_locals (throwable ∷ throwable ∷ Unusable ∷ []) ((36, []) ∷ (37, throwable ∷ [])
    ∷ (38, throwable ∷ throwable ∷ []) ∷ (41, [])
    ∷ (44, Uninitialised 41 (codes "java/lang/IllegalArgumentException") ∷ [])
    ∷ (
      45,
      Uninitialised 41 (codes "java/lang/IllegalArgumentException")
          ∷ Uninitialised 41 (codes "java/lang/IllegalArgumentException")
          ∷ [],
    )
    ∷ (
      47,
      string
          ∷ Uninitialised 41 (codes "java/lang/IllegalArgumentException")
          ∷ Uninitialised 41 (codes "java/lang/IllegalArgumentException")
          ∷ [],
    )
    ∷ (
      48,
      throwable
          ∷ string
          ∷ Uninitialised 41 (codes "java/lang/IllegalArgumentException")
          ∷ Uninitialised 41 (codes "java/lang/IllegalArgumentException")
          ∷ [],
    ) ∷ (51, of (codes "java/lang/IllegalArgumentException") ∷ []) ∷ (52, []) ∷ (53, throwable ∷ [])
    ∷ (54, throwable ∷ throwable ∷ []) ∷ (57, []) ∷ (58, throwable ∷ []) ∷ []))

-- Throwable.toString()Ljava/lang/String;
abbrev pub throwable_to_string_types : List (ℕ × FrameType)
throwable_to_string_types =
    with_locals (throwable ∷ Unusable ∷ Unusable ∷ []) ((0, []) ∷ (1, throwable ∷ []) ∷ (4, class ∷ [])
    ∷ (7, string ∷ []) ∷ [])
    ++ (with_locals (throwable ∷ string ∷ Unusable ∷ []) ((8, []) ∷ (9, throwable ∷ []) ∷ (12, string ∷ []) ∷ [])
    ++ with_locals (throwable ∷ string ∷ string ∷ []) ((13, []) ∷ (14, string ∷ []) ∷ (17, []) ∷ (18, string ∷ [])
    ∷ (21, []) ∷ (22, string ∷ []) ∷ (24, string ∷ string ∷ []) ∷ (27, string ∷ []) ∷ (28, string ∷ string ∷ [])
    ∷ (31, string ∷ []) ∷ []))

-- Throwable.printStackTrace()V
abbrev pub throwable_print_stack_trace_types : List (ℕ × FrameType)
throwable_print_stack_trace_types =
    with_locals (throwable ∷ []) ((0, []) ∷ (1, throwable ∷ []) ∷ (4, stream ∷ throwable ∷ []) ∷ (7, []) ∷ [])

-- Throwable.printStackTrace(Ljava/io/PrintStream;)V
abbrev pub throwable_print_stack_trace_2_types : List (ℕ × FrameType)
throwable_print_stack_trace_2_types =
    with_locals (throwable ∷ stream ∷ Unusable ∷ Unusable ∷ Unusable ∷ Unusable ∷ []) ((0, []) ∷ (1, stream ∷ [])
    ∷ (2, throwable ∷ stream ∷ []) ∷ (5, []) ∷ (6, IntType ∷ []) ∷ [])
    ++ (with_locals (throwable ∷ stream ∷ IntType ∷ Unusable ∷ Unusable ∷ Unusable ∷ []) ((7, [])
    ∷ (8, throwable ∷ []) ∷ (11, throwable ∷ []) ∷ [])
    ++ (with_locals (throwable ∷ stream ∷ IntType ∷ throwable ∷ Unusable ∷ Unusable ∷ []) ((12, [])
    ∷ (13, throwable ∷ []) ∷ (16, []) ∷ (17, throwable ∷ []) ∷ [])
    ++ (with_locals (throwable ∷ stream ∷ IntType ∷ throwable ∷ throwable ∷ Unusable ∷ []) ((19, [])
    ∷ (20, IntType ∷ []) ∷ [])
    ++ (with_locals (throwable ∷ stream ∷ IntType ∷ throwable ∷ throwable ∷ IntType ∷ []) ((22, [])
    ∷ (24, IntType ∷ []) ∷ (25, IntType ∷ IntType ∷ []) ∷ (28, []) ∷ (30, throwable ∷ []) ∷ (33, [])
    ∷ (35, throwable ∷ []) ∷ (36, throwable ∷ throwable ∷ []) ∷ (39, []) ∷ (40, []) ∷ (42, throwable ∷ [])
    ∷ (45, throwable ∷ []) ∷ (47, []) ∷ (50, []) ∷ (53, []) ∷ (54, stream ∷ []) ∷ (56, string ∷ stream ∷ [])
    ∷ (57, throwable ∷ string ∷ stream ∷ []) ∷ (60, string ∷ string ∷ stream ∷ []) ∷ (63, string ∷ stream ∷ [])
    ∷ (66, []) ∷ (69, []) ∷ (70, throwable ∷ []) ∷ (73, throwable ∷ []) ∷ (74, []) ∷ [])
    ++ with_locals (throwable ∷ stream ∷ IntType ∷ throwable ∷ Unusable ∷ Unusable ∷ []) ((77, []) ∷ [])))))

-- Throwable.fillInStackTrace()Ljava/lang/Throwable;
abbrev pub throwable_fill_in_stack_trace_types : List (ℕ × FrameType)
throwable_fill_in_stack_trace_types =
    with_locals (throwable ∷ []) ((0, []) ∷ (1, throwable ∷ []) ∷ [])

-- Throwable.addSuppressed(Ljava/lang/Throwable;)V
abbrev pub throwable_add_suppressed_types : List (ℕ × FrameType)
throwable_add_suppressed_types =
    with_locals (throwable ∷ throwable ∷ Unusable ∷ Unusable ∷ Unusable ∷ []) ((0, []) ∷ (1, throwable ∷ [])
    ∷ (2, throwable ∷ throwable ∷ []) ∷ (5, [])
    ∷ (8, Uninitialised 5 (codes "java/lang/IllegalArgumentException") ∷ [])
    ∷ (
      9,
      Uninitialised 5 (codes "java/lang/IllegalArgumentException")
          ∷ Uninitialised 5 (codes "java/lang/IllegalArgumentException")
          ∷ [],
    )
    ∷ (
      11,
      string
          ∷ Uninitialised 5 (codes "java/lang/IllegalArgumentException")
          ∷ Uninitialised 5 (codes "java/lang/IllegalArgumentException")
          ∷ [],
    )
    ∷ (
      12,
      throwable
          ∷ string
          ∷ Uninitialised 5 (codes "java/lang/IllegalArgumentException")
          ∷ Uninitialised 5 (codes "java/lang/IllegalArgumentException")
          ∷ [],
    ) ∷ (15, of (codes "java/lang/IllegalArgumentException") ∷ []) ∷ (16, []) ∷ (17, throwable ∷ []) ∷ (20, [])
    ∷ (23, Uninitialised 20 (codes "java/lang/NullPointerException") ∷ [])
    ∷ (
      24,
      Uninitialised 20 (codes "java/lang/NullPointerException")
          ∷ Uninitialised 20 (codes "java/lang/NullPointerException")
          ∷ [],
    )
    ∷ (
      26,
      string
          ∷ Uninitialised 20 (codes "java/lang/NullPointerException")
          ∷ Uninitialised 20 (codes "java/lang/NullPointerException")
          ∷ [],
    ) ∷ (29, of (codes "java/lang/NullPointerException") ∷ []) ∷ (30, []) ∷ (31, throwable ∷ [])
    ∷ (34, OfType (ReferenceArray (ClassType java_lang_throwable)) ∷ []) ∷ (37, []) ∷ (38, IntType ∷ [])
    ∷ (41, []) ∷ (42, throwable ∷ []) ∷ (45, OfType (ReferenceArray (ClassType java_lang_throwable)) ∷ [])
    ∷ (46, IntType ∷ []) ∷ [])
    ++ (with_locals (throwable ∷ throwable ∷ IntType ∷ Unusable ∷ Unusable ∷ []) ((47, []) ∷ (48, IntType ∷ [])
    ∷ (49, IntType ∷ IntType ∷ []) ∷ (50, IntType ∷ [])
    ∷ (53, OfType (ReferenceArray (ClassType java_lang_throwable)) ∷ []) ∷ [])
    ++ (with_locals (throwable ∷ throwable ∷ IntType ∷ OfType (ReferenceArray (ClassType java_lang_throwable)) ∷ Unusable ∷ []) (
    (54, []) ∷ (55, IntType ∷ []) ∷ [])
    ++ with_locals (throwable ∷ throwable ∷ IntType ∷ OfType (ReferenceArray (ClassType java_lang_throwable)) ∷ IntType ∷ []) (
    (57, []) ∷ (59, IntType ∷ []) ∷ (60, IntType ∷ IntType ∷ []) ∷ (63, [])
    ∷ (64, OfType (ReferenceArray (ClassType java_lang_throwable)) ∷ [])
    ∷ (66, IntType ∷ OfType (ReferenceArray (ClassType java_lang_throwable)) ∷ [])
    ∷ (67, throwable ∷ IntType ∷ OfType (ReferenceArray (ClassType java_lang_throwable)) ∷ [])
    ∷ (
      70,
      OfType (ReferenceArray (ClassType java_lang_throwable))
          ∷ IntType
          ∷ OfType (ReferenceArray (ClassType java_lang_throwable))
          ∷ [],
    )
    ∷ (
      72,
      IntType
          ∷ OfType (ReferenceArray (ClassType java_lang_throwable))
          ∷ IntType
          ∷ OfType (ReferenceArray (ClassType java_lang_throwable))
          ∷ [],
    ) ∷ (73, throwable ∷ IntType ∷ OfType (ReferenceArray (ClassType java_lang_throwable)) ∷ []) ∷ (74, [])
    ∷ (77, []) ∷ (80, []) ∷ (81, OfType (ReferenceArray (ClassType java_lang_throwable)) ∷ [])
    ∷ (82, IntType ∷ OfType (ReferenceArray (ClassType java_lang_throwable)) ∷ [])
    ∷ (83, throwable ∷ IntType ∷ OfType (ReferenceArray (ClassType java_lang_throwable)) ∷ []) ∷ (84, [])
    ∷ (85, throwable ∷ []) ∷ (86, OfType (ReferenceArray (ClassType java_lang_throwable)) ∷ throwable ∷ [])
    ∷ (89, []) ∷ [])))

-- Throwable.getSuppressed()[Ljava/lang/Throwable;
abbrev pub throwable_get_suppressed_types : List (ℕ × FrameType)
throwable_get_suppressed_types =
    with_locals (throwable ∷ Unusable ∷ Unusable ∷ Unusable ∷ []) ((0, []) ∷ (1, throwable ∷ [])
    ∷ (4, OfType (ReferenceArray (ClassType java_lang_throwable)) ∷ []) ∷ (7, []) ∷ (8, IntType ∷ []) ∷ (11, [])
    ∷ (12, throwable ∷ []) ∷ (15, OfType (ReferenceArray (ClassType java_lang_throwable)) ∷ [])
    ∷ (16, IntType ∷ []) ∷ [])
    ++ (with_locals (throwable ∷ IntType ∷ Unusable ∷ Unusable ∷ []) ((17, []) ∷ (18, IntType ∷ [])
    ∷ (21, OfType (ReferenceArray (ClassType java_lang_throwable)) ∷ []) ∷ [])
    ++ (with_locals (throwable ∷ IntType ∷ OfType (ReferenceArray (ClassType java_lang_throwable)) ∷ Unusable ∷ []) (
    (22, []) ∷ (23, IntType ∷ []) ∷ [])
    ++ with_locals (throwable ∷ IntType ∷ OfType (ReferenceArray (ClassType java_lang_throwable)) ∷ IntType ∷ []) (
    (24, []) ∷ (25, IntType ∷ []) ∷ (26, IntType ∷ IntType ∷ []) ∷ (29, [])
    ∷ (30, OfType (ReferenceArray (ClassType java_lang_throwable)) ∷ [])
    ∷ (31, IntType ∷ OfType (ReferenceArray (ClassType java_lang_throwable)) ∷ [])
    ∷ (32, throwable ∷ IntType ∷ OfType (ReferenceArray (ClassType java_lang_throwable)) ∷ [])
    ∷ (
      35,
      OfType (ReferenceArray (ClassType java_lang_throwable))
          ∷ IntType
          ∷ OfType (ReferenceArray (ClassType java_lang_throwable))
          ∷ [],
    )
    ∷ (
      36,
      IntType
          ∷ OfType (ReferenceArray (ClassType java_lang_throwable))
          ∷ IntType
          ∷ OfType (ReferenceArray (ClassType java_lang_throwable))
          ∷ [],
    ) ∷ (37, throwable ∷ IntType ∷ OfType (ReferenceArray (ClassType java_lang_throwable)) ∷ []) ∷ (38, [])
    ∷ (41, []) ∷ (44, []) ∷ (45, OfType (ReferenceArray (ClassType java_lang_throwable)) ∷ []) ∷ [])))

abbrev pub throwable_typings : List (Member × List (ℕ × FrameType))
throwable_typings =
    (member java_lang_throwable (codes "<init>") (codes "(Ljava/lang/Throwable;)V"), throwable_init_types)
    ∷ (member java_lang_throwable (codes "getMessage") (codes "()Ljava/lang/String;"), throwable_get_message_types)
    ∷ (member java_lang_throwable (codes "getLocalizedMessage") (codes "()Ljava/lang/String;"), throwable_get_localized_message_types)
    ∷ (member java_lang_throwable (codes "getCause") (codes "()Ljava/lang/Throwable;"), throwable_get_cause_types)
    ∷ (member java_lang_throwable (codes "initCause") (codes "(Ljava/lang/Throwable;)Ljava/lang/Throwable;"), throwable_init_cause_types)
    ∷ (member java_lang_throwable (codes "toString") (codes "()Ljava/lang/String;"), throwable_to_string_types)
    ∷ (member java_lang_throwable (codes "printStackTrace") (codes "()V"), throwable_print_stack_trace_types)
    ∷ (member java_lang_throwable (codes "printStackTrace") (codes "(Ljava/io/PrintStream;)V"), throwable_print_stack_trace_2_types)
    ∷ (member java_lang_throwable (codes "fillInStackTrace") (codes "()Ljava/lang/Throwable;"), throwable_fill_in_stack_trace_types)
    ∷ (member java_lang_throwable (codes "addSuppressed") (codes "(Ljava/lang/Throwable;)V"), throwable_add_suppressed_types)
    ∷ (member java_lang_throwable (codes "getSuppressed") (codes "()[Ljava/lang/Throwable;"), throwable_get_suppressed_types)
    ∷ []
