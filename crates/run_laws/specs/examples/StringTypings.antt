-- Typings of the methods with code of java/lang/String, each by its list of frame types.
-- Made by `tools/build-built-in` of the class files of builtin/classes. Not to be edited.
use Rattle.std.specs.Prelude.{ℕ, List, [], ◌∷◌, ◌++◌, codes}
use Rattle.model.specs.Names.{Member, java_lang_object, java_lang_string}
use Rattle.model.specs.ReferenceTypes.{ClassType, PrimitiveArray, ReferenceArray, Char}
use Rattle.model.specs.Types.{Unusable, IntType, OfType, Uninitialised, UninitialisedThis}
use Rattle.model.specs.TypeOrder.{FrameType}
use Rattle.run_laws.specs.examples.Typings.{object}
use Rattle.run_laws.specs.examples.FrameTypes.{string, builder, with_locals, before_this, member}

-- String.<init>([C)V
abbrev pub string_init_types : List (ℕ × FrameType)
string_init_types =
    before_this (UninitialisedThis (codes "java/lang/String") ∷ OfType (PrimitiveArray Char) ∷ []) ((0, [])
    ∷ (1, UninitialisedThis (codes "java/lang/String") ∷ [])
    ∷ (2, OfType (PrimitiveArray Char) ∷ UninitialisedThis (codes "java/lang/String") ∷ [])
    ∷ (3, IntType ∷ OfType (PrimitiveArray Char) ∷ UninitialisedThis (codes "java/lang/String") ∷ [])
    ∷ (
      4,
      OfType (PrimitiveArray Char)
          ∷ IntType
          ∷ OfType (PrimitiveArray Char)
          ∷ UninitialisedThis (codes "java/lang/String")
          ∷ [],
    ) ∷ (5, IntType ∷ IntType ∷ OfType (PrimitiveArray Char) ∷ UninitialisedThis (codes "java/lang/String") ∷ []) ∷ [])
    ++ with_locals (string ∷ OfType (PrimitiveArray Char) ∷ []) ((8, []) ∷ [])

-- String.valueOf(Ljava/lang/Object;)Ljava/lang/String;
abbrev pub string_value_of_types : List (ℕ × FrameType)
string_value_of_types =
    with_locals (object ∷ []) ((0, []) ∷ (1, object ∷ []) ∷ (4, []) ∷ (6, string ∷ []) ∷ (9, [])
    ∷ (10, object ∷ []) ∷ (13, string ∷ []) ∷ [])

-- String.valueOf(Z)Ljava/lang/String;
abbrev pub string_value_of_2_types : List (ℕ × FrameType)
string_value_of_2_types =
    with_locals (IntType ∷ []) ((0, []) ∷ (1, IntType ∷ []) ∷ (4, []) ∷ (6, string ∷ []) ∷ (9, [])
    ∷ (11, string ∷ []) ∷ [])

-- String.valueOf([C)Ljava/lang/String;
abbrev pub string_value_of_3_types : List (ℕ × FrameType)
string_value_of_3_types =
    with_locals (OfType (PrimitiveArray Char) ∷ []) ((0, [])
    ∷ (3, Uninitialised 0 (codes "java/lang/String") ∷ [])
    ∷ (4, Uninitialised 0 (codes "java/lang/String") ∷ Uninitialised 0 (codes "java/lang/String") ∷ [])
    ∷ (
      5,
      OfType (PrimitiveArray Char)
          ∷ Uninitialised 0 (codes "java/lang/String")
          ∷ Uninitialised 0 (codes "java/lang/String")
          ∷ [],
    )
    ∷ (
      6,
      IntType
          ∷ OfType (PrimitiveArray Char)
          ∷ Uninitialised 0 (codes "java/lang/String")
          ∷ Uninitialised 0 (codes "java/lang/String")
          ∷ [],
    )
    ∷ (
      7,
      OfType (PrimitiveArray Char)
          ∷ IntType
          ∷ OfType (PrimitiveArray Char)
          ∷ Uninitialised 0 (codes "java/lang/String")
          ∷ Uninitialised 0 (codes "java/lang/String")
          ∷ [],
    )
    ∷ (
      8,
      IntType
          ∷ IntType
          ∷ OfType (PrimitiveArray Char)
          ∷ Uninitialised 0 (codes "java/lang/String")
          ∷ Uninitialised 0 (codes "java/lang/String")
          ∷ [],
    ) ∷ (11, string ∷ []) ∷ [])

-- String.valueOf([CII)Ljava/lang/String;
abbrev pub string_value_of_4_types : List (ℕ × FrameType)
string_value_of_4_types =
    with_locals (OfType (PrimitiveArray Char) ∷ IntType ∷ IntType ∷ []) ((0, [])
    ∷ (3, Uninitialised 0 (codes "java/lang/String") ∷ [])
    ∷ (4, Uninitialised 0 (codes "java/lang/String") ∷ Uninitialised 0 (codes "java/lang/String") ∷ [])
    ∷ (
      5,
      OfType (PrimitiveArray Char)
          ∷ Uninitialised 0 (codes "java/lang/String")
          ∷ Uninitialised 0 (codes "java/lang/String")
          ∷ [],
    )
    ∷ (
      6,
      IntType
          ∷ OfType (PrimitiveArray Char)
          ∷ Uninitialised 0 (codes "java/lang/String")
          ∷ Uninitialised 0 (codes "java/lang/String")
          ∷ [],
    )
    ∷ (
      7,
      IntType
          ∷ IntType
          ∷ OfType (PrimitiveArray Char)
          ∷ Uninitialised 0 (codes "java/lang/String")
          ∷ Uninitialised 0 (codes "java/lang/String")
          ∷ [],
    ) ∷ (10, string ∷ []) ∷ [])

-- String.copyValueOf([C)Ljava/lang/String;
abbrev pub string_copy_value_of_types : List (ℕ × FrameType)
string_copy_value_of_types =
    with_locals (OfType (PrimitiveArray Char) ∷ []) ((0, [])
    ∷ (3, Uninitialised 0 (codes "java/lang/String") ∷ [])
    ∷ (4, Uninitialised 0 (codes "java/lang/String") ∷ Uninitialised 0 (codes "java/lang/String") ∷ [])
    ∷ (
      5,
      OfType (PrimitiveArray Char)
          ∷ Uninitialised 0 (codes "java/lang/String")
          ∷ Uninitialised 0 (codes "java/lang/String")
          ∷ [],
    )
    ∷ (
      6,
      IntType
          ∷ OfType (PrimitiveArray Char)
          ∷ Uninitialised 0 (codes "java/lang/String")
          ∷ Uninitialised 0 (codes "java/lang/String")
          ∷ [],
    )
    ∷ (
      7,
      OfType (PrimitiveArray Char)
          ∷ IntType
          ∷ OfType (PrimitiveArray Char)
          ∷ Uninitialised 0 (codes "java/lang/String")
          ∷ Uninitialised 0 (codes "java/lang/String")
          ∷ [],
    )
    ∷ (
      8,
      IntType
          ∷ IntType
          ∷ OfType (PrimitiveArray Char)
          ∷ Uninitialised 0 (codes "java/lang/String")
          ∷ Uninitialised 0 (codes "java/lang/String")
          ∷ [],
    ) ∷ (11, string ∷ []) ∷ [])

-- String.copyValueOf([CII)Ljava/lang/String;
abbrev pub string_copy_value_of_2_types : List (ℕ × FrameType)
string_copy_value_of_2_types =
    with_locals (OfType (PrimitiveArray Char) ∷ IntType ∷ IntType ∷ []) ((0, [])
    ∷ (3, Uninitialised 0 (codes "java/lang/String") ∷ [])
    ∷ (4, Uninitialised 0 (codes "java/lang/String") ∷ Uninitialised 0 (codes "java/lang/String") ∷ [])
    ∷ (
      5,
      OfType (PrimitiveArray Char)
          ∷ Uninitialised 0 (codes "java/lang/String")
          ∷ Uninitialised 0 (codes "java/lang/String")
          ∷ [],
    )
    ∷ (
      6,
      IntType
          ∷ OfType (PrimitiveArray Char)
          ∷ Uninitialised 0 (codes "java/lang/String")
          ∷ Uninitialised 0 (codes "java/lang/String")
          ∷ [],
    )
    ∷ (
      7,
      IntType
          ∷ IntType
          ∷ OfType (PrimitiveArray Char)
          ∷ Uninitialised 0 (codes "java/lang/String")
          ∷ Uninitialised 0 (codes "java/lang/String")
          ∷ [],
    ) ∷ (10, string ∷ []) ∷ [])

-- String.join(Ljava/lang/CharSequence;[Ljava/lang/CharSequence;)Ljava/lang/String;
abbrev pub string_join_types : List (ℕ × FrameType)
string_join_types =
    with_locals (object ∷ OfType (ReferenceArray (ClassType java_lang_object)) ∷ Unusable ∷ Unusable ∷ Unusable ∷ []) (
    (0, []) ∷ (1, object ∷ []) ∷ (6, string ∷ []) ∷ [])
    ++ (with_locals (object ∷ OfType (ReferenceArray (ClassType java_lang_object)) ∷ string ∷ Unusable ∷ Unusable ∷ []) (
    (7, []) ∷ (10, Uninitialised 7 (codes "java/lang/StringBuilder") ∷ [])
    ∷ (
      11,
      Uninitialised 7 (codes "java/lang/StringBuilder")
          ∷ Uninitialised 7 (codes "java/lang/StringBuilder")
          ∷ [],
    ) ∷ (14, builder ∷ []) ∷ [])
    ++ (with_locals (object ∷ OfType (ReferenceArray (ClassType java_lang_object)) ∷ string ∷ builder ∷ Unusable ∷ []) (
    (15, []) ∷ (16, IntType ∷ []) ∷ [])
    ++ with_locals (object ∷ OfType (ReferenceArray (ClassType java_lang_object)) ∷ string ∷ builder ∷ IntType ∷ []) (
    (18, []) ∷ (20, IntType ∷ []) ∷ (21, OfType (ReferenceArray (ClassType java_lang_object)) ∷ IntType ∷ [])
    ∷ (22, IntType ∷ IntType ∷ []) ∷ (25, []) ∷ (27, IntType ∷ []) ∷ (30, []) ∷ (31, builder ∷ [])
    ∷ (32, string ∷ builder ∷ []) ∷ (35, builder ∷ []) ∷ (36, []) ∷ (37, builder ∷ [])
    ∷ (38, OfType (ReferenceArray (ClassType java_lang_object)) ∷ builder ∷ [])
    ∷ (40, IntType ∷ OfType (ReferenceArray (ClassType java_lang_object)) ∷ builder ∷ [])
    ∷ (41, object ∷ builder ∷ []) ∷ (44, builder ∷ []) ∷ (45, []) ∷ (48, []) ∷ (51, []) ∷ (52, builder ∷ [])
    ∷ (55, string ∷ []) ∷ [])))

-- String.isEmpty()Z
abbrev pub string_is_empty_types : List (ℕ × FrameType)
string_is_empty_types =
    with_locals (string ∷ []) ((0, []) ∷ (1, string ∷ []) ∷ (4, IntType ∷ []) ∷ (7, []) ∷ (8, IntType ∷ [])
    ∷ (11, []) ∷ (12, IntType ∷ []) ∷ [])

-- String.toString()Ljava/lang/String;
abbrev pub string_to_string_types : List (ℕ × FrameType)
string_to_string_types =
    with_locals (string ∷ []) ((0, []) ∷ (1, string ∷ []) ∷ [])

-- String.substring(I)Ljava/lang/String;
abbrev pub string_substring_types : List (ℕ × FrameType)
string_substring_types =
    with_locals (string ∷ IntType ∷ []) ((0, []) ∷ (1, string ∷ []) ∷ (2, IntType ∷ string ∷ [])
    ∷ (3, string ∷ IntType ∷ string ∷ []) ∷ (6, IntType ∷ IntType ∷ string ∷ []) ∷ (9, string ∷ []) ∷ [])

-- String.subSequence(II)Ljava/lang/CharSequence;
abbrev pub string_sub_sequence_types : List (ℕ × FrameType)
string_sub_sequence_types =
    with_locals (string ∷ IntType ∷ IntType ∷ []) ((0, []) ∷ (1, string ∷ []) ∷ (2, IntType ∷ string ∷ [])
    ∷ (3, IntType ∷ IntType ∷ string ∷ []) ∷ (6, string ∷ []) ∷ [])

-- String.compareTo(Ljava/lang/Object;)I
abbrev pub string_compare_to_types : List (ℕ × FrameType)
string_compare_to_types =
    with_locals (string ∷ object ∷ []) ((0, []) ∷ (1, string ∷ []) ∷ (2, object ∷ string ∷ [])
    ∷ (5, string ∷ string ∷ []) ∷ (8, IntType ∷ []) ∷ [])

-- String.indexOf(I)I
abbrev pub string_index_of_types : List (ℕ × FrameType)
string_index_of_types =
    with_locals (string ∷ IntType ∷ []) ((0, []) ∷ (1, string ∷ []) ∷ (2, IntType ∷ string ∷ [])
    ∷ (3, IntType ∷ IntType ∷ string ∷ []) ∷ (6, IntType ∷ []) ∷ [])

-- String.indexOf(Ljava/lang/String;)I
abbrev pub string_index_of_2_types : List (ℕ × FrameType)
string_index_of_2_types =
    with_locals (string ∷ string ∷ []) ((0, []) ∷ (1, string ∷ []) ∷ (2, string ∷ string ∷ [])
    ∷ (3, IntType ∷ string ∷ string ∷ []) ∷ (6, IntType ∷ []) ∷ [])

-- String.indexOf(Ljava/lang/String;I)I
abbrev pub string_index_of_3_types : List (ℕ × FrameType)
string_index_of_3_types =
    with_locals (string ∷ string ∷ IntType ∷ Unusable ∷ Unusable ∷ Unusable ∷ []) ((0, []) ∷ (1, string ∷ [])
    ∷ (4, IntType ∷ []) ∷ [])
    ++ (with_locals (string ∷ string ∷ IntType ∷ IntType ∷ Unusable ∷ Unusable ∷ []) ((5, []) ∷ (6, string ∷ [])
    ∷ (9, IntType ∷ []) ∷ (10, IntType ∷ IntType ∷ []) ∷ (11, IntType ∷ []) ∷ [])
    ++ (with_locals (string ∷ string ∷ IntType ∷ IntType ∷ IntType ∷ Unusable ∷ []) ((13, []) ∷ (14, IntType ∷ [])
    ∷ (17, []) ∷ (18, IntType ∷ []) ∷ (21, []) ∷ (22, IntType ∷ []) ∷ [])
    ++ with_locals (string ∷ string ∷ IntType ∷ IntType ∷ IntType ∷ IntType ∷ []) ((24, []) ∷ (26, IntType ∷ [])
    ∷ (28, IntType ∷ IntType ∷ []) ∷ (31, []) ∷ (32, string ∷ []) ∷ (34, IntType ∷ string ∷ [])
    ∷ (35, string ∷ IntType ∷ string ∷ []) ∷ (36, IntType ∷ string ∷ IntType ∷ string ∷ [])
    ∷ (37, IntType ∷ IntType ∷ string ∷ IntType ∷ string ∷ []) ∷ (40, IntType ∷ []) ∷ (43, [])
    ∷ (45, IntType ∷ []) ∷ (46, []) ∷ (49, []) ∷ (52, []) ∷ (53, IntType ∷ []) ∷ (56, []) ∷ (57, string ∷ [])
    ∷ (60, IntType ∷ []) ∷ (63, []) ∷ (64, IntType ∷ []) ∷ [])))

-- String.lastIndexOf(I)I
abbrev pub string_last_index_of_types : List (ℕ × FrameType)
string_last_index_of_types =
    with_locals (string ∷ IntType ∷ []) ((0, []) ∷ (1, string ∷ []) ∷ (2, IntType ∷ string ∷ [])
    ∷ (3, string ∷ IntType ∷ string ∷ []) ∷ (6, IntType ∷ IntType ∷ string ∷ [])
    ∷ (7, IntType ∷ IntType ∷ IntType ∷ string ∷ []) ∷ (8, IntType ∷ IntType ∷ string ∷ []) ∷ (11, IntType ∷ []) ∷ [])

-- String.lastIndexOf(II)I
abbrev pub string_last_index_of_2_types : List (ℕ × FrameType)
string_last_index_of_2_types =
    with_locals (string ∷ IntType ∷ IntType ∷ Unusable ∷ Unusable ∷ []) ((0, []) ∷ (1, string ∷ [])
    ∷ (4, IntType ∷ []) ∷ (5, IntType ∷ IntType ∷ []) ∷ (6, IntType ∷ []) ∷ [])
    ++ (with_locals (string ∷ IntType ∷ IntType ∷ IntType ∷ Unusable ∷ []) ((7, []) ∷ (8, IntType ∷ [])
    ∷ (9, IntType ∷ IntType ∷ []) ∷ (12, []) ∷ (13, IntType ∷ []) ∷ (16, []) ∷ (17, IntType ∷ []) ∷ [])
    ++ with_locals (string ∷ IntType ∷ IntType ∷ IntType ∷ IntType ∷ []) ((19, []) ∷ (21, IntType ∷ []) ∷ (24, [])
    ∷ (25, string ∷ []) ∷ (27, IntType ∷ string ∷ []) ∷ (30, IntType ∷ []) ∷ (31, IntType ∷ IntType ∷ [])
    ∷ (34, []) ∷ (36, IntType ∷ []) ∷ (37, []) ∷ (40, []) ∷ (43, []) ∷ (44, IntType ∷ []) ∷ []))

-- String.lastIndexOf(Ljava/lang/String;)I
abbrev pub string_last_index_of_3_types : List (ℕ × FrameType)
string_last_index_of_3_types =
    with_locals (string ∷ string ∷ []) ((0, []) ∷ (1, string ∷ []) ∷ (2, string ∷ string ∷ [])
    ∷ (3, string ∷ string ∷ string ∷ []) ∷ (6, IntType ∷ string ∷ string ∷ []) ∷ (9, IntType ∷ []) ∷ [])

-- String.lastIndexOf(Ljava/lang/String;I)I
abbrev pub string_last_index_of_4_types : List (ℕ × FrameType)
string_last_index_of_4_types =
    with_locals (string ∷ string ∷ IntType ∷ Unusable ∷ Unusable ∷ Unusable ∷ []) ((0, []) ∷ (1, string ∷ [])
    ∷ (4, IntType ∷ []) ∷ [])
    ++ (with_locals (string ∷ string ∷ IntType ∷ IntType ∷ Unusable ∷ Unusable ∷ []) ((5, []) ∷ (6, string ∷ [])
    ∷ (9, IntType ∷ []) ∷ (10, IntType ∷ IntType ∷ []) ∷ (11, IntType ∷ []) ∷ [])
    ++ (with_locals (string ∷ string ∷ IntType ∷ IntType ∷ IntType ∷ Unusable ∷ []) ((13, []) ∷ (14, IntType ∷ [])
    ∷ (16, IntType ∷ IntType ∷ []) ∷ (19, []) ∷ (20, IntType ∷ []) ∷ (23, []) ∷ (25, IntType ∷ []) ∷ [])
    ++ with_locals (string ∷ string ∷ IntType ∷ IntType ∷ IntType ∷ IntType ∷ []) ((27, []) ∷ (29, IntType ∷ [])
    ∷ (32, []) ∷ (33, string ∷ []) ∷ (35, IntType ∷ string ∷ []) ∷ (36, string ∷ IntType ∷ string ∷ [])
    ∷ (37, IntType ∷ string ∷ IntType ∷ string ∷ []) ∷ (38, IntType ∷ IntType ∷ string ∷ IntType ∷ string ∷ [])
    ∷ (41, IntType ∷ []) ∷ (44, []) ∷ (46, IntType ∷ []) ∷ (47, []) ∷ (50, []) ∷ (53, []) ∷ (54, IntType ∷ []) ∷ [])))

-- String.startsWith(Ljava/lang/String;)Z
abbrev pub string_starts_with_types : List (ℕ × FrameType)
string_starts_with_types =
    with_locals (string ∷ string ∷ []) ((0, []) ∷ (1, string ∷ []) ∷ (2, IntType ∷ string ∷ [])
    ∷ (3, string ∷ IntType ∷ string ∷ []) ∷ (4, IntType ∷ string ∷ IntType ∷ string ∷ [])
    ∷ (5, string ∷ IntType ∷ string ∷ IntType ∷ string ∷ [])
    ∷ (8, IntType ∷ IntType ∷ string ∷ IntType ∷ string ∷ []) ∷ (11, IntType ∷ []) ∷ [])

-- String.startsWith(Ljava/lang/String;I)Z
abbrev pub string_starts_with_2_types : List (ℕ × FrameType)
string_starts_with_2_types =
    with_locals (string ∷ string ∷ IntType ∷ []) ((0, []) ∷ (1, string ∷ []) ∷ (2, IntType ∷ string ∷ [])
    ∷ (3, string ∷ IntType ∷ string ∷ []) ∷ (4, IntType ∷ string ∷ IntType ∷ string ∷ [])
    ∷ (5, string ∷ IntType ∷ string ∷ IntType ∷ string ∷ [])
    ∷ (8, IntType ∷ IntType ∷ string ∷ IntType ∷ string ∷ []) ∷ (11, IntType ∷ []) ∷ [])

-- String.endsWith(Ljava/lang/String;)Z
abbrev pub string_ends_with_types : List (ℕ × FrameType)
string_ends_with_types =
    with_locals (string ∷ string ∷ []) ((0, []) ∷ (1, string ∷ []) ∷ (2, string ∷ string ∷ [])
    ∷ (5, IntType ∷ string ∷ []) ∷ (6, string ∷ IntType ∷ string ∷ []) ∷ (9, IntType ∷ IntType ∷ string ∷ [])
    ∷ (10, IntType ∷ string ∷ []) ∷ (11, string ∷ IntType ∷ string ∷ [])
    ∷ (12, IntType ∷ string ∷ IntType ∷ string ∷ []) ∷ (13, string ∷ IntType ∷ string ∷ IntType ∷ string ∷ [])
    ∷ (16, IntType ∷ IntType ∷ string ∷ IntType ∷ string ∷ []) ∷ (19, IntType ∷ []) ∷ [])

-- String.contains(Ljava/lang/CharSequence;)Z
abbrev pub string_contains_types : List (ℕ × FrameType)
string_contains_types =
    with_locals (string ∷ object ∷ []) ((0, []) ∷ (1, string ∷ []) ∷ (2, object ∷ string ∷ [])
    ∷ (7, string ∷ string ∷ []) ∷ (8, IntType ∷ string ∷ string ∷ []) ∷ (11, IntType ∷ []) ∷ (14, [])
    ∷ (15, IntType ∷ []) ∷ (18, []) ∷ (19, IntType ∷ []) ∷ [])

-- String.contentEquals(Ljava/lang/CharSequence;)Z
abbrev pub string_content_equals_types : List (ℕ × FrameType)
string_content_equals_types =
    with_locals (string ∷ object ∷ []) ((0, []) ∷ (1, string ∷ []) ∷ (2, object ∷ string ∷ [])
    ∷ (7, string ∷ string ∷ []) ∷ (10, IntType ∷ []) ∷ [])

-- String.trim()Ljava/lang/String;
abbrev pub string_trim_types : List (ℕ × FrameType)
string_trim_types =
    with_locals (string ∷ Unusable ∷ Unusable ∷ []) ((0, []) ∷ (1, IntType ∷ []) ∷ [])
    ++ (with_locals (string ∷ IntType ∷ Unusable ∷ []) ((2, []) ∷ (3, string ∷ []) ∷ (6, IntType ∷ []) ∷ [])
    ++ with_locals (string ∷ IntType ∷ IntType ∷ []) ((7, []) ∷ (8, IntType ∷ []) ∷ (9, IntType ∷ IntType ∷ [])
    ∷ (12, []) ∷ (13, string ∷ []) ∷ (14, IntType ∷ string ∷ []) ∷ (17, IntType ∷ [])
    ∷ (19, IntType ∷ IntType ∷ []) ∷ (22, []) ∷ (25, []) ∷ (28, []) ∷ (29, IntType ∷ [])
    ∷ (30, IntType ∷ IntType ∷ []) ∷ (33, []) ∷ (34, string ∷ []) ∷ (35, IntType ∷ string ∷ [])
    ∷ (36, IntType ∷ IntType ∷ string ∷ []) ∷ (37, IntType ∷ string ∷ []) ∷ (40, IntType ∷ [])
    ∷ (42, IntType ∷ IntType ∷ []) ∷ (45, []) ∷ (48, []) ∷ (51, []) ∷ (52, string ∷ [])
    ∷ (53, IntType ∷ string ∷ []) ∷ (54, IntType ∷ IntType ∷ string ∷ []) ∷ (57, string ∷ []) ∷ []))

-- String.toCharArray()[C
abbrev pub string_to_char_array_types : List (ℕ × FrameType)
string_to_char_array_types =
    with_locals (string ∷ Unusable ∷ []) ((0, []) ∷ (1, string ∷ []) ∷ (4, IntType ∷ [])
    ∷ (6, OfType (PrimitiveArray Char) ∷ []) ∷ [])
    ++ with_locals (string ∷ OfType (PrimitiveArray Char) ∷ []) ((7, []) ∷ (8, string ∷ [])
    ∷ (9, IntType ∷ string ∷ []) ∷ (10, OfType (PrimitiveArray Char) ∷ IntType ∷ string ∷ [])
    ∷ (11, IntType ∷ IntType ∷ string ∷ [])
    ∷ (12, OfType (PrimitiveArray Char) ∷ IntType ∷ IntType ∷ string ∷ [])
    ∷ (13, IntType ∷ OfType (PrimitiveArray Char) ∷ IntType ∷ IntType ∷ string ∷ []) ∷ (16, [])
    ∷ (17, OfType (PrimitiveArray Char) ∷ []) ∷ [])

-- String.replace(CC)Ljava/lang/String;
abbrev pub string_replace_types : List (ℕ × FrameType)
string_replace_types =
    with_locals (string ∷ IntType ∷ IntType ∷ Unusable ∷ Unusable ∷ []) ((0, []) ∷ (1, IntType ∷ [])
    ∷ (2, IntType ∷ IntType ∷ []) ∷ (5, []) ∷ (6, string ∷ []) ∷ (7, IntType ∷ string ∷ [])
    ∷ (8, IntType ∷ IntType ∷ string ∷ []) ∷ (11, IntType ∷ []) ∷ (14, []) ∷ (15, string ∷ []) ∷ (16, [])
    ∷ (17, string ∷ []) ∷ (20, OfType (PrimitiveArray Char) ∷ []) ∷ [])
    ++ (with_locals (string ∷ IntType ∷ IntType ∷ OfType (PrimitiveArray Char) ∷ Unusable ∷ []) ((21, [])
    ∷ (22, IntType ∷ []) ∷ [])
    ++ with_locals (string ∷ IntType ∷ IntType ∷ OfType (PrimitiveArray Char) ∷ IntType ∷ []) ((24, [])
    ∷ (26, IntType ∷ []) ∷ (27, OfType (PrimitiveArray Char) ∷ IntType ∷ []) ∷ (28, IntType ∷ IntType ∷ [])
    ∷ (31, []) ∷ (32, OfType (PrimitiveArray Char) ∷ []) ∷ (34, IntType ∷ OfType (PrimitiveArray Char) ∷ [])
    ∷ (35, IntType ∷ []) ∷ (36, IntType ∷ IntType ∷ []) ∷ (39, []) ∷ (40, OfType (PrimitiveArray Char) ∷ [])
    ∷ (42, IntType ∷ OfType (PrimitiveArray Char) ∷ [])
    ∷ (43, IntType ∷ IntType ∷ OfType (PrimitiveArray Char) ∷ []) ∷ (44, []) ∷ (47, []) ∷ (50, [])
    ∷ (53, Uninitialised 50 (codes "java/lang/String") ∷ [])
    ∷ (54, Uninitialised 50 (codes "java/lang/String") ∷ Uninitialised 50 (codes "java/lang/String") ∷ [])
    ∷ (
      55,
      OfType (PrimitiveArray Char)
          ∷ Uninitialised 50 (codes "java/lang/String")
          ∷ Uninitialised 50 (codes "java/lang/String")
          ∷ [],
    )
    ∷ (
      56,
      IntType
          ∷ OfType (PrimitiveArray Char)
          ∷ Uninitialised 50 (codes "java/lang/String")
          ∷ Uninitialised 50 (codes "java/lang/String")
          ∷ [],
    )
    ∷ (
      57,
      OfType (PrimitiveArray Char)
          ∷ IntType
          ∷ OfType (PrimitiveArray Char)
          ∷ Uninitialised 50 (codes "java/lang/String")
          ∷ Uninitialised 50 (codes "java/lang/String")
          ∷ [],
    )
    ∷ (
      58,
      IntType
          ∷ IntType
          ∷ OfType (PrimitiveArray Char)
          ∷ Uninitialised 50 (codes "java/lang/String")
          ∷ Uninitialised 50 (codes "java/lang/String")
          ∷ [],
    ) ∷ (61, string ∷ []) ∷ []))

-- String.replace(Ljava/lang/CharSequence;Ljava/lang/CharSequence;)Ljava/lang/String;
abbrev pub string_replace_2_types : List (ℕ × FrameType)
string_replace_2_types =
    with_locals (string ∷ object ∷ object ∷ Unusable ∷ Unusable ∷ Unusable ∷ Unusable ∷ Unusable ∷ Unusable ∷ []) (
    (0, []) ∷ (1, object ∷ []) ∷ (6, string ∷ []) ∷ [])
    ++ (with_locals (string ∷ object ∷ object ∷ string ∷ Unusable ∷ Unusable ∷ Unusable ∷ Unusable ∷ Unusable ∷ []) (
    (7, []) ∷ (8, object ∷ []) ∷ (13, string ∷ []) ∷ [])
    ++ (with_locals (string ∷ object ∷ object ∷ string ∷ string ∷ Unusable ∷ Unusable ∷ Unusable ∷ Unusable ∷ []) (
    (15, []) ∷ (16, string ∷ []) ∷ (17, string ∷ string ∷ []) ∷ (18, IntType ∷ string ∷ string ∷ [])
    ∷ (21, IntType ∷ []) ∷ [])
    ++ (with_locals (string ∷ object ∷ object ∷ string ∷ string ∷ IntType ∷ Unusable ∷ Unusable ∷ Unusable ∷ []) (
    (23, []) ∷ (25, IntType ∷ []) ∷ (28, []) ∷ (29, string ∷ []) ∷ (30, [])
    ∷ (33, Uninitialised 30 (codes "java/lang/StringBuilder") ∷ [])
    ∷ (
      34,
      Uninitialised 30 (codes "java/lang/StringBuilder")
          ∷ Uninitialised 30 (codes "java/lang/StringBuilder")
          ∷ [],
    ) ∷ (37, builder ∷ []) ∷ [])
    ++ (with_locals (string ∷ object ∷ object ∷ string ∷ string ∷ IntType ∷ builder ∷ Unusable ∷ Unusable ∷ []) (
    (39, []) ∷ (40, IntType ∷ []) ∷ [])
    ++ (with_locals (string ∷ object ∷ object ∷ string ∷ string ∷ IntType ∷ builder ∷ IntType ∷ Unusable ∷ []) (
    (42, []) ∷ (43, string ∷ []) ∷ (46, IntType ∷ []) ∷ (49, []) ∷ (50, IntType ∷ []) ∷ (53, [])
    ∷ (54, string ∷ []) ∷ (57, IntType ∷ []) ∷ [])
    ++ with_locals (string ∷ object ∷ object ∷ string ∷ string ∷ IntType ∷ builder ∷ IntType ∷ IntType ∷ []) (
    (59, []) ∷ (61, IntType ∷ []) ∷ (64, []) ∷ (66, builder ∷ []) ∷ (67, string ∷ builder ∷ [])
    ∷ (69, IntType ∷ string ∷ builder ∷ []) ∷ (71, IntType ∷ IntType ∷ string ∷ builder ∷ [])
    ∷ (74, string ∷ builder ∷ []) ∷ (77, builder ∷ []) ∷ (79, string ∷ builder ∷ []) ∷ (82, builder ∷ [])
    ∷ (83, []) ∷ (85, IntType ∷ []) ∷ (86, string ∷ IntType ∷ []) ∷ (89, IntType ∷ IntType ∷ [])
    ∷ (90, IntType ∷ []) ∷ (92, []) ∷ (94, IntType ∷ []) ∷ (96, IntType ∷ IntType ∷ []) ∷ (97, IntType ∷ [])
    ∷ (98, string ∷ IntType ∷ []) ∷ (101, IntType ∷ IntType ∷ []) ∷ (104, []) ∷ (105, IntType ∷ []) ∷ (108, [])
    ∷ (109, string ∷ []) ∷ (110, string ∷ string ∷ []) ∷ (112, IntType ∷ string ∷ string ∷ [])
    ∷ (114, IntType ∷ IntType ∷ string ∷ string ∷ []) ∷ (115, IntType ∷ string ∷ string ∷ [])
    ∷ (118, IntType ∷ []) ∷ (120, []) ∷ (123, []) ∷ (125, builder ∷ []) ∷ (126, string ∷ builder ∷ [])
    ∷ (128, IntType ∷ string ∷ builder ∷ []) ∷ (129, string ∷ IntType ∷ string ∷ builder ∷ [])
    ∷ (132, IntType ∷ IntType ∷ string ∷ builder ∷ []) ∷ (135, string ∷ builder ∷ []) ∷ (138, builder ∷ [])
    ∷ (141, string ∷ []) ∷ []))))))

-- String.toLowerCase()Ljava/lang/String;
abbrev pub string_to_lower_case_types : List (ℕ × FrameType)
string_to_lower_case_types =
    with_locals (string ∷ Unusable ∷ Unusable ∷ []) ((0, []) ∷ (1, string ∷ [])
    ∷ (4, OfType (PrimitiveArray Char) ∷ []) ∷ [])
    ++ (with_locals (string ∷ OfType (PrimitiveArray Char) ∷ Unusable ∷ []) ((5, []) ∷ (6, IntType ∷ []) ∷ [])
    ++ (with_locals (string ∷ OfType (PrimitiveArray Char) ∷ IntType ∷ []) ((7, []) ∷ (8, IntType ∷ [])
    ∷ (9, OfType (PrimitiveArray Char) ∷ IntType ∷ []) ∷ (10, IntType ∷ IntType ∷ []) ∷ (13, [])
    ∷ (14, OfType (PrimitiveArray Char) ∷ []) ∷ (15, IntType ∷ OfType (PrimitiveArray Char) ∷ [])
    ∷ (16, OfType (PrimitiveArray Char) ∷ IntType ∷ OfType (PrimitiveArray Char) ∷ [])
    ∷ (17, IntType ∷ OfType (PrimitiveArray Char) ∷ IntType ∷ OfType (PrimitiveArray Char) ∷ [])
    ∷ (18, IntType ∷ IntType ∷ OfType (PrimitiveArray Char) ∷ [])
    ∷ (21, IntType ∷ IntType ∷ OfType (PrimitiveArray Char) ∷ []) ∷ (22, []) ∷ (25, []) ∷ (28, [])
    ∷ (31, Uninitialised 28 (codes "java/lang/String") ∷ [])
    ∷ (32, Uninitialised 28 (codes "java/lang/String") ∷ Uninitialised 28 (codes "java/lang/String") ∷ [])
    ∷ (
      33,
      OfType (PrimitiveArray Char)
          ∷ Uninitialised 28 (codes "java/lang/String")
          ∷ Uninitialised 28 (codes "java/lang/String")
          ∷ [],
    )
    ∷ (
      34,
      IntType
          ∷ OfType (PrimitiveArray Char)
          ∷ Uninitialised 28 (codes "java/lang/String")
          ∷ Uninitialised 28 (codes "java/lang/String")
          ∷ [],
    )
    ∷ (
      35,
      OfType (PrimitiveArray Char)
          ∷ IntType
          ∷ OfType (PrimitiveArray Char)
          ∷ Uninitialised 28 (codes "java/lang/String")
          ∷ Uninitialised 28 (codes "java/lang/String")
          ∷ [],
    )
    ∷ (
      36,
      IntType
          ∷ IntType
          ∷ OfType (PrimitiveArray Char)
          ∷ Uninitialised 28 (codes "java/lang/String")
          ∷ Uninitialised 28 (codes "java/lang/String")
          ∷ [],
    ) ∷ (39, string ∷ []) ∷ [])
    ++ with_locals (string ∷ OfType (PrimitiveArray Char) ∷ string ∷ []) ((40, []) ∷ (41, string ∷ [])
    ∷ (42, string ∷ string ∷ []) ∷ (45, IntType ∷ []) ∷ (48, []) ∷ (49, string ∷ []) ∷ (52, [])
    ∷ (53, string ∷ []) ∷ [])))

-- String.toUpperCase()Ljava/lang/String;
abbrev pub string_to_upper_case_types : List (ℕ × FrameType)
string_to_upper_case_types =
    with_locals (string ∷ Unusable ∷ Unusable ∷ Unusable ∷ []) ((0, []) ∷ (1, string ∷ [])
    ∷ (4, OfType (PrimitiveArray Char) ∷ []) ∷ [])
    ++ (with_locals (string ∷ OfType (PrimitiveArray Char) ∷ Unusable ∷ Unusable ∷ []) ((5, []) ∷ (6, IntType ∷ []) ∷ [])
    ++ (with_locals (string ∷ OfType (PrimitiveArray Char) ∷ IntType ∷ Unusable ∷ []) ((7, []) ∷ (8, IntType ∷ [])
    ∷ (9, OfType (PrimitiveArray Char) ∷ IntType ∷ []) ∷ (10, IntType ∷ IntType ∷ []) ∷ (13, [])
    ∷ (14, OfType (PrimitiveArray Char) ∷ []) ∷ (15, IntType ∷ OfType (PrimitiveArray Char) ∷ [])
    ∷ (16, IntType ∷ []) ∷ [])
    ++ (with_locals (string ∷ OfType (PrimitiveArray Char) ∷ IntType ∷ IntType ∷ []) ((17, []) ∷ (18, IntType ∷ [])
    ∷ (20, IntType ∷ IntType ∷ []) ∷ (23, []) ∷ (24, IntType ∷ []) ∷ (26, IntType ∷ IntType ∷ []) ∷ (29, [])
    ∷ (30, OfType (PrimitiveArray Char) ∷ []) ∷ (31, IntType ∷ OfType (PrimitiveArray Char) ∷ [])
    ∷ (32, IntType ∷ IntType ∷ OfType (PrimitiveArray Char) ∷ [])
    ∷ (34, IntType ∷ IntType ∷ IntType ∷ OfType (PrimitiveArray Char) ∷ [])
    ∷ (35, IntType ∷ IntType ∷ OfType (PrimitiveArray Char) ∷ [])
    ∷ (36, IntType ∷ IntType ∷ OfType (PrimitiveArray Char) ∷ []) ∷ (37, []) ∷ (40, []) ∷ [])
    ++ (with_locals (string ∷ OfType (PrimitiveArray Char) ∷ IntType ∷ Unusable ∷ []) ((43, [])
    ∷ (46, Uninitialised 43 (codes "java/lang/String") ∷ [])
    ∷ (47, Uninitialised 43 (codes "java/lang/String") ∷ Uninitialised 43 (codes "java/lang/String") ∷ [])
    ∷ (
      48,
      OfType (PrimitiveArray Char)
          ∷ Uninitialised 43 (codes "java/lang/String")
          ∷ Uninitialised 43 (codes "java/lang/String")
          ∷ [],
    )
    ∷ (
      49,
      IntType
          ∷ OfType (PrimitiveArray Char)
          ∷ Uninitialised 43 (codes "java/lang/String")
          ∷ Uninitialised 43 (codes "java/lang/String")
          ∷ [],
    )
    ∷ (
      50,
      OfType (PrimitiveArray Char)
          ∷ IntType
          ∷ OfType (PrimitiveArray Char)
          ∷ Uninitialised 43 (codes "java/lang/String")
          ∷ Uninitialised 43 (codes "java/lang/String")
          ∷ [],
    )
    ∷ (
      51,
      IntType
          ∷ IntType
          ∷ OfType (PrimitiveArray Char)
          ∷ Uninitialised 43 (codes "java/lang/String")
          ∷ Uninitialised 43 (codes "java/lang/String")
          ∷ [],
    ) ∷ (54, string ∷ []) ∷ [])
    ++ with_locals (string ∷ OfType (PrimitiveArray Char) ∷ string ∷ Unusable ∷ []) ((55, []) ∷ (56, string ∷ [])
    ∷ (57, string ∷ string ∷ []) ∷ (60, IntType ∷ []) ∷ (63, []) ∷ (64, string ∷ []) ∷ (67, [])
    ∷ (68, string ∷ []) ∷ [])))))

-- String.equalsIgnoreCase(Ljava/lang/String;)Z
abbrev pub string_equals_ignore_case_types : List (ℕ × FrameType)
string_equals_ignore_case_types =
    with_locals (string ∷ string ∷ []) ((0, []) ∷ (1, string ∷ []) ∷ (4, []) ∷ (5, string ∷ [])
    ∷ (8, IntType ∷ []) ∷ (9, string ∷ IntType ∷ []) ∷ (12, IntType ∷ IntType ∷ []) ∷ (15, [])
    ∷ (16, string ∷ []) ∷ (17, string ∷ string ∷ []) ∷ (20, IntType ∷ []) ∷ (23, []) ∷ (24, IntType ∷ [])
    ∷ (27, []) ∷ (28, IntType ∷ []) ∷ [])

-- String.compareToIgnoreCase(Ljava/lang/String;)I
abbrev pub string_compare_to_ignore_case_types : List (ℕ × FrameType)
string_compare_to_ignore_case_types =
    with_locals (string ∷ string ∷ Unusable ∷ Unusable ∷ Unusable ∷ []) ((0, []) ∷ (1, string ∷ [])
    ∷ (4, IntType ∷ []) ∷ (5, string ∷ IntType ∷ []) ∷ (8, IntType ∷ IntType ∷ []) ∷ (11, []) ∷ (12, string ∷ [])
    ∷ (15, IntType ∷ []) ∷ (18, []) ∷ (19, string ∷ []) ∷ (22, IntType ∷ []) ∷ [])
    ++ (with_locals (string ∷ string ∷ IntType ∷ Unusable ∷ Unusable ∷ []) ((23, []) ∷ (24, IntType ∷ []) ∷ [])
    ++ (with_locals (string ∷ string ∷ IntType ∷ IntType ∷ Unusable ∷ []) ((25, []) ∷ (26, IntType ∷ [])
    ∷ (27, IntType ∷ IntType ∷ []) ∷ (30, []) ∷ (31, string ∷ []) ∷ (32, IntType ∷ string ∷ [])
    ∷ (35, IntType ∷ []) ∷ (38, IntType ∷ []) ∷ (39, string ∷ IntType ∷ [])
    ∷ (40, IntType ∷ string ∷ IntType ∷ []) ∷ (43, IntType ∷ IntType ∷ []) ∷ (46, IntType ∷ IntType ∷ [])
    ∷ (47, IntType ∷ []) ∷ [])
    ++ (with_locals (string ∷ string ∷ IntType ∷ IntType ∷ IntType ∷ []) ((49, []) ∷ (51, IntType ∷ []) ∷ (54, [])
    ∷ (56, IntType ∷ []) ∷ (57, []) ∷ (60, []) ∷ [])
    ++ with_locals (string ∷ string ∷ IntType ∷ IntType ∷ Unusable ∷ []) ((63, []) ∷ (64, string ∷ [])
    ∷ (67, IntType ∷ []) ∷ (68, string ∷ IntType ∷ []) ∷ (71, IntType ∷ IntType ∷ []) ∷ (72, IntType ∷ []) ∷ []))))

-- String.lower(C)C
abbrev pub string_lower_types : List (ℕ × FrameType)
string_lower_types =
    with_locals (IntType ∷ []) ((0, []) ∷ (1, IntType ∷ []) ∷ (3, IntType ∷ IntType ∷ []) ∷ (6, [])
    ∷ (7, IntType ∷ []) ∷ (9, IntType ∷ IntType ∷ []) ∷ (12, []) ∷ (13, IntType ∷ [])
    ∷ (15, IntType ∷ IntType ∷ []) ∷ (16, IntType ∷ []) ∷ (17, IntType ∷ []) ∷ (20, []) ∷ (21, IntType ∷ []) ∷ [])

abbrev pub string_typings : List (Member × List (ℕ × FrameType))
string_typings =
    (member java_lang_string (codes "<init>") (codes "([C)V"), string_init_types)
    ∷ (member java_lang_string (codes "valueOf") (codes "(Ljava/lang/Object;)Ljava/lang/String;"), string_value_of_types)
    ∷ (member java_lang_string (codes "valueOf") (codes "(Z)Ljava/lang/String;"), string_value_of_2_types)
    ∷ (member java_lang_string (codes "valueOf") (codes "([C)Ljava/lang/String;"), string_value_of_3_types)
    ∷ (member java_lang_string (codes "valueOf") (codes "([CII)Ljava/lang/String;"), string_value_of_4_types)
    ∷ (member java_lang_string (codes "copyValueOf") (codes "([C)Ljava/lang/String;"), string_copy_value_of_types)
    ∷ (member java_lang_string (codes "copyValueOf") (codes "([CII)Ljava/lang/String;"), string_copy_value_of_2_types)
    ∷ (member java_lang_string (codes "join") (codes "(Ljava/lang/CharSequence;[Ljava/lang/CharSequence;)Ljava/lang/String;"), string_join_types)
    ∷ (member java_lang_string (codes "isEmpty") (codes "()Z"), string_is_empty_types)
    ∷ (member java_lang_string (codes "toString") (codes "()Ljava/lang/String;"), string_to_string_types)
    ∷ (member java_lang_string (codes "substring") (codes "(I)Ljava/lang/String;"), string_substring_types)
    ∷ (member java_lang_string (codes "subSequence") (codes "(II)Ljava/lang/CharSequence;"), string_sub_sequence_types)
    ∷ (member java_lang_string (codes "compareTo") (codes "(Ljava/lang/Object;)I"), string_compare_to_types)
    ∷ (member java_lang_string (codes "indexOf") (codes "(I)I"), string_index_of_types)
    ∷ (member java_lang_string (codes "indexOf") (codes "(Ljava/lang/String;)I"), string_index_of_2_types)
    ∷ (member java_lang_string (codes "indexOf") (codes "(Ljava/lang/String;I)I"), string_index_of_3_types)
    ∷ (member java_lang_string (codes "lastIndexOf") (codes "(I)I"), string_last_index_of_types)
    ∷ (member java_lang_string (codes "lastIndexOf") (codes "(II)I"), string_last_index_of_2_types)
    ∷ (member java_lang_string (codes "lastIndexOf") (codes "(Ljava/lang/String;)I"), string_last_index_of_3_types)
    ∷ (member java_lang_string (codes "lastIndexOf") (codes "(Ljava/lang/String;I)I"), string_last_index_of_4_types)
    ∷ (member java_lang_string (codes "startsWith") (codes "(Ljava/lang/String;)Z"), string_starts_with_types)
    ∷ (member java_lang_string (codes "startsWith") (codes "(Ljava/lang/String;I)Z"), string_starts_with_2_types)
    ∷ (member java_lang_string (codes "endsWith") (codes "(Ljava/lang/String;)Z"), string_ends_with_types)
    ∷ (member java_lang_string (codes "contains") (codes "(Ljava/lang/CharSequence;)Z"), string_contains_types)
    ∷ (member java_lang_string (codes "contentEquals") (codes "(Ljava/lang/CharSequence;)Z"), string_content_equals_types)
    ∷ (member java_lang_string (codes "trim") (codes "()Ljava/lang/String;"), string_trim_types)
    ∷ (member java_lang_string (codes "toCharArray") (codes "()[C"), string_to_char_array_types)
    ∷ (member java_lang_string (codes "replace") (codes "(CC)Ljava/lang/String;"), string_replace_types)
    ∷ (member java_lang_string (codes "replace") (codes "(Ljava/lang/CharSequence;Ljava/lang/CharSequence;)Ljava/lang/String;"), string_replace_2_types)
    ∷ (member java_lang_string (codes "toLowerCase") (codes "()Ljava/lang/String;"), string_to_lower_case_types)
    ∷ (member java_lang_string (codes "toUpperCase") (codes "()Ljava/lang/String;"), string_to_upper_case_types)
    ∷ (member java_lang_string (codes "equalsIgnoreCase") (codes "(Ljava/lang/String;)Z"), string_equals_ignore_case_types)
    ∷ (member java_lang_string (codes "compareToIgnoreCase") (codes "(Ljava/lang/String;)I"), string_compare_to_ignore_case_types)
    ∷ (member java_lang_string (codes "lower") (codes "(C)C"), string_lower_types)
    ∷ []
