-- Typings of the methods with code of java/lang/StringBuilder, each by its list of frame types.
-- Made by `tools/build-built-in` of the class files of builtin/classes. Not to be edited.
use Rattle.std.specs.Prelude.{ℕ, List, [], ◌∷◌, ◌++◌, codes}
use Rattle.model.specs.Names.{Member, java_lang_string_builder}
use Rattle.model.specs.ReferenceTypes.{PrimitiveArray, Char}
use Rattle.model.specs.Types.{Unusable, IntType, OfType, Uninitialised, UninitialisedThis}
use Rattle.model.specs.TypeOrder.{FrameType}
use Rattle.run_laws.specs.examples.Typings.{object}
use Rattle.run_laws.specs.examples.FrameTypes.{string, builder, of, with_locals, before_this, member}

-- StringBuilder.<init>(I)V
abbrev pub string_builder_init_types : List (ℕ × FrameType)
string_builder_init_types =
    before_this (UninitialisedThis (codes "java/lang/StringBuilder") ∷ IntType ∷ []) ((0, [])
    ∷ (1, UninitialisedThis (codes "java/lang/StringBuilder") ∷ []) ∷ [])
    ++ with_locals (builder ∷ IntType ∷ []) ((4, []) ∷ (5, IntType ∷ []) ∷ (8, [])
    ∷ (11, Uninitialised 8 (codes "java/lang/NegativeArraySizeException") ∷ [])
    ∷ (
      12,
      Uninitialised 8 (codes "java/lang/NegativeArraySizeException")
          ∷ Uninitialised 8 (codes "java/lang/NegativeArraySizeException")
          ∷ [],
    ) ∷ (15, of (codes "java/lang/NegativeArraySizeException") ∷ []) ∷ (16, []) ∷ [])

-- StringBuilder.<init>(Ljava/lang/CharSequence;)V
abbrev pub string_builder_init_2_types : List (ℕ × FrameType)
string_builder_init_2_types =
    before_this (UninitialisedThis (codes "java/lang/StringBuilder") ∷ object ∷ []) ((0, [])
    ∷ (1, UninitialisedThis (codes "java/lang/StringBuilder") ∷ [])
    ∷ (2, object ∷ UninitialisedThis (codes "java/lang/StringBuilder") ∷ [])
    ∷ (7, string ∷ UninitialisedThis (codes "java/lang/StringBuilder") ∷ []) ∷ [])
    ++ with_locals (builder ∷ object ∷ []) ((10, []) ∷ [])

-- StringBuilder.append(Ljava/lang/Object;)Ljava/lang/StringBuilder;
abbrev pub string_builder_append_types : List (ℕ × FrameType)
string_builder_append_types =
    with_locals (builder ∷ object ∷ []) ((0, []) ∷ (1, builder ∷ []) ∷ (2, object ∷ builder ∷ [])
    ∷ (5, string ∷ builder ∷ []) ∷ (8, builder ∷ []) ∷ [])

-- StringBuilder.append(Z)Ljava/lang/StringBuilder;
abbrev pub string_builder_append_2_types : List (ℕ × FrameType)
string_builder_append_2_types =
    with_locals (builder ∷ IntType ∷ []) ((0, []) ∷ (1, builder ∷ []) ∷ (2, IntType ∷ builder ∷ [])
    ∷ (5, string ∷ builder ∷ []) ∷ (8, builder ∷ []) ∷ [])

-- StringBuilder.append([C)Ljava/lang/StringBuilder;
abbrev pub string_builder_append_3_types : List (ℕ × FrameType)
string_builder_append_3_types =
    with_locals (builder ∷ OfType (PrimitiveArray Char) ∷ []) ((0, []) ∷ (1, builder ∷ [])
    ∷ (2, OfType (PrimitiveArray Char) ∷ builder ∷ []) ∷ (5, string ∷ builder ∷ []) ∷ (8, builder ∷ []) ∷ [])

-- StringBuilder.append([CII)Ljava/lang/StringBuilder;
abbrev pub string_builder_append_4_types : List (ℕ × FrameType)
string_builder_append_4_types =
    with_locals (builder ∷ OfType (PrimitiveArray Char) ∷ IntType ∷ IntType ∷ []) ((0, []) ∷ (1, builder ∷ [])
    ∷ (2, OfType (PrimitiveArray Char) ∷ builder ∷ [])
    ∷ (3, IntType ∷ OfType (PrimitiveArray Char) ∷ builder ∷ [])
    ∷ (4, IntType ∷ IntType ∷ OfType (PrimitiveArray Char) ∷ builder ∷ []) ∷ (7, string ∷ builder ∷ [])
    ∷ (10, builder ∷ []) ∷ [])

-- StringBuilder.append(Ljava/lang/CharSequence;)Ljava/lang/StringBuilder;
abbrev pub string_builder_append_5_types : List (ℕ × FrameType)
string_builder_append_5_types =
    with_locals (builder ∷ object ∷ []) ((0, []) ∷ (1, builder ∷ []) ∷ (2, object ∷ builder ∷ [])
    ∷ (5, builder ∷ []) ∷ (7, string ∷ builder ∷ []) ∷ (10, builder ∷ []) ∷ (11, object ∷ builder ∷ [])
    ∷ (16, string ∷ builder ∷ []) ∷ (19, builder ∷ []) ∷ [])

-- StringBuilder.append(Ljava/lang/CharSequence;II)Ljava/lang/StringBuilder;
abbrev pub string_builder_append_6_types : List (ℕ × FrameType)
string_builder_append_6_types =
    with_locals (builder ∷ object ∷ IntType ∷ IntType ∷ Unusable ∷ []) ((0, []) ∷ (1, object ∷ []) ∷ (4, [])
    ∷ (6, string ∷ []) ∷ (9, []) ∷ (10, object ∷ []) ∷ (15, string ∷ []) ∷ [])
    ++ with_locals (builder ∷ object ∷ IntType ∷ IntType ∷ string ∷ []) ((17, []) ∷ (18, IntType ∷ []) ∷ (21, [])
    ∷ (22, IntType ∷ []) ∷ (23, IntType ∷ IntType ∷ []) ∷ (26, []) ∷ (27, IntType ∷ [])
    ∷ (29, string ∷ IntType ∷ []) ∷ (32, IntType ∷ IntType ∷ []) ∷ (35, [])
    ∷ (38, Uninitialised 35 (codes "java/lang/IndexOutOfBoundsException") ∷ [])
    ∷ (
      39,
      Uninitialised 35 (codes "java/lang/IndexOutOfBoundsException")
          ∷ Uninitialised 35 (codes "java/lang/IndexOutOfBoundsException")
          ∷ [],
    ) ∷ (42, of (codes "java/lang/IndexOutOfBoundsException") ∷ []) ∷ (43, []) ∷ (44, builder ∷ [])
    ∷ (46, string ∷ builder ∷ []) ∷ (47, IntType ∷ string ∷ builder ∷ [])
    ∷ (48, IntType ∷ IntType ∷ string ∷ builder ∷ []) ∷ (51, string ∷ builder ∷ []) ∷ (54, builder ∷ []) ∷ [])

-- StringBuilder.length()I
abbrev pub string_builder_length_types : List (ℕ × FrameType)
string_builder_length_types =
    with_locals (builder ∷ []) ((0, []) ∷ (1, builder ∷ []) ∷ (4, string ∷ []) ∷ (7, IntType ∷ []) ∷ [])

-- StringBuilder.charAt(I)C
abbrev pub string_builder_char_at_types : List (ℕ × FrameType)
string_builder_char_at_types =
    with_locals (builder ∷ IntType ∷ []) ((0, []) ∷ (1, builder ∷ []) ∷ (4, string ∷ [])
    ∷ (5, IntType ∷ string ∷ []) ∷ (8, IntType ∷ []) ∷ [])

-- StringBuilder.capacity()I
abbrev pub string_builder_capacity_types : List (ℕ × FrameType)
string_builder_capacity_types =
    with_locals (builder ∷ []) ((0, []) ∷ (1, builder ∷ []) ∷ (4, string ∷ []) ∷ (7, IntType ∷ [])
    ∷ (9, IntType ∷ IntType ∷ []) ∷ (10, IntType ∷ []) ∷ [])

-- StringBuilder.ensureCapacity(I)V
abbrev pub string_builder_ensure_capacity_types : List (ℕ × FrameType)
string_builder_ensure_capacity_types =
    with_locals (builder ∷ IntType ∷ []) ((0, []) ∷ [])

-- StringBuilder.trimToSize()V
abbrev pub string_builder_trim_to_size_types : List (ℕ × FrameType)
string_builder_trim_to_size_types =
    with_locals (builder ∷ []) ((0, []) ∷ [])

-- StringBuilder.setLength(I)V
abbrev pub string_builder_set_length_types : List (ℕ × FrameType)
string_builder_set_length_types =
    with_locals (builder ∷ IntType ∷ []) ((0, []) ∷ (1, IntType ∷ []) ∷ (4, [])
    ∷ (7, Uninitialised 4 (codes "java/lang/StringIndexOutOfBoundsException") ∷ [])
    ∷ (
      8,
      Uninitialised 4 (codes "java/lang/StringIndexOutOfBoundsException")
          ∷ Uninitialised 4 (codes "java/lang/StringIndexOutOfBoundsException")
          ∷ [],
    ) ∷ (11, of (codes "java/lang/StringIndexOutOfBoundsException") ∷ []) ∷ (12, []) ∷ (13, IntType ∷ [])
    ∷ (14, builder ∷ IntType ∷ []) ∷ (17, string ∷ IntType ∷ []) ∷ (20, IntType ∷ IntType ∷ []) ∷ (23, [])
    ∷ (24, builder ∷ []) ∷ (25, builder ∷ builder ∷ []) ∷ (28, string ∷ builder ∷ [])
    ∷ (29, IntType ∷ string ∷ builder ∷ []) ∷ (30, IntType ∷ IntType ∷ string ∷ builder ∷ [])
    ∷ (33, string ∷ builder ∷ []) ∷ (36, []) ∷ (37, builder ∷ []) ∷ (40, string ∷ []) ∷ (43, IntType ∷ [])
    ∷ (44, IntType ∷ IntType ∷ []) ∷ (47, []) ∷ (48, builder ∷ []) ∷ (49, IntType ∷ builder ∷ [])
    ∷ (52, builder ∷ []) ∷ (53, []) ∷ (56, []) ∷ [])

-- StringBuilder.getChars(II[CI)V
abbrev pub string_builder_get_chars_types : List (ℕ × FrameType)
string_builder_get_chars_types =
    with_locals (builder ∷ IntType ∷ IntType ∷ OfType (PrimitiveArray Char) ∷ IntType ∷ []) ((0, [])
    ∷ (1, builder ∷ []) ∷ (4, string ∷ []) ∷ (5, IntType ∷ string ∷ []) ∷ (6, IntType ∷ IntType ∷ string ∷ [])
    ∷ (7, OfType (PrimitiveArray Char) ∷ IntType ∷ IntType ∷ string ∷ [])
    ∷ (9, IntType ∷ OfType (PrimitiveArray Char) ∷ IntType ∷ IntType ∷ string ∷ []) ∷ (12, []) ∷ [])

-- StringBuilder.setCharAt(IC)V
abbrev pub string_builder_set_char_at_types : List (ℕ × FrameType)
string_builder_set_char_at_types =
    with_locals (builder ∷ IntType ∷ IntType ∷ []) ((0, []) ∷ (1, IntType ∷ []) ∷ (4, []) ∷ (5, IntType ∷ [])
    ∷ (6, builder ∷ IntType ∷ []) ∷ (9, string ∷ IntType ∷ []) ∷ (12, IntType ∷ IntType ∷ []) ∷ (15, [])
    ∷ (18, Uninitialised 15 (codes "java/lang/StringIndexOutOfBoundsException") ∷ [])
    ∷ (
      19,
      Uninitialised 15 (codes "java/lang/StringIndexOutOfBoundsException")
          ∷ Uninitialised 15 (codes "java/lang/StringIndexOutOfBoundsException")
          ∷ [],
    ) ∷ (22, of (codes "java/lang/StringIndexOutOfBoundsException") ∷ []) ∷ (23, []) ∷ (24, builder ∷ [])
    ∷ (25, IntType ∷ builder ∷ []) ∷ (26, IntType ∷ IntType ∷ builder ∷ [])
    ∷ (27, IntType ∷ IntType ∷ IntType ∷ builder ∷ []) ∷ (28, IntType ∷ IntType ∷ builder ∷ [])
    ∷ (29, IntType ∷ IntType ∷ IntType ∷ builder ∷ []) ∷ (32, string ∷ IntType ∷ IntType ∷ builder ∷ [])
    ∷ (35, builder ∷ []) ∷ (36, []) ∷ [])

-- StringBuilder.deleteCharAt(I)Ljava/lang/StringBuilder;
abbrev pub string_builder_delete_char_at_types : List (ℕ × FrameType)
string_builder_delete_char_at_types =
    with_locals (builder ∷ IntType ∷ []) ((0, []) ∷ (1, IntType ∷ []) ∷ (4, []) ∷ (5, IntType ∷ [])
    ∷ (6, builder ∷ IntType ∷ []) ∷ (9, string ∷ IntType ∷ []) ∷ (12, IntType ∷ IntType ∷ []) ∷ (15, [])
    ∷ (18, Uninitialised 15 (codes "java/lang/StringIndexOutOfBoundsException") ∷ [])
    ∷ (
      19,
      Uninitialised 15 (codes "java/lang/StringIndexOutOfBoundsException")
          ∷ Uninitialised 15 (codes "java/lang/StringIndexOutOfBoundsException")
          ∷ [],
    ) ∷ (22, of (codes "java/lang/StringIndexOutOfBoundsException") ∷ []) ∷ (23, []) ∷ (24, builder ∷ [])
    ∷ (25, IntType ∷ builder ∷ []) ∷ (26, IntType ∷ IntType ∷ builder ∷ [])
    ∷ (27, IntType ∷ IntType ∷ IntType ∷ builder ∷ []) ∷ (28, IntType ∷ IntType ∷ builder ∷ [])
    ∷ (30, string ∷ IntType ∷ IntType ∷ builder ∷ []) ∷ (33, builder ∷ []) ∷ [])

-- StringBuilder.delete(II)Ljava/lang/StringBuilder;
abbrev pub string_builder_delete_types : List (ℕ × FrameType)
string_builder_delete_types =
    with_locals (builder ∷ IntType ∷ IntType ∷ []) ((0, []) ∷ (1, builder ∷ []) ∷ (2, IntType ∷ builder ∷ [])
    ∷ (3, IntType ∷ IntType ∷ builder ∷ []) ∷ (5, string ∷ IntType ∷ IntType ∷ builder ∷ []) ∷ (8, builder ∷ []) ∷ [])

-- StringBuilder.replace(IILjava/lang/String;)Ljava/lang/StringBuilder;
abbrev pub string_builder_replace_types : List (ℕ × FrameType)
string_builder_replace_types =
    with_locals (builder ∷ IntType ∷ IntType ∷ string ∷ Unusable ∷ []) ((0, []) ∷ (1, IntType ∷ [])
    ∷ (2, builder ∷ IntType ∷ []) ∷ (5, string ∷ IntType ∷ []) ∷ (8, IntType ∷ IntType ∷ []) ∷ (11, [])
    ∷ (12, IntType ∷ []) ∷ (15, []) ∷ (16, builder ∷ []) ∷ (19, string ∷ []) ∷ (22, IntType ∷ []) ∷ [])
    ++ with_locals (builder ∷ IntType ∷ IntType ∷ string ∷ IntType ∷ []) ((24, []) ∷ (25, IntType ∷ []) ∷ (28, [])
    ∷ (29, IntType ∷ []) ∷ (30, builder ∷ IntType ∷ []) ∷ (33, string ∷ IntType ∷ [])
    ∷ (36, IntType ∷ IntType ∷ []) ∷ (39, []) ∷ (40, IntType ∷ []) ∷ (42, IntType ∷ IntType ∷ []) ∷ (45, [])
    ∷ (48, Uninitialised 45 (codes "java/lang/StringIndexOutOfBoundsException") ∷ [])
    ∷ (
      49,
      Uninitialised 45 (codes "java/lang/StringIndexOutOfBoundsException")
          ∷ Uninitialised 45 (codes "java/lang/StringIndexOutOfBoundsException")
          ∷ [],
    ) ∷ (52, of (codes "java/lang/StringIndexOutOfBoundsException") ∷ []) ∷ (53, []) ∷ (54, builder ∷ [])
    ∷ (55, builder ∷ builder ∷ []) ∷ (58, string ∷ builder ∷ []) ∷ (59, IntType ∷ string ∷ builder ∷ [])
    ∷ (60, IntType ∷ IntType ∷ string ∷ builder ∷ []) ∷ (63, string ∷ builder ∷ [])
    ∷ (64, string ∷ string ∷ builder ∷ []) ∷ (67, string ∷ builder ∷ []) ∷ (68, builder ∷ string ∷ builder ∷ [])
    ∷ (71, string ∷ string ∷ builder ∷ []) ∷ (73, IntType ∷ string ∷ string ∷ builder ∷ [])
    ∷ (76, string ∷ string ∷ builder ∷ []) ∷ (79, string ∷ builder ∷ []) ∷ (82, []) ∷ (83, builder ∷ []) ∷ [])

-- StringBuilder.insert(ILjava/lang/String;)Ljava/lang/StringBuilder;
abbrev pub string_builder_insert_types : List (ℕ × FrameType)
string_builder_insert_types =
    with_locals (builder ∷ IntType ∷ string ∷ []) ((0, []) ∷ (1, builder ∷ []) ∷ (2, IntType ∷ builder ∷ [])
    ∷ (3, IntType ∷ IntType ∷ builder ∷ []) ∷ (4, string ∷ IntType ∷ IntType ∷ builder ∷ [])
    ∷ (7, IntType ∷ IntType ∷ builder ∷ []) ∷ (9, string ∷ IntType ∷ IntType ∷ builder ∷ [])
    ∷ (12, IntType ∷ IntType ∷ builder ∷ []) ∷ (13, string ∷ IntType ∷ IntType ∷ builder ∷ [])
    ∷ (16, builder ∷ []) ∷ [])

-- StringBuilder.insert(ILjava/lang/Object;)Ljava/lang/StringBuilder;
abbrev pub string_builder_insert_2_types : List (ℕ × FrameType)
string_builder_insert_2_types =
    with_locals (builder ∷ IntType ∷ object ∷ []) ((0, []) ∷ (1, builder ∷ []) ∷ (2, IntType ∷ builder ∷ [])
    ∷ (3, object ∷ IntType ∷ builder ∷ []) ∷ (6, string ∷ IntType ∷ builder ∷ []) ∷ (9, builder ∷ []) ∷ [])

-- StringBuilder.insert(I[C)Ljava/lang/StringBuilder;
abbrev pub string_builder_insert_3_types : List (ℕ × FrameType)
string_builder_insert_3_types =
    with_locals (builder ∷ IntType ∷ OfType (PrimitiveArray Char) ∷ []) ((0, []) ∷ (1, builder ∷ [])
    ∷ (2, IntType ∷ builder ∷ []) ∷ (3, IntType ∷ IntType ∷ builder ∷ [])
    ∷ (4, OfType (PrimitiveArray Char) ∷ IntType ∷ IntType ∷ builder ∷ [])
    ∷ (7, string ∷ IntType ∷ IntType ∷ builder ∷ []) ∷ (10, builder ∷ []) ∷ [])

-- StringBuilder.insert(I[CII)Ljava/lang/StringBuilder;
abbrev pub string_builder_insert_4_types : List (ℕ × FrameType)
string_builder_insert_4_types =
    with_locals (builder ∷ IntType ∷ OfType (PrimitiveArray Char) ∷ IntType ∷ IntType ∷ []) ((0, [])
    ∷ (1, builder ∷ []) ∷ (2, IntType ∷ builder ∷ []) ∷ (3, IntType ∷ IntType ∷ builder ∷ [])
    ∷ (4, OfType (PrimitiveArray Char) ∷ IntType ∷ IntType ∷ builder ∷ [])
    ∷ (5, IntType ∷ OfType (PrimitiveArray Char) ∷ IntType ∷ IntType ∷ builder ∷ [])
    ∷ (7, IntType ∷ IntType ∷ OfType (PrimitiveArray Char) ∷ IntType ∷ IntType ∷ builder ∷ [])
    ∷ (10, string ∷ IntType ∷ IntType ∷ builder ∷ []) ∷ (13, builder ∷ []) ∷ [])

-- StringBuilder.insert(ILjava/lang/CharSequence;)Ljava/lang/StringBuilder;
abbrev pub string_builder_insert_5_types : List (ℕ × FrameType)
string_builder_insert_5_types =
    with_locals (builder ∷ IntType ∷ object ∷ []) ((0, []) ∷ (1, builder ∷ []) ∷ (2, IntType ∷ builder ∷ [])
    ∷ (3, IntType ∷ IntType ∷ builder ∷ []) ∷ (4, object ∷ IntType ∷ IntType ∷ builder ∷ [])
    ∷ (7, IntType ∷ IntType ∷ builder ∷ []) ∷ (9, string ∷ IntType ∷ IntType ∷ builder ∷ [])
    ∷ (12, IntType ∷ IntType ∷ builder ∷ []) ∷ (13, object ∷ IntType ∷ IntType ∷ builder ∷ [])
    ∷ (18, string ∷ IntType ∷ IntType ∷ builder ∷ []) ∷ (21, builder ∷ []) ∷ [])

-- StringBuilder.insert(ILjava/lang/CharSequence;II)Ljava/lang/StringBuilder;
abbrev pub string_builder_insert_6_types : List (ℕ × FrameType)
string_builder_insert_6_types =
    with_locals (builder ∷ IntType ∷ object ∷ IntType ∷ IntType ∷ Unusable ∷ []) ((0, []) ∷ (1, object ∷ [])
    ∷ (4, []) ∷ (6, string ∷ []) ∷ (9, []) ∷ (10, object ∷ []) ∷ (15, string ∷ []) ∷ [])
    ++ with_locals (builder ∷ IntType ∷ object ∷ IntType ∷ IntType ∷ string ∷ []) ((17, []) ∷ (18, IntType ∷ [])
    ∷ (21, []) ∷ (22, IntType ∷ []) ∷ (23, builder ∷ IntType ∷ []) ∷ (26, string ∷ IntType ∷ [])
    ∷ (29, IntType ∷ IntType ∷ []) ∷ (32, []) ∷ (33, IntType ∷ []) ∷ (36, []) ∷ (37, IntType ∷ [])
    ∷ (39, IntType ∷ IntType ∷ []) ∷ (42, []) ∷ (44, IntType ∷ []) ∷ (46, string ∷ IntType ∷ [])
    ∷ (49, IntType ∷ IntType ∷ []) ∷ (52, [])
    ∷ (55, Uninitialised 52 (codes "java/lang/IndexOutOfBoundsException") ∷ [])
    ∷ (
      56,
      Uninitialised 52 (codes "java/lang/IndexOutOfBoundsException")
          ∷ Uninitialised 52 (codes "java/lang/IndexOutOfBoundsException")
          ∷ [],
    ) ∷ (59, of (codes "java/lang/IndexOutOfBoundsException") ∷ []) ∷ (60, []) ∷ (61, builder ∷ [])
    ∷ (62, IntType ∷ builder ∷ []) ∷ (63, IntType ∷ IntType ∷ builder ∷ [])
    ∷ (65, string ∷ IntType ∷ IntType ∷ builder ∷ []) ∷ (66, IntType ∷ string ∷ IntType ∷ IntType ∷ builder ∷ [])
    ∷ (68, IntType ∷ IntType ∷ string ∷ IntType ∷ IntType ∷ builder ∷ [])
    ∷ (71, string ∷ IntType ∷ IntType ∷ builder ∷ []) ∷ (74, builder ∷ []) ∷ [])

-- StringBuilder.insert(IC)Ljava/lang/StringBuilder;
abbrev pub string_builder_insert_7_types : List (ℕ × FrameType)
string_builder_insert_7_types =
    with_locals (builder ∷ IntType ∷ IntType ∷ []) ((0, []) ∷ (1, builder ∷ []) ∷ (2, IntType ∷ builder ∷ [])
    ∷ (3, IntType ∷ IntType ∷ builder ∷ []) ∷ (4, IntType ∷ IntType ∷ IntType ∷ builder ∷ [])
    ∷ (7, string ∷ IntType ∷ IntType ∷ builder ∷ []) ∷ (10, builder ∷ []) ∷ [])

-- StringBuilder.insert(II)Ljava/lang/StringBuilder;
abbrev pub string_builder_insert_8_types : List (ℕ × FrameType)
string_builder_insert_8_types =
    with_locals (builder ∷ IntType ∷ IntType ∷ []) ((0, []) ∷ (1, builder ∷ []) ∷ (2, IntType ∷ builder ∷ [])
    ∷ (3, IntType ∷ IntType ∷ builder ∷ []) ∷ (4, IntType ∷ IntType ∷ IntType ∷ builder ∷ [])
    ∷ (7, string ∷ IntType ∷ IntType ∷ builder ∷ []) ∷ (10, builder ∷ []) ∷ [])

-- StringBuilder.insert(IZ)Ljava/lang/StringBuilder;
abbrev pub string_builder_insert_9_types : List (ℕ × FrameType)
string_builder_insert_9_types =
    with_locals (builder ∷ IntType ∷ IntType ∷ []) ((0, []) ∷ (1, builder ∷ []) ∷ (2, IntType ∷ builder ∷ [])
    ∷ (3, IntType ∷ IntType ∷ builder ∷ []) ∷ (4, IntType ∷ IntType ∷ IntType ∷ builder ∷ [])
    ∷ (7, string ∷ IntType ∷ IntType ∷ builder ∷ []) ∷ (10, builder ∷ []) ∷ [])

-- StringBuilder.indexOf(Ljava/lang/String;)I
abbrev pub string_builder_index_of_types : List (ℕ × FrameType)
string_builder_index_of_types =
    with_locals (builder ∷ string ∷ []) ((0, []) ∷ (1, builder ∷ []) ∷ (4, string ∷ [])
    ∷ (5, string ∷ string ∷ []) ∷ (8, IntType ∷ []) ∷ [])

-- StringBuilder.indexOf(Ljava/lang/String;I)I
abbrev pub string_builder_index_of_2_types : List (ℕ × FrameType)
string_builder_index_of_2_types =
    with_locals (builder ∷ string ∷ IntType ∷ []) ((0, []) ∷ (1, builder ∷ []) ∷ (4, string ∷ [])
    ∷ (5, string ∷ string ∷ []) ∷ (6, IntType ∷ string ∷ string ∷ []) ∷ (9, IntType ∷ []) ∷ [])

-- StringBuilder.lastIndexOf(Ljava/lang/String;)I
abbrev pub string_builder_last_index_of_types : List (ℕ × FrameType)
string_builder_last_index_of_types =
    with_locals (builder ∷ string ∷ []) ((0, []) ∷ (1, builder ∷ []) ∷ (4, string ∷ [])
    ∷ (5, string ∷ string ∷ []) ∷ (8, IntType ∷ []) ∷ [])

-- StringBuilder.lastIndexOf(Ljava/lang/String;I)I
abbrev pub string_builder_last_index_of_2_types : List (ℕ × FrameType)
string_builder_last_index_of_2_types =
    with_locals (builder ∷ string ∷ IntType ∷ []) ((0, []) ∷ (1, builder ∷ []) ∷ (4, string ∷ [])
    ∷ (5, string ∷ string ∷ []) ∷ (6, IntType ∷ string ∷ string ∷ []) ∷ (9, IntType ∷ []) ∷ [])

-- StringBuilder.reverse()Ljava/lang/StringBuilder;
abbrev pub string_builder_reverse_types : List (ℕ × FrameType)
string_builder_reverse_types =
    with_locals (builder ∷ Unusable ∷ Unusable ∷ Unusable ∷ Unusable ∷ []) ((0, [])
    ∷ (3, Uninitialised 0 (codes "java/lang/StringBuilder") ∷ [])
    ∷ (
      4,
      Uninitialised 0 (codes "java/lang/StringBuilder")
          ∷ Uninitialised 0 (codes "java/lang/StringBuilder")
          ∷ [],
    ) ∷ (7, builder ∷ []) ∷ [])
    ++ (with_locals (builder ∷ builder ∷ Unusable ∷ Unusable ∷ Unusable ∷ []) ((8, []) ∷ (9, builder ∷ [])
    ∷ (12, string ∷ []) ∷ (15, IntType ∷ []) ∷ (16, IntType ∷ IntType ∷ []) ∷ (17, IntType ∷ []) ∷ [])
    ++ (with_locals (builder ∷ builder ∷ IntType ∷ Unusable ∷ Unusable ∷ []) ((18, []) ∷ (19, IntType ∷ [])
    ∷ (22, []) ∷ (23, builder ∷ []) ∷ (26, string ∷ []) ∷ (27, IntType ∷ string ∷ []) ∷ (30, IntType ∷ []) ∷ [])
    ++ (with_locals (builder ∷ builder ∷ IntType ∷ IntType ∷ Unusable ∷ []) ((31, []) ∷ (32, IntType ∷ [])
    ∷ (34, IntType ∷ IntType ∷ []) ∷ (37, []) ∷ (38, IntType ∷ []) ∷ (40, IntType ∷ IntType ∷ []) ∷ (43, [])
    ∷ (44, IntType ∷ []) ∷ (47, []) ∷ (48, builder ∷ []) ∷ (51, string ∷ []) ∷ (52, IntType ∷ string ∷ [])
    ∷ (53, IntType ∷ IntType ∷ string ∷ []) ∷ (54, IntType ∷ string ∷ []) ∷ (57, IntType ∷ []) ∷ [])
    ++ (with_locals (builder ∷ builder ∷ IntType ∷ IntType ∷ IntType ∷ []) ((59, []) ∷ (61, IntType ∷ [])
    ∷ (63, IntType ∷ IntType ∷ []) ∷ (66, []) ∷ (68, IntType ∷ []) ∷ (70, IntType ∷ IntType ∷ []) ∷ (73, [])
    ∷ (74, builder ∷ []) ∷ (76, IntType ∷ builder ∷ []) ∷ (79, builder ∷ []) ∷ (80, []) ∷ [])
    ++ (with_locals (builder ∷ builder ∷ IntType ∷ IntType ∷ Unusable ∷ []) ((83, []) ∷ (84, builder ∷ [])
    ∷ (85, IntType ∷ builder ∷ []) ∷ (88, builder ∷ []) ∷ (89, []) ∷ (92, []) ∷ [])
    ++ with_locals (builder ∷ builder ∷ IntType ∷ Unusable ∷ Unusable ∷ []) ((95, []) ∷ (96, builder ∷ [])
    ∷ (97, builder ∷ builder ∷ []) ∷ (100, string ∷ builder ∷ []) ∷ (103, []) ∷ (104, builder ∷ []) ∷ []))))))

-- StringBuilder.substring(I)Ljava/lang/String;
abbrev pub string_builder_substring_types : List (ℕ × FrameType)
string_builder_substring_types =
    with_locals (builder ∷ IntType ∷ []) ((0, []) ∷ (1, builder ∷ []) ∷ (4, string ∷ [])
    ∷ (5, IntType ∷ string ∷ []) ∷ (8, string ∷ []) ∷ [])

-- StringBuilder.substring(II)Ljava/lang/String;
abbrev pub string_builder_substring_2_types : List (ℕ × FrameType)
string_builder_substring_2_types =
    with_locals (builder ∷ IntType ∷ IntType ∷ []) ((0, []) ∷ (1, builder ∷ []) ∷ (4, string ∷ [])
    ∷ (5, IntType ∷ string ∷ []) ∷ (6, IntType ∷ IntType ∷ string ∷ []) ∷ (9, string ∷ []) ∷ [])

-- StringBuilder.subSequence(II)Ljava/lang/CharSequence;
abbrev pub string_builder_sub_sequence_types : List (ℕ × FrameType)
string_builder_sub_sequence_types =
    with_locals (builder ∷ IntType ∷ IntType ∷ []) ((0, []) ∷ (1, builder ∷ []) ∷ (4, string ∷ [])
    ∷ (5, IntType ∷ string ∷ []) ∷ (6, IntType ∷ IntType ∷ string ∷ []) ∷ (9, string ∷ []) ∷ [])

abbrev pub string_builder_typings : List (Member × List (ℕ × FrameType))
string_builder_typings =
    (member java_lang_string_builder (codes "<init>") (codes "(I)V"), string_builder_init_types)
    ∷ (member java_lang_string_builder (codes "<init>") (codes "(Ljava/lang/CharSequence;)V"), string_builder_init_2_types)
    ∷ (member java_lang_string_builder (codes "append") (codes "(Ljava/lang/Object;)Ljava/lang/StringBuilder;"), string_builder_append_types)
    ∷ (member java_lang_string_builder (codes "append") (codes "(Z)Ljava/lang/StringBuilder;"), string_builder_append_2_types)
    ∷ (member java_lang_string_builder (codes "append") (codes "([C)Ljava/lang/StringBuilder;"), string_builder_append_3_types)
    ∷ (member java_lang_string_builder (codes "append") (codes "([CII)Ljava/lang/StringBuilder;"), string_builder_append_4_types)
    ∷ (member java_lang_string_builder (codes "append") (codes "(Ljava/lang/CharSequence;)Ljava/lang/StringBuilder;"), string_builder_append_5_types)
    ∷ (member java_lang_string_builder (codes "append") (codes "(Ljava/lang/CharSequence;II)Ljava/lang/StringBuilder;"), string_builder_append_6_types)
    ∷ (member java_lang_string_builder (codes "length") (codes "()I"), string_builder_length_types)
    ∷ (member java_lang_string_builder (codes "charAt") (codes "(I)C"), string_builder_char_at_types)
    ∷ (member java_lang_string_builder (codes "capacity") (codes "()I"), string_builder_capacity_types)
    ∷ (member java_lang_string_builder (codes "ensureCapacity") (codes "(I)V"), string_builder_ensure_capacity_types)
    ∷ (member java_lang_string_builder (codes "trimToSize") (codes "()V"), string_builder_trim_to_size_types)
    ∷ (member java_lang_string_builder (codes "setLength") (codes "(I)V"), string_builder_set_length_types)
    ∷ (member java_lang_string_builder (codes "getChars") (codes "(II[CI)V"), string_builder_get_chars_types)
    ∷ (member java_lang_string_builder (codes "setCharAt") (codes "(IC)V"), string_builder_set_char_at_types)
    ∷ (member java_lang_string_builder (codes "deleteCharAt") (codes "(I)Ljava/lang/StringBuilder;"), string_builder_delete_char_at_types)
    ∷ (member java_lang_string_builder (codes "delete") (codes "(II)Ljava/lang/StringBuilder;"), string_builder_delete_types)
    ∷ (member java_lang_string_builder (codes "replace") (codes "(IILjava/lang/String;)Ljava/lang/StringBuilder;"), string_builder_replace_types)
    ∷ (member java_lang_string_builder (codes "insert") (codes "(ILjava/lang/String;)Ljava/lang/StringBuilder;"), string_builder_insert_types)
    ∷ (member java_lang_string_builder (codes "insert") (codes "(ILjava/lang/Object;)Ljava/lang/StringBuilder;"), string_builder_insert_2_types)
    ∷ (member java_lang_string_builder (codes "insert") (codes "(I[C)Ljava/lang/StringBuilder;"), string_builder_insert_3_types)
    ∷ (member java_lang_string_builder (codes "insert") (codes "(I[CII)Ljava/lang/StringBuilder;"), string_builder_insert_4_types)
    ∷ (member java_lang_string_builder (codes "insert") (codes "(ILjava/lang/CharSequence;)Ljava/lang/StringBuilder;"), string_builder_insert_5_types)
    ∷ (member java_lang_string_builder (codes "insert") (codes "(ILjava/lang/CharSequence;II)Ljava/lang/StringBuilder;"), string_builder_insert_6_types)
    ∷ (member java_lang_string_builder (codes "insert") (codes "(IC)Ljava/lang/StringBuilder;"), string_builder_insert_7_types)
    ∷ (member java_lang_string_builder (codes "insert") (codes "(II)Ljava/lang/StringBuilder;"), string_builder_insert_8_types)
    ∷ (member java_lang_string_builder (codes "insert") (codes "(IZ)Ljava/lang/StringBuilder;"), string_builder_insert_9_types)
    ∷ (member java_lang_string_builder (codes "indexOf") (codes "(Ljava/lang/String;)I"), string_builder_index_of_types)
    ∷ (member java_lang_string_builder (codes "indexOf") (codes "(Ljava/lang/String;I)I"), string_builder_index_of_2_types)
    ∷ (member java_lang_string_builder (codes "lastIndexOf") (codes "(Ljava/lang/String;)I"), string_builder_last_index_of_types)
    ∷ (member java_lang_string_builder (codes "lastIndexOf") (codes "(Ljava/lang/String;I)I"), string_builder_last_index_of_2_types)
    ∷ (member java_lang_string_builder (codes "reverse") (codes "()Ljava/lang/StringBuilder;"), string_builder_reverse_types)
    ∷ (member java_lang_string_builder (codes "substring") (codes "(I)Ljava/lang/String;"), string_builder_substring_types)
    ∷ (member java_lang_string_builder (codes "substring") (codes "(II)Ljava/lang/String;"), string_builder_substring_2_types)
    ∷ (member java_lang_string_builder (codes "subSequence") (codes "(II)Ljava/lang/CharSequence;"), string_builder_sub_sequence_types)
    ∷ []
