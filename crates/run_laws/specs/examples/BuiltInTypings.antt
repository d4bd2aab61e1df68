-- Typings of the methods with code of the built-in classes, each by its list of frame types.
-- Made by `tools/build-built-in` of the class files of builtin/classes. Not to be edited.
use Rattle.std.specs.Prelude.{◌≡◌, ℕ, List, [], ◌∷◌, ◌++◌, Some, IsTrue, is_some, codes}
use Rattle.model.specs.Names.{Member, java_lang_object, java_lang_class, java_lang_system, java_lang_thread, java_lang_error, java_io_print_stream}
use Rattle.model.specs.Classes.{Program, Body, class_of, body_of}
use Rattle.model.specs.ReferenceTypes.{ClassType, PrimitiveArray, ReferenceArray, Boolean, Char, Byte, Short, Int}
use Rattle.model.specs.Types.{Unusable, IntType, NullType, OfType, Uninitialised, UninitialisedThis}
use Rattle.model.specs.TypeOrder.{FrameType}
use Rattle.model.specs.Typing.{HasTyping}
use Rattle.run_laws.specs.examples.Typings.{object, stream, thread}
use Rattle.run_laws.specs.examples.FrameTypes.{string, class, throwable, of, with_locals, before_this, member}
use Rattle.run_laws.specs.examples.StringTypings.{string_typings}
use Rattle.run_laws.specs.examples.ThrowableTypings.{throwable_typings}
use Rattle.run_laws.specs.examples.StringBuilderTypings.{string_builder_typings}

-- Object.equals(Ljava/lang/Object;)Z
abbrev pub object_equals_types : List (ℕ × FrameType)
object_equals_types =
    with_locals (object ∷ object ∷ []) ((0, []) ∷ (1, object ∷ []) ∷ (2, object ∷ object ∷ []) ∷ (5, [])
    ∷ (6, IntType ∷ []) ∷ (9, []) ∷ (10, IntType ∷ []) ∷ [])

-- Object.toString()Ljava/lang/String;
abbrev pub object_to_string_types : List (ℕ × FrameType)
object_to_string_types =
    with_locals (object ∷ []) ((0, []) ∷ (1, object ∷ []) ∷ (2, object ∷ object ∷ [])
    ∷ (5, IntType ∷ object ∷ []) ∷ (8, string ∷ []) ∷ [])

abbrev pub object_typings : List (Member × List (ℕ × FrameType))
object_typings =
    (member java_lang_object (codes "equals") (codes "(Ljava/lang/Object;)Z"), object_equals_types)
    ∷ (member java_lang_object (codes "toString") (codes "()Ljava/lang/String;"), object_to_string_types)
    ∷ []

-- Thread.run()V
abbrev pub thread_run_types : List (ℕ × FrameType)
thread_run_types =
    with_locals (thread ∷ []) ((0, []) ∷ (1, thread ∷ []) ∷ (4, object ∷ []) ∷ (7, []) ∷ (8, thread ∷ [])
    ∷ (11, object ∷ []) ∷ (16, []) ∷ [])

-- Thread.getPriority()I
abbrev pub thread_get_priority_types : List (ℕ × FrameType)
thread_get_priority_types =
    with_locals (thread ∷ []) ((0, []) ∷ (1, thread ∷ []) ∷ (4, IntType ∷ []) ∷ (7, []) ∷ (8, IntType ∷ [])
    ∷ (11, []) ∷ (12, thread ∷ []) ∷ (15, IntType ∷ []) ∷ [])

-- Thread.setPriority(I)V
abbrev pub thread_set_priority_types : List (ℕ × FrameType)
thread_set_priority_types =
    with_locals (thread ∷ IntType ∷ []) ((0, []) ∷ (1, IntType ∷ []) ∷ (2, IntType ∷ IntType ∷ []) ∷ (5, [])
    ∷ (6, IntType ∷ []) ∷ (8, IntType ∷ IntType ∷ []) ∷ (11, [])
    ∷ (14, Uninitialised 11 (codes "java/lang/IllegalArgumentException") ∷ [])
    ∷ (
      15,
      Uninitialised 11 (codes "java/lang/IllegalArgumentException")
          ∷ Uninitialised 11 (codes "java/lang/IllegalArgumentException")
          ∷ [],
    ) ∷ (18, of (codes "java/lang/IllegalArgumentException") ∷ []) ∷ (19, []) ∷ (20, thread ∷ [])
    ∷ (21, IntType ∷ thread ∷ []) ∷ (24, []) ∷ [])

-- Thread.toString()Ljava/lang/String;
abbrev pub thread_to_string_types : List (ℕ × FrameType)
thread_to_string_types =
    with_locals (thread ∷ Unusable ∷ []) ((0, []) ∷ (2, string ∷ []) ∷ (3, thread ∷ string ∷ [])
    ∷ (6, string ∷ string ∷ []) ∷ (9, string ∷ []) ∷ (11, string ∷ string ∷ []) ∷ (14, string ∷ []) ∷ [])
    ++ with_locals (thread ∷ string ∷ []) ((15, []) ∷ (16, string ∷ []) ∷ (17, thread ∷ string ∷ [])
    ∷ (20, IntType ∷ string ∷ []) ∷ (23, string ∷ string ∷ []) ∷ (26, string ∷ []) ∷ (28, string ∷ string ∷ [])
    ∷ (31, string ∷ []) ∷ [])

abbrev pub thread_typings : List (Member × List (ℕ × FrameType))
thread_typings =
    (member java_lang_thread (codes "run") (codes "()V"), thread_run_types)
    ∷ (member java_lang_thread (codes "getPriority") (codes "()I"), thread_get_priority_types)
    ∷ (member java_lang_thread (codes "setPriority") (codes "(I)V"), thread_set_priority_types)
    ∷ (member java_lang_thread (codes "toString") (codes "()Ljava/lang/String;"), thread_to_string_types)
    ∷ []

-- Class.getSimpleName()Ljava/lang/String;
abbrev pub class_get_simple_name_types : List (ℕ × FrameType)
class_get_simple_name_types =
    with_locals (class ∷ Unusable ∷ Unusable ∷ Unusable ∷ Unusable ∷ []) ((0, []) ∷ (1, class ∷ [])
    ∷ (4, string ∷ []) ∷ [])
    ++ (with_locals (class ∷ string ∷ Unusable ∷ Unusable ∷ Unusable ∷ []) ((5, []) ∷ (6, string ∷ [])
    ∷ (8, IntType ∷ string ∷ []) ∷ (11, IntType ∷ []) ∷ [])
    ++ (with_locals (class ∷ string ∷ IntType ∷ Unusable ∷ Unusable ∷ []) ((12, []) ∷ (13, string ∷ [])
    ∷ (15, IntType ∷ string ∷ []) ∷ (18, IntType ∷ []) ∷ [])
    ++ (with_locals (class ∷ string ∷ IntType ∷ IntType ∷ Unusable ∷ []) ((19, []) ∷ (20, IntType ∷ [])
    ∷ (21, IntType ∷ IntType ∷ []) ∷ (24, []) ∷ (25, IntType ∷ []) ∷ (26, IntType ∷ IntType ∷ [])
    ∷ (27, IntType ∷ []) ∷ (30, []) ∷ (31, IntType ∷ []) ∷ (32, IntType ∷ IntType ∷ []) ∷ (33, IntType ∷ []) ∷ [])
    ++ with_locals (class ∷ string ∷ IntType ∷ IntType ∷ IntType ∷ []) ((35, []) ∷ (37, IntType ∷ [])
    ∷ (38, string ∷ IntType ∷ []) ∷ (41, IntType ∷ IntType ∷ []) ∷ (44, []) ∷ (45, string ∷ [])
    ∷ (47, IntType ∷ string ∷ []) ∷ (50, IntType ∷ []) ∷ (52, IntType ∷ IntType ∷ []) ∷ (55, [])
    ∷ (56, string ∷ []) ∷ (58, IntType ∷ string ∷ []) ∷ (61, IntType ∷ []) ∷ (63, IntType ∷ IntType ∷ [])
    ∷ (66, []) ∷ (69, []) ∷ (72, []) ∷ (73, string ∷ []) ∷ (75, IntType ∷ string ∷ []) ∷ (78, string ∷ []) ∷ []))))

-- Class.toString()Ljava/lang/String;
abbrev pub class_to_string_types : List (ℕ × FrameType)
class_to_string_types =
    with_locals (class ∷ []) ((0, []) ∷ (2, string ∷ []) ∷ (3, class ∷ string ∷ []) ∷ (6, string ∷ string ∷ [])
    ∷ (9, string ∷ []) ∷ [])

-- Class.desiredAssertionStatus()Z
abbrev pub class_desired_assertion_status_types : List (ℕ × FrameType)
class_desired_assertion_status_types =
    with_locals (class ∷ []) ((0, []) ∷ (1, IntType ∷ []) ∷ [])

abbrev pub class_typings : List (Member × List (ℕ × FrameType))
class_typings =
    (member java_lang_class (codes "getSimpleName") (codes "()Ljava/lang/String;"), class_get_simple_name_types)
    ∷ (member java_lang_class (codes "toString") (codes "()Ljava/lang/String;"), class_to_string_types)
    ∷ (member java_lang_class (codes "desiredAssertionStatus") (codes "()Z"), class_desired_assertion_status_types)
    ∷ []

-- System.lineSeparator()Ljava/lang/String;
abbrev pub system_line_separator_types : List (ℕ × FrameType)
system_line_separator_types =
    with_locals [] ((0, []) ∷ (2, string ∷ []) ∷ [])

-- System.arraycopy(Ljava/lang/Object;ILjava/lang/Object;II)V
abbrev pub system_arraycopy_types : List (ℕ × FrameType)
system_arraycopy_types =
    with_locals (object ∷ IntType ∷ object ∷ IntType ∷ IntType ∷ Unusable ∷ Unusable ∷ Unusable ∷ Unusable ∷ Unusable ∷ []) (
    (0, []) ∷ (1, object ∷ []) ∷ (4, []) ∷ (5, object ∷ []) ∷ (8, [])
    ∷ (11, Uninitialised 8 (codes "java/lang/NullPointerException") ∷ [])
    ∷ (
      12,
      Uninitialised 8 (codes "java/lang/NullPointerException")
          ∷ Uninitialised 8 (codes "java/lang/NullPointerException")
          ∷ [],
    ) ∷ (15, of (codes "java/lang/NullPointerException") ∷ []) ∷ (16, []) ∷ (17, IntType ∷ []) ∷ [])
    ++ (with_locals (object ∷ IntType ∷ object ∷ IntType ∷ IntType ∷ IntType ∷ Unusable ∷ Unusable ∷ Unusable ∷ Unusable ∷ []) (
    (19, []) ∷ (21, IntType ∷ []) ∷ [])
    ++ (with_locals (object ∷ IntType ∷ object ∷ IntType ∷ IntType ∷ IntType ∷ IntType ∷ Unusable ∷ Unusable ∷ Unusable ∷ []) (
    (23, []) ∷ (24, IntType ∷ []) ∷ [])
    ++ (with_locals (object ∷ IntType ∷ object ∷ IntType ∷ IntType ∷ IntType ∷ IntType ∷ IntType ∷ Unusable ∷ Unusable ∷ []) (
    (26, []) ∷ (27, object ∷ []) ∷ (28, object ∷ object ∷ []) ∷ (31, []) ∷ (32, IntType ∷ [])
    ∷ (33, IntType ∷ IntType ∷ []) ∷ (36, []) ∷ (38, IntType ∷ []) ∷ (39, IntType ∷ IntType ∷ [])
    ∷ (40, IntType ∷ []) ∷ (42, []) ∷ (43, IntType ∷ []) ∷ (45, []) ∷ (46, IntType ∷ []) ∷ (48, [])
    ∷ (49, object ∷ []) ∷ (52, IntType ∷ []) ∷ (55, []) ∷ (56, object ∷ []) ∷ (59, IntType ∷ []) ∷ (62, [])
    ∷ (63, object ∷ []) ∷ (66, OfType (PrimitiveArray Int) ∷ []) ∷ [])
    ++ (with_locals (object ∷ IntType ∷ object ∷ IntType ∷ IntType ∷ IntType ∷ IntType ∷ IntType ∷ OfType (PrimitiveArray Int) ∷ Unusable ∷ []) (
    (68, []) ∷ (69, object ∷ []) ∷ (72, OfType (PrimitiveArray Int) ∷ []) ∷ [])
    ++ (with_locals (object ∷ IntType ∷ object ∷ IntType ∷ IntType ∷ IntType ∷ IntType ∷ IntType ∷ OfType (PrimitiveArray Int) ∷ OfType (PrimitiveArray Int) ∷ []) (
    (74, []) ∷ (76, OfType (PrimitiveArray Int) ∷ []) ∷ (77, IntType ∷ []) ∷ (78, IntType ∷ IntType ∷ [])
    ∷ (80, OfType (PrimitiveArray Int) ∷ IntType ∷ IntType ∷ []) ∷ (81, IntType ∷ IntType ∷ IntType ∷ [])
    ∷ (82, IntType ∷ IntType ∷ IntType ∷ IntType ∷ [])
    ∷ (84, IntType ∷ IntType ∷ IntType ∷ IntType ∷ IntType ∷ []) ∷ (87, []) ∷ (89, IntType ∷ [])
    ∷ (91, IntType ∷ IntType ∷ []) ∷ (94, []) ∷ (96, OfType (PrimitiveArray Int) ∷ [])
    ∷ (97, IntType ∷ OfType (PrimitiveArray Int) ∷ [])
    ∷ (99, IntType ∷ IntType ∷ OfType (PrimitiveArray Int) ∷ [])
    ∷ (100, IntType ∷ OfType (PrimitiveArray Int) ∷ [])
    ∷ (102, OfType (PrimitiveArray Int) ∷ IntType ∷ OfType (PrimitiveArray Int) ∷ [])
    ∷ (103, IntType ∷ OfType (PrimitiveArray Int) ∷ IntType ∷ OfType (PrimitiveArray Int) ∷ [])
    ∷ (105, IntType ∷ IntType ∷ OfType (PrimitiveArray Int) ∷ IntType ∷ OfType (PrimitiveArray Int) ∷ [])
    ∷ (106, IntType ∷ OfType (PrimitiveArray Int) ∷ IntType ∷ OfType (PrimitiveArray Int) ∷ [])
    ∷ (107, IntType ∷ IntType ∷ OfType (PrimitiveArray Int) ∷ []) ∷ (108, []) ∷ (110, IntType ∷ [])
    ∷ (112, IntType ∷ IntType ∷ []) ∷ (113, IntType ∷ []) ∷ (115, []) ∷ (118, []) ∷ [])
    ++ (with_locals (object ∷ IntType ∷ object ∷ IntType ∷ IntType ∷ IntType ∷ IntType ∷ IntType ∷ Unusable ∷ Unusable ∷ []) (
    (121, []) ∷ (122, object ∷ []) ∷ (125, IntType ∷ []) ∷ (128, []) ∷ (129, object ∷ []) ∷ (132, IntType ∷ [])
    ∷ (135, []) ∷ (136, object ∷ []) ∷ (139, OfType (PrimitiveArray Char) ∷ []) ∷ [])
    ++ (with_locals (object ∷ IntType ∷ object ∷ IntType ∷ IntType ∷ IntType ∷ IntType ∷ IntType ∷ OfType (PrimitiveArray Char) ∷ Unusable ∷ []) (
    (141, []) ∷ (142, object ∷ []) ∷ (145, OfType (PrimitiveArray Char) ∷ []) ∷ [])
    ++ (with_locals (object ∷ IntType ∷ object ∷ IntType ∷ IntType ∷ IntType ∷ IntType ∷ IntType ∷ OfType (PrimitiveArray Char) ∷ OfType (PrimitiveArray Char) ∷ []) (
    (147, []) ∷ (149, OfType (PrimitiveArray Char) ∷ []) ∷ (150, IntType ∷ []) ∷ (151, IntType ∷ IntType ∷ [])
    ∷ (153, OfType (PrimitiveArray Char) ∷ IntType ∷ IntType ∷ []) ∷ (154, IntType ∷ IntType ∷ IntType ∷ [])
    ∷ (155, IntType ∷ IntType ∷ IntType ∷ IntType ∷ [])
    ∷ (157, IntType ∷ IntType ∷ IntType ∷ IntType ∷ IntType ∷ []) ∷ (160, []) ∷ (162, IntType ∷ [])
    ∷ (164, IntType ∷ IntType ∷ []) ∷ (167, []) ∷ (169, OfType (PrimitiveArray Char) ∷ [])
    ∷ (170, IntType ∷ OfType (PrimitiveArray Char) ∷ [])
    ∷ (172, IntType ∷ IntType ∷ OfType (PrimitiveArray Char) ∷ [])
    ∷ (173, IntType ∷ OfType (PrimitiveArray Char) ∷ [])
    ∷ (175, OfType (PrimitiveArray Char) ∷ IntType ∷ OfType (PrimitiveArray Char) ∷ [])
    ∷ (176, IntType ∷ OfType (PrimitiveArray Char) ∷ IntType ∷ OfType (PrimitiveArray Char) ∷ [])
    ∷ (178, IntType ∷ IntType ∷ OfType (PrimitiveArray Char) ∷ IntType ∷ OfType (PrimitiveArray Char) ∷ [])
    ∷ (179, IntType ∷ OfType (PrimitiveArray Char) ∷ IntType ∷ OfType (PrimitiveArray Char) ∷ [])
    ∷ (180, IntType ∷ IntType ∷ OfType (PrimitiveArray Char) ∷ []) ∷ (181, []) ∷ (183, IntType ∷ [])
    ∷ (185, IntType ∷ IntType ∷ []) ∷ (186, IntType ∷ []) ∷ (188, []) ∷ (191, []) ∷ [])
    ++ (with_locals (object ∷ IntType ∷ object ∷ IntType ∷ IntType ∷ IntType ∷ IntType ∷ IntType ∷ Unusable ∷ Unusable ∷ []) (
    (194, []) ∷ (195, object ∷ []) ∷ (198, IntType ∷ []) ∷ (201, []) ∷ (202, object ∷ []) ∷ (205, IntType ∷ [])
    ∷ (208, []) ∷ (209, object ∷ []) ∷ (212, OfType (PrimitiveArray Byte) ∷ []) ∷ [])
    ++ (with_locals (object ∷ IntType ∷ object ∷ IntType ∷ IntType ∷ IntType ∷ IntType ∷ IntType ∷ OfType (PrimitiveArray Byte) ∷ Unusable ∷ []) (
    (214, []) ∷ (215, object ∷ []) ∷ (218, OfType (PrimitiveArray Byte) ∷ []) ∷ [])
    ++ (with_locals (object ∷ IntType ∷ object ∷ IntType ∷ IntType ∷ IntType ∷ IntType ∷ IntType ∷ OfType (PrimitiveArray Byte) ∷ OfType (PrimitiveArray Byte) ∷ []) (
    (220, []) ∷ (222, OfType (PrimitiveArray Byte) ∷ []) ∷ (223, IntType ∷ []) ∷ (224, IntType ∷ IntType ∷ [])
    ∷ (226, OfType (PrimitiveArray Byte) ∷ IntType ∷ IntType ∷ []) ∷ (227, IntType ∷ IntType ∷ IntType ∷ [])
    ∷ (228, IntType ∷ IntType ∷ IntType ∷ IntType ∷ [])
    ∷ (230, IntType ∷ IntType ∷ IntType ∷ IntType ∷ IntType ∷ []) ∷ (233, []) ∷ (235, IntType ∷ [])
    ∷ (237, IntType ∷ IntType ∷ []) ∷ (240, []) ∷ (242, OfType (PrimitiveArray Byte) ∷ [])
    ∷ (243, IntType ∷ OfType (PrimitiveArray Byte) ∷ [])
    ∷ (245, IntType ∷ IntType ∷ OfType (PrimitiveArray Byte) ∷ [])
    ∷ (246, IntType ∷ OfType (PrimitiveArray Byte) ∷ [])
    ∷ (248, OfType (PrimitiveArray Byte) ∷ IntType ∷ OfType (PrimitiveArray Byte) ∷ [])
    ∷ (249, IntType ∷ OfType (PrimitiveArray Byte) ∷ IntType ∷ OfType (PrimitiveArray Byte) ∷ [])
    ∷ (251, IntType ∷ IntType ∷ OfType (PrimitiveArray Byte) ∷ IntType ∷ OfType (PrimitiveArray Byte) ∷ [])
    ∷ (252, IntType ∷ OfType (PrimitiveArray Byte) ∷ IntType ∷ OfType (PrimitiveArray Byte) ∷ [])
    ∷ (253, IntType ∷ IntType ∷ OfType (PrimitiveArray Byte) ∷ []) ∷ (254, []) ∷ (256, IntType ∷ [])
    ∷ (258, IntType ∷ IntType ∷ []) ∷ (259, IntType ∷ []) ∷ (261, []) ∷ (264, []) ∷ [])
    ++ (with_locals (object ∷ IntType ∷ object ∷ IntType ∷ IntType ∷ IntType ∷ IntType ∷ IntType ∷ Unusable ∷ Unusable ∷ []) (
    (267, []) ∷ (268, object ∷ []) ∷ (271, IntType ∷ []) ∷ (274, []) ∷ (275, object ∷ []) ∷ (278, IntType ∷ [])
    ∷ (281, []) ∷ (282, object ∷ []) ∷ (285, OfType (PrimitiveArray Boolean) ∷ []) ∷ [])
    ++ (with_locals (object ∷ IntType ∷ object ∷ IntType ∷ IntType ∷ IntType ∷ IntType ∷ IntType ∷ OfType (PrimitiveArray Boolean) ∷ Unusable ∷ []) (
    (287, []) ∷ (288, object ∷ []) ∷ (291, OfType (PrimitiveArray Boolean) ∷ []) ∷ [])
    ++ (with_locals (object ∷ IntType ∷ object ∷ IntType ∷ IntType ∷ IntType ∷ IntType ∷ IntType ∷ OfType (PrimitiveArray Boolean) ∷ OfType (PrimitiveArray Boolean) ∷ []) (
    (293, []) ∷ (295, OfType (PrimitiveArray Boolean) ∷ []) ∷ (296, IntType ∷ []) ∷ (297, IntType ∷ IntType ∷ [])
    ∷ (299, OfType (PrimitiveArray Boolean) ∷ IntType ∷ IntType ∷ []) ∷ (300, IntType ∷ IntType ∷ IntType ∷ [])
    ∷ (301, IntType ∷ IntType ∷ IntType ∷ IntType ∷ [])
    ∷ (303, IntType ∷ IntType ∷ IntType ∷ IntType ∷ IntType ∷ []) ∷ (306, []) ∷ (308, IntType ∷ [])
    ∷ (310, IntType ∷ IntType ∷ []) ∷ (313, []) ∷ (315, OfType (PrimitiveArray Boolean) ∷ [])
    ∷ (316, IntType ∷ OfType (PrimitiveArray Boolean) ∷ [])
    ∷ (318, IntType ∷ IntType ∷ OfType (PrimitiveArray Boolean) ∷ [])
    ∷ (319, IntType ∷ OfType (PrimitiveArray Boolean) ∷ [])
    ∷ (321, OfType (PrimitiveArray Boolean) ∷ IntType ∷ OfType (PrimitiveArray Boolean) ∷ [])
    ∷ (322, IntType ∷ OfType (PrimitiveArray Boolean) ∷ IntType ∷ OfType (PrimitiveArray Boolean) ∷ [])
    ∷ (
      324,
      IntType
          ∷ IntType
          ∷ OfType (PrimitiveArray Boolean)
          ∷ IntType
          ∷ OfType (PrimitiveArray Boolean)
          ∷ [],
    ) ∷ (325, IntType ∷ OfType (PrimitiveArray Boolean) ∷ IntType ∷ OfType (PrimitiveArray Boolean) ∷ [])
    ∷ (326, IntType ∷ IntType ∷ OfType (PrimitiveArray Boolean) ∷ []) ∷ (327, []) ∷ (329, IntType ∷ [])
    ∷ (331, IntType ∷ IntType ∷ []) ∷ (332, IntType ∷ []) ∷ (334, []) ∷ (337, []) ∷ [])
    ++ (with_locals (object ∷ IntType ∷ object ∷ IntType ∷ IntType ∷ IntType ∷ IntType ∷ IntType ∷ Unusable ∷ Unusable ∷ []) (
    (340, []) ∷ (341, object ∷ []) ∷ (344, IntType ∷ []) ∷ (347, []) ∷ (348, object ∷ []) ∷ (351, IntType ∷ [])
    ∷ (354, []) ∷ (355, object ∷ []) ∷ (358, OfType (PrimitiveArray Short) ∷ []) ∷ [])
    ++ (with_locals (object ∷ IntType ∷ object ∷ IntType ∷ IntType ∷ IntType ∷ IntType ∷ IntType ∷ OfType (PrimitiveArray Short) ∷ Unusable ∷ []) (
    (360, []) ∷ (361, object ∷ []) ∷ (364, OfType (PrimitiveArray Short) ∷ []) ∷ [])
    ++ (with_locals (object ∷ IntType ∷ object ∷ IntType ∷ IntType ∷ IntType ∷ IntType ∷ IntType ∷ OfType (PrimitiveArray Short) ∷ OfType (PrimitiveArray Short) ∷ []) (
    (366, []) ∷ (368, OfType (PrimitiveArray Short) ∷ []) ∷ (369, IntType ∷ []) ∷ (370, IntType ∷ IntType ∷ [])
    ∷ (372, OfType (PrimitiveArray Short) ∷ IntType ∷ IntType ∷ []) ∷ (373, IntType ∷ IntType ∷ IntType ∷ [])
    ∷ (374, IntType ∷ IntType ∷ IntType ∷ IntType ∷ [])
    ∷ (376, IntType ∷ IntType ∷ IntType ∷ IntType ∷ IntType ∷ []) ∷ (379, []) ∷ (381, IntType ∷ [])
    ∷ (383, IntType ∷ IntType ∷ []) ∷ (386, []) ∷ (388, OfType (PrimitiveArray Short) ∷ [])
    ∷ (389, IntType ∷ OfType (PrimitiveArray Short) ∷ [])
    ∷ (391, IntType ∷ IntType ∷ OfType (PrimitiveArray Short) ∷ [])
    ∷ (392, IntType ∷ OfType (PrimitiveArray Short) ∷ [])
    ∷ (394, OfType (PrimitiveArray Short) ∷ IntType ∷ OfType (PrimitiveArray Short) ∷ [])
    ∷ (395, IntType ∷ OfType (PrimitiveArray Short) ∷ IntType ∷ OfType (PrimitiveArray Short) ∷ [])
    ∷ (397, IntType ∷ IntType ∷ OfType (PrimitiveArray Short) ∷ IntType ∷ OfType (PrimitiveArray Short) ∷ [])
    ∷ (398, IntType ∷ OfType (PrimitiveArray Short) ∷ IntType ∷ OfType (PrimitiveArray Short) ∷ [])
    ∷ (399, IntType ∷ IntType ∷ OfType (PrimitiveArray Short) ∷ []) ∷ (400, []) ∷ (402, IntType ∷ [])
    ∷ (404, IntType ∷ IntType ∷ []) ∷ (405, IntType ∷ []) ∷ (407, []) ∷ (410, []) ∷ [])
    ++ (with_locals (object ∷ IntType ∷ object ∷ IntType ∷ IntType ∷ IntType ∷ IntType ∷ IntType ∷ Unusable ∷ Unusable ∷ []) (
    (413, []) ∷ (414, object ∷ []) ∷ (417, IntType ∷ []) ∷ (420, []) ∷ (421, object ∷ []) ∷ (424, IntType ∷ [])
    ∷ (427, []) ∷ (428, object ∷ []) ∷ (431, OfType (ReferenceArray (ClassType java_lang_object)) ∷ []) ∷ [])
    ++ (with_locals (object ∷ IntType ∷ object ∷ IntType ∷ IntType ∷ IntType ∷ IntType ∷ IntType ∷ OfType (ReferenceArray (ClassType java_lang_object)) ∷ Unusable ∷ []) (
    (433, []) ∷ (434, object ∷ []) ∷ (437, OfType (ReferenceArray (ClassType java_lang_object)) ∷ []) ∷ [])
    ++ (with_locals (object ∷ IntType ∷ object ∷ IntType ∷ IntType ∷ IntType ∷ IntType ∷ IntType ∷ OfType (ReferenceArray (ClassType java_lang_object)) ∷ OfType (ReferenceArray (ClassType java_lang_object)) ∷ []) (
    (439, []) ∷ (441, OfType (ReferenceArray (ClassType java_lang_object)) ∷ []) ∷ (442, IntType ∷ [])
    ∷ (443, IntType ∷ IntType ∷ [])
    ∷ (445, OfType (ReferenceArray (ClassType java_lang_object)) ∷ IntType ∷ IntType ∷ [])
    ∷ (446, IntType ∷ IntType ∷ IntType ∷ []) ∷ (447, IntType ∷ IntType ∷ IntType ∷ IntType ∷ [])
    ∷ (449, IntType ∷ IntType ∷ IntType ∷ IntType ∷ IntType ∷ []) ∷ (452, []) ∷ (454, IntType ∷ [])
    ∷ (456, IntType ∷ IntType ∷ []) ∷ (459, [])
    ∷ (461, OfType (ReferenceArray (ClassType java_lang_object)) ∷ [])
    ∷ (462, IntType ∷ OfType (ReferenceArray (ClassType java_lang_object)) ∷ [])
    ∷ (464, IntType ∷ IntType ∷ OfType (ReferenceArray (ClassType java_lang_object)) ∷ [])
    ∷ (465, IntType ∷ OfType (ReferenceArray (ClassType java_lang_object)) ∷ [])
    ∷ (
      467,
      OfType (ReferenceArray (ClassType java_lang_object))
          ∷ IntType
          ∷ OfType (ReferenceArray (ClassType java_lang_object))
          ∷ [],
    )
    ∷ (
      468,
      IntType
          ∷ OfType (ReferenceArray (ClassType java_lang_object))
          ∷ IntType
          ∷ OfType (ReferenceArray (ClassType java_lang_object))
          ∷ [],
    )
    ∷ (
      470,
      IntType
          ∷ IntType
          ∷ OfType (ReferenceArray (ClassType java_lang_object))
          ∷ IntType
          ∷ OfType (ReferenceArray (ClassType java_lang_object))
          ∷ [],
    )
    ∷ (
      471,
      IntType
          ∷ OfType (ReferenceArray (ClassType java_lang_object))
          ∷ IntType
          ∷ OfType (ReferenceArray (ClassType java_lang_object))
          ∷ [],
    ) ∷ (472, object ∷ IntType ∷ OfType (ReferenceArray (ClassType java_lang_object)) ∷ []) ∷ (473, [])
    ∷ (475, IntType ∷ []) ∷ (477, IntType ∷ IntType ∷ []) ∷ (478, IntType ∷ []) ∷ (480, []) ∷ (483, []) ∷ [])
    ++ (with_locals (object ∷ IntType ∷ object ∷ IntType ∷ IntType ∷ IntType ∷ IntType ∷ IntType ∷ Unusable ∷ Unusable ∷ []) (
    (486, []) ∷ (489, Uninitialised 486 (codes "java/lang/ArrayStoreException") ∷ [])
    ∷ (
      490,
      Uninitialised 486 (codes "java/lang/ArrayStoreException")
          ∷ Uninitialised 486 (codes "java/lang/ArrayStoreException")
          ∷ [],
    ) ∷ (493, of (codes "java/lang/ArrayStoreException") ∷ []) ∷ [])
    ++ with_locals (object ∷ IntType ∷ object ∷ IntType ∷ IntType ∷ IntType ∷ IntType ∷ IntType ∷ object ∷ object ∷ []) (
    (494, []) ∷ []))))))))))))))))))))))

-- System.check(IIIII)V
abbrev pub system_check_types : List (ℕ × FrameType)
system_check_types =
    with_locals (IntType ∷ IntType ∷ IntType ∷ IntType ∷ IntType ∷ []) ((0, []) ∷ (1, IntType ∷ []) ∷ (4, [])
    ∷ (5, IntType ∷ []) ∷ (8, []) ∷ (10, IntType ∷ []) ∷ (13, []) ∷ (14, IntType ∷ [])
    ∷ (15, IntType ∷ IntType ∷ []) ∷ (17, IntType ∷ IntType ∷ IntType ∷ []) ∷ (18, IntType ∷ IntType ∷ [])
    ∷ (21, []) ∷ (22, IntType ∷ []) ∷ (23, IntType ∷ IntType ∷ []) ∷ (25, IntType ∷ IntType ∷ IntType ∷ [])
    ∷ (26, IntType ∷ IntType ∷ []) ∷ (29, [])
    ∷ (32, Uninitialised 29 (codes "java/lang/ArrayIndexOutOfBoundsException") ∷ [])
    ∷ (
      33,
      Uninitialised 29 (codes "java/lang/ArrayIndexOutOfBoundsException")
          ∷ Uninitialised 29 (codes "java/lang/ArrayIndexOutOfBoundsException")
          ∷ [],
    ) ∷ (36, of (codes "java/lang/ArrayIndexOutOfBoundsException") ∷ []) ∷ (37, []) ∷ [])

abbrev pub system_typings : List (Member × List (ℕ × FrameType))
system_typings =
    (member java_lang_system (codes "lineSeparator") (codes "()Ljava/lang/String;"), system_line_separator_types)
    ∷ (member java_lang_system (codes "arraycopy") (codes "(Ljava/lang/Object;ILjava/lang/Object;II)V"), system_arraycopy_types)
    ∷ (member java_lang_system (codes "check") (codes "(IIIII)V"), system_check_types)
    ∷ []

-- PrintStream.println(Z)V
abbrev pub print_stream_println_types : List (ℕ × FrameType)
print_stream_println_types =
    with_locals (stream ∷ IntType ∷ []) ((0, []) ∷ (1, stream ∷ []) ∷ (2, IntType ∷ stream ∷ [])
    ∷ (5, string ∷ stream ∷ []) ∷ (8, []) ∷ [])

-- PrintStream.println([C)V
abbrev pub print_stream_println_2_types : List (ℕ × FrameType)
print_stream_println_2_types =
    with_locals (stream ∷ OfType (PrimitiveArray Char) ∷ []) ((0, []) ∷ (1, stream ∷ [])
    ∷ (2, OfType (PrimitiveArray Char) ∷ stream ∷ []) ∷ (5, string ∷ stream ∷ []) ∷ (8, []) ∷ [])

-- PrintStream.println(Ljava/lang/Object;)V
abbrev pub print_stream_println_3_types : List (ℕ × FrameType)
print_stream_println_3_types =
    with_locals (stream ∷ object ∷ []) ((0, []) ∷ (1, stream ∷ []) ∷ (2, object ∷ stream ∷ [])
    ∷ (5, string ∷ stream ∷ []) ∷ (8, []) ∷ [])

-- PrintStream.print(Z)V
abbrev pub print_stream_print_types : List (ℕ × FrameType)
print_stream_print_types =
    with_locals (stream ∷ IntType ∷ []) ((0, []) ∷ (1, stream ∷ []) ∷ (2, IntType ∷ stream ∷ [])
    ∷ (5, string ∷ stream ∷ []) ∷ (8, []) ∷ [])

-- PrintStream.print([C)V
abbrev pub print_stream_print_2_types : List (ℕ × FrameType)
print_stream_print_2_types =
    with_locals (stream ∷ OfType (PrimitiveArray Char) ∷ []) ((0, []) ∷ (1, stream ∷ [])
    ∷ (2, OfType (PrimitiveArray Char) ∷ stream ∷ []) ∷ (5, string ∷ stream ∷ []) ∷ (8, []) ∷ [])

-- PrintStream.print(Ljava/lang/Object;)V
abbrev pub print_stream_print_3_types : List (ℕ × FrameType)
print_stream_print_3_types =
    with_locals (stream ∷ object ∷ []) ((0, []) ∷ (1, stream ∷ []) ∷ (2, object ∷ stream ∷ [])
    ∷ (5, string ∷ stream ∷ []) ∷ (8, []) ∷ [])

-- PrintStream.flush()V
abbrev pub print_stream_flush_types : List (ℕ × FrameType)
print_stream_flush_types =
    with_locals (stream ∷ []) ((0, []) ∷ [])

abbrev pub print_stream_typings : List (Member × List (ℕ × FrameType))
print_stream_typings =
    (member java_io_print_stream (codes "println") (codes "(Z)V"), print_stream_println_types)
    ∷ (member java_io_print_stream (codes "println") (codes "([C)V"), print_stream_println_2_types)
    ∷ (member java_io_print_stream (codes "println") (codes "(Ljava/lang/Object;)V"), print_stream_println_3_types)
    ∷ (member java_io_print_stream (codes "print") (codes "(Z)V"), print_stream_print_types)
    ∷ (member java_io_print_stream (codes "print") (codes "([C)V"), print_stream_print_2_types)
    ∷ (member java_io_print_stream (codes "print") (codes "(Ljava/lang/Object;)V"), print_stream_print_3_types)
    ∷ (member java_io_print_stream (codes "flush") (codes "()V"), print_stream_flush_types)
    ∷ []

-- Error.<init>(Ljava/lang/Throwable;)V
abbrev pub error_init_types : List (ℕ × FrameType)
error_init_types =
    before_this (UninitialisedThis (codes "java/lang/Error") ∷ throwable ∷ []) ((0, [])
    ∷ (1, UninitialisedThis (codes "java/lang/Error") ∷ [])
    ∷ (2, throwable ∷ UninitialisedThis (codes "java/lang/Error") ∷ []) ∷ [])
    ++ with_locals (of (codes "java/lang/Error") ∷ throwable ∷ []) ((5, []) ∷ [])

abbrev pub error_typings : List (Member × List (ℕ × FrameType))
error_typings =
    (member java_lang_error (codes "<init>") (codes "(Ljava/lang/Throwable;)V"), error_init_types)
    ∷ []

-- Exception.<init>(Ljava/lang/Throwable;)V
abbrev pub exception_init_types : List (ℕ × FrameType)
exception_init_types =
    before_this (UninitialisedThis (codes "java/lang/Exception") ∷ throwable ∷ []) ((0, [])
    ∷ (1, UninitialisedThis (codes "java/lang/Exception") ∷ [])
    ∷ (2, throwable ∷ UninitialisedThis (codes "java/lang/Exception") ∷ []) ∷ [])
    ++ with_locals (of (codes "java/lang/Exception") ∷ throwable ∷ []) ((5, []) ∷ [])

abbrev pub exception_typings : List (Member × List (ℕ × FrameType))
exception_typings =
    (member (codes "java/lang/Exception") (codes "<init>") (codes "(Ljava/lang/Throwable;)V"), exception_init_types)
    ∷ []

-- VirtualMachineError.<init>(Ljava/lang/Throwable;)V
abbrev pub virtual_machine_error_init_types : List (ℕ × FrameType)
virtual_machine_error_init_types =
    before_this (UninitialisedThis (codes "java/lang/VirtualMachineError") ∷ throwable ∷ []) ((0, [])
    ∷ (1, UninitialisedThis (codes "java/lang/VirtualMachineError") ∷ [])
    ∷ (2, throwable ∷ UninitialisedThis (codes "java/lang/VirtualMachineError") ∷ []) ∷ [])
    ++ with_locals (of (codes "java/lang/VirtualMachineError") ∷ throwable ∷ []) ((5, []) ∷ [])

abbrev pub virtual_machine_error_typings : List (Member × List (ℕ × FrameType))
virtual_machine_error_typings =
    (member (codes "java/lang/VirtualMachineError") (codes "<init>") (codes "(Ljava/lang/Throwable;)V"), virtual_machine_error_init_types)
    ∷ []

-- ExceptionInInitializerError.<init>(Ljava/lang/Throwable;)V
abbrev pub exception_in_initializer_error_init_types : List (ℕ × FrameType)
exception_in_initializer_error_init_types =
    before_this (UninitialisedThis (codes "java/lang/ExceptionInInitializerError") ∷ throwable ∷ []) ((0, [])
    ∷ (1, UninitialisedThis (codes "java/lang/ExceptionInInitializerError") ∷ [])
    ∷ (2, NullType ∷ UninitialisedThis (codes "java/lang/ExceptionInInitializerError") ∷ [])
    ∷ (3, throwable ∷ NullType ∷ UninitialisedThis (codes "java/lang/ExceptionInInitializerError") ∷ []) ∷ [])
    ++ with_locals (of (codes "java/lang/ExceptionInInitializerError") ∷ throwable ∷ []) ((6, []) ∷ [])

-- ExceptionInInitializerError.getException()Ljava/lang/Throwable;
abbrev pub exception_in_initializer_error_get_exception_types : List (ℕ × FrameType)
exception_in_initializer_error_get_exception_types =
    with_locals (of (codes "java/lang/ExceptionInInitializerError") ∷ []) ((0, [])
    ∷ (1, of (codes "java/lang/ExceptionInInitializerError") ∷ []) ∷ (4, throwable ∷ []) ∷ [])

abbrev pub exception_in_initializer_error_typings : List (Member × List (ℕ × FrameType))
exception_in_initializer_error_typings =
    (member (codes "java/lang/ExceptionInInitializerError") (codes "<init>") (codes "(Ljava/lang/Throwable;)V"), exception_in_initializer_error_init_types)
    ∷ (member (codes "java/lang/ExceptionInInitializerError") (codes "getException") (codes "()Ljava/lang/Throwable;"), exception_in_initializer_error_get_exception_types)
    ∷ []

-- RuntimeException.<init>(Ljava/lang/Throwable;)V
abbrev pub runtime_exception_init_types : List (ℕ × FrameType)
runtime_exception_init_types =
    before_this (UninitialisedThis (codes "java/lang/RuntimeException") ∷ throwable ∷ []) ((0, [])
    ∷ (1, UninitialisedThis (codes "java/lang/RuntimeException") ∷ [])
    ∷ (2, throwable ∷ UninitialisedThis (codes "java/lang/RuntimeException") ∷ []) ∷ [])
    ++ with_locals (of (codes "java/lang/RuntimeException") ∷ throwable ∷ []) ((5, []) ∷ [])

abbrev pub runtime_exception_typings : List (Member × List (ℕ × FrameType))
runtime_exception_typings =
    (member (codes "java/lang/RuntimeException") (codes "<init>") (codes "(Ljava/lang/Throwable;)V"), runtime_exception_init_types)
    ∷ []

-- IllegalArgumentException.<init>(Ljava/lang/Throwable;)V
abbrev pub illegal_argument_exception_init_types : List (ℕ × FrameType)
illegal_argument_exception_init_types =
    before_this (UninitialisedThis (codes "java/lang/IllegalArgumentException") ∷ throwable ∷ []) ((0, [])
    ∷ (1, UninitialisedThis (codes "java/lang/IllegalArgumentException") ∷ [])
    ∷ (2, throwable ∷ UninitialisedThis (codes "java/lang/IllegalArgumentException") ∷ []) ∷ [])
    ++ with_locals (of (codes "java/lang/IllegalArgumentException") ∷ throwable ∷ []) ((5, []) ∷ [])

abbrev pub illegal_argument_exception_typings : List (Member × List (ℕ × FrameType))
illegal_argument_exception_typings =
    (member (codes "java/lang/IllegalArgumentException") (codes "<init>") (codes "(Ljava/lang/Throwable;)V"), illegal_argument_exception_init_types)
    ∷ []

-- IllegalStateException.<init>(Ljava/lang/Throwable;)V
abbrev pub illegal_state_exception_init_types : List (ℕ × FrameType)
illegal_state_exception_init_types =
    before_this (UninitialisedThis (codes "java/lang/IllegalStateException") ∷ throwable ∷ []) ((0, [])
    ∷ (1, UninitialisedThis (codes "java/lang/IllegalStateException") ∷ [])
    ∷ (2, throwable ∷ UninitialisedThis (codes "java/lang/IllegalStateException") ∷ []) ∷ [])
    ++ with_locals (of (codes "java/lang/IllegalStateException") ∷ throwable ∷ []) ((5, []) ∷ [])

abbrev pub illegal_state_exception_typings : List (Member × List (ℕ × FrameType))
illegal_state_exception_typings =
    (member (codes "java/lang/IllegalStateException") (codes "<init>") (codes "(Ljava/lang/Throwable;)V"), illegal_state_exception_init_types)
    ∷ []

-- ArrayIndexOutOfBoundsException.<init>(I)V
abbrev pub array_index_out_of_bounds_exception_init_types : List (ℕ × FrameType)
array_index_out_of_bounds_exception_init_types =
    before_this (UninitialisedThis (codes "java/lang/ArrayIndexOutOfBoundsException") ∷ IntType ∷ []) ((0, [])
    ∷ (1, UninitialisedThis (codes "java/lang/ArrayIndexOutOfBoundsException") ∷ [])
    ∷ (3, string ∷ UninitialisedThis (codes "java/lang/ArrayIndexOutOfBoundsException") ∷ [])
    ∷ (4, IntType ∷ string ∷ UninitialisedThis (codes "java/lang/ArrayIndexOutOfBoundsException") ∷ [])
    ∷ (7, string ∷ string ∷ UninitialisedThis (codes "java/lang/ArrayIndexOutOfBoundsException") ∷ [])
    ∷ (10, string ∷ UninitialisedThis (codes "java/lang/ArrayIndexOutOfBoundsException") ∷ []) ∷ [])
    ++ with_locals (of (codes "java/lang/ArrayIndexOutOfBoundsException") ∷ IntType ∷ []) ((13, []) ∷ [])

abbrev pub array_index_out_of_bounds_exception_typings : List (Member × List (ℕ × FrameType))
array_index_out_of_bounds_exception_typings =
    (member (codes "java/lang/ArrayIndexOutOfBoundsException") (codes "<init>") (codes "(I)V"), array_index_out_of_bounds_exception_init_types)
    ∷ []

-- StringIndexOutOfBoundsException.<init>(I)V
abbrev pub string_index_out_of_bounds_exception_init_types : List (ℕ × FrameType)
string_index_out_of_bounds_exception_init_types =
    before_this (UninitialisedThis (codes "java/lang/StringIndexOutOfBoundsException") ∷ IntType ∷ []) ((0, [])
    ∷ (1, UninitialisedThis (codes "java/lang/StringIndexOutOfBoundsException") ∷ [])
    ∷ (3, string ∷ UninitialisedThis (codes "java/lang/StringIndexOutOfBoundsException") ∷ [])
    ∷ (4, IntType ∷ string ∷ UninitialisedThis (codes "java/lang/StringIndexOutOfBoundsException") ∷ [])
    ∷ (7, string ∷ string ∷ UninitialisedThis (codes "java/lang/StringIndexOutOfBoundsException") ∷ [])
    ∷ (10, string ∷ UninitialisedThis (codes "java/lang/StringIndexOutOfBoundsException") ∷ []) ∷ [])
    ++ with_locals (of (codes "java/lang/StringIndexOutOfBoundsException") ∷ IntType ∷ []) ((13, []) ∷ [])

abbrev pub string_index_out_of_bounds_exception_typings : List (Member × List (ℕ × FrameType))
string_index_out_of_bounds_exception_typings =
    (member (codes "java/lang/StringIndexOutOfBoundsException") (codes "<init>") (codes "(I)V"), string_index_out_of_bounds_exception_init_types)
    ∷ []

-- AssertionError.<init>(Ljava/lang/Object;)V
abbrev pub assertion_error_init_types : List (ℕ × FrameType)
assertion_error_init_types =
    before_this (UninitialisedThis (codes "java/lang/AssertionError") ∷ object ∷ []) ((0, [])
    ∷ (1, UninitialisedThis (codes "java/lang/AssertionError") ∷ [])
    ∷ (2, object ∷ UninitialisedThis (codes "java/lang/AssertionError") ∷ [])
    ∷ (5, string ∷ UninitialisedThis (codes "java/lang/AssertionError") ∷ []) ∷ [])
    ++ with_locals (of (codes "java/lang/AssertionError") ∷ object ∷ []) ((8, []) ∷ (9, object ∷ [])
    ∷ (12, IntType ∷ []) ∷ (15, []) ∷ (16, of (codes "java/lang/AssertionError") ∷ [])
    ∷ (17, object ∷ of (codes "java/lang/AssertionError") ∷ [])
    ∷ (20, throwable ∷ of (codes "java/lang/AssertionError") ∷ []) ∷ (23, throwable ∷ []) ∷ (24, []) ∷ [])

-- AssertionError.<init>(Z)V
abbrev pub assertion_error_init_2_types : List (ℕ × FrameType)
assertion_error_init_2_types =
    before_this (UninitialisedThis (codes "java/lang/AssertionError") ∷ IntType ∷ []) ((0, [])
    ∷ (1, UninitialisedThis (codes "java/lang/AssertionError") ∷ [])
    ∷ (2, IntType ∷ UninitialisedThis (codes "java/lang/AssertionError") ∷ [])
    ∷ (5, string ∷ UninitialisedThis (codes "java/lang/AssertionError") ∷ []) ∷ [])
    ++ with_locals (of (codes "java/lang/AssertionError") ∷ IntType ∷ []) ((8, []) ∷ [])

-- AssertionError.<init>(C)V
abbrev pub assertion_error_init_3_types : List (ℕ × FrameType)
assertion_error_init_3_types =
    before_this (UninitialisedThis (codes "java/lang/AssertionError") ∷ IntType ∷ []) ((0, [])
    ∷ (1, UninitialisedThis (codes "java/lang/AssertionError") ∷ [])
    ∷ (2, IntType ∷ UninitialisedThis (codes "java/lang/AssertionError") ∷ [])
    ∷ (5, string ∷ UninitialisedThis (codes "java/lang/AssertionError") ∷ []) ∷ [])
    ++ with_locals (of (codes "java/lang/AssertionError") ∷ IntType ∷ []) ((8, []) ∷ [])

-- AssertionError.<init>(I)V
abbrev pub assertion_error_init_4_types : List (ℕ × FrameType)
assertion_error_init_4_types =
    before_this (UninitialisedThis (codes "java/lang/AssertionError") ∷ IntType ∷ []) ((0, [])
    ∷ (1, UninitialisedThis (codes "java/lang/AssertionError") ∷ [])
    ∷ (2, IntType ∷ UninitialisedThis (codes "java/lang/AssertionError") ∷ [])
    ∷ (5, string ∷ UninitialisedThis (codes "java/lang/AssertionError") ∷ []) ∷ [])
    ++ with_locals (of (codes "java/lang/AssertionError") ∷ IntType ∷ []) ((8, []) ∷ [])

abbrev pub assertion_error_typings : List (Member × List (ℕ × FrameType))
assertion_error_typings =
    (member (codes "java/lang/AssertionError") (codes "<init>") (codes "(Ljava/lang/Object;)V"), assertion_error_init_types)
    ∷ (member (codes "java/lang/AssertionError") (codes "<init>") (codes "(Z)V"), assertion_error_init_2_types)
    ∷ (member (codes "java/lang/AssertionError") (codes "<init>") (codes "(C)V"), assertion_error_init_3_types)
    ∷ (member (codes "java/lang/AssertionError") (codes "<init>") (codes "(I)V"), assertion_error_init_4_types)
    ∷ []

-- each method with code, with its frame types
abbrev pub built_in_types : List (Member × List (ℕ × FrameType))
built_in_types =
    object_typings
    ++ (thread_typings
    ++ (string_typings
    ++ (class_typings
    ++ (system_typings
    ++ (print_stream_typings
    ++ (throwable_typings
    ++ (error_typings
    ++ (exception_typings
    ++ (virtual_machine_error_typings
    ++ (exception_in_initializer_error_typings
    ++ (runtime_exception_typings
    ++ (illegal_argument_exception_typings
    ++ (illegal_state_exception_typings
    ++ (array_index_out_of_bounds_exception_typings
    ++ (string_index_out_of_bounds_exception_typings
    ++ (assertion_error_typings
    ++ string_builder_typings))))))))))))))))

-- a method with code of a class that is built in has a typing, whatever the files of the program are
pub record BuiltInTyped : Type 0 where
  pub typed : (files : Program) (method : Member) (body : Body) → IsTrue (is_some (class_of [] method.class))
      → body_of files method ≡ Some body → HasTyping files method body
