-- Access flags (JVMS tables 4.1-A, 4.5-A, 4.6-A). Each is a bit that is read by itself: what contradicts another one, as
-- ACC_PUBLIC beside ACC_PRIVATE, is no fault (own).
use Rattle.std.specs.Prelude.{ℕ, ◌/◌, ◌%◌, Bool, not, ◌||◌, ◌==◌}
use Rattle.model.specs.Tree.{FieldTree, MethodTree, FileTree}
use Rattle.model.specs.Spelling.{is_static}
use Rattle.model.specs.Conditions.{is_native, is_abstract}

abbrev pub is_public : ℕ → Bool
is_public flags = flags / 0x0001 % 2 == 1

abbrev pub is_private : ℕ → Bool
is_private flags = flags / 0x0002 % 2 == 1

abbrev pub is_protected : ℕ → Bool
is_protected flags = flags / 0x0004 % 2 == 1

-- none of the three: only its package may name it (JVMS 5.4.4)
abbrev pub is_package_private : ℕ → Bool
is_package_private flags = not (is_public flags || (is_private flags || is_protected flags))

abbrev pub is_final : ℕ → Bool
is_final flags = flags / 0x0010 % 2 == 1

-- of a method; of a class the same bit is ACC_SUPER, which counts as set (own)
abbrev pub is_synchronized : ℕ → Bool
is_synchronized flags = flags / 0x0020 % 2 == 1

-- ---- classes (JVMS 4.1)

abbrev pub is_interface_class : FileTree → Bool
is_interface_class file = file.flags / 0x0200 % 2 == 1

abbrev pub is_abstract_class : FileTree → Bool
is_abstract_class file = is_abstract file.flags

abbrev pub is_final_class : FileTree → Bool
is_final_class file = is_final file.flags

-- ---- fields (JVMS 4.5)

abbrev pub is_static_field : FieldTree → Bool
is_static_field f = is_static f.flags

abbrev pub is_instance_field : FieldTree → Bool
is_instance_field f = not (is_static f.flags)

-- ---- methods (JVMS 4.6)

abbrev pub is_public_method : MethodTree → Bool
is_public_method m = is_public m.flags

abbrev pub is_private_method : MethodTree → Bool
is_private_method m = is_private m.flags

abbrev pub is_static_method : MethodTree → Bool
is_static_method m = is_static m.flags

abbrev pub is_instance_method : MethodTree → Bool
is_instance_method m = not (is_static m.flags)

abbrev pub is_final_method : MethodTree → Bool
is_final_method m = is_final m.flags

abbrev pub is_synchronized_method : MethodTree → Bool
is_synchronized_method m = is_synchronized m.flags

abbrev pub is_native_method : MethodTree → Bool
is_native_method m = is_native m.flags

abbrev pub is_abstract_method : MethodTree → Bool
is_abstract_method m = is_abstract m.flags
