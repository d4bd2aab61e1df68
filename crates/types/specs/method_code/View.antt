-- The model's method and body that a `MethodCode` is.
use Rattle.std.specs.Prelude.{ℕ, List, Option, slice_get}
use Rattle.std.specs.Option.{option_and_then, option_map}
use Rattle.model.specs.Names.{Name, Member}
use Rattle.model.specs.Tree.{FileTree, MethodTree, CodeTree, Entry}
use Rattle.model.specs.Conditions.{text_at}
use Rattle.model.specs.Classes.{Program, Body, with_pool, name_of, code_in}
use Rattle.class_tree.specs.View.{code_of}
use Rattle.hierarchy.specs.Places.{name_at, class_at}
use Rattle.types.specs.declared.method_code.declaration.MethodCode.{MethodCode}

abbrev pub files_of : MethodCode → Program
files_of m = m.hierarchy.now

abbrev pub member_named : Name → List Entry → ℕ → ℕ → Member
member_named class pool name descriptor = record { class = class; name = text_at pool name; descriptor = text_at pool descriptor }

abbrev pub member_of : MethodCode → Member
member_of m = member_named (name_at m.hierarchy.now m.class) m.file.now.pool m.method.now.name m.method.now.descriptor

abbrev pub body_of : MethodCode → Body
body_of m = with_pool m.file.now.pool (code_of m.code.now)

-- ---- by place

abbrev pub shown : MethodCode → Member × Body
shown m = (member_of m, body_of m)

abbrev pub shown_in : FileTree → MethodTree → Option (Member × Body)
shown_in file m = option_map (λ (code : CodeTree). (member_named (name_of file) file.pool m.name m.descriptor, with_pool file.pool code)) (code_in m.parts)

-- the method at a place of the class at a place, if it has code
abbrev pub shown_at : Program → ℕ → ℕ → Option (Member × Body)
shown_at files class method =
    option_and_then (λ (file : FileTree). option_and_then (shown_in file) (slice_get file.methods method)) (class_at files class)
