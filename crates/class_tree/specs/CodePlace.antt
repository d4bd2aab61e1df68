-- Where the Code of a method stands in a class file (JVMS 4.1, 4.6, 4.7.3).
use Rattle.std.specs.Prelude.{◌≡◌, ℕ, zero, suc, List, [], ◌∷◌, ◌++◌, length}
use Rattle.std.specs.List.{flat_map}
use Rattle.model.specs.Tree.{MethodPart, CodeOf, SkippedOfMethod, MethodTree, FileTree}
use Rattle.model.specs.Spelling.{u2, u4, table, magic, version, pool, skipped, code, field, method}

-- a class file up to the count of its fields
abbrev pub before_fields : FileTree → List ℕ
before_fields c = magic ++ (version ++ (pool c.pool ++ (u2 c.flags ++ (u2 c.this_class ++ (u2 c.super_class ++ (table u2 c.interfaces ++ u2 (length c.fields)))))))

-- a class file up to the count of its methods
abbrev pub before_methods : FileTree → List ℕ
before_methods c = before_fields c ++ (flat_map field c.fields ++ u2 (length c.methods))

-- a method up to the count of its attributes
abbrev pub before_parts : MethodTree → List ℕ
before_parts m = u2 m.flags ++ (u2 m.name ++ (u2 m.descriptor ++ u2 (length m.parts)))

-- attributes of a method up to the first Code, with the index of its name and its length; all where there is none
abbrev pub before_code : List MethodPart → List ℕ
before_code [] = []
before_code (CodeOf name c ∷ parts) = u2 name ++ u4 (length (code c))
before_code (SkippedOfMethod a ∷ parts) = skipped a ++ before_code parts

-- methods up to what the Code of one holds. They count from 0.
abbrev pub methods_front : List MethodTree → ℕ → List ℕ
methods_front [] index = []
methods_front (m ∷ methods) zero = before_parts m ++ before_code m.parts
methods_front (m ∷ methods) (suc index) = method m ++ methods_front methods index

-- a class file up to what the Code of a method holds
abbrev pub front_of_code : FileTree → ℕ → List ℕ
front_of_code c index = before_methods c ++ methods_front c.methods index

abbrev pub BeginsWith : List ℕ → List ℕ → Type 0
BeginsWith front bytes = (rest : List ℕ) × (bytes ≡ front ++ rest)
