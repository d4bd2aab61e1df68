-- What a copy of an object is made of, by the objects of a heap (own).
use Rattle.std.specs.Prelude.{◌≡◌, ◌<◌, ◌≤◌, ◌+◌, ℕ, List, Option, Some, None, if◌then◌else◌, length, slice_get}
use Rattle.heap.specs.declared.kind.ObjectKind.{ObjectKind}
use Rattle.heap.specs.declared.kind.ObjectKind.TheVariants as kind
use Rattle.heap.specs.declared.refusal.AllocRefusal.{AllocRefusal}
use Rattle.heap.specs.declared.refusal.AllocRefusal.TheVariants.{Objects, Cells, Memory}
use Rattle.heap.specs.Heap.{Object, Heap, made, with_object, IsRefused}
use Rattle.linked_code.specs.declared.class.LinkedClass.{LinkedClass}
use Rattle.linked_code.specs.declared.program.LinkedProgram.{LinkedProgram}

-- ---- how many of its words count as cells, where it may be cloned

abbrev pub row_cells : Option LinkedClass → Option ℕ
row_cells None = None
row_cells (Some row) = if row.is_cloneable then Some row.cells else None

abbrev pub kind_cells : LinkedProgram → ObjectKind → ℕ → Option ℕ
kind_cells p (kind.Instance class) count = row_cells (slice_get p.classes.items class)
kind_cells p kind.Ints count = Some count
kind_cells p (kind.References of) count = Some count
kind_cells p (kind.Narrow narrow) count = Some count

abbrev pub object_cells : LinkedProgram → Option Object → Option ℕ
object_cells p None = None
object_cells p (Some object) = kind_cells p object.kind (length object.words)

abbrev pub copied_cells : LinkedProgram → List Object → ℕ → Option ℕ
copied_cells p objects object = object_cells p (slice_get objects object)

-- ---- the copy

-- it stands last, and no limit stood; of an object that is not there, there is none
pub record IsLastLike (object : Object) (cells : ℕ) (old new : Heap) : Type 0 where
  pub after : new ≡ with_object old object cells
  pub opened : old.opening ≤ length old.objects
  pub objects : made old < old.object_limit
  pub cells_fit : old.counted + cells ≤ old.cell_limit

abbrev pub IsCopied : Option Object → (cells : ℕ) → Heap → Heap → Type 0
IsCopied None cells old new = new ≡ old
IsCopied (Some object) cells old new = IsLastLike object cells old new

-- it was not made: for a limit that stands, or for want of memory, for its words or for the object
abbrev pub IsCopyRefused : AllocRefusal → (cells : ℕ) → Heap → Heap → Type 0
IsCopyRefused Objects cells old new = IsRefused Objects cells old new
IsCopyRefused Cells cells old new = IsRefused Cells cells old new
IsCopyRefused Memory cells old new = new ≡ old
