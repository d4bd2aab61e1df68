-- Edges between the states that a search keeps, by their numbers (own).
use Rattle.std.specs.Prelude.{◌≡◌, ◌<◌, ◌==◌, ◌&&◌, ℕ, suc, List, [], ◌∷◌, Bool, true, false, Option, Some, None, IsTrue, IsFalse, length, get_or, not}
use Rattle.std.specs.List.{list_any}
use Rattle.run_laws.specs.interleavings.Ends.{Has}
use Rattle.search.specs.declared.edges.Edge.{Edge}

abbrev pub edge_from : (node to : ℕ) → Edge
edge_from node to = record { node = node; to = to }

-- whether an edge leads from the one number to the other
abbrev pub has_edge : List Edge → (node to : ℕ) → Bool
has_edge edges node to = list_any (λ (edge : Edge). (edge.node == node) && (edge.to == to)) edges

-- each is between numbers below this one
abbrev pub AreBelow : ℕ → List Edge → Type 0
AreBelow count edges = (edge : Edge) → Has edges edge → (edge.node < count) × (edge.to < count)

-- none leads on from the number
abbrev pub IsLast : List Edge → ℕ → Type 0
IsLast edges node = (to : ℕ) → Has edges (edge_from node to) → ⊥

-- edges lead from the number to one from which none leads on
pub data LeadsToLast (edges : List Edge) : ℕ → Type 0 where
  Last : (node : ℕ) → IsLast edges node → LeadsToLast edges node
  Along : (node to : ℕ) → Has edges (edge_from node to) → LeadsToLast edges to → LeadsToLast edges node

-- the first number of so many from which they don't, if there is one
abbrev pub IsEndlessNumber : List Edge → (count : ℕ) → Option ℕ → Type 0
IsEndlessNumber edges count None = (node : ℕ) → node < count → LeadsToLast edges node
IsEndlessNumber edges count (Some node) = (node < count) × (LeadsToLast edges node → ⊥)

-- ---- marks of numbers

abbrev pub is_marked : List Bool → ℕ → Bool
is_marked marks node = get_or marks node false

-- just those of so many are marked of which it is so
pub record AreMarked (P : ℕ → Type 0) (count : ℕ) (marks : List Bool) : Type 0 where
  pub many : length marks ≡ count
  pub marked : (node : ℕ) → IsTrue (is_marked marks node) → P node
  pub all : (node : ℕ) → node < count → P node → IsTrue (is_marked marks node)

-- how many are not marked
abbrev pub unmarked : List Bool → ℕ
unmarked [] = 0
unmarked (true ∷ marks) = unmarked marks
unmarked (false ∷ marks) = suc (unmarked marks)

-- the first that isn't
abbrev pub IsFirstUnmarked : List Bool → Option ℕ → Type 0
IsFirstUnmarked marks None = (node : ℕ) → node < length marks → IsTrue (is_marked marks node)
IsFirstUnmarked marks (Some node) = (node < length marks) × IsFalse (is_marked marks node)

-- whether the edge leads to a marked number from one that isn't
abbrev pub is_open : List Bool → Edge → Bool
is_open marks edge = is_marked marks edge.to && not (is_marked marks edge.node)

-- a number from which an edge leads to a marked one is marked
abbrev pub AreClosed : List Edge → List Bool → Type 0
AreClosed edges marks = (edge : Edge) → Has edges edge → IsTrue (is_marked marks edge.to) → IsTrue (is_marked marks edge.node)

-- from each that is marked edges lead to one from which none leads on
abbrev pub DoLead : List Edge → List Bool → Type 0
DoLead edges marks = (node : ℕ) → IsTrue (is_marked marks node) → LeadsToLast edges node

-- Further ones are marked from which an edge leads to a marked one. Where none was, none is left.
pub record Sweeps (edges : List Edge) (is_more : Bool) (old new : List Bool) : Type 0 where
  pub many : length new ≡ length old
  pub kept : (node : ℕ) → IsTrue (is_marked old node) → IsTrue (is_marked new node)
  pub lead : DoLead edges old → DoLead edges new
  pub fewer : IsTrue is_more → unmarked new < unmarked old
  pub same : IsFalse is_more → new ≡ old
  pub closed : IsFalse is_more → AreClosed edges new
