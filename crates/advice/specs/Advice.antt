-- What advice on files says (own).
use Rattle.std.specs.Prelude.{◌≡◌, ℕ, List, [], ◌∷◌, ◌++◌, codes, false, true, vec_items}
use Rattle.std.specs.List.{Contains, flat_map}
use Rattle.model.specs.Classes.{Program}
use Rattle.model.specs.Linkable.{AreSpelled, stands, DuplicateClass}
use Rattle.model.specs.Report.{line}
use Rattle.listings.specs.printed_names.Printed.{printed}
use Rattle.advice.specs.declared.told.Told.{Told}
use Rattle.advice.specs.declared.told.ToldPlace.{ToldPlace}
use Rattle.advice.specs.Told.{IsTold}
use Rattle.advice.specs.Wrong.{is_wrong_in}

-- ---- the text

-- the line that stands before all others
abbrev pub head : List ℕ
head = codes "what is wrong with each file, and what to write instead (advice, by a pass of its own):"

-- lines that are indented, without control characters
abbrev pub indented : (by : List ℕ) → List (List ℕ) → List ℕ
indented by lines = flat_map (λ words. line (by ++ printed words)) lines

-- the text of lines that tell something: none where nothing is told, or the head and below it each of them
abbrev pub text_of : List Told → (lines : List (List ℕ)) → List ℕ
text_of [] lines = []
text_of (t ∷ told) lines = line (codes "  " ++ printed head) ++ indented (codes "    ") lines

abbrev pub words_of : Told → List ℕ
words_of t = vec_items t.words

-- a text that shows some lines shows others afterwards
abbrev pub Shows : (before : List ℕ) → (lines : List (List ℕ)) → (after : List ℕ) → (others : List (List ℕ)) → Type 0
Shows before lines after others =
    (front : List ℕ) → before ≡ front ++ indented (codes "    ") lines → after ≡ front ++ indented (codes "    ") others

-- ---- what is told

-- Of class files of which no two declare one class, each place is told at which one is outside of the profile or names what is not found.
abbrev pub TellsAll : List (List ℕ) → List Told → Type 0
TellsAll files told = (trees : Program) → AreSpelled files trees → stands trees DuplicateClass ≡ false
    → (number : ℕ) (place : ToldPlace) → is_wrong_in trees number place ≡ true → IsTold told number place

-- the lines say all that is told
abbrev pub AreSaid : List Told → List (List ℕ) → Type 0
AreSaid told lines = (t : Told) → Contains told t → Contains lines (words_of t)

-- the text is advice on the files
pub record IsAdvice (files : List (List ℕ)) (text : List ℕ) : Type 0 where
  pub told : List Told
  pub lines : List (List ℕ)
  pub all : TellsAll files told
  pub said : AreSaid told lines
  pub text_is : text ≡ text_of told lines
