-- The lines of races (own).
use Rattle.std.specs.Prelude.{◌≡◌, ℕ, List, [], ◌∷◌, ◌++◌, Option, Some, None, Bool, true, false, ◌==◌, codes}
use Rattle.model.specs.Classes.{Program}
use Rattle.model.specs.Names.{Member}
use Rattle.model.specs.Report.{number}
use Rattle.linked_code.specs.Numbers.{IsMethodAt}
use Rattle.listings.specs.printed_names.Printed.{printed}
use Rattle.field_names.specs.named_fields.Fields.{member_at}
use Rattle.run_races.specs.declared.told_races.Race.{Race}
use Rattle.run_races.specs.declared.told_races.RaceAccess.{RaceAccess}
use Rattle.run_races.specs.declared.told_races.RacedVariable.{RacedVariable}

-- a field or a method by its class and its name
abbrev pub member_words : Member → List ℕ
member_words member = printed member.class ++ (codes "." ++ printed member.name)

-- ---- the variable

abbrev pub element_words : (index : ℕ) → (array : List ℕ) → List ℕ
element_words index array = codes "[" ++ (number index ++ (codes "] of " ++ array))

-- an element by its index, whatever is said of its array; or a field
abbrev pub SpellsVariable : (is_element : Bool) → Program → RacedVariable → List ℕ → Type 0
SpellsVariable true trees variable words = (array : List ℕ) × (words ≡ element_words variable.place array)
SpellsVariable false trees variable words = (field : Member) → member_at trees variable.class variable.place ≡ Some field → words ≡ member_words field

-- ---- an access

abbrev pub kind_words : (is_write : Bool) → List ℕ
kind_words true = codes "write"
kind_words false = codes "read"

abbrev pub offset_words : Member → (offset : ℕ) → List ℕ
offset_words method offset = member_words method ++ (codes " " ++ number offset)

-- where an instruction stands, behind the line of its source, if that is told
abbrev pub site_words : (source : Option (List ℕ)) → Member → (offset : ℕ) → List ℕ
site_words None method offset = offset_words method offset
site_words (Some source) method offset = source ++ (codes " (" ++ (offset_words method offset ++ codes ")"))

abbrev pub SpellsSite : Program → (method offset : ℕ) → List ℕ → Type 0
SpellsSite trees method offset words = (m : Member) → IsMethodAt trees method m → (source : Option (List ℕ)) × (words ≡ site_words source m offset)

-- a read or a write, where it stands, and by which thread
pub record SpellsAccess (trees : Program) (access : RaceAccess) (words : List ℕ) : Type 0 where
  pub site : List ℕ
  pub spells : SpellsSite trees access.method access.offset site
  pub are : words ≡ kind_words access.is_write ++ (codes " at " ++ (site ++ (codes " by thread " ++ number access.thread)))

-- ---- the line

pub record IsRaceLine (trees : Program) (race : Race) (line : List ℕ) : Type 0 where
  pub variable : List ℕ
  pub of : SpellsVariable (race.variable.kind == 2) trees race.variable variable
  pub first : List ℕ
  pub is_first : SpellsAccess trees race.first first
  pub second : List ℕ
  pub is_second : SpellsAccess trees race.second second
  pub is : line ≡ codes "race " ++ (variable ++ (codes ": " ++ (first ++ (codes ", " ++ (second ++ codes "\n")))))

-- a line for each race
abbrev pub AreRaceLines : Program → List Race → List ℕ → Type 0
AreRaceLines trees [] lines = lines ≡ []
AreRaceLines trees (race ∷ races) lines =
    (line : List ℕ) × (rest : List ℕ) × IsRaceLine trees race line × AreRaceLines trees races rest × (lines ≡ line ++ rest)

-- they stand behind a text now
abbrev pub AddsRaceLines : Program → List Race → (old new : List ℕ) → Type 0
AddsRaceLines trees races old new = (added : List ℕ) × (new ≡ old ++ added) × AreRaceLines trees races added
