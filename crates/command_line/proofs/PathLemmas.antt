-- What is written and what is read, by the rows of the parser.
use Rattle.std.proofs.Common.{◌≡◌, ℕ, ◌<◌, ◌+◌, [], ◌∷◌, List, String, Global, length, map, take, drop, get_or, codes, string_bytes, Option, Some, None, unwrap_or, ap, sym, subst, ◌∙◌, arith}
use Rattle.std.specs.Prelude.{All}
use Rattle.std.proofs.lemmas.List.{get_or-map, length-map, map-append, take_more}
use Rattle.std.proofs.lemmas.List.Elements.{All-get_or, All-push}
use Rattle.clap.specs.Words.{Row, Text, all_of, first_of}
use Rattle.command_line.specs.Goals.{IsSearchGoal}
use Rattle.command_line.specs.Paths.{IsApart, IsSearchGoalApart}
use Rattle.command_line.specs.declared.options.SearchGoal.{SearchGoal}
use Rattle.command_line.specs.declared.options.SearchGoal.TheVariants as sought

-- what isn't so of one value isn't so of another one, where both are the value of an argument
pub none_other : {A : Type 0} (P : A → Type 0) (value : Option A) (one : A) → value ≡ Some one → (P one → ⊥) → (other : A) → value ≡ Some other → P other → ⊥
none_other P value one is none other is_other holds = none (subst P (ap (λ o. unwrap_or o one) (sym is_other ∙ is)) holds)

byte : ℕ → Text → ℕ
byte i text = get_or text i 0

-- so it is of the file that a search compares with
pub goal_apart : (written value : Option Text) (one other : Option SearchGoal) → IsSearchGoal value one → IsSearchGoal value other
    → IsSearchGoalApart written other → IsSearchGoalApart written one
unfolding byte
goal_apart written value None other is is_other apart = tt
goal_apart written value (Some sought.Race) other is is_other apart = tt
goal_apart written value (Some sought.Uncaught) other is is_other apart = tt
goal_apart written value (Some sought.Deadlock) other is is_other apart = tt
goal_apart written value (Some sought.Endless) other is is_other apart = tt
goal_apart written value (Some sought.Any) other is is_other apart = tt
goal_apart written value (Some (sought.Output ints)) other is is_other apart = tt
goal_apart written value (Some (sought.Text units)) other is is_other apart = tt
goal_apart written None (Some (sought.Differs path)) other is is_other apart = elim is [ ]
goal_apart written (Some word) (Some (sought.Differs path)) None is is_other apart = elim is_other [ ]
goal_apart written (Some word) (Some (sought.Differs path)) (Some sought.Race) is is_other apart = let bad : 100 ≡ 114 = ap (byte 0) (sym is ∙ is_other) in absurd (omega (arith, bad))
goal_apart written (Some word) (Some (sought.Differs path)) (Some sought.Uncaught) is is_other apart = let bad : 100 ≡ 117 = ap (byte 0) (sym is ∙ is_other) in absurd (omega (arith, bad))
goal_apart written (Some word) (Some (sought.Differs path)) (Some sought.Deadlock) is is_other apart = let bad : 105 ≡ 101 = ap (byte 1) (sym is ∙ is_other) in absurd (omega (arith, bad))
goal_apart written (Some word) (Some (sought.Differs path)) (Some sought.Endless) is is_other apart = let bad : 100 ≡ 101 = ap (byte 0) (sym is ∙ is_other) in absurd (omega (arith, bad))
goal_apart written (Some word) (Some (sought.Differs path)) (Some sought.Any) is is_other apart = let bad : 100 ≡ 97 = ap (byte 0) (sym is ∙ is_other) in absurd (omega (arith, bad))
goal_apart written (Some word) (Some (sought.Differs path)) (Some (sought.Output ints)) is is_other apart = let bad : 100 ≡ 111 = ap (byte 0) (sym is ∙ is_other.1) in absurd (omega (arith, bad))
goal_apart written (Some word) (Some (sought.Differs path)) (Some (sought.Text units)) is is_other apart = let bad : 100 ≡ 116 = ap (byte 0) (sym is ∙ is_other.1) in absurd (omega (arith, bad))
goal_apart written (Some word) (Some (sought.Differs path)) (Some (sought.Differs another)) is is_other apart =
    let same : string_bytes another ≡ string_bytes path = ap (drop 8) (sym is_other ∙ is) in
    subst (IsApart written) same apart

-- the paths of files, one after another
module _ (P : Text → Type 0) (read : List (String Global)) (i : ℕ) (d : String Global) (lt : i < length read) where
  pub one_more_path : All P (map string_bytes (take i read)) → P (string_bytes (get_or read i d)) → All P (map string_bytes (take (i + 1) read))
  one_more_path so_far next =
      subst (λ l. All P (map string_bytes l)) (sym (take_more read i d lt))
      (subst (All P) (sym (map-append string_bytes (take i read) (get_or read i d ∷ [])))
      (All-push P (map string_bytes (take i read)) (string_bytes (get_or read i d)) so_far next))

  pub path_among : All P (map string_bytes read) → P (string_bytes (get_or read i d))
  path_among all =
      subst P (get_or-map string_bytes read i d (string_bytes d) lt)
      (All-get_or P (map string_bytes read) i (string_bytes d) (omega (arith, lt, length-map read (string_bytes {Z = Global}))) all)

-- the files of a command, by the rows of the parser
module _ (rows : List Row) (files read : List (String Global)) (read_is : read ≡ files) where
  abbrev IsOther : Text → Type 0
  IsOther path = IsApart (first_of (codes "record") rows) path

  pub files_other : All (IsApart (first_of (codes "record") rows)) (map string_bytes read) → All (IsApart (first_of (codes "record") rows)) (map string_bytes files)
  files_other apart = subst (λ l. All IsOther (map string_bytes l)) read_is apart

  pub files_others : all_of (codes "files") rows ≡ Some (map string_bytes files)
      → (All (IsApart (first_of (codes "record") rows)) (map string_bytes read) → ⊥)
      → (others : List (String Global)) → all_of (codes "files") rows ≡ Some (map string_bytes others)
      → All (IsApart (first_of (codes "record") rows)) (map string_bytes others) → ⊥
  files_others files_are none others others_are apart =
      none_other (All IsOther) (all_of (codes "files") rows) (map string_bytes files) files_are
      (λ all. none (subst (λ l. All IsOther (map string_bytes l)) (sym read_is) all)) (map string_bytes others) others_are apart
