-- The words of outcomes that are to be found.
use Rattle.std.proofs.Common.{◌≡◌, ℕ, ℤ, pos, negsuc, zero, suc, ◌<◌, ◌+◌, ◌^◌, List, [], ◌∷◌, ◌++◌, length, get_or, map, take, codes, string_bytes, Option, Some, None, Result, Ok, Err, Bor, refl, ap, sym, subst, ◌∙◌, ◌==◌, arith, lit<}
use Rattle.std.specs.Prelude.{All, IfOk, IfErr, MatchResult}
use Rattle.std.specs.List.{slice_split, join_with_byte}
use Rattle.std.specs.Fmt.{decimal}
use Rattle.std.specs.Int.{w32}
use Rattle.std.specs.Str.Parse.{ParsesSigned}
use Rattle.std.proofs.lemmas.Fmt.{decimal_is_IsNumeral, parse-signed_decimal}
use Rattle.std.proofs.lemmas.Str.Parse.{digit_at}
use Rattle.std.proofs.lemmas.Str.Pattern.{IsSplitOnceResult, split_parts, split_after}
use Rattle.std.proofs.lemmas.List.Splits.{join_with_byte-slice_split}
use Rattle.std.proofs.lemmas.List.{get_or-map, length-map, map-append, take_more}
use Rattle.std.proofs.lemmas.List.Elements.{All-get_or, All-head, All-push, All-tail}
use Rattle.clap.proofs.CutLemmas.{Lacks, slice_split-Lacks, slice_split-at}
use Rattle.clap.specs.Words.{Text}
use Rattle.model.specs.Report.{signed_number}
use Rattle.command_line.specs.CommandLine.{Refuses}
use Rattle.command_line.specs.EscapedTexts.{units_of}
use Rattle.command_line.specs.Goals.{IsGoal, AreInts, AreEachInt, IsGoalWord, IsGoalWith, IsInt, IsSearchGoal, IsSearchGoalWord, numbers_text, search_goal}
use Rattle.command_line.specs.declared.usage.Usage.{Usage}
use Rattle.command_line.specs.declared.options.Goal.{Goal}
use Rattle.command_line.specs.declared.options.Goal.TheVariants as goals
use Rattle.command_line.specs.declared.options.SearchGoal.{SearchGoal}
use Rattle.command_line.specs.declared.options.SearchGoal.TheVariants as sought
use Rattle.command_line.proofs.CommandLineLemmas.{refuses_more}

-- ---- names without a `=`

AreOther : List ℕ → Type 0
AreOther [] = Unit {0}
AreOther (b ∷ bytes) = (b ≡ 0x3d → ⊥) × AreOther bytes

free_of : (bytes : List ℕ) → AreOther bytes → (i : ℕ) → i < length bytes → get_or bytes i 0 ≡ 0x3d → ⊥
unfolding AreOther
free_of [] f i lt e = omega (arith, lt)
free_of (b ∷ bytes) f zero lt e = f.0 e
free_of (b ∷ bytes) f (suc i) lt e = free_of bytes f.1 i (omega (arith, lt)) e

output_free : AreOther (codes "output")
unfolding AreOther
output_free = (λ e. omega (arith, e), (λ e. omega (arith, e), (λ e. omega (arith, e), (λ e. omega (arith, e), (λ e. omega (arith, e), (λ e. omega (arith, e), tt))))))

differs_free : AreOther (codes "differs")
unfolding AreOther
differs_free = (λ e. omega (arith, e), (λ e. omega (arith, e), (λ e. omega (arith, e), (λ e. omega (arith, e), (λ e. omega (arith, e), (λ e. omega (arith, e), (λ e. omega (arith, e), tt)))))))

text_free : AreOther (codes "text")
unfolding AreOther
text_free = (λ e. omega (arith, e), (λ e. omega (arith, e), (λ e. omega (arith, e), (λ e. omega (arith, e), tt))))

-- ---- a word that is neither of those without a value

module _ (word : Text) (other : word ≡ codes "deadlock" → ⊥) (another : word ≡ codes "uncaught" → ⊥) where
  -- there is no `=`
  pub none_named : IsSplitOnceResult 0x3d word None → (goal : Goal) → IsGoalWord word goal → ⊥
  none_named split goals.Deadlock is = other is
  none_named split goals.Uncaught is = another is
  none_named split (goals.Output ints) is = split_after 0x3d word (codes "output") is.0 None split (lit< tt) is.1 (free_of (codes "output") output_free)
  none_named split (goals.Text units) is = split_after 0x3d word (codes "text") is.0 None split (lit< tt) is.1 (free_of (codes "text") text_free)
  none_named split (goals.Differs path) is = split_after 0x3d word (codes "differs") (string_bytes path) None split (lit< tt) is (free_of (codes "differs") differs_free)

  -- there is one
  module _ (name value : Bor (List ℕ)) (split : IsSplitOnceResult 0x3d word (Some (name, value))) where
    parts : word ≡ name.now ++ 0x3d ∷ value.now
    parts = (split_parts 0x3d word (Some (name, value)) split (lit< tt)).0

    whole : (first text : Text) → name.now ≡ first → value.now ≡ text → word ≡ first ++ 0x3d ∷ text
    whole first text name_is value_is = parts ∙ ap (λ n. n ++ 0x3d ∷ value.now) name_is ∙ ap (λ v. first ++ 0x3d ∷ v) value_is

    by_parts : (goal : Goal) → IsGoalWith name.now value.now goal → IsGoalWord word goal
    by_parts goals.Deadlock is = elim is [ ]
    by_parts goals.Uncaught is = elim is [ ]
    by_parts (goals.Output ints) is = (value.now, whole (codes "output") value.now is.0 refl, is.1)
    by_parts (goals.Text units) is = (value.now, whole (codes "text") value.now is.0 refl, is.1)
    by_parts (goals.Differs path) is = whole (codes "differs") (string_bytes path) is.0 is.1

    of_parts : (goal : Goal) → IsGoalWord word goal → IsGoalWith name.now value.now goal
    of_parts goals.Deadlock is = other is
    of_parts goals.Uncaught is = another is
    of_parts (goals.Output ints) is =
        let same = split_after 0x3d word (codes "output") is.0 (Some (name, value)) split (lit< tt) is.1 (free_of (codes "output") output_free) in
        (same.0, subst (λ text. AreInts text ints.items) (sym same.1) is.2)
    of_parts (goals.Text units) is =
        let same = split_after 0x3d word (codes "text") is.0 (Some (name, value)) split (lit< tt) is.1 (free_of (codes "text") text_free) in
        (same.0, ap units_of same.1 ∙ is.2)
    of_parts (goals.Differs path) is = split_after 0x3d word (codes "differs") (string_bytes path) (Some (name, value)) split (lit< tt) is (free_of (codes "differs") differs_free)

    pub named : (result : Result Goal Usage) → IfOk result (IsGoalWith name.now value.now) → IfOk result (IsGoalWord word)
    named (Ok goal) is = by_parts goal is
    named (Err usage) is = tt

    pub unnamed : (result : Result Goal Usage) → IfErr result (λ usage. Refuses usage ((goal : Goal) → IsGoalWith name.now value.now goal → ⊥))
        → IfErr result (λ usage. Refuses usage ((goal : Goal) → IsGoalWord word goal → ⊥))
    unnamed (Ok goal) is = tt
    unnamed (Err usage) is = refuses_more usage _ _ (λ none goal named. none goal (of_parts goal named)) is

-- what stands before the `=` is one name alone
pub other_name : (name value : Text) → (name ≡ codes "output" → ⊥) → (name ≡ codes "text" → ⊥) → (name ≡ codes "differs" → ⊥) → (goal : Goal)
    → IsGoalWith name value goal → ⊥
other_name name value output text differs goals.Deadlock is = is
other_name name value output text differs goals.Uncaught is = is
other_name name value output text differs (goals.Output ints) is = output is.0
other_name name value output text differs (goals.Text units) is = text is.0
other_name name value output text differs (goals.Differs path) is = differs is.0

first_is : Text → ℕ
first_is text = get_or text 0 0

pub no_output : (name value : Text) → name ≡ codes "output" → ((ints : List ℤ) → AreInts value ints → ⊥) → (goal : Goal) → IsGoalWith name value goal → ⊥
unfolding first_is
no_output name value output none goals.Deadlock is = is
no_output name value output none goals.Uncaught is = is
no_output name value output none (goals.Output ints) is = none ints.items is.1
no_output name value output none (goals.Text units) is = let bad : 111 ≡ 116 = ap first_is (sym output ∙ is.0) in omega (arith, bad)
no_output name value output none (goals.Differs path) is = let bad : 111 ≡ 100 = ap first_is (sym output ∙ is.0) in omega (arith, bad)

pub no_text : (name value : Text) → name ≡ codes "text" → units_of value ≡ None → (goal : Goal) → IsGoalWith name value goal → ⊥
unfolding first_is
no_text name value text none goals.Deadlock is = is
no_text name value text none goals.Uncaught is = is
no_text name value text none (goals.Output ints) is = let bad : 116 ≡ 111 = ap first_is (sym text ∙ is.0) in omega (arith, bad)
no_text name value text none (goals.Text units) is = let bad : None ≡ Some units.items = sym none ∙ is.1 in cc
no_text name value text none (goals.Differs path) is = let bad : 116 ≡ 100 = ap first_is (sym text ∙ is.0) in omega (arith, bad)

-- ---- ints with commas between them

digits_lack : (n : ℕ) → n < 2 ^ 64 → Lacks 0x2c (decimal n)
digits_lack n small i lt e =
    let within = digit_at (decimal n) i (decimal_is_IsNumeral n small).0.1 lt in
    omega (arith, within.0, e)

lacks : (int : ℤ) → IsInt int → Lacks 0x2c (signed_number int)
lacks (pos n) is = digits_lack n (omega (arith, is.sfits))
lacks (negsuc n) is = behind_minus
  where
    behind_minus : Lacks 0x2c (signed_number (negsuc n))
    behind_minus zero lt e = omega (arith, e)
    behind_minus (suc i) lt e = digits_lack (suc n) (omega (arith, is.sfits)) i (omega (arith, lt)) e

-- the parts of what they are spelled by
pub parts_are : (int : ℤ) (ints : List ℤ) → All IsInt (int ∷ ints)
    → slice_split (λ b. b == 0x2c) (numbers_text (int ∷ ints)) ≡ map signed_number (int ∷ ints)
parts_are int [] each = slice_split-Lacks 0x2c (signed_number int) (lacks int (All-head IsInt int [] each))
parts_are int (next ∷ ints) each =
    slice_split-at 0x2c (signed_number int) (numbers_text (next ∷ ints)) (lacks int (All-head IsInt int (next ∷ ints) each))
    ∙ ap (λ parts. signed_number int ∷ parts) (parts_are next ints (All-tail IsInt int (next ∷ ints) each))

module _ (text : Text) (parts : List Text) (are : parts ≡ slice_split (λ b. b == 0x2c) text) where
  pub ints_of : (ints : List ℤ) → AreEachInt parts ints → AreInts text ints
  ints_of ints each = record {
    each = each.each;
    spelled = sym (join_with_byte-slice_split 0x2c text) ∙ ap (join_with_byte 0x2c) (sym are ∙ each.spelled);
  }

  pub no_ints : (length text ≡ 0 → ⊥) → ((ints : List ℤ) → AreEachInt parts ints → ⊥) → (ints : List ℤ) → AreInts text ints → ⊥
  no_ints some none [] is = some (ap length is.spelled)
  no_ints some none (int ∷ ints) is =
      none (int ∷ ints) (record { each = is.each; spelled = are ∙ ap (slice_split (λ b. b == 0x2c)) is.spelled ∙ parts_are int ints is.each })

-- ---- texts that spell ints, one after another

module _ (texts : List (Bor Text)) (i : ℕ) (d : Bor Text) (lt : i < length texts) where
  abbrev spelled : List Text
  spelled = map (λ text. text.now) texts

  inside : i < length spelled
  inside = omega (arith, lt, length-map texts (λ (text : Bor Text). text.now))

  here : get_or spelled i d.now ≡ (get_or texts i d).now
  here = get_or-map (λ (text : Bor Text). text.now) texts i d d.now lt

  pub one_more_int : (ints : List ℤ) → AreEachInt (take i (map (λ text. text.now) texts)) ints
      → (int : ℤ) → IsInt int → (get_or texts i d).now ≡ signed_number int
      → AreEachInt (take (i + 1) (map (λ text. text.now) texts)) (ints ++ int ∷ [])
  one_more_int ints so_far int is text_is = record {
    each = All-push IsInt ints int so_far.each is;
    spelled =
        take_more spelled i d.now inside ∙ ap (λ l. l ++ get_or spelled i d.now ∷ []) so_far.spelled
        ∙ ap (λ t. map signed_number ints ++ t ∷ []) (here ∙ text_is) ∙ sym (map-append signed_number ints (int ∷ []));
  }

  pub no_int : ((int : ℤ) → IsInt int → (get_or texts i d).now ≡ signed_number int → ⊥) → (ints : List ℤ)
      → AreEachInt (map (λ text. text.now) texts) ints → ⊥
  no_int none ints are =
      let long : i < length ints = omega (arith, inside, ap length are.spelled, length-map ints signed_number) in
      none (get_or ints i (pos 0)) (All-get_or IsInt ints i (pos 0) long are.each)
      (sym here ∙ ap (λ l. get_or l i d.now) are.spelled ∙ get_or-map signed_number ints i (pos 0) d.now long)

-- ---- a text that is read as an int, or isn't

module _ (text : Text) where
  read_as : (read : Result ℤ (Unit {0})) → ParsesSigned w32 10 text read → (int : ℤ) → IsInt int → text ≡ signed_number int
      → MatchResult read (λ found. found ≡ int) (λ _. ⊥)
  read_as read reads int is spelled =
      let same : read ≡ Ok int = parse-signed_decimal w32 int text read is (omega (arith, is.sfits)) spelled reads in
      subst (λ r. MatchResult r (λ found. found ≡ int) (λ _. ⊥)) (sym same) refl

  pub not_read : ParsesSigned {E = Unit {0}} w32 10 text (Err tt) → (int : ℤ) → IsInt int → text ≡ signed_number int → ⊥
  not_read reads int is spelled = read_as (Err tt) reads int is spelled

  pub not_spelled : (found : ℤ) → ParsesSigned {E = Unit {0}} w32 10 text (Ok found) → (text ≡ signed_number found → ⊥)
      → (int : ℤ) → IsInt int → text ≡ signed_number int → ⊥
  not_spelled found reads none int is spelled =
      let value : found ≡ int = read_as (Ok found) reads int is spelled in
      none (spelled ∙ ap signed_number (sym value))

-- ---- what a search is to find

-- what runs are searched for, too, has the same word
pub searched_word : (word : Text) (goal : Goal) → IsGoalWord word goal → IsSearchGoalWord word (search_goal goal)
searched_word word goals.Deadlock is = is
searched_word word goals.Uncaught is = is
searched_word word (goals.Output ints) is = is
searched_word word (goals.Text units) is = is
searched_word word (goals.Differs path) is = is

-- a word that is none of the other three, and names no outcome of runs
module _ (word : Text) (no_race : word ≡ codes "race" → ⊥) (not_endless : word ≡ codes "endless" → ⊥) (not_any : word ≡ codes "any" → ⊥) (none : (goal : Goal) → IsGoalWord word goal → ⊥) where
  pub none_searched : (goal : SearchGoal) → IsSearchGoalWord word goal → ⊥
  none_searched sought.Race is = no_race is
  none_searched sought.Endless is = not_endless is
  none_searched sought.Any is = not_any is
  none_searched sought.Uncaught is = none goals.Uncaught is
  none_searched sought.Deadlock is = none goals.Deadlock is
  none_searched (sought.Output ints) is = none (goals.Output ints) is
  none_searched (sought.Text units) is = none (goals.Text units) is
  none_searched (sought.Differs path) is = none (goals.Differs path) is

-- where something is asked for
pub nothing_sought : (value : Option Text) → value ≡ None → IsSearchGoal value None
nothing_sought value e = subst (λ v. IsSearchGoal v None) (sym e) tt

module _ (value : Option Text) (word : Text) (is : value ≡ Some word) where
  pub one_sought : (goal : SearchGoal) → IsSearchGoalWord word goal → IsSearchGoal value (Some goal)
  one_sought goal named = subst (λ v. IsSearchGoal v (Some goal)) (sym is) named

  pub none_sought : ((goal : SearchGoal) → IsSearchGoalWord word goal → ⊥) → (goal : Option SearchGoal) → IsSearchGoal value goal → ⊥
  none_sought none goal fits = refute goal (subst (λ v. IsSearchGoal v goal) is fits)
    where
      refute : (goal : Option SearchGoal) → IsSearchGoal (Some word) goal → ⊥
      refute None no_goal = no_goal
      refute (Some goal) named = none goal named

-- ---- where an outcome is asked for

pub none_asked : (value : Option Text) → value ≡ None → IsGoal value None
none_asked value e = subst (λ v. IsGoal v None) (sym e) tt

module _ (value : Option Text) (word : Text) (is : value ≡ Some word) where
  pub one_asked : (goal : Goal) → IsGoalWord word goal → IsGoal value (Some goal)
  one_asked goal named = subst (λ v. IsGoal v (Some goal)) (sym is) named

  pub none_fits : ((goal : Goal) → IsGoalWord word goal → ⊥) → (goal : Option Goal) → IsGoal value goal → ⊥
  none_fits none goal fits = refute goal (subst (λ v. IsGoal v goal) is fits)
    where
      refute : (goal : Option Goal) → IsGoal (Some word) goal → ⊥
      refute None no_goal = no_goal
      refute (Some goal) named = none goal named
