-- The sweep of a run, by its words.
use Rattle.std.proofs.Common.{◌≡◌, ◌∙◌, ◌==◌, ℕ, Bool, Bor, List, [], ◌∷◌, Option, Some, None, ap, codes, get_or, map, refl, subst, suc, sym, true, false, zero}
use Rattle.std.specs.List.{slice_split}
use Rattle.std.proofs.lemmas.Bool.{true≢false}
use Rattle.clap.specs.Words.{Row, Text, first_of}
use Rattle.command_line.specs.CommandLine.{IsFollow, IsRaceFlag, is_set}
use Rattle.command_line.specs.Sweeps.{AreSeeds, IsSeedRange, IsSweepBy, IsSweepGoal, IsSweepOf}
use Rattle.command_line.specs.Goals.{IsGoal}
use Rattle.command_line.specs.declared.options.Goal.{Goal}
use Rattle.command_line.specs.declared.sweep_options.SeedRange.{SeedRange}
use Rattle.command_line.specs.declared.sweep_options.SweepOptions.{SweepOptions}

-- ---- an option that isn't there

pub isnt_there : (text : Option Text) (word : Text) → text ≡ Some word → text ≡ None → ⊥
isnt_there text word is none = let bad : None ≡ Some word = sym none ∙ is in cc

-- ---- a run of which each line is told, where seeds are named

pub not_followed : (rows : List Row) (found : Bool) → found ≡ is_set (first_of (codes "follow") rows) → (word : Text) → first_of (codes "seeds") rows ≡ Some word
    → (found ≡ false → ⊥) → (follow : Bool) → IsFollow rows follow → ⊥
not_followed rows found is word seeds asked true are = isnt_there _ word seeds (are.alone refl)
not_followed rows found is word seeds asked false are = asked (is ∙ sym are.flag)

-- ---- a run of which races are told, where seeds are named, or its lines are printed before its end

pub raced_sweep : (rows : List Row) (set : Bool) → set ≡ is_set (first_of (codes "races") rows) → set ≡ true → (first_of (codes "seeds") rows ≡ None → ⊥)
    → (races : Bool) → IsRaceFlag rows races → ⊥
raced_sweep rows set is on seeds races are = seeds (are.one (are.flag ∙ sym is ∙ on))

pub raced_follow : (rows : List Row) (set : Bool) → set ≡ is_set (first_of (codes "races") rows) → set ≡ true
    → (follow : Bool) → follow ≡ is_set (first_of (codes "follow") rows) → follow ≡ true → (races : Bool) → IsRaceFlag rows races → ⊥
raced_follow rows set is on follow is_follow both races are =
    true≢false (sym both ∙ is_follow ∙ are.behind (are.flag ∙ sym is ∙ on))

-- ---- what is to be found, where it is no race

pub no_sweep_goal : (word : Option Text) → (word ≡ Some (codes "race") → ⊥) → ((goal : Option Goal) → IsGoal word goal → ⊥)
    → (for_race : Bool) (goal : Option Goal) → IsSweepGoal word for_race goal → ⊥
no_sweep_goal word other none true goal is = other is.0
no_sweep_goal word other none false goal is = none goal is

-- ---- seeds, by the parts of their word

-- the text at a place
abbrev at_place : List Text → ℕ → Text
at_place texts i = get_or texts i []

place_of : (texts : List (Bor Text)) (i : ℕ) (d : Bor Text) → d.now ≡ [] → at_place (map (λ text. text.now) texts) i ≡ (get_or texts i d).now
place_of [] i d e = sym e
place_of (x ∷ texts) zero d e = refl
place_of (x ∷ texts) (suc i) d e = place_of texts i d e

pub between : (texts : List (Bor Text)) (d : Bor Text) → d.now ≡ [] → (word : Text) → map (λ text. text.now) texts ≡ slice_split (λ b. b == 0x2e) word
    → ((seeds : SeedRange) → AreSeeds (get_or texts 0 d).now (get_or texts 2 d).now seeds → ⊥) → (seeds : SeedRange) → IsSeedRange word seeds → ⊥
between texts d e word parts none seeds is =
    let first = is.0 in
    let last = is.1 in
    let are : map (λ text. text.now) texts ≡ first ∷ [] ∷ last ∷ [] = parts ∙ is.2 in
    let first_is : first ≡ (get_or texts 0 d).now = sym (ap (λ l. at_place l 0) are) ∙ place_of texts 0 d e in
    let last_is : last ≡ (get_or texts 2 d).now = sym (ap (λ l. at_place l 2) are) ∙ place_of texts 2 d e in
    none seeds (subst (λ t. AreSeeds (get_or texts 0 d).now t seeds) last_is (subst (λ t. AreSeeds t last seeds) first_is is.3))

-- ---- the sweep, by the word of its seeds

module _ (rows : List Row) (text : Option Text) where
  pub no_sweep : text ≡ None → first_of (codes "for") rows ≡ None → IsSweepBy text rows None
  no_sweep is none = subst (λ t. IsSweepBy t rows None) (sym is) none

  pub a_sweep : (word : Text) → text ≡ Some word → (sweep : SweepOptions) → IsSweepOf word rows sweep → IsSweepBy text rows (Some sweep)
  a_sweep word is sweep of_word = subst (λ t. IsSweepBy t rows (Some sweep)) (sym is) of_word

  pub a_goal : text ≡ None → (first_of (codes "for") rows ≡ None → ⊥) → (sweep : Option SweepOptions) → IsSweepBy text rows sweep → ⊥
  a_goal is goal sweep by = there sweep (subst (λ t. IsSweepBy t rows sweep) is by)
    where
      there : (s : Option SweepOptions) → IsSweepBy None rows s → ⊥
      there None none = goal none
      there (Some s) none = none

  pub none_of_word : (word : Text) → text ≡ Some word → ((sweep : SweepOptions) → IsSweepOf word rows sweep → ⊥) → (sweep : Option SweepOptions)
      → IsSweepBy text rows sweep → ⊥
  none_of_word word is none sweep by = there sweep (subst (λ t. IsSweepBy t rows sweep) is by)
    where
      there : (s : Option SweepOptions) → IsSweepBy (Some word) rows s → ⊥
      there None of_word = of_word
      there (Some s) of_word = none s of_word
