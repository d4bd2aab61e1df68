-- The paths of the schedules of outcomes, and of files that may be such.
use Rattle.std.proofs.Common.{◌≡◌, ◌<◌, ◌^◌, ◌++◌, ◌∷◌, ◌&&◌, ◌||◌, ◌∙◌, ◌==◌, ℕ, Bool, List, [], true, false, not, All, if◌then◌else◌, ap, ap₂, append_assoc, arith, bytes_eq, codes, decimal, flat_map, get_or, length, ne_eqb, refl, sym}
use Rattle.std.proofs.lemmas.List.{append-nil}
use Rattle.std.specs.List.{list_all, onto_first, slice_split}
use Rattle.std.specs.Cmp.{booleans_Decides}
use Rattle.std.proofs.lemmas.Bool.{true≢false}
use Rattle.std.proofs.lemmas.Bool.Decides.{Decides-eqb}
use Rattle.std.proofs.lemmas.Grind.{flat_map-append}
use Rattle.std.proofs.lemmas.List.Elements.{All-append, All-from_get_or}
use Rattle.std.proofs.lemmas.List.Splits.{length-slice_split, slice_split-cons_no, slice_split-cons_yes, slice_split_none}
use Rattle.std.proofs.lemmas.List.Sums.{AllPass-from_list_all}
use Rattle.std.proofs.lemmas.Slice.Eq.{bytes_eq-Decides, ends_is, starts_is}
use Rattle.command_line.specs.Paths.{is_absolute, is_same_path, step_of, steps_of}
use Rattle.program_files.specs.Given.{is_given}
use Rattle.schedule.proofs.schedule_text.EntryLaws.{decimal_digits}
use Rattle.engines.specs.Files.{Path}
use Rattle.engines.specs.OutcomeFiles.{has_outcome, may_be_outcome, outcome_path}

-- ---- parts between slashes

module _ {A : Type 0} (p : A → Bool) where
  onto_joined : (x : A) (parts more : List (List A)) → 0 < length parts → onto_first x (parts ++ more) ≡ onto_first x parts ++ more
  onto_joined x [] more some = absurd (omega (arith, some))
  onto_joined x (part ∷ parts) more some = refl

  split_joined : (xs : List A) (s : A) (ys : List A) → p s ≡ true → slice_split p (xs ++ s ∷ ys) ≡ slice_split p xs ++ slice_split p ys
  split_joined [] s ys cuts = slice_split-cons_yes p s ys cuts
  split_joined (x ∷ xs) s ys cuts = by (p x) refl (split_joined xs s ys cuts)
    where
      by : (b : Bool) → p x ≡ b → slice_split p (xs ++ s ∷ ys) ≡ slice_split p xs ++ slice_split p ys
          → slice_split p (x ∷ (xs ++ s ∷ ys)) ≡ slice_split p (x ∷ xs) ++ slice_split p ys
      by true here joined =
          slice_split-cons_yes p x (xs ++ s ∷ ys) here ∙ ap (λ l. [] ∷ l) joined ∙ ap (λ l. l ++ slice_split p ys) (sym (slice_split-cons_yes p x xs here))
      by false not_here joined =
          slice_split-cons_no p x (xs ++ s ∷ ys) not_here ∙ ap (onto_first x) joined
          ∙ onto_joined x (slice_split p xs) (slice_split p ys) (omega (arith, length-slice_split p xs))
          ∙ ap (λ l. l ++ slice_split p ys) (sym (slice_split-cons_no p x xs not_here))

-- ---- steps

steps_joined : (one other : Path) → steps_of (one ++ 0x2f ∷ other) ≡ steps_of one ++ steps_of other
steps_joined one other =
    ap (flat_map step_of) (split_joined (λ b. b == 0x2f) one 0x2f other refl)
    ∙ flat_map-append step_of (slice_split (λ b. b == 0x2f) one) (slice_split (λ b. b == 0x2f) other)

no_slashes : (bytes : List ℕ) → list_all (λ b. not (b == 0x2f)) bytes ≡ true → All (λ b. (b == 0x2f) ≡ false) bytes
no_slashes bytes pass = λ k d within. is_false _ (AllPass-from_list_all (λ b. not (b == 0x2f)) bytes pass k d within)
  where
    is_false : (b : Bool) → not b ≡ true → b ≡ false
    is_false true is = absurd (true≢false (sym is))
    is_false false is = refl

digits_alone : (n : ℕ) → n < 2 ^ 64 → All (λ b. (b == 0x2f) ≡ false) (decimal n)
digits_alone n small =
    All-from_get_or (λ b. (b == 0x2f) ≡ false) (decimal n) 0
    (λ i within. let digit = decimal_digits n small i within in ne_eqb (get_or (decimal n) i 0) 0x2f (λ slash. absurd (omega (arith, digit.0, slash))))

-- a name that begins with an `o` and has no slash is a step
a_step : (rest : List ℕ) → All (λ b. (b == 0x2f) ≡ false) (0x6f ∷ rest) → steps_of (0x6f ∷ rest) ≡ 0x2f ∷ 0x6f ∷ rest
a_step rest none =
    ap (flat_map step_of) (slice_split_none (λ b. b == 0x2f) (0x6f ∷ rest) none) ∙ append-nil (step_of (0x6f ∷ rest))
    ∙ ap (λ b. if (b || bytes_eq (0x6f ∷ rest) (codes ".")) then [] else 0x2f ∷ 0x6f ∷ rest) (ne_eqb (length (0x6f ∷ rest)) 0 (λ empty. absurd (omega (arith, empty))))

-- ---- the paths of outcomes

and_both : (a b : Bool) → (a && b) ≡ true → (a ≡ true) × (b ≡ true)
and_both true b is = (refl, is)
and_both false b is = absurd (true≢false (sym is))

or_neither : (a b : Bool) → (a || b) ≡ false → (a ≡ false) × (b ≡ false)
or_neither true b is = absurd (true≢false is)
or_neither false b is = (refl, is)

same_begin : (folder one other : Path) → is_absolute (folder ++ 0x2f ∷ one) ≡ is_absolute (folder ++ 0x2f ∷ other)
same_begin [] one other = refl
same_begin (x ∷ folder) one other = refl

module _ (folder : Path) (n : ℕ) (small : n < 2 ^ 64) where
  abbrev end : List ℕ
  end = decimal n ++ codes ".schedule"

  front_steps : steps_of (folder ++ codes "/outcome-") ≡ steps_of folder ++ codes "/outcome-"
  front_steps = steps_joined folder (codes "outcome-") ∙ ap (λ l. steps_of folder ++ l) (a_step (codes "utcome-") (no_slashes (codes "outcome-") refl))

  path_steps : steps_of (outcome_path folder n) ≡ steps_of folder ++ (codes "/outcome-" ++ end)
  path_steps =
      let none = All-append (λ b. (b == 0x2f) ≡ false) (codes "outcome-") end (no_slashes (codes "outcome-") refl)
      (All-append (λ b. (b == 0x2f) ≡ false) (decimal n) (codes ".schedule") (digits_alone n small) (no_slashes (codes ".schedule") refl))
      in
      steps_joined folder (codes "outcome-" ++ end) ∙ ap (λ l. steps_of folder ++ l) (a_step (codes "utcome-" ++ end) none)

  module _ (file : Path) where
    may_be : is_same_path file (outcome_path folder n) ≡ true → may_be_outcome folder file ≡ true
    may_be same =
        let both = and_both _ _ same in
        let begin : is_absolute file ≡ is_absolute (outcome_path folder n) = (booleans_Decides (is_absolute file) (is_absolute (outcome_path folder n))).0 both.0 in
        let steps : steps_of file ≡ steps_of (outcome_path folder n) = (bytes_eq-Decides (steps_of file) (steps_of (outcome_path folder n))).0 both.1 in
        let in_front : steps_of file ≡ steps_of (folder ++ codes "/outcome-") ++ end =
        steps ∙ path_steps ∙ sym (append_assoc (steps_of folder) (codes "/outcome-") end) ∙ ap (λ l. l ++ end) (sym front_steps)
        in
        let behind : steps_of file ≡ (steps_of (folder ++ codes "/outcome-") ++ decimal n) ++ codes ".schedule" =
        in_front ∙ sym (append_assoc (steps_of (folder ++ codes "/outcome-")) (decimal n) (codes ".schedule"))
        in
        let begins = (booleans_Decides (is_absolute (folder ++ codes "/outcome-")) (is_absolute file)).1 (same_begin folder (codes "outcome-") (codes "outcome-" ++ end) ∙ sym begin) in
        let leads = (starts_is Decides-eqb (steps_of file) (steps_of (folder ++ codes "/outcome-")) _ refl).1 end in_front in
        let ends = (ends_is Decides-eqb (steps_of file) (codes ".schedule") _ refl).1 (steps_of (folder ++ codes "/outcome-") ++ decimal n) behind in
        ap₂ (λ a b. a && b) begins (ap₂ (λ a b. a && b) leads ends)

    unlike : may_be_outcome folder file ≡ false → is_same_path file (outcome_path folder n) ≡ false
    unlike none = by (is_same_path file (outcome_path folder n)) refl
      where
        by : (b : Bool) → is_same_path file (outcome_path folder n) ≡ b → b ≡ false
        by true same = absurd (true≢false (sym (may_be same) ∙ none))
        by false other = refl

  -- none of the files has the path of an outcome, where none has such a name
  pub none_given : (files : List Path) → has_outcome folder files ≡ false → is_given files (outcome_path folder n) ≡ false
  none_given [] none = refl
  none_given (file ∷ files) none =
      let neither = or_neither _ _ none in
      ap₂ (λ a b. a || b) (unlike file neither.0) (none_given files neither.1)
