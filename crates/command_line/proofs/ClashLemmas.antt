-- The words of a run have one number and one policy for each option.
use Rattle.std.proofs.Common.{◌≡◌, ◌∙◌, ℕ, List, Option, None, Some, ap, sym, refl, subst, codes, true, false}
use Rattle.std.specs.Prelude.{MatchOption}
use Rattle.std.proofs.lemmas.Bool.{true≢false}
use Rattle.std.specs.Str.{bytes_eq}
use Rattle.clap.specs.Words.{Row, Text, first_of}
use Rattle.command_line.specs.CommandLine.{AreRunNumbers, IsNumber, UnlessSweep}
use Rattle.command_line.specs.Policies.{GoTogether, IsPolicy, IsPolicyWord}
use Rattle.command_line.specs.declared.run_options.PolicyName.{PolicyName}
use Rattle.command_line.specs.declared.run_options.PolicyName.TheVariants.{Mixed, Random, Rotation}
use Rattle.command_line.specs.declared.run_options.RunOptions.{RunOptions}

one_number : (least most : ℕ) (text : Option Text) (one other : Option ℕ) → IsNumber least most text one → IsNumber least most text other
    → one ≡ other
one_number least most None None None is also = refl
one_number least most None None (Some other) is also = elim also [ ]
one_number least most None (Some one) other is also = elim is [ ]
one_number least most (Some text) None other is also = elim is [ ]
one_number least most (Some text) (Some one) None is also = elim also [ ]
one_number least most (Some text) (Some one) (Some other) is also = ap Some (sym is.1 ∙ also.1)

-- two words are no equal ones where a third one is equal to one of them alone
apart : (word one other : Text) → word ≡ one → word ≡ other → bytes_eq one one ≡ true → bytes_eq other one ≡ false → ⊥
apart word one other is also same differs = true≢false (sym same ∙ ap (λ text. bytes_eq text one) (sym is ∙ also) ∙ differs)

one_policy : (word : Text) (one other : PolicyName) → IsPolicyWord word one → IsPolicyWord word other → one ≡ other
one_policy word Mixed Mixed is also = refl
one_policy word Random Random is also = refl
one_policy word Rotation Rotation is also = refl
one_policy word Mixed Random is also = elim (apart word (codes "mixed") (codes "random") is also refl refl) [ ]
one_policy word Mixed Rotation is also = elim (apart word (codes "mixed") (codes "rotation") is also refl refl) [ ]
one_policy word Random Mixed is also = elim (apart word (codes "random") (codes "mixed") is also refl refl) [ ]
one_policy word Random Rotation is also = elim (apart word (codes "random") (codes "rotation") is also refl refl) [ ]
one_policy word Rotation Mixed is also = elim (apart word (codes "rotation") (codes "mixed") is also refl refl) [ ]
one_policy word Rotation Random is also = elim (apart word (codes "rotation") (codes "random") is also refl refl) [ ]

one_name : (word : Option Text) (one other : Option PolicyName) → IsPolicy word one → IsPolicy word other → one ≡ other
one_name None None None is also = refl
one_name None None (Some other) is also = elim also [ ]
one_name None (Some one) other is also = elim is [ ]
one_name (Some word) None other is also = elim is [ ]
one_name (Some word) (Some one) None is also = elim also [ ]
one_name (Some word) (Some one) (Some other) is also = ap Some (one_policy word one other is also)

-- so where the numbers that were found don't go together, none do
pub clashing : (rows : List Row) (workers quantum seed : Option ℕ) (policy : Option PolicyName)
    → IsNumber 1 64 (first_of (codes "workers") rows) workers → IsNumber 1 4294967295 (first_of (codes "quantum") rows) quantum
    → IsNumber 0 18446744073709551615 (first_of (codes "seed") rows) seed → IsPolicy (first_of (codes "policy") rows) policy
    → (UnlessSweep (first_of (codes "seeds") rows) (GoTogether workers quantum seed policy) → ⊥) → (options : RunOptions) → AreRunNumbers rows options → ⊥
clashing rows workers quantum seed policy of_workers of_quantum of_seed of_policy clash options are =
    let same_workers = one_number 1 64 (first_of (codes "workers") rows) options.workers workers are.workers of_workers in
    let same_quantum = one_number 1 4294967295 (first_of (codes "quantum") rows) options.quantum quantum are.quantum of_quantum in
    let same_seed = one_number 0 18446744073709551615 (first_of (codes "seed") rows) options.seed seed are.seed of_seed in
    let same_policy = one_name (first_of (codes "policy") rows) options.policy policy are.policy of_policy in
    clash (subst (λ number. UnlessSweep (first_of (codes "seeds") rows) (GoTogether number quantum seed policy)) same_workers
    (subst (λ number. UnlessSweep (first_of (codes "seeds") rows) (GoTogether options.workers number seed policy)) same_quantum
    (subst (λ number. UnlessSweep (first_of (codes "seeds") rows) (GoTogether options.workers options.quantum number policy)) same_seed
    (subst (λ name. UnlessSweep (first_of (codes "seeds") rows) (GoTogether options.workers options.quantum options.seed name)) same_policy are.together))))

-- of a sweep nothing clashes
pub none_of_sweep : (seeds : Option Text) (word : Text) (P : Type 0) → seeds ≡ Some word → UnlessSweep seeds P
none_of_sweep seeds word P is = subst (λ o. UnlessSweep o P) (sym is) tt

-- without one it is as it is told
pub told_of_run : (seeds : Option Text) (P : Type 0) {A : Type 0} (o : Option A) → seeds ≡ None → MatchOption o P (λ _. P → ⊥) → MatchOption o (UnlessSweep seeds P) (λ _. UnlessSweep seeds P → ⊥)
told_of_run seeds P o is told = subst (λ (s : Option Text). MatchOption o (UnlessSweep s P) (λ _. UnlessSweep s P → ⊥)) (sym is) told
