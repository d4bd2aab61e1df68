-- The policy of a run, by its word.
use Rattle.std.proofs.Common.{◌≡◌, Option, Some, None, subst, sym}
use Rattle.clap.specs.Words.{Text}
use Rattle.command_line.specs.Policies.{IsPolicy, IsPolicyWord}
use Rattle.command_line.specs.declared.run_options.PolicyName.{PolicyName}

pub none_asked : (text : Option Text) → text ≡ None → IsPolicy text None
none_asked text is = subst (λ t. IsPolicy t None) (sym is) tt

pub one_asked : (text : Option Text) (word : Text) → text ≡ Some word → (name : PolicyName) → IsPolicyWord word name → IsPolicy text (Some name)
one_asked text word is name named = subst (λ t. IsPolicy t (Some name)) (sym is) named

word_fits : (word : Text) → ((name : PolicyName) → IsPolicyWord word name → ⊥) → (policy : Option PolicyName) → IsPolicy (Some word) policy → ⊥
word_fits word none None fits = fits
word_fits word none (Some name) fits = none name fits

pub none_fits : (text : Option Text) (word : Text) → text ≡ Some word → ((name : PolicyName) → IsPolicyWord word name → ⊥)
    → (policy : Option PolicyName) → IsPolicy text policy → ⊥
none_fits text word is none policy fits = word_fits word none policy (subst (λ t. IsPolicy t policy) is fits)
