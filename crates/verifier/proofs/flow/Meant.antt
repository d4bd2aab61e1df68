-- The meanings of instructions that are kept.
use Rattle.std.proofs.Common.{◌≡◌, ℕ, zero, suc, List, [], ◌∷◌, Bool, true, false, ◌==◌, Option, Some, None, refl, sym, ap, ◌∙◌, subst}
use Rattle.std.specs.Prelude.{replicate, slice_get, slice_set, IsSomeAnd}
use Rattle.std.proofs.lemmas.Bool.{false≢true, eqb-true, eq-eqb}
use Rattle.std.proofs.lemmas.Option.{same_Some}
use Rattle.model.specs.Operands.{values}
use Rattle.model.specs.Sites.{Site, site_at}
use Rattle.model.specs.Meanings.{other_meaning}
use Rattle.types.specs.declared.method_code.declaration.MethodCode.{MethodCode}
use Rattle.types.specs.method_code.View.{files_of, member_of, body_of}
use Rattle.instruction_types.specs.Means.{Means}
use Rattle.instruction_types.specs.declared.meaning.Meaning.{Meaning}
use Rattle.run_laws.proofs.typing_search.Merging.{get_set_other}
use Rattle.verifier.specs.flow.Meanings.{AreMeanings}

none_kept : (n k : ℕ) (meaning : Meaning) → slice_get (replicate n None) k ≡ Some (Some meaning) → ⊥
none_kept zero k meaning e = cc
none_kept (suc n) zero meaning e = cc
none_kept (suc n) (suc k) meaning e = none_kept n k meaning e

kept_now : (kept : List (Option Meaning)) (k : ℕ) (meaning other : Meaning)
    → slice_get (slice_set kept k (Some meaning)) k ≡ Some (Some other) → meaning ≡ other
kept_now [] k meaning other e = absurd cc
kept_now (x ∷ xs) zero meaning other e = cc
kept_now (x ∷ xs) (suc k) meaning other e = kept_now xs k meaning other e

module _ (m : MethodCode) where
  pub none_meant : (n : ℕ) (kept : List (Option Meaning)) → kept ≡ replicate n None → AreMeanings m kept
  none_meant n kept e site meaning there at = absurd (none_kept n site.offset meaning (ap (λ l. slice_get l site.offset) (sym e) ∙ at))

  pub nothing_meant : AreMeanings m []
  nothing_meant site meaning there at = absurd (none_kept zero site.offset meaning at)

  -- what the instruction at an offset means is kept there
  pub meant_too : (kept : List (Option Meaning)) (site : Site) (meaning : Meaning) → site_at (member_of m) (body_of m) site.offset ≡ Some site
      → IsSomeAnd (other_meaning values (files_of m) site site.instr) (Means (files_of m) site meaning) → AreMeanings m kept
      → AreMeanings m (slice_set kept site.offset (Some meaning))
  meant_too kept site meaning there means are other found there_too at = by (other.offset == site.offset) refl
    where
      by : (b : Bool) → (other.offset == site.offset) ≡ b
          → IsSomeAnd (other_meaning values (files_of m) other other.instr) (Means (files_of m) other found)
      by true q =
          let same = eqb-true other.offset site.offset q in
          let one : site ≡ other = same_Some _ _ (sym there ∙ (ap (site_at (member_of m) (body_of m)) (sym same) ∙ there_too)) in
          let told : meaning ≡ found = kept_now kept site.offset meaning found (subst (λ k. slice_get (slice_set kept site.offset (Some meaning)) k ≡ Some (Some found)) same at) in
          subst (λ (f : Meaning). IsSomeAnd (other_meaning values (files_of m) other other.instr) (Means (files_of m) other f)) told
          (subst (λ (s : Site). IsSomeAnd (other_meaning values (files_of m) s s.instr) (Means (files_of m) s meaning)) one means)
      by false q =
          are other found there_too
          (sym (get_set_other kept site.offset other.offset (Some meaning) (λ r. false≢true (sym q ∙ eq-eqb other.offset site.offset r))) ∙ at)
