use Rattle.std.proofs.Common.{◌≡◌, ◌∙◌, ◌++◌, [], ◌∷◌, Bool, List, ℕ, false, append_assoc, ap, length, map, sym}
use Rattle.std.specs.Prelude.{◌==◌, codes, if◌then◌else◌}
use Rattle.std.proofs.lemmas.List.{length-map}
use Rattle.library_files.specs.Adding.{library_file}
use Rattle.engines.specs.Verifications.{own_names}
use Rattle.engines.proofs.verification.push_own.Goals as goal

pub returns : goal.returns
returns c =
    let own = map library_file c.args.own.now in
    let old = c.args.text.now.items in
    let front : List ℕ = codes "instead of the library's:" in
    let some : (length own == 0) ≡ false = ap (λ n. n == 0) (length-map c.args.own.now library_file) ∙ sym c.is_empty.ensures ∙ c.if-is_empty.false in
    c.in_ok-extend_from_slice-2.ensures.items
    ∙ ap (λ (t : List ℕ). t ++ 10 ∷ []) (c.in_ok-push_names.ensures ∙ ap (λ (t : List ℕ). t ++ own_names own) c.in_ok-extend_from_slice.ensures.items)
    ∙ append_assoc (old ++ front) (own_names own) (10 ∷ []) ∙ append_assoc old front (own_names own ++ 10 ∷ [])
    ∙ ap (λ (none : Bool). old ++ (if none then [] else front ++ (own_names own ++ 10 ∷ []))) (sym some)
