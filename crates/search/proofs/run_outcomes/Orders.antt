-- The order of outcomes is a total order, and tells them apart.
use Rattle.std.proofs.Common.{◌≡◌, ℕ, zero, suc, List, [], ◌∷◌, refl, sym, ap, ◌∙◌}
use Rattle.std.specs.Cmp.{IsTotalOrder}
use Rattle.std.specs.Cmp.Lexicographic.{slice_cmp}
use Rattle.std.specs.Ordering.{nat_cmp, ordering_then}
use Rattle.std.specs.declared.cmp.Ordering.{Ordering}
use Rattle.std.specs.declared.cmp.Ordering.TheVariants.{Less, Equal, Greater}
use Rattle.std.proofs.lemmas.Cmp.{nat_cmp_total, nat_list_cmp_total, lists_total, on_total, then_total}
use Rattle.model.specs.Report.{ThreadEnd, Ended, Threw, Blocked, Waiting, Joining, Initialising, Runnable}
use Rattle.run_laws.specs.interleavings.Ends.{Outcome}
use Rattle.search.specs.run_outcomes.Lines.{ints_below, line_cmp, lines_of, text_cmp}
use Rattle.search.proofs.run_outcomes.Ties.{both_equal, same_lists, same_number}
use Rattle.search.specs.run_outcomes.Outcomes.{rank_of, exception_of, end_cmp, outcome_cmp}

-- ---- a total order

ends_total : IsTotalOrder end_cmp
ends_total = then_total (on_total rank_of nat_cmp_total) (on_total exception_of nat_list_cmp_total)

lines_total : IsTotalOrder line_cmp
lines_total = then_total (on_total ints_below nat_cmp_total) nat_list_cmp_total

texts_total : IsTotalOrder text_cmp
texts_total = then_total (on_total lines_of (lists_total lines_total)) nat_list_cmp_total

pub outcomes_total : IsTotalOrder outcome_cmp
outcomes_total = then_total (on_total (λ (o : Outcome). o.printed) texts_total) (on_total (λ (o : Outcome). o.ends) (lists_total ends_total))

-- ---- what is equal in it is the same

-- a standing, by its rank and its exception
end_at : ℕ → List ℕ → ThreadEnd
end_at zero name = Ended
end_at (suc zero) name = Threw name
end_at (suc (suc zero)) name = Blocked
end_at (suc (suc (suc zero))) name = Waiting
end_at (suc (suc (suc (suc zero)))) name = Joining
end_at (suc (suc (suc (suc (suc zero))))) name = Initialising
end_at (suc (suc (suc (suc (suc (suc n)))))) name = Runnable

told_apart : (end : ThreadEnd) → end_at (rank_of end) (exception_of end) ≡ end
unfolding end_at
told_apart Ended = refl
told_apart (Threw name) = refl
told_apart Blocked = refl
told_apart Waiting = refl
told_apart Joining = refl
told_apart Initialising = refl
told_apart Runnable = refl

same_end : (one other : ThreadEnd) → end_cmp one other ≡ Equal → one ≡ other
same_end one other e =
    let both = both_equal (nat_cmp (rank_of one) (rank_of other)) (slice_cmp nat_cmp (exception_of one) (exception_of other)) e in
    let rank = same_number (rank_of one) (rank_of other) both.0 in
    let name = same_lists nat_cmp same_number (exception_of one) (exception_of other) both.1 in
    sym (told_apart one) ∙ (ap (λ n. end_at n (exception_of one)) rank ∙ (ap (end_at (rank_of other)) name ∙ told_apart other))

pub same_outcome : (one other : Outcome) → outcome_cmp one other ≡ Equal → one ≡ other
same_outcome one other e =
    let both = both_equal (text_cmp one.printed other.printed) (slice_cmp end_cmp one.ends other.ends) e in
    let units = both_equal (slice_cmp line_cmp (lines_of one.printed) (lines_of other.printed)) (slice_cmp nat_cmp one.printed other.printed) both.0 in
    let printed = same_lists nat_cmp same_number one.printed other.printed units.1 in
    let ends = same_lists end_cmp same_end one.ends other.ends both.1 in
    ap (λ l. let o : Outcome = record { printed = l; ends = one.ends } in o) printed ∙ ap (λ l. let o : Outcome = record { printed = other.printed; ends = l } in o) ends
