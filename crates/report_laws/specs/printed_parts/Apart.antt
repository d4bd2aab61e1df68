-- How the parts of a report are told apart.
use Rattle.std.specs.Prelude.{◌≡◌, ℕ, List, ◌∷◌, ◌++◌, codes, refl}
use Rattle.model.specs.Texts.{Text, printed_lines}
use Rattle.model.specs.declared.end.End.{End}
use Rattle.model.specs.Report.{ThreadEnd, end_words, line, number, report_text, thread_lines}

-- Why no more events were done: the run ended by its events or their budget, its seconds were over, or a place gave up.
pub data Why : Type 0 where
  ByEnd : End → Why
  BySeconds : Why
  ByPlace : ℕ → Why

abbrev pub why_words : Why → List ℕ
why_words (ByEnd end) = end_words end
why_words BySeconds = codes "seconds"
why_words (ByPlace i) = codes "place " ++ number i

-- what stands behind the printed text: the threads, the number of events, and why no more were done
abbrev pub lines_behind : List ThreadEnd → ℕ → Why → List ℕ
lines_behind threads events why = thread_lines 0 threads ++ (line (codes "events " ++ number events) ++ line (codes "end " ++ why_words why))

-- the text of a report, for each of these ends
abbrev pub whole_report : Text → List ThreadEnd → ℕ → Why → List ℕ
whole_report printed threads events why = printed_lines printed ++ lines_behind threads events why

-- Where two reports are the same text, what was printed is the same lines, and what stands behind it is the same.
abbrev pub ArePrintedTextsApart : Type 0
ArePrintedTextsApart = (p q : Text) (thread other : ThreadEnd) (threads others : List ThreadEnd) (events done : ℕ) (why cause : Why)
    → whole_report p (thread ∷ threads) events why ≡ whole_report q (other ∷ others) done cause
    → (printed_lines p ≡ printed_lines q) × (lines_behind (thread ∷ threads) events why ≡ lines_behind (other ∷ others) done cause)

-- ---- where the end is one of `End`, that is the text of `Report`

as_reported : (printed : Text) (threads : List ThreadEnd) (events : ℕ) (end : End) → whole_report printed threads events (ByEnd end) ≡ report_text printed threads events end
as_reported printed threads events end = refl
