-- A run as a page of HTML (own): a frame, and in it texts that stand for what is told of the run.
use Rattle.std.specs.Prelude.{◌≡◌, ◌≢◌, ◌≤◌, ◌⊎◌, ℕ, List, ◌++◌, All}
use Rattle.percent_encoding.specs.Percent.{percent_decode}
use Rattle.pages.specs.declared.frame.TheConstants.{HEAD, BETWEEN, TAIL}

-- a line feed, or what ASCII prints, but neither &, < nor >: no markup begins or ends with it (HTML, 13.2.5)
abbrev pub IsTextByte : ℕ → Type 0
IsTextByte b = (b ≡ 10) ⊎ ((32 ≤ b) × (b ≤ 126) × (b ≢ 0x26) × (b ≢ 0x3c) × (b ≢ 0x3e))

-- such a text, which percent-decoding reads as these bytes (RFC 3986, 2.1)
abbrev pub StandsFor : (text bytes : List ℕ) → Type 0
StandsFor text bytes = All IsTextByte text × (percent_decode text ≡ bytes)

-- the frame, with texts that stand for the lines of a trace and for the report behind these
pub record IsPage (lines report page : List ℕ) : Type 0 where
  pub told : List ℕ
  pub told_stands : StandsFor told lines
  pub reported : List ℕ
  pub reported_stands : StandsFor reported report
  pub page_is : page ≡ HEAD.now ++ (told ++ (BETWEEN.now ++ (reported ++ TAIL.now)))
