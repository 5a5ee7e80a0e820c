-- How a line is written, and that reading takes exactly the lines that are.
use Rattle.std.specs.Prelude.{◌≡◌, ℕ, ◌^◌, ◌<◌, ◌≤◌, true, List, [], ◌∷◌, ◌++◌, length, Ok, decimal, Result}
use Rattle.std.specs.List.{AllByRecursion as Every}
use Rattle.refusal.specs.Tellings.{Telling}
use Rattle.lines.specs.Bytes.{is_letter}
use Rattle.lines.specs.Lines.{Said, says_word, says_number, Reading, reading}

-- key, =, value, newline
abbrev pub line_of : List ℕ → List ℕ → List ℕ
line_of key v = (key ++ (61 ∷ v)) ++ (10 ∷ [])

abbrev pub written : Said → List ℕ
written (says_word key v) = line_of key v
written (says_number key v n) = line_of key v

-- 1 to 8 letters
pub record Name (bs : List ℕ) : Type 0 where
  pub some : 1 ≤ length bs
  pub few : length bs ≤ 8
  pub letters : Every (λ b. is_letter b ≡ true) bs

-- keys and words are names, and digits those of a 32-bit number
abbrev pub Proper : Said → Type 0
Proper (says_word key v) = Name key × Name v
Proper (says_number key v n) = Name key × (v ≡ decimal n) × (n < 2 ^ 32)

-- A line is read exactly when the text begins with one that is properly written: what is read is then what that line
-- says, and what is left is the text after it.
pub record ReadAsWritten (at : ℕ) (t : List ℕ) (r : Result Reading Telling) : Type 0 where
  pub proper : (x : Reading) → r ≡ Ok x → Proper x.said × (t ≡ written x.said ++ x.rest)
  pub taken : (s : Said) (rest : List ℕ) → Proper s → t ≡ written s ++ rest → r ≡ Ok (reading at s rest)
