-- Vector text in terms of vectors: how a vector is spelled, and that exactly the spelled vectors are read.
use Rattle.std.specs.Prelude.{◌≡◌, ℕ, ◌+◌, ◌^◌, ◌<◌, ◌≤◌, false, List, ◌++◌, length, is_ok, Ok, codes, decimal, Result}
use Rattle.std.specs.List.{flat_map as written_all, AllByRecursion as Every}
use Rattle.refusal.specs.Tellings.{Telling}
use Rattle.lines.specs.Lines.{says_word, says_number}
use Rattle.lines.specs.Writing.{written}
use Rattle.passes.specs.Texts.{lines}
use Rattle.passes.specs.Over.{over}
use Rattle.vector_text.specs.declared.format.Kind.{Kind}
use Rattle.vector_text.specs.Words.{kind_word}
use Rattle.vector_text.specs.Reading.{Header}

abbrev pub entry_line : ℕ → List ℕ
entry_line n = written (says_number (codes "entry") (decimal n) n)

-- the lines of a vector of some kind, one after another
abbrev pub render : Kind → List ℕ → List ℕ
render k es =
    written (says_word (codes "vector") (kind_word k))
    ++ (written_all entry_line es ++ written (says_word (codes "end") (codes "vector")))

-- what is told of a vector at the head of a text, its first line having a number
abbrev pub header_of : ℕ → Kind → List ℕ → List ℕ → Header
header_of first k es rest = record { kind = k; count = length es; at = first + (length es + 2); rest = lines rest }

-- A vector is read exactly when the text begins with one that the list can hold: its entries are then in the list, with
-- what the list held past them, and what follows it is handed on. A text that is refused leaves the list as it was.
pub record ReadAsSpelled (first : ℕ) (text old : List ℕ) (r : Result Header Telling) (new : List ℕ) : Type 0 where
  pub read : (h : Header) → r ≡ Ok h
      → (k : Kind) × (es : List ℕ) × (rest : List ℕ) × Every (λ n. n < 2 ^ 32) es × (length es ≤ length old)
      × (text ≡ render k es ++ rest)
  pub spelled : (k : Kind) (es rest : List ℕ) → Every (λ n. n < 2 ^ 32) es → length es ≤ length old
      → text ≡ render k es ++ rest → (r ≡ Ok (header_of first k es rest)) × (new ≡ over es old)
  pub refused : is_ok r ≡ false → new ≡ old
