-- What the code's tokens say.
use Rattle.std.specs.Prelude.{ℕ, Some, None, Option}
use Rattle.lines.specs.declared.token.Line.{Line}
use Rattle.lines.specs.declared.token.Line.TheVariants.{Word, Number}
use Rattle.lines.specs.declared.text.Read.{Read}
use Rattle.lines.specs.Lines.{Said, says_word, says_number, Reading}

abbrev pub line_at : Line → ℕ
line_at (Word at key value) = at
line_at (Number at key value number) = at

abbrev pub said_by : Line → Said
said_by (Word at key value) = says_word key.now value.now
said_by (Number at key value number) = says_number key.now value.now number

-- what is said, with the line's number
abbrev pub spoken : Option Line → Option (ℕ × Said)
spoken None = None
spoken (Some l) = Some (line_at l, said_by l)

abbrev pub heard : ℕ → Option Said → Option (ℕ × Said)
heard at None = None
heard at (Some s) = Some (at, s)

abbrev pub read : Read → Reading
read x = record { at = line_at x.line; said = said_by x.line; rest = x.text.rest.now }
