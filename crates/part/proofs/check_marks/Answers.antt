use Rattle.std.proofs.Common.{◌≡◌, ℕ, ltb, leb, List, length, position, Option, ◌≤◌, ◌∙◌, inl, inr, sym}
use Rattle.std.proofs.Math.Bool.{not}
use Rattle.std.proofs.lemmas.Bool.{cases_lt, lt-ltb, lt-leb, le-ltb, le-leb}
use Rattle.part.specs.Marks.{bad_mark}
use Rattle.refusal.proofs.Tests.{position_bad}
use Rattle.part.proofs.check_marks.Goals as goal

opposite : (b : ℕ) → ltb 1 b ≡ not (leb b 1)
opposite b = elim (cases_lt 1 b) [ inl h ↦ rw (lt-ltb 1 b h, lt-leb b 1 h) | inr h ↦ rw (le-ltb 1 b h, le-leb b 1 h) ]

found : (marks : List ℕ) (o : Option ℕ) → length marks ≤ 4096 → o ≡ position (λ b. ltb 1 b) marks → bad_mark marks ≡ o
found marks o h e = rw (le-leb (length marks) 4096 h) (sym (e ∙ position_bad (λ b. ltb 1 b) (λ b. leb b 1) opposite marks))

pub returns-in-Some : goal.returns-in-Some
returns-in-Some c = rw (found c.args.marks.now _ c.if-marks-gt4096.false c.in-Some.ensures)

pub returns-in-None : goal.returns-in-None
returns-in-None c = rw (found c.args.marks.now _ c.if-marks-gt4096.false c.in-None.ensures)
