-- What the code's values hold.
use Rattle.std.specs.Prelude.{ℕ, List}
use Rattle.std.specs.Borrow.{MutBor}
use Rattle.encoding.specs.Lists.{Lists, lists}
use Rattle.passes.specs.declared.lent.Lent.{Lent}
use Rattle.passes.specs.declared.passing.Passed.{Passed}
use Rattle.passes.specs.Texts.{lines}
use Rattle.passes.specs.Passes.{Halt, halt}

abbrev pub view : Lent → Lists
view l = lists l.options.now l.starts.now l.moves.now

-- what lists that were lent hold when they come back
abbrev pub left : MutBor (List ℕ) × (MutBor (List ℕ) × (MutBor (List ℕ) × Unit {0})) → Lists
left x = lists x.0.now x.1.0.now x.1.1.0.now

abbrev pub halted : {A : Type 0} → Passed A → Halt A
halted x = halt x.state x.text.at (lines x.text.rest.now)
