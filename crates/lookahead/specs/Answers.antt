-- What a look ahead of depth k answers on a process at scale d.
use Rattle.std.specs.Prelude.{ℕ, Bool, cond, List, length, Some, None, Ok, Option, Result, nat_le}
use Rattle.refusal.specs.Tellings.{Telling, at_look_ahead}
use Rattle.refusal.specs.Tests.{first_bad, unless}
use Rattle.process.specs.declared.place.Move.{Move}
use Rattle.process.specs.Process.{Process, joined}
use Rattle.bounds.specs.Extremes.{best, worst}
use Rattle.lookahead.specs.declared.Outlook.{Outlook}

-- 44: a depth above 6, which is its place
abbrev pub too_deep : ℕ → Option ℕ
too_deep k = cond (nat_le k 6) None (Some k)

-- a state whose options have at most 16 moves together
abbrev pub narrow : List (List Move) → Bool
narrow os = nat_le (length (joined os)) 16

-- 44: the first state that has more
abbrev pub too_wide : Process → Option ℕ
too_wide p = first_bad narrow 0 p

abbrev pub extremes : ℕ → Process → ℕ → Outlook
extremes d p k = record { greatest = best d p k 0; least = worst d p k 0 }

abbrev pub answer : ℕ → Process → ℕ → Result Outlook Telling
answer d p k =
    unless (at_look_ahead 44) (too_deep k)
    (unless (at_look_ahead 44) (too_wide p)
    (Ok (extremes d p k)))
