-- A pass over the lines of a text, by what may come next.
use Rattle.std.specs.Prelude.{ℕ, ◌+◌, Bool, cond, List, [], ◌∷◌, Some, None, Ok, Err, Option, Result}
use Rattle.refusal.specs.Tellings.{Telling, at_text}
use Rattle.encoding.specs.Lists.{Lists}
use Rattle.lines.specs.Lines.{Said, parsed}

-- where a pass stands: the state, the number of the next line, and the lines left
pub record Halt (S : Type 0) : Type 0 where
  pub state : S
  pub at : ℕ
  pub rest : List (List ℕ)

abbrev pub halt : {S : Type 0} → S → ℕ → List (List ℕ) → Halt S
halt s at ls = record { state = s; at = at; rest = ls }

abbrev pub then : {A B E : Type 0} → Result A E → (A → Result B E) → Result B E
then (Ok x) f = f x
then (Err e) f = Err e

-- refused with a number, at a line, unless a demand is met
abbrev pub demand : {S : Type 0} → Bool → ℕ → ℕ → Result S Telling → Result S Telling
demand met n at next = cond met next (Err (at_text n at))

module _ {S : Type 0} (next : S → ℕ → Said → Result S Telling) where
  -- a line of the form, or 11
  abbrev pub on_said : S → ℕ → Option Said → Result S Telling
  on_said s at None = Err (at_text 11 at)
  on_said s at (Some x) = next s at x

  abbrev pub on_line : S → ℕ → List ℕ → Result S Telling
  on_line s at l = on_said s at (parsed l)

  -- one line, or 12 where none is left
  abbrev pub advanced : S → ℕ → List (List ℕ) → Result (Halt S) Telling
  advanced s at [] = Err (at_text 12 at)
  advanced s at (l ∷ ls) = then (on_line s at l) (λ s'. Ok (halt s' (at + 1) ls))

  module _ (ended : S → Bool) where
    -- lines until the format has ended
    abbrev pub pass : S → ℕ → List (List ℕ) → Result (Halt S) Telling
    pass s at [] = cond (ended s) (Ok (halt s at [])) (Err (at_text 12 at))
    pass s at (l ∷ ls) =
        cond (ended s) (Ok (halt s at (l ∷ ls))) (then (on_line s at l) (λ s'. pass s' (at + 1) ls))

    module _ (puts : S → Lists → Lists) where
      abbrev pub onward : Result S Telling → Lists → (S → Lists) → Lists
      onward (Ok s) old f = f s
      onward (Err e) old f = old

      -- what such a pass puts into lists, line by line
      abbrev pub filled : S → ℕ → List (List ℕ) → Lists → Lists
      filled s at [] old = old
      filled s at (l ∷ ls) old =
          cond (ended s) old (onward (on_line s at l) old (λ s'. filled s' (at + 1) ls (puts s' old)))
