-- The inequalities of the five vectors. Q is certainty, d the scale; z and v have one entry for each state, y one for
-- each option.
use Rattle.std.specs.Prelude.{ℕ, zero, suc, ◌+◌, ◌*◌, ◌<◌, ◌≤◌, cond, List, [], ◌∷◌, length, take, drop, sum, ◌==◌, slice_index, slice_index_or}
use Rattle.std.specs.List.{AllByRecursion as Every}
use Rattle.process.specs.declared.place.Move.{Move}
use Rattle.process.specs.Process.{Process, joined}
use Rattle.process.specs.Means.{mean, worth}

-- an entry of a vector, and 0 past its end
abbrev pub value_at : List ℕ → ℕ → ℕ
value_at z s = slice_index z s

-- the sum of f over the numbers below n
abbrev pub total : ℕ → (ℕ → ℕ) → ℕ
total zero f = 0
total (suc n) f = f 0 + total n (λ s. f (suc s))

abbrev pub one_at : ℕ → ℕ → ℕ
one_at s s' = cond (s' == s) 1 0

-- the weight of an option to a state, summed over its moves, and its weight to the target
abbrev pub weight_to : ℕ → List Move → ℕ
weight_to s ms = mean (worth (one_at s) 0) ms

abbrev pub weight_to_target : List Move → ℕ
weight_to_target ms = mean (worth (λ _. 0) 1) ms

-- the sum over all n states of the weight to the state times its entry
abbrev pub carried : ℕ → List ℕ → List Move → ℕ
carried n z ms = total n (λ s. weight_to s ms * value_at z s)

-- the inequalities of one option of a state s, where there are n states
abbrev pub CapAt : (Q d n : ℕ) → List ℕ → ℕ → List Move → Type 0
CapAt Q d n z s ms = Q * weight_to_target ms + carried n z ms ≤ d * value_at z s

abbrev pub FloorAt : (Q d n : ℕ) → List ℕ → ℕ → List Move → Type 0
FloorAt Q d n z s ms = d * value_at z s ≤ Q * weight_to_target ms + carried n z ms

abbrev pub DelayAt : (d n : ℕ) → List ℕ → ℕ → List Move → Type 0
DelayAt d n v s ms = d + carried n v ms ≤ d * value_at v s

-- P of every option of every state
abbrev pub Options : Process → (ℕ → List Move → Type 0) → Type 0
Options p P = (s : ℕ) → s < length p → Every (P s) (slice_index_or p s [])

abbrev pub Caps : (Q d : ℕ) (p : Process) → List ℕ → Type 0
Caps Q d p z = Options p (CapAt Q d (length p) z)

abbrev pub Floors : (Q d : ℕ) (p : Process) → List ℕ → Type 0
Floors Q d p z = Options p (FloorAt Q d (length p) z)

abbrev pub Delays : (d : ℕ) (p : Process) → List ℕ → Type 0
Delays d p v = Options p (DelayAt d (length p) v)

-- the sum over the options of y times a value of the option
abbrev pub flow : (List Move → ℕ) → List ℕ → List (List Move) → ℕ
flow f [] os = 0
flow f (y ∷ ys) [] = 0
flow f (y ∷ ys) (ms ∷ os) = y * f ms + flow f ys os

-- what all options send to a state
abbrev pub inflow : Process → List ℕ → ℕ → ℕ
inflow p y s = flow (weight_to s) y (joined p)

-- the y of the options of a state
abbrev pub own : Process → List ℕ → ℕ → ℕ
own p y s = sum (take (length (slice_index_or p s [])) (drop (length (joined (take s p))) y))

-- what all options send to the target
abbrev pub gain : Process → List ℕ → ℕ
gain p y = flow weight_to_target y (joined p)

-- the inequalities of a state; the start is granted d Q
abbrev pub HopeAt : (Q d : ℕ) → Process → List ℕ → ℕ → Type 0
HopeAt Q d p y s = d * own p y s ≤ inflow p y s + d * Q * one_at 0 s

abbrev pub RiskAt : (Q d : ℕ) → Process → List ℕ → ℕ → Type 0
RiskAt Q d p y s = inflow p y s + d * Q * one_at 0 s ≤ d * own p y s

abbrev pub Hopes : (Q d : ℕ) → Process → List ℕ → Type 0
Hopes Q d p y = (s : ℕ) → s < length p → HopeAt Q d p y s

abbrev pub Risks : (Q d : ℕ) → Process → List ℕ → Type 0
Risks Q d p y = (s : ℕ) → s < length p → RiskAt Q d p y s
