-- Flags made from marks stand for the marked states.
use Rattle.std.proofs.Common.{◌≡◌, ℕ, zero, suc, ◌+◌, ◌-◌, ◌<◌, ◌≤◌, Bool, false, eqb, List, [], ◌∷◌, ◌++◌, map, length, get_or, take, set, replicate, sym, refl, ap, ◌∙◌, append_assoc, arith}
use mathlib.Core.Path.{fun_ext}
use Rattle.std.proofs.lemmas.List.{length-map, length-take-le, map_more, set_at}
use Rattle.part.specs.Marks.{set_of, none, marked}

-- the flags of some marks, with room for more behind them
abbrev pub flags_of : List ℕ → ℕ → List Bool
flags_of marks room = map (λ b. eqb b 1) marks ++ replicate room false

none_set : (n s : ℕ) → set_of (replicate n false) s ≡ false
none_set zero s = refl
none_set (suc n) zero = refl
none_set (suc n) (suc s) = none_set n s

pub empty_set : (n : ℕ) → set_of (replicate n false) ≡ none
empty_set n = fun_ext (none_set n)

pub marked_set : (marks : List ℕ) (room : ℕ) → set_of (flags_of marks room) ≡ marked marks
marked_set marks room = fun_ext (each marks)
  where
    each : (marks : List ℕ) (s : ℕ) → set_of (flags_of marks room) s ≡ marked marks s
    each [] s = none_set room s
    each (b ∷ marks) zero = refl
    each (b ∷ marks) (suc s) = each marks s

-- one flag more
pub flags_more : (marks : List ℕ) (flags : List Bool) (i n : ℕ) → i < length marks → length marks ≤ n
    → flags ≡ flags_of (take i marks) (n - i)
    → set flags i (eqb (get_or marks i 0) 1) ≡ flags_of (take (i + 1) marks) (n - (i + 1))
flags_more marks flags i n h k e =
    let is : ℕ → Bool = λ b. eqb b 1 in
    let room : n - i ≡ suc (n - (i + 1)) = omega arith in
    let front : length (map is (take i marks)) ≡ i = length-map (take i marks) is ∙ length-take-le i marks (omega arith) in
    ap (λ l. set l i (is (get_or marks i 0))) (e ∙ ap (flags_of (take i marks)) room)
    ∙ (set_at (map is (take i marks)) false (replicate (n - (i + 1)) false) (is (get_or marks i 0)) i front
    ∙ sym (ap (λ l. l ++ replicate (n - (i + 1)) false) (map_more is marks i 0 h)
    ∙ append_assoc (map is (take i marks)) (is (get_or marks i 0) ∷ []) (replicate (n - (i + 1)) false)))
