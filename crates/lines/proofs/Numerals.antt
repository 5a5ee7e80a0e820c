-- The digits that are read as a number are those that `decimal` writes of it.
use Rattle.std.proofs.Common.{◌≡◌, ℕ, ◌+◌, ◌-◌, ◌*◌, ◌^◌, ◌<◌, ◌≤◌, true, false, ◌&&◌, ◌||◌, eqb, ltb, leb, List, [], ◌∷◌, length, get_or, is_some, Some, None, decimal, sym, refl, ap, ◌∙◌, inl, inr, arith, rules}
use Rattle.std.specs.List.{prefix_len, AllByRecursion as Every}
use Rattle.std.proofs.lemmas.Str.Parse.{IsNumeralModel, numerals_by_fold}
use Rattle.std.proofs.lemmas.Fmt.{digits_decimal, digits_value-decimal, decimal-digits_value, decimal_digit, decimal_nonempty, first_decimal}
use Rattle.std.proofs.ByRecursion.{All-weaker}
use Rattle.std.proofs.lemmas.Bool.{cond-true, cond-false, cases_Bool, cases_lt, not_from_false, false≢true, and_parts, and_from, and_left, and_right, and_cases, or_parts, or_from, lt-ltb, le-ltb, ltb-true, ltb-false, leb-true, lt-leb, ne_eqb, eqb-false}
use Rattle.refusal.specs.Tests.{between}
use Rattle.lines.specs.Bytes.{is_letter, is_digit}
use Rattle.lines.specs.Lines.{inside, digits_on, number_of, named}

abbrev Digits : List ℕ → Type 0
Digits ds = Every (λ c. is_digit c ≡ true) ds

-- the number that digits write after n
abbrev read_on : ℕ → List ℕ → ℕ
read_on n [] = n
read_on n (c ∷ cs) = read_on (10 * n + (c - 48)) cs

own : IsNumeralModel Digits (read_on 0)
own = numerals_by_fold _ (search rules) read_on (search rules)

grows : (n : ℕ) (ds : List ℕ) → n ≤ read_on n ds
grows n [] = omega arith
grows n (c ∷ cs) = omega (arith, grows (10 * n + (c - 48)) cs)

reads_digits : (n : ℕ) (ds : List ℕ) → Digits ds → read_on n ds < 2 ^ 32 → digits_on n ds ≡ Some (read_on n ds)
reads_digits n [] a h = refl
reads_digits n (c ∷ cs) a h =
    let small : 10 * n + (c - 48) < 2 ^ 32 = omega (arith, grows (10 * n + (c - 48)) cs) in
    cond-true _ _ _ (and_from (is_digit c) _ a.0 (lt-ltb _ _ small)) ∙ reads_digits (10 * n + (c - 48)) cs a.1 h

digits_read : (n : ℕ) (ds : List ℕ) (m : ℕ) → n < 2 ^ 32 → digits_on n ds ≡ Some m
    → Digits ds × (read_on n ds ≡ m) × (m < 2 ^ 32)
digits_read n [] m h e = let same : n ≡ m = cc in (tt, same, omega arith)
digits_read n (c ∷ cs) m h e =
    elim (cases_Bool (is_digit c && ltb (10 * n + (c - 48)) (2 ^ 32))) [
      | inl t ↦
          let p = and_parts (is_digit c) (ltb (10 * n + (c - 48)) (2 ^ 32)) t in
          let q = digits_read (10 * n + (c - 48)) cs m (ltb-true _ _ p.1) (sym (cond-true _ _ _ t) ∙ e) in
          ((p.0, q.0), q.1, q.2)
      | inr f ↦ absurd (false≢true (ap is_some (sym (cond-false _ _ _ f) ∙ e)))
    ]

no_zero : (n : ℕ) → n < 2 ^ 32 → (ltb 1 (length (decimal n)) && eqb (get_or (decimal n) 0 0) 48) ≡ false
no_zero n h =
    elim (cases_lt n 10) [
      | inl z ↦
          let one : length (decimal n) ≡ 1 = ap length (decimal_digit n z) in
          and_left (ltb 1 (length (decimal n))) _ (le-ltb 1 (length (decimal n)) (omega arith))
      | inr z ↦
          let big = first_decimal n (omega arith) (omega arith) in
          and_right (ltb 1 (length (decimal n))) _ (ne_eqb (get_or (decimal n) 0 0) 48 (omega arith))
    ]

pub number_decimal : (n : ℕ) → n < 2 ^ 32 → number_of (decimal n) ≡ Some n
number_decimal n h =
    let some = decimal_nonempty n (omega arith) in
    let value = digits_value-decimal own n (omega arith) in
    let plain = or_from (eqb (length (decimal n)) 0) _ (ne_eqb (length (decimal n)) 0 (omega arith)) (no_zero n h) in
    let small : read_on 0 (decimal n) < 2 ^ 32 = omega arith in
    cond-false _ None _ plain ∙ reads_digits 0 (decimal n) (digits_decimal own n (omega arith)) small ∙ ap Some value

pub decimal_number : (ds : List ℕ) (n : ℕ) → number_of ds ≡ Some n → (ds ≡ decimal n) × (n < 2 ^ 32)
decimal_number ds n e =
    elim (cases_Bool (eqb (length ds) 0 || (ltb 1 (length ds) && eqb (get_or ds 0 0) 48))) [
      | inl t ↦ absurd (false≢true (ap is_some (sym (cond-true _ None _ t) ∙ e)))
      | inr f ↦
          let p = or_parts (eqb (length ds) 0) (ltb 1 (length ds) && eqb (get_or ds 0 0) 48) f in
          let some = eqb-false (length ds) 0 p.0 in
          let q = digits_read 0 ds n (omega arith) (sym (cond-false _ None _ f) ∙ e) in
          let lone : get_or ds 0 0 ≡ 48 → length ds ≡ 1
          = λ z.
          elim (and_cases (ltb 1 (length ds)) (eqb (get_or ds 0 0) 48) p.1) [
            | inl g ↦ omega (arith, ltb-false 1 (length ds) g)
            | inr g ↦ absurd (eqb-false (get_or ds 0 0) 48 g z)
          ] in
          (sym (decimal-digits_value own ds q.0 (omega arith) lone (omega arith)) ∙ ap decimal q.1, q.2)
    ]

-- what begins with a digit is no word
no_name : (ds : List ℕ) → Digits ds → named ds ≡ false
no_name [] a = refl
no_name (c ∷ cs) a =
    let low = leb-true c 57 (and_parts (leb 48 c) (leb c 57) a.0).1 in
    let none : prefix_len is_letter (c ∷ cs) ≡ 0
    = cond-false (is_letter c) _ 0 (and_left (leb 97 c) _ (lt-leb 97 c (omega arith))) in
    and_right (between 1 8 (length (c ∷ cs))) _
    (ne_eqb (prefix_len is_letter (c ∷ cs)) (length (c ∷ cs)) (omega arith))

pub decimal_no_name : (n : ℕ) → n < 2 ^ 32 → named (decimal n) ≡ false
decimal_no_name n h = no_name (decimal n) (digits_decimal own n (omega arith))

-- a byte above 10 is no newline
pub above_inside : (b : ℕ) → 10 < b → inside b ≡ true
above_inside b h = not_from_false (eqb b 10) (ne_eqb b 10 (omega arith))

pub decimal_inside : (n : ℕ) → n < 2 ^ 32 → Every (λ b. inside b ≡ true) (decimal n)
decimal_inside n h =
    All-weaker (λ c. is_digit c ≡ true) _
    (λ c d. above_inside c (omega (arith, leb-true 48 c (and_parts (leb 48 c) (leb c 57) d).0)))
    (decimal n) (digits_decimal own n (omega arith))
