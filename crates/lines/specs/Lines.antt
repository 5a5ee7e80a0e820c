-- What a line of text says: its key, and a word or a number.
use Rattle.std.specs.Prelude.{ℕ, ◌+◌, ◌-◌, ◌*◌, ◌^◌, Bool, cond, not, ◌&&◌, ◌||◌, List, [], ◌∷◌, length, take, drop, Some, None, Ok, Err, Option, Result, ◌==◌, nat_lt, slice_index}
use Rattle.std.specs.List.{prefix_len}
use Rattle.refusal.specs.Tellings.{Telling, at_text}
use Rattle.refusal.specs.Tests.{between}
use Rattle.lines.specs.Bytes.{is_letter, is_digit}

-- a byte inside a line
abbrev pub inside : ℕ → Bool
inside c = not (c == 10)

-- up to the first newline, with it, and what comes after
abbrev pub first_line : List ℕ → List ℕ
first_line t = take (prefix_len inside t + 1) t

abbrev pub after_line : List ℕ → List ℕ
after_line t = drop (prefix_len inside t + 1) t

-- a key or a word: 1 to 8 letters
abbrev pub named : List ℕ → Bool
named bs = between 1 8 (length bs) && prefix_len is_letter bs == length bs

-- digits read on after n, while the number has 32 bits
abbrev pub digits_on : ℕ → List ℕ → Option ℕ
digits_on n [] = Some n
digits_on n (c ∷ cs) = cond (is_digit c && nat_lt (10 * n + (c - 48)) (2 ^ 32)) (digits_on (10 * n + (c - 48)) cs) None

-- some digits, with no leading zero
abbrev pub number_of : List ℕ → Option ℕ
number_of bs = cond (length bs == 0 || (nat_lt 1 (length bs) && slice_index bs 0 == 48)) None (digits_on 0 bs)

-- what a line says: a key with a word, or with a number and its digits
pub data Said : Type 0 where
  says_word : List ℕ → List ℕ → Said
  says_number : List ℕ → List ℕ → ℕ → Said

abbrev pub numbered : List ℕ → List ℕ → Option ℕ → Option Said
numbered key v None = None
numbered key v (Some n) = Some (says_number key v n)

abbrev pub valued : List ℕ → List ℕ → Option Said
valued key v = cond (named v) (Some (says_word key v)) (numbered key v (number_of v))

-- k bytes are a key by their number, and the equals sign stands after them
abbrev pub keyed_at : ℕ → List ℕ → Bool
keyed_at k bs = between 1 8 k && nat_lt k (length bs) && slice_index bs k == 61

abbrev pub split : ℕ → List ℕ → Option Said
split k bs = cond (keyed_at k bs) (valued (take k bs) (drop (k + 1) bs)) None

-- a line with its newline: the key is all letters in front
abbrev pub parsed : List ℕ → Option Said
parsed l =
    cond (slice_index l (length l - 1) == 10)
    (split (prefix_len is_letter (take (length l - 1) l)) (take (length l - 1) l)) None

-- a line with its number, and the text after it
pub record Reading : Type 0 where
  pub at : ℕ
  pub said : Said
  pub rest : List ℕ

abbrev pub reading : ℕ → Said → List ℕ → Reading
reading at s rest = record { at = at; said = s; rest = rest }

abbrev pub ruled : ℕ → Option Said → List ℕ → Result Reading Telling
ruled at None rest = Err (at_text 11 at)
ruled at (Some s) rest = Ok (reading at s rest)

-- the first line of a text, which has the number `at`
abbrev pub read_line : ℕ → List ℕ → Result Reading Telling
read_line at [] = Err (at_text 12 at)
read_line at (b ∷ bs) = ruled at (parsed (first_line (b ∷ bs))) (after_line (b ∷ bs))
