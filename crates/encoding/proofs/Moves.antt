-- Places and moves as numbers: reading undoes writing, and writing undoes reading.
use Rattle.std.proofs.Common.{◌≡◌, ℕ, zero, suc, ◌+◌, ◌*◌, ◌/◌, ◌%◌, ◌<◌, ◌≤◌, cond, eqb, List, [], ◌∷◌, length, get_or, sym, refl, arith}
use Rattle.std.specs.List.{AllByRecursion as Every}
use Rattle.std.proofs.lemmas.Bool.{eqb-true, ne_eqb, cond_both}
use Rattle.process.specs.declared.place.End.TheVariants.{Target, Exit}
use Rattle.process.specs.declared.place.Place.{Place}
use Rattle.process.specs.declared.place.Place.TheVariants.{State, End as Ends}
use Rattle.process.specs.declared.place.Move.{Move}
use Rattle.process.specs.Process.{Within}
use Rattle.encoding.specs.Reading.{place_read, moves_read}
use Rattle.encoding.specs.Writing.{place_number, moves_written}

pub length-moves_read : (ms : List ℕ) → length (moves_read ms) ≡ length ms / 2
length-moves_read [] = refl
length-moves_read (p ∷ []) = refl
length-moves_read (p ∷ (w ∷ r)) = omega (arith, length-moves_read r)

pub moves_read-at : (ms : List ℕ) (i : ℕ) (d : Move) → i < length ms / 2
    → get_or (moves_read ms) i d ≡ record { place = place_read (get_or ms (2 * i) 0); weight = get_or ms (2 * i + 1) 0 }
moves_read-at [] i d h = absurd (omega arith)
moves_read-at (p ∷ []) i d h = absurd (omega arith)
moves_read-at (p ∷ (w ∷ r)) zero d h = refl
moves_read-at (p ∷ (w ∷ r)) (suc i) d h =
    let a : 2 * suc i ≡ suc (suc (2 * i)) = omega arith in
    let b : 2 * suc i + 1 ≡ suc (suc (2 * i + 1)) = omega arith in
    rw (b, a) (moves_read-at r i d (omega arith))

pub length-moves_written : (ms : List Move) → length (moves_written ms) ≡ 2 * length ms
length-moves_written [] = refl
length-moves_written (m ∷ ms) = omega (arith, length-moves_written ms)

pub number_read : (n : ℕ) → place_number (place_read n) ≡ n
number_read n =
    cond_both (eqb n 4096) (Ends Target) (cond (eqb n 4097) (Ends Exit) (State n)) (λ q. place_number q ≡ n)
    (λ e. sym (eqb-true n 4096 e))
    (λ _. cond_both (eqb n 4097) (Ends Exit) (State n) (λ q. place_number q ≡ n) (λ e. sym (eqb-true n 4097 e)) (λ _. refl))

-- the numbers of the two ends name no state
pub read_number : (n : ℕ) (q : Place) → n ≤ 4096 → Within n q → place_read (place_number q) ≡ q
read_number n (State s) h w = rw (ne_eqb s 4096 (λ e. omega arith), ne_eqb s 4097 (λ e. omega arith))
read_number n (Ends Target) h w = refl
read_number n (Ends Exit) h w = refl

pub written_read : (ms : List ℕ) → length ms % 2 ≡ 0 → moves_written (moves_read ms) ≡ ms
written_read [] h = refl
written_read (p ∷ []) h = absurd (omega arith)
written_read (p ∷ (w ∷ r)) h = rw (number_read p, written_read r (omega arith))

pub read-written : (n : ℕ) (ms : List Move) → n ≤ 4096 → Every (λ m. Within n m.place) ms
    → moves_read (moves_written ms) ≡ ms
read-written n [] h w = refl
read-written n (m ∷ ms) h w = rw (read_number n m.place h w.0, read-written n ms h w.1)
