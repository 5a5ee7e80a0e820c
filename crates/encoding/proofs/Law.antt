-- Lists are taken exactly when they are the encoding of a well-formed process, which they then mean.
use Rattle.std.proofs.Common.{◌≡◌, ℕ, ◌-◌, ◌≤◌, Bool, true, leb, List, [], ◌∷◌, length, is_ok, sym, refl, ap, ◌∙◌, arith}
use Rattle.std.specs.List.{AllByRecursion as Every}
use Rattle.std.proofs.ByRecursion.{All-weaker}
use Rattle.std.proofs.lemmas.Bool.{lt-ltb, le-leb, eq-eqb, and_from}
use Rattle.process.specs.declared.place.Place.{Place}
use Rattle.process.specs.declared.place.Place.TheVariants.{State, End as Ends}
use Rattle.process.specs.declared.place.Move.{Move}
use Rattle.process.specs.Process.{Process, joined, weights, Within, OptionFormed, StateFormed, Formed}
use Rattle.encoding.specs.Lists.{Lists}
use Rattle.encoding.specs.Reading.{moves_read, options_read, process_read, pieces}
use Rattle.encoding.specs.Writing.{moves_written, starts_from, encoding, Spells, TakenAsSpelled}
use Rattle.encoding.specs.Answers.{within, move_fits, sum_fits, answer}
use Rattle.encoding.proofs.Each.{all_both, all_joined, some-joined}
use Rattle.encoding.proofs.Pieces.{starts-pieces, length-starts, starts_good, pieces-joined}
use Rattle.encoding.proofs.Moves.{length-moves_written, written_read, read-written}
use Rattle.encoding.proofs.Sound.{Sound, sound, sound-answer}
use Rattle.encoding.proofs.Formed.{read_options, read-moves, read-formed}

pub taken_spells : (d : ℕ) (l : Lists) → 1 ≤ d → d ≤ 65536 → is_ok (answer d l) ≡ true → Spells d l (process_read l)
taken_spells d l low high e =
    let k = sound d l e in
    let o : starts_from 0 (process_read l) ≡ l.option_starts =
    starts-pieces l.option_starts (options_read l) k.option_rise in
    let s : starts_from 0 (joined (process_read l)) ≡ l.move_starts =
    ap (starts_from 0) (read_options d l k) ∙ starts-pieces l.move_starts (moves_read l.moves) k.move_rise in
    let m : moves_written (joined (joined (process_read l))) ≡ l.moves =
    ap moves_written (read-moves d l k) ∙ written_read l.moves k.even in
    record { formed = read-formed d l low high e; written = rw (o, s, m) }

says-within : (n : ℕ) (q : Place) → Within n q → within n q ≡ true
says-within n (State s) w = lt-ltb s n w
says-within n (Ends q) w = refl

-- no move weighs more than its option
each-weight : (d : ℕ) (ms : List Move) → weights ms ≤ d → Every (λ m. m.weight ≤ d) ms
each-weight d [] h = tt
each-weight d (m ∷ ms) h = (omega arith, each-weight d ms (omega arith))

option-fits : (d n : ℕ) (ms : List Move) → OptionFormed d n ms → Every (λ m. move_fits d n m ≡ true) ms
option-fits d n ms f =
    all_both (λ m. Within n m.place) (λ m. m.weight ≤ d) (λ m. move_fits d n m ≡ true)
    (λ m a b. and_from (within n m.place) (leb m.weight d) (says-within n m.place a) (le-leb m.weight d b))
    ms f.places (each-weight d ms (omega (arith, f.sum)))

-- the encoding of a well-formed process
module _ (d : ℕ) (p : Process) (f : Formed d p) where
  -- what follows from its form for each option, and for each move
  of_options : (Q : List Move → Type 0) → ((ms : List Move) → OptionFormed d (length p) ms → Q ms) → Every Q (joined p)
  of_options Q g =
      all_joined Q p
      (All-weaker (StateFormed d (length p)) (Every Q)
      (λ os s. All-weaker (OptionFormed d (length p)) Q g os s.each) p f.each)

  of_moves : (P : Move → Type 0) → ((ms : List Move) → OptionFormed d (length p) ms → Every P ms)
      → Every P (joined (joined p))
  of_moves P g = all_joined P (joined p) (of_options (Every P) g)

  encoding-moves : moves_read (encoding p).moves ≡ joined (joined p)
  encoding-moves =
      read-written (length p) (joined (joined p)) f.state_limit
      (of_moves (λ m. Within (length p) m.place) (λ ms o. o.places))

  encoding_options : options_read (encoding p) ≡ joined p
  encoding_options = ap (pieces (starts_from 0 (joined p))) encoding-moves ∙ pieces-joined (joined p)

  encoding_process : process_read (encoding p) ≡ p
  encoding_process = ap (pieces (starts_from 0 p)) encoding_options ∙ pieces-joined p

  encoding-sound : Sound d (encoding p)
  encoding-sound =
      let some-options =
      All-weaker (StateFormed d (length p)) (λ os. 1 ≤ length os) (λ os s. s.some_option) p f.each in
      let some-moves = of_options (λ ms. 1 ≤ length ms) (λ ms o. o.some_move) in
      let a = length-starts 0 p in
      let b = length-starts 0 (joined p) in
      let c = length-moves_written (joined (joined p)) in
      let u = some-joined p f.some_state some-options in
      let v = some-joined (joined p) u some-moves in
      let n : length (starts_from 0 p) - 1 ≡ length p = omega arith in
      record {
        option-least = omega (arith, f.some_state);
        option-most = omega (arith, f.state_limit);
        move_least = omega arith;
        move_most = omega (arith, f.option_limit);
        entry-least = omega arith;
        entry-most = omega (arith, f.move_limit);
        even = omega arith;
        option_rise = rw encoding_options (starts_good p some-options);
        move_rise = rw encoding-moves (starts_good (joined p) some-moves);
        fit = rw (n, encoding-moves) (of_moves (λ m. move_fits d (length p) m ≡ true) (option-fits d (length p)));
        sums = rw encoding_options (of_options (λ ms. sum_fits d ms ≡ true) (λ ms o. eq-eqb (weights ms) d o.sum));
      }

pub spells_taken : (d : ℕ) (l : Lists) (p : Process) → Spells d l p → (is_ok (answer d l) ≡ true) × (process_read l ≡ p)
spells_taken d l p s =
    rw s.written (sound-answer d (encoding p) (encoding-sound d p s.formed), encoding_process d p s.formed)

-- both at once, of lists that are taken or refused and of what is meant afterwards
pub answer_law : (d : ℕ) (l : Lists) (ok : Bool) (p : Process) → 1 ≤ d → d ≤ 65536 → ok ≡ is_ok (answer d l)
    → (ok ≡ true → p ≡ process_read l) → TakenAsSpelled d l ok p
answer_law d l ok p low high e means =
    record {
      taken = λ t. rw (means t) (taken_spells d l low high (sym e ∙ t));
      spelled =
          λ q s. let r = spells_taken d l q s in let t : ok ≡ true = e ∙ r.0 in (t, means t ∙ r.1);
    }
