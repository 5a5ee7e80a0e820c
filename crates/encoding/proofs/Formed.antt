-- Lists that are taken mean a process that is well formed.
use Rattle.std.proofs.Common.{◌≡◌, ℕ, ◌-◌, ◌≤◌, true, leb, List, [], ◌∷◌, length, is_ok, ap, ◌∙◌, arith}
use Rattle.std.specs.List.{AllByRecursion as Every}
use Rattle.std.proofs.ByRecursion.{All-weaker}
use Rattle.std.proofs.lemmas.Bool.{ltb-true, eqb-true, and_parts}
use Rattle.process.specs.declared.place.Place.{Place}
use Rattle.process.specs.declared.place.Place.TheVariants.{State, End as Ends}
use Rattle.process.specs.declared.place.Move.{Move}
use Rattle.process.specs.Process.{Process, joined, weights, Within, OptionFormed, StateFormed, Formed}
use Rattle.encoding.specs.Lists.{Lists}
use Rattle.encoding.specs.Reading.{moves_read, options_read, process_read}
use Rattle.encoding.specs.Answers.{within, move_fits, sum_fits, answer}
use Rattle.encoding.proofs.Each.{all_both}
use Rattle.encoding.proofs.Pieces.{length-pieces, joined-pieces, some-pieces, all_pieces}
use Rattle.encoding.proofs.Moves.{length-moves_read}
use Rattle.encoding.proofs.Sound.{Sound, sound}

within-says : (n : ℕ) (q : Place) → within n q ≡ true → Within n q
within-says n (State s) e = ltb-true s n e
within-says n (Ends q) e = tt

module _ (d n : ℕ) where
  option-places : (ms : List Move) → Every (λ m. move_fits d n m ≡ true) ms → Every (λ m. Within n m.place) ms
  option-places ms =
      All-weaker (λ m. move_fits d n m ≡ true) (λ m. Within n m.place)
      (λ m e. within-says n m.place (and_parts (within n m.place) (leb m.weight d) e).0) ms

  options_formed : (os : List (List Move)) → Every (λ ms. 1 ≤ length ms) os → Every (λ ms. sum_fits d ms ≡ true) os
      → Every (Every (λ m. move_fits d n m ≡ true)) os → Every (OptionFormed d n) os
  options_formed [] a b c = tt
  options_formed (ms ∷ os) a b c =
      let here : OptionFormed d n ms =
      record { some_move = a.0; sum = eqb-true (weights ms) d b.0; places = option-places ms c.0 } in
      (here, options_formed os a.1 b.1 c.1)

  states_formed : (p : Process) → Every (λ os. 1 ≤ length os) p → Every (Every (OptionFormed d n)) p → Every (StateFormed d n) p
  states_formed =
      all_both (λ os. 1 ≤ length os) (Every (OptionFormed d n)) (StateFormed d n)
      (λ os a b. record { some_option = a; each = b })

module _ (d : ℕ) (l : Lists) (k : Sound d l) where
  pub read_options : joined (process_read l) ≡ options_read l
  read_options = joined-pieces l.option_starts (options_read l) k.option_rise

  pub read-moves : joined (joined (process_read l)) ≡ moves_read l.moves
  read-moves = ap joined read_options ∙ joined-pieces l.move_starts (moves_read l.moves) k.move_rise

  read-each : (n : ℕ) → n ≡ length l.option_starts - 1 → Every (StateFormed d n) (process_read l)
  read-each n e =
      let fit : Every (λ m. move_fits d n m ≡ true) (moves_read l.moves) = rw e k.fit in
      let some = some-pieces l.move_starts (moves_read l.moves) k.move_rise in
      let fits = all_pieces (λ m. move_fits d n m ≡ true) l.move_starts (moves_read l.moves) fit in
      let each = options_formed d n (options_read l) some k.sums fits in
      states_formed d n (process_read l)
      (some-pieces l.option_starts (options_read l) k.option_rise)
      (all_pieces (OptionFormed d n) l.option_starts (options_read l) each)

pub read-formed : (d : ℕ) (l : Lists) → 1 ≤ d → d ≤ 65536 → is_ok (answer d l) ≡ true → Formed d (process_read l)
read-formed d l low high e =
    let k = sound d l e in
    let n : length (process_read l) ≡ length l.option_starts - 1 = length-pieces l.option_starts (options_read l) in
    record {
      scale_positive = low;
      scale_limit = high;
      some_state = omega (arith, k.option-least);
      state_limit = omega (arith, k.option-most);
      option_limit =
          rw (read_options d l k) (omega (arith, length-pieces l.move_starts (moves_read l.moves), k.move_most));
      move_limit = rw (read-moves d l k) (omega (arith, length-moves_read l.moves, k.entry-most));
      each = read-each d l k (length (process_read l)) n;
    }
