-- What is known of three lists that are taken.
use Rattle.std.proofs.Common.{◌≡◌, ℕ, ◌-◌, ◌/◌, ◌%◌, ◌≤◌, true, eqb, length, is_ok, ap, ◌∙◌}
use Rattle.std.specs.List.{AllByRecursion as Every}
use Rattle.std.proofs.lemmas.Bool.{eqb-true, eq-eqb, and_parts, and_from}
use Rattle.refusal.specs.Tellings.{at_table}
use Rattle.refusal.specs.Tests.{between}
use Rattle.refusal.proofs.Tests.{between-says, says-between, all_pass, none-fails, unless_ok, ok_unless}
use Rattle.encoding.specs.Lists.{Lists}
use Rattle.encoding.specs.Reading.{moves_read, options_read}
use Rattle.encoding.specs.Answers.{lengths_fit, starts, starts_fit, move_fits, sum_fits, answer}
use Rattle.encoding.proofs.Pieces.{length-pieces}
use Rattle.encoding.proofs.Moves.{length-moves_read}

-- each test that lists pass, in the order of the answer
pub record Sound (d : ℕ) (l : Lists) : Type 0 where
  pub option-least : 2 ≤ length l.option_starts
  pub option-most : length l.option_starts ≤ 4097
  pub move_least : 2 ≤ length l.move_starts
  pub move_most : length l.move_starts ≤ 16385
  pub entry-least : 2 ≤ length l.moves
  pub entry-most : length l.moves ≤ 131072
  pub even : length l.moves % 2 ≡ 0
  pub option_rise : starts l.option_starts (length (options_read l)) ≡ true
  pub move_rise : starts l.move_starts (length (moves_read l.moves)) ≡ true
  pub fit : Every (λ m. move_fits d (length l.option_starts - 1) m ≡ true) (moves_read l.moves)
  pub sums : Every (λ ms. sum_fits d ms ≡ true) (options_read l)

-- lists are taken exactly when they are sound
module _ (d : ℕ) (l : Lists) where
  pub sound : is_ok (answer d l) ≡ true → Sound d l
  sound e =
      let p = unless_ok (at_table 21) _ _ e in
      let q = unless_ok (at_table 22) _ _ p.1 in
      let r = unless_ok (at_table 23) _ _ q.1 in
      let s = unless_ok (at_table 24) _ _ r.1 in
      let h = all_pass (λ t. t) 0 (lengths_fit l) p.0 in
      let u = all_pass (λ t. t) 0 (starts_fit l) q.0 in
      let m = and_parts (between 2 131072 (length l.moves)) (eqb (length l.moves % 2) 0) h.1.1.0 in
      let bo = between-says 2 4097 (length l.option_starts) h.0 in
      let bs = between-says 2 16385 (length l.move_starts) h.1.0 in
      let bm = between-says 2 131072 (length l.moves) m.0 in
      record {
        option-least = bo.0;
        option-most = bo.1;
        move_least = bs.0;
        move_most = bs.1;
        entry-least = bm.0;
        entry-most = bm.1;
        even = eqb-true (length l.moves % 2) 0 m.1;
        option_rise = rw (length-pieces l.move_starts (moves_read l.moves)) u.0;
        move_rise = rw (length-moves_read l.moves) u.1.0;
        fit = all_pass (move_fits d (length l.option_starts - 1)) 0 (moves_read l.moves) r.0;
        sums = all_pass (sum_fits d) 0 (options_read l) s.0;
      }

  pub sound-answer : Sound d l → is_ok (answer d l) ≡ true
  sound-answer k =
      let bo = says-between 2 4097 (length l.option_starts) k.option-least k.option-most in
      let bs = says-between 2 16385 (length l.move_starts) k.move_least k.move_most in
      let bm = says-between 2 131072 (length l.moves) k.entry-least k.entry-most in
      let m = and_from _ _ bm (eq-eqb (length l.moves % 2) 0 k.even) in
      let uo : starts l.option_starts (length l.move_starts - 1) ≡ true =
      rw (length-pieces l.move_starts (moves_read l.moves)) at k.option_rise in
      let um : starts l.move_starts (length l.moves / 2) ≡ true =
      rw (length-moves_read l.moves) at k.move_rise in
      let fits = none-fails (move_fits d (length l.option_starts - 1)) 0 (moves_read l.moves) k.fit in
      ap is_ok
      (ok_unless (at_table 21) _ _ (none-fails (λ t. t) 0 (lengths_fit l) (bo, (bs, (m, tt))))
      ∙ ok_unless (at_table 22) _ _ (none-fails (λ t. t) 0 (starts_fit l) (uo, (um, tt)))
      ∙ ok_unless (at_table 23) _ _ fits
      ∙ ok_unless (at_table 24) _ _ (none-fails (sum_fits d) 0 (options_read l) k.sums))
