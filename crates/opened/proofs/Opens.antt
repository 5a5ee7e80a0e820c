-- The lists that loading leaves begin with the encoding of the depot, so that the table takes them.
use Rattle.std.proofs.Common.{◌≡◌, ℕ, ◌+◌, ◌*◌, true, List, map, length, take, is_ok, Ok, Err, Result, refl, ap, ◌∙◌, arith}
use Rattle.std.proofs.lemmas.List.{take_at, length-map}
use Rattle.refusal.specs.declared.reason.Refusal.{Refusal}
use Rattle.refusal.specs.Tellings.{Telling, told}
use Rattle.process.specs.declared.size.Size.{Size}
use Rattle.process.specs.Process.{Process, joined}
use Rattle.encoding.specs.Lists.{Lists, lists}
use Rattle.encoding.specs.Writing.{starts_from, moves_written, encoding, TakenAsSpelled}
use Rattle.encoding.proofs.Pieces.{length-starts}
use Rattle.encoding.proofs.Moves.{length-moves_written}
use Rattle.passes.specs.Over.{over}
use Rattle.depot_text.specs.Spelling.{Tree, move_of, process_of, size_of, spread, LoadedAsSpelled}
use Rattle.depot_text.proofs.Complete.{length_options, length-moves}
use Rattle.opened.specs.Opening.{OpenedAsSpelled}

-- the parts of the lists that loading says are filled
abbrev pub filled_part : Size → Lists → Lists
filled_part n l =
    lists (take (n.states + 1) l.option_starts) (take (n.options + 1) l.move_starts) (take (2 * n.moves) l.moves)

front : (xs old : List ℕ) (n : ℕ) → length xs ≡ n → take n (over xs old) ≡ xs
front xs old n e = take_at xs _ n e

pub part_is : (t : Tree) (old : Lists) → filled_part (size_of t) (spread (encoding (process_of t)) old) ≡ encoding (process_of t)
part_is t old =
    let p : Process = process_of t in
    let a : length (starts_from 0 p) ≡ length t + 1 = omega (arith, length-starts 0 p, length-map t (map (map move_of))) in
    let b : length (starts_from 0 (joined p)) ≡ length (joined t) + 1 = omega (arith, length-starts 0 (joined p), length_options t) in
    let c : length (moves_written (joined (joined p))) ≡ 2 * length (joined (joined t)) =
    omega (arith, length-moves_written (joined (joined p)), length-moves t) in
    (λ i. lists (front (starts_from 0 p) old.option_starts (length t + 1) a i)
    (front (starts_from 0 (joined p)) old.move_starts (length (joined t) + 1) b i)
    (front (moves_written (joined (joined p))) old.moves (2 * length (joined (joined t))) c i))

told_fine : (r : Result (Unit {0}) Refusal) → is_ok r ≡ true → told r ≡ Ok tt
told_fine (Ok tt) e = refl
told_fine (Err f) e = cc

not_refused : {A : Type 0} (r : Result (Unit {0}) Refusal) (e : Telling) → is_ok r ≡ true → told r ≡ Err e → A
not_refused (Ok tt) e t f = cc
not_refused (Err g) e t f = cc

module _ (text : List ℕ) (old new : Lists) (n : Size) (before after : Process) (r : Result (Unit {0}) Refusal)
    (loaded : LoadedAsSpelled 1000 text old (Ok n) new)
    (taken : TakenAsSpelled 1000 (filled_part n new) (is_ok r) after) where
  pub opens : OpenedAsSpelled text old before (told r) after
  opens =
      let t = loaded.loaded n refl in
      let s = loaded.spelled t.0 t.1 t.2 in
      let same = s.0 in
      let size : n ≡ size_of t.0 = cc in
      let part : filled_part n new ≡ encoding (process_of t.0) =
      (λ i. filled_part (size i) (s.1 i)) ∙ part_is t.0 old in
      let q = taken.spelled (process_of t.0) (record { formed = t.1.formed; written = part }) in
      record {
        opened = λ _. (t.0, t.1, t.2, q.1);
        spelled =
            λ u fits is.
            (told_fine r q.0, q.1 ∙ ap process_of (loaded.unique t.0 u t.1 fits t.2 is));
        refused = λ e f. not_refused r e q.0 f;
      }
