-- The lists that spell a process, and what it is for lists to spell one.
use Rattle.std.specs.Prelude.{◌≡◌, ℕ, ◌+◌, Bool, true, List, [], ◌∷◌, length}
use Rattle.process.specs.declared.place.End.{End}
use Rattle.process.specs.declared.place.End.TheVariants.{Target, Exit}
use Rattle.process.specs.declared.place.Place.{Place}
use Rattle.process.specs.declared.place.Place.TheVariants.{State, End as Ends}
use Rattle.process.specs.declared.place.Move.{Move}
use Rattle.process.specs.Process.{Process, joined, Formed}
use Rattle.encoding.specs.Lists.{Lists}

abbrev pub end_number : End → ℕ
end_number Target = 4096
end_number Exit = 4097

abbrev pub place_number : Place → ℕ
place_number (State s) = s
place_number (Ends q) = end_number q

abbrev pub moves_written : List Move → List ℕ
moves_written [] = []
moves_written (m ∷ ms) = place_number m.place ∷ (m.weight ∷ moves_written ms)

-- where each of several lists starts when they stand one after another from n on, and where the last one ends
abbrev pub starts_from : {A : Type 0} → ℕ → List (List A) → List ℕ
starts_from n [] = n ∷ []
starts_from n (xs ∷ xss) = n ∷ starts_from (n + length xs) xss

abbrev pub encoding : Process → Lists
encoding p =
    record {
      option_starts = starts_from 0 p;
      move_starts = starts_from 0 (joined p);
      moves = moves_written (joined (joined p));
    }

-- lists that are the encoding of a process that is well formed at scale d
pub record Spells (d : ℕ) (l : Lists) (p : Process) : Type 0 where
  pub formed : Formed d p
  pub written : l ≡ encoding p

-- Lists are taken exactly when they spell a process, which is the one that is then meant: ok says whether they are
-- taken, and p is what is meant afterwards.
pub record TakenAsSpelled (d : ℕ) (l : Lists) (ok : Bool) (p : Process) : Type 0 where
  pub taken : ok ≡ true → Spells d l p
  pub spelled : (q : Process) → Spells d l q → (ok ≡ true) × (p ≡ q)
