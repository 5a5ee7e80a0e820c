-- Every ladder that is made is well formed.
use Rattle.std.specs.Prelude.{◌≡◌, ℕ, zero, suc, ◌+◌, ◌*◌, ◌<◌, ◌≤◌, true, [], ◌∷◌, map, length, is_ok, nat_lt, refl}
use Rattle.std.proofs.Common.{arith}
use Rattle.std.specs.List.{range_with_len, AllByRecursion as Every}
use Rattle.std.proofs.lemmas.List.FromFn.{length-map-range_with_len}
use Rattle.std.proofs.lemmas.Bool.{leb-true, ltb-true, cond_both}
use Rattle.refusal.specs.Tellings.{at_ladder}
use Rattle.refusal.specs.Tests.{between, first_false}
use Rattle.refusal.proofs.Tests.{between-says, unless_ok, all_pass}
use Rattle.process.specs.declared.place.End.TheVariants.{Exit}
use Rattle.process.specs.declared.place.Place.TheVariants.{State, End as Ends}
use Rattle.process.specs.Process.{joined, Within, OptionFormed, StateFormed, Formed}
use Rattle.ladder.specs.declared.chances.Chances.{Chances}
use Rattle.ladder.specs.Ladder.{spent, fits, moves_after, options_after, tried, answer}

pub record Sound (t : ℕ) (forty twenty : Chances) : Type 0 where
  pub least : 1 ≤ t
  pub most : t ≤ 4096
  pub forty_fits : fits forty ≡ true
  pub twenty_fits : fits twenty ≡ true

pub sound : (t : ℕ) (forty twenty : Chances) → is_ok (answer t forty twenty) ≡ true → Sound t forty twenty
sound t forty twenty e =
    let p = unless_ok (at_ladder 31) (first_false (between 1 4096 t ∷ [])) _ e in
    let q = unless_ok (at_ladder 32) (first_false (fits forty ∷ (fits twenty ∷ []))) _ p.1 in
    let tries = between-says 1 4096 t (all_pass (λ b. b) 0 (between 1 4096 t ∷ []) p.0).0 in
    let each = all_pass (λ b. b) 0 (fits forty ∷ (fits twenty ∷ [])) q.0 in
    record {
      least = tries.0;
      most = tries.1;
      forty_fits = each.0;
      twenty_fits = each.1.0;
    }

all_counting : {X : Type 0} (P : X → Type 0) (f : ℕ → X) (a n : ℕ) → ((i : ℕ) → i < a + n → P (f i)) → Every P (map f (range_with_len a n))
all_counting P f a zero h = tt
all_counting P f a (suc n) h = (h a (omega arith), all_counting P f (a + 1) n (λ i l. h i (omega arith)))

module _ (t : ℕ) (forty twenty : Chances) where
  pub count_options : (a n : ℕ) → length (joined (map (options_after t forty twenty) (range_with_len a n))) ≡ 2 * n
  count_options a zero = refl
  count_options a (suc n) = omega (arith, count_options (a + 1) n)

  count_moves : (a n : ℕ) → length (joined (joined (map (options_after t forty twenty) (range_with_len a n)))) ≡ 8 * n
  count_moves a zero = refl
  count_moves a (suc n) = omega (arith, count_moves (a + 1) n)

  option_formed : (c : Chances) (s : ℕ) → s < t → fits c ≡ true → OptionFormed 4096 t (moves_after t c s)
  option_formed c s l h =
      record {
        some_move = omega arith;
        sum = omega (arith, leb-true (spent c) 4096 h);
        places =
            (tt, (tt, (l, (cond_both (nat_lt (s + 1) t) (State (s + 1)) (Ends Exit) (Within t) (λ e. ltb-true (s + 1) t e) (λ _. tt), tt))));
      }

  formed_sound : Sound t forty twenty → Formed 4096 (tried t forty twenty)
  formed_sound k =
      let n : length (tried t forty twenty) ≡ t = length-map-range_with_len (options_after t forty twenty) 0 t in
      record {
        scale_positive = omega arith;
        scale_limit = omega arith;
        some_state = omega (arith, k.least);
        state_limit = omega (arith, k.most);
        option_limit = omega (arith, count_options 0 t, k.most);
        move_limit = omega (arith, count_moves 0 t, k.most);
        each =
            rw n
            (all_counting (StateFormed 4096 t) (options_after t forty twenty) 0 t
            (λ s l.
            record {
              some_option = omega arith;
              each = (option_formed forty s (omega arith) k.forty_fits, (option_formed twenty s (omega arith) k.twenty_fits, tt));
            }));
      }

pub formed_ladder : (t : ℕ) (forty twenty : Chances) → is_ok (answer t forty twenty) ≡ true → Formed 4096 (tried t forty twenty)
formed_ladder t forty twenty e = formed_sound t forty twenty (sound t forty twenty e)
