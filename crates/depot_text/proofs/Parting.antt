-- Looking for the line that ends a depot, one line at a time.
use Rattle.std.proofs.Common.{◌≡◌, ℕ, ◌+◌, ◌-◌, ◌<◌, ◌≤◌, true, false, List, [], ◌∷◌, ◌++◌, length, get_or, take, drop, sym, ap, ◌∙◌, append_assoc, append-nil, arith, length-append, take-append-drop}
use Rattle.std.specs.List.{flat_map}
use Rattle.std.proofs.lemmas.List.{take_more, drop_more, take_at, length-take-le, take_all, nil_from_length}
use Rattle.std.proofs.lemmas.Grind.{flat_map-append}
use Rattle.std.proofs.lemmas.Bool.{cond-true, cond-false}
use Rattle.lines.specs.Lines.{first_line, after_line}
use Rattle.passes.specs.Texts.{lines}
use Rattle.passes.proofs.Cuts.{lines_cut, lines-whole}
use Rattle.depot_text.specs.Splitting.{ends_depot, depot_lines, lines_after}

abbrev pub text_of : List (List ℕ) → List ℕ
text_of ls = flat_map (λ l. l) ls

-- some lines have passed, none of which ends the depot, and the next one has the number `at`
pub record Parting (input rest : List ℕ) (at : ℕ) : Type 0 where
  pub k : ℕ
  pub next : at ≡ k + 1
  pub count : k + length (lines rest) ≡ length (lines input)
  pub left : lines rest ≡ drop k (lines input)
  pub depot : depot_lines (lines input) ≡ take k (lines input) ++ depot_lines (drop k (lines input))
  pub after : lines_after (lines input) ≡ lines_after (drop k (lines input))

-- the text of the lines that have passed
module _ (input rest : List ℕ) (k : ℕ) (left : lines rest ≡ drop k (lines input)) where
  whole : input ≡ text_of (take k (lines input)) ++ rest
  whole =
      sym (lines-whole input)
      ∙ (ap text_of (sym (take-append-drop k (lines input)))
      ∙ (flat_map-append (λ l. l) (take k (lines input)) (drop k (lines input))
      ∙ ap (λ t. text_of (take k (lines input)) ++ t) (ap text_of (sym left) ∙ lines-whole rest)))

  front : length input - length rest ≡ length (text_of (take k (lines input)))
  front = omega (arith, ap length whole, length-append (text_of (take k (lines input))) rest)

  cut_front : take (length input - length rest) input ≡ text_of (take k (lines input))
  cut_front =
      ap (λ t. take (length input - length rest) t) whole
      ∙ take_at (text_of (take k (lines input))) rest (length input - length rest) (sym front)

-- what the parts are then, the line after the depot having the number `at`
pub record Parted (input front back : List ℕ) (at : ℕ) : Type 0 where
  pub depot : front ≡ text_of (depot_lines (lines input))
  pub count : at ≡ length (depot_lines (lines input)) + 1
  pub rest : back ≡ text_of (lines_after (lines input))

module _ (input rest : List ℕ) (at : ℕ) (p : Parting input rest at) where
  -- no line is left
  pub part_none : length rest ≤ 0 → Parted input input rest at
  part_none h =
      let none : lines rest ≡ [] = ap lines (nil_from_length rest (omega arith)) in
      let gone : drop p.k (lines input) ≡ [] = sym p.left ∙ none in
      let all : take p.k (lines input) ≡ lines input = take_all p.k (lines input) (omega (arith, p.count, ap length none)) in
      let same : depot_lines (lines input) ≡ lines input =
      p.depot ∙ (ap (λ ls. take p.k (lines input) ++ depot_lines ls) gone ∙ (append-nil (take p.k (lines input)) ∙ all)) in
      record {
        depot = sym (lines-whole input) ∙ ap text_of (sym same);
        count = omega (arith, p.next, p.count, ap length none, ap length same);
        rest = sym (lines-whole rest) ∙ ap text_of (none ∙ sym (p.after ∙ ap lines_after gone));
      }

  module _ (line after : List ℕ) (at' : ℕ) (shorter : length after < length rest) (first : line ≡ first_line rest)
      (rests : after ≡ after_line rest) (counted : at' ≡ at + 1) where
    cut : lines rest ≡ line ∷ lines after
    cut = rw (first, rests) (lines_cut rest (omega (arith, shorter)))

    here : drop p.k (lines input) ≡ line ∷ lines after
    here = sym p.left ∙ cut

    within : p.k < length (lines input)
    within = omega (arith, p.count, ap length cut)

    both : get_or (lines input) p.k [] ∷ drop (p.k + 1) (lines input) ≡ line ∷ lines after
    both = sym (drop_more (lines input) p.k [] within) ∙ here

    left : lines after ≡ drop (p.k + 1) (lines input)
    left = let e = both in cc

    taken : take (p.k + 1) (lines input) ≡ take p.k (lines input) ++ line ∷ []
    taken = take_more (lines input) p.k [] within ∙ ap (λ l. take p.k (lines input) ++ l ∷ []) (let e = both in cc)

    -- the next line ends the depot
    pub part_found : ends_depot line ≡ true → Parted input (take (length input - length after) input) after at'
    part_found e =
        let depot : depot_lines (lines input) ≡ take (p.k + 1) (lines input) =
        p.depot ∙ (ap (λ ls. take p.k (lines input) ++ depot_lines ls) here
        ∙ (ap (λ ls. take p.k (lines input) ++ line ∷ ls) (cond-true (ends_depot line) [] _ e) ∙ sym taken)) in
        let back : lines_after (lines input) ≡ lines after =
        p.after ∙ (ap lines_after here ∙ cond-true (ends_depot line) _ _ e) in
        record {
          depot = cut_front input after (p.k + 1) left ∙ ap text_of (sym depot);
          count =
              omega
              (arith, counted, p.next, ap length depot, length-take-le (p.k + 1) (lines input) (omega (arith, within)));
          rest = sym (lines-whole after) ∙ ap text_of (sym back);
        }

    -- it does not
    pub parting_more : ends_depot line ≡ false → Parting input after at'
    parting_more e =
        record {
          k = p.k + 1;
          next = omega (arith, counted, p.next);
          count = omega (arith, p.count, ap length cut);
          left = left;
          depot =
              p.depot ∙ (ap (λ ls. take p.k (lines input) ++ depot_lines ls) here
              ∙ (ap (λ ls. take p.k (lines input) ++ line ∷ ls) (cond-false (ends_depot line) [] _ e)
              ∙ (sym (append_assoc (take p.k (lines input)) (line ∷ []) (depot_lines (lines after)))
              ∙ (ap (λ ls. ls ++ depot_lines (lines after)) (sym taken)
              ∙ ap (λ ls. take (p.k + 1) (lines input) ++ depot_lines ls) left))));
          after = p.after ∙ (ap lines_after here ∙ (cond-false (ends_depot line) _ _ e ∙ ap lines_after left));
        }
