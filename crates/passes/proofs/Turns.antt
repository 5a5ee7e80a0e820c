-- One line of a pass.
use Rattle.std.proofs.Common.{◌≡◌, ℕ, ◌+◌, ◌<◌, ◌≤◌, Bool, true, false, List, [], ◌∷◌, length, Some, None, Ok, Err, Option, Result, sym, refl, ap, ◌∙◌, inl, inr, arith}
use Rattle.std.proofs.lemmas.Bool.{cases_lt, both_ways, cond-true, cond-false}
use Rattle.refusal.specs.Tellings.{Telling}
use Rattle.encoding.specs.Lists.{Lists}
use Rattle.lines.specs.Lines.{Said, Reading, parsed, first_line, after_line, ruled, read_line}
use Rattle.passes.specs.Texts.{lines}
use Rattle.passes.specs.Passes.{Halt, halt, then, on_said, on_line, advanced, pass, onward, filled}
use Rattle.passes.proofs.Cuts.{lines_cut}

module _ {S : Type 0} (next : S → ℕ → Said → Result S Telling) where
  -- a step after a reading
  abbrev pub stepped : S → ℕ → Reading → Result (Halt S) Telling
  stepped s at x = then (next s x.at x.said) (λ s'. Ok (halt s' (at + 1) (lines x.rest)))

  reads : (s : S) (at : ℕ) (o : Option Said) (rest : List ℕ)
      → then (on_said next s at o) (λ s'. Ok (halt s' (at + 1) (lines rest))) ≡ then (ruled at o rest) (stepped s at)
  reads s at None rest = refl
  reads s at (Some x) rest = refl

  pub advanced_reads : (s : S) (at : ℕ) (t : List ℕ) → advanced next s at (lines t) ≡ then (read_line at t) (stepped s at)
  advanced_reads s at [] = refl
  advanced_reads s at (b ∷ bs) =
      rw (lines_cut (b ∷ bs) (omega arith)) (reads s at (parsed (first_line (b ∷ bs))) (after_line (b ∷ bs)))

  pub advanced_by : (s : S) (at : ℕ) (t : List ℕ) (x : Reading) (v : Result S Telling)
      → Ok x ≡ read_line at t → v ≡ next s x.at x.said
      → then v (λ s'. Ok (halt s' (at + 1) (lines x.rest))) ≡ advanced next s at (lines t)
  advanced_by s at t x v e f =
      sym (advanced_reads s at t ∙ (ap (λ w. then w (stepped s at)) (sym e)
      ∙ ap (λ w. then w (λ s'. Ok (halt s' (at + 1) (lines x.rest)))) (sym f)))

  pub advanced-refused : (s : S) (at : ℕ) (t : List ℕ) (f : Telling)
      → Err f ≡ read_line at t → Err f ≡ advanced next s at (lines t)
  advanced-refused s at t f e = sym (advanced_reads s at t ∙ ap (λ w. then w (stepped s at)) (sym e))

  module _ (ended : S → Bool) (s : S) (at : ℕ) (go : ended s ≡ false) where
    same : (x y : Halt S) → ◌≡◌ {A = Result (Halt S) Telling} (Ok x) (Ok y) → x ≡ y
    same x y e = cc

    never : {A : Type 0} (x : Halt S) (f : Telling) → ◌≡◌ {A = Result (Halt S) Telling} (Ok x) (Err f) → A
    never x f e = let z : ◌≡◌ {A = ℕ} 0 1 = cc in absurd (omega arith)

    pass_go : (ls : List (List ℕ)) (x : Halt S) (v : Result S Telling) → Ok x ≡ then v (λ s'. Ok (halt s' (at + 1) ls))
        → then v (λ s'. pass next ended s' (at + 1) ls) ≡ pass next ended x.state x.at x.rest
    pass_go ls x (Ok s') e = ap (λ y. pass next ended y.state y.at y.rest) (sym (same x (halt s' (at + 1) ls) e))
    pass_go ls x (Err f) e = never x f e

    -- after a line that is taken, what is left gives the same
    pub pass_on : (ls : List (List ℕ)) (x : Halt S) → Ok x ≡ advanced next s at ls
        → pass next ended s at ls ≡ pass next ended x.state x.at x.rest
    pass_on [] x e = never x _ e
    pass_on (l ∷ ls) x e = cond-false (ended s) _ _ go ∙ pass_go ls x (on_line next s at l) e

    pass_end : (ls : List (List ℕ)) (f : Telling) (v : Result S Telling)
        → ◌≡◌ {A = Result (Halt S) Telling} (Err f) (then v (λ s'. Ok (halt s' (at + 1) ls)))
        → then v (λ s'. pass next ended s' (at + 1) ls) ≡ Err f
    pass_end ls f (Ok s') e = never (halt s' (at + 1) ls) f (sym e)
    pass_end ls f (Err g) e = ap Err (let h : g ≡ f = cc in h)

    -- at a line that is refused, or at the end of the text, the pass ends
    pub pass_stop : (ls : List (List ℕ)) (f : Telling) → Err f ≡ advanced next s at ls → pass next ended s at ls ≡ Err f
    pass_stop [] f e = cond-false (ended s) _ _ go ∙ sym e
    pass_stop (l ∷ ls) f e = cond-false (ended s) _ _ go ∙ pass_end ls f (on_line next s at l) e

    module _ (puts : S → Lists → Lists) where
      fill_go : (old : Lists) (ls : List (List ℕ)) (x : Halt S) (v : Result S Telling)
          → Ok x ≡ then v (λ s'. Ok (halt s' (at + 1) ls))
          → onward next ended puts v old (λ s'. filled next ended puts s' (at + 1) ls (puts s' old))
          ≡ filled next ended puts x.state x.at x.rest (puts x.state old)
      fill_go old ls x (Ok s') e =
          ap (λ y. filled next ended puts y.state y.at y.rest (puts y.state old))
          (sym (same x (halt s' (at + 1) ls) e))
      fill_go old ls x (Err f) e = never x f e

      pub fill_on : (old : Lists) (ls : List (List ℕ)) (x : Halt S) → Ok x ≡ advanced next s at ls
          → filled next ended puts s at ls old
          ≡ filled next ended puts x.state x.at x.rest (puts x.state old)
      fill_on old [] x e = never x _ e
      fill_on old (l ∷ ls) x e = cond-false (ended s) _ _ go ∙ fill_go old ls x (on_line next s at l) e

      fill_end : (old : Lists) (ls : List (List ℕ)) (f : Telling) (v : Result S Telling)
          → ◌≡◌ {A = Result (Halt S) Telling} (Err f) (then v (λ s'. Ok (halt s' (at + 1) ls)))
          → onward next ended puts v old (λ s'. filled next ended puts s' (at + 1) ls (puts s' old)) ≡ old
      fill_end old ls f (Ok s') e = never (halt s' (at + 1) ls) f (sym e)
      fill_end old ls f (Err g) e = refl

      pub fill_stop : (old : Lists) (ls : List (List ℕ)) (f : Telling) → Err f ≡ advanced next s at ls
          → filled next ended puts s at ls old ≡ old
      fill_stop old [] f e = refl
      fill_stop old (l ∷ ls) f e = cond-false (ended s) _ _ go ∙ fill_end old ls f (on_line next s at l) e

-- the pass is over where the format has ended
module _ {S : Type 0} (next : S → ℕ → Said → Result S Telling) (ended : S → Bool) (s : S) (at : ℕ) (done : ended s ≡ true) where
  pub pass-over : (ls : List (List ℕ)) → pass next ended s at ls ≡ Ok (halt s at ls)
  pass-over [] = cond-true (ended s) _ _ done
  pass-over (l ∷ ls) = cond-true (ended s) _ _ done

  pub fill_over : (puts : S → Lists → Lists) (old : Lists) (ls : List (List ℕ)) → filled next ended puts s at ls old ≡ old
  fill_over puts old [] = refl
  fill_over puts old (l ∷ ls) = cond-true (ended s) _ _ done

-- what a pass keeps: the line's number is small, and what is left gives what the whole text gives
pub record Going {S : Type 0} (next : S → ℕ → Said → Result S Telling) (ended : S → Bool) (puts : S → Lists → Lists)
    (first : ℕ) (text : List ℕ) (start : S) (old : Lists)
    (s : S) (at : ℕ) (rest : List ℕ) (new : Lists) : Type 0 where
  pub count : at + length rest ≤ length text + first
  pub from : first ≤ at
  pub unmoved : at ≡ first → ended s ≡ ended start
  pub same : pass next ended s at (lines rest) ≡ pass next ended start first (lines text)
  pub lists : filled next ended puts s at (lines rest) new ≡ filled next ended puts start first (lines text) old

module _ {S : Type 0} (next : S → ℕ → Said → Result S Telling) (ended : S → Bool) (puts : S → Lists → Lists)
    (first : ℕ) (text : List ℕ) (start : S) (old : Lists) where
  pub sets_out : Going next ended puts first text start old start first text old
  sets_out = record { count = omega arith; from = omega arith; unmoved = λ _. refl; same = refl; lists = refl }

  module _ (s : S) (at : ℕ) (rest : List ℕ) (new : Lists) (g : Going next ended puts first text start old s at rest new) where
    pub goes_on : (s' : S) (at' : ℕ) (rest' : List ℕ) (new' : Lists) → ended s ≡ false
        → Ok (halt s' at' (lines rest')) ≡ advanced next s at (lines rest)
        → length rest' < length rest → at' ≡ at + 1 → new' ≡ puts s' new
        → Going next ended puts first text start old s' at' rest' new'
    goes_on s' at' rest' new' go e l n p =
        record {
          count = omega (arith, g.count);
          from = omega (arith, g.from);
          unmoved = λ e. absurd (omega (arith, g.from));
          same = sym (pass_on next ended s at go (lines rest) (halt s' at' (lines rest')) e) ∙ g.same;
          lists =
              ap (filled next ended puts s' at' (lines rest')) p
              ∙ sym (fill_on next ended s at go puts new (lines rest) (halt s' at' (lines rest')) e) ∙ g.lists;
        }

    pub stops : (f : Telling) → ended s ≡ false → Err f ≡ advanced next s at (lines rest)
        → (Err f ≡ pass next ended start first (lines text))
        × (new ≡ filled next ended puts start first (lines text) old)
    stops f go e = (
      sym (pass_stop next ended s at go (lines rest) f e) ∙ g.same,
      sym (fill_stop next ended s at go puts new (lines rest) f e) ∙ g.lists,
    )

    -- a pass that had to begin has gone on by a line at least
    pub has_moved : ended s ≡ true → ended start ≡ false → first < at
    has_moved done e =
        elim (cases_lt first at) [
          | inl h ↦ h
          | inr h ↦ absurd (both_ways (ended s) (g.unmoved (omega (arith, g.from)) ∙ e) done)
        ]

    pub is_over : ended s ≡ true
        → (Ok (halt s at (lines rest)) ≡ pass next ended start first (lines text))
        × (new ≡ filled next ended puts start first (lines text) old)
    is_over done = (
      sym (pass-over next ended s at done (lines rest)) ∙ g.same,
      sym (fill_over next ended s at done puts new (lines rest)) ∙ g.lists,
    )
