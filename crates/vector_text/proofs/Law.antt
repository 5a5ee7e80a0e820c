-- A vector is read exactly when the text begins with one that the list can hold.
use Rattle.std.proofs.Common.{◌≡◌, ℕ, ◌+◌, ◌^◌, ◌<◌, ◌≤◌, true, List, [], ◌∷◌, ◌++◌, length, drop, is_ok, Ok, Err, Result, sym, refl, ap, ◌∙◌}
use Rattle.std.specs.List.{flat_map as written_all, AllByRecursion as Every}
use Rattle.std.proofs.lemmas.Bool.{cond-true, cond-false, cond_both, false≢true}
use Rattle.refusal.specs.Tellings.{Telling, at_text}
use Rattle.encoding.specs.Lists.{Lists, lists}
use Rattle.passes.specs.Texts.{lines}
use Rattle.passes.specs.Passes.{Halt, halt, then, on_line, pass, filled}
use Rattle.passes.proofs.Cuts.{lines-whole}
use Rattle.vector_text.specs.declared.format.Kind.{Kind}
use Rattle.vector_text.specs.declared.format.Phase.{Phase}
use Rattle.vector_text.specs.declared.format.Phase.TheVariants as phase
use Rattle.vector_text.specs.declared.format.Vector.{Vector}
use Rattle.vector_text.specs.Machine.{has_ended, next, ended, puts}
use Rattle.vector_text.specs.Reading.{beginning, Header, header_in, header, passed, answer, left}
use Rattle.vector_text.specs.Spelling.{render, header_of, ReadAsSpelled}
use Rattle.vector_text.proofs.Spelled.{vector_lines, lines_vector, whole_vector}
use Rattle.vector_text.proofs.Complete.{whole, vector_passes, vector_fills}
use Rattle.vector_text.proofs.Taken.{vector_taken}

abbrev headed : Result (Halt Vector) Telling → Result Header Telling
headed r = then r header

headed_ok : (r : Result (Halt Vector) Telling) (x : Header) → headed r ≡ Ok x → (h : Halt Vector) × (r ≡ Ok h)
headed_ok (Ok h) x e = (h, refl)
headed_ok (Err f) x e = absurd (false≢true (ap is_ok e))

-- a pass that succeeds has come to the end of a vector
abbrev Ends : Result (Halt Vector) Telling → Type 0
Ends r = (h : Halt Vector) → r ≡ Ok h → ended h.state ≡ true

at_end : (x : Halt Vector) → ended x.state ≡ true → Ends (Ok x)
at_end x t h e = let same : x ≡ h = cc in sym (ap (λ y. ended y.state) same) ∙ t

no_end : (f : Telling) → Ends (Err f)
no_end f h e = absurd (false≢true (ap is_ok e))

onward : (r : Result Vector Telling) (g : Vector → Result (Halt Vector) Telling) → ((y : Vector) → Ends (g y))
    → Ends (then r g)
onward (Ok y) g more = more y
onward (Err f) g more = no_end f

pass_ends : (ls : List (List ℕ)) (v : Vector) (at : ℕ) → Ends (pass next ended v at ls)
pass_ends [] v at = cond_both (ended v) _ _ Ends (at_end (halt v at [])) (λ _. no_end (at_text 12 at))
pass_ends (l ∷ ls) v at =
    cond_both (ended v) _ _ Ends (at_end (halt v at (l ∷ ls)))
    (λ _. onward (on_line next v at l) (λ y. pass next ended y (at + 1) ls) (λ y. pass_ends ls y (at + 1)))

has_header : (p : Phase) (h : Halt Vector) → has_ended p ≡ true → is_ok (header_in p h) ≡ true
has_header phase.Start h e = absurd (false≢true e)
has_header (phase.Vector k) h e = absurd (false≢true e)
has_header (phase.Entry k n) h e = absurd (false≢true e)
has_header (phase.End k) h e = refl

is_headed : (r : Result (Halt Vector) Telling) → Ends r → is_ok (headed r) ≡ is_ok r
is_headed (Ok h) d = has_header h.state.phase h (d h refl)
is_headed (Err f) d = refl

module _ (first : ℕ) (t old : List ℕ) where
  abbrev l : Lists
  l = lists [] [] old

  spells : (x : Header) → answer first t l ≡ Ok x
      → (k : Kind) × (es : List ℕ) × (rest : List ℕ) × Every (λ n. n < 2 ^ 32) es × (length es ≤ length old)
      × (t ≡ render k es ++ rest)
  spells x e =
      let h = headed_ok (passed first t l) x e in
      let q = vector_taken (length old) first (lines t) h.0 h.1 in (
        q.0,
        q.1,
        written_all (λ l. l) q.2,
        q.3,
        q.4,
        sym (lines-whole t) ∙ ap (written_all (λ l. l)) q.5 ∙ whole_vector q.0 q.1 q.2,
      )

  module _ (k : Kind) (es rest : List ℕ) (h : Every (λ n. n < 2 ^ 32) es) (fits : length es ≤ length old)
      (is : t ≡ render k es ++ rest) where
    cut : lines t ≡ vector_lines k es (lines rest)
    cut = ap lines is ∙ lines_vector k es rest h

    taken : passed first t l ≡ whole (beginning (length old)) k (length es) (first + (length es + 2)) (lines rest)
    taken =
        ap (pass next ended (beginning (length old)) first) cut
        ∙ vector_passes k es first (lines rest) h (length old) fits

    told : answer first t l ≡ Ok (header_of first k es rest)
    told = ap headed taken

    fills : (left first t l).moves ≡ es ++ drop (length es) old
    fills =
        ap (λ x. x.moves)
        (cond-true (is_ok (passed first t l)) _ l (ap is_ok taken)
        ∙ ap (λ ls. filled next ended puts (beginning (length old)) first ls l) cut
        ∙ vector_fills k es first (lines rest) h [] [] old fits)

  pub reading_law : ReadAsSpelled first t old (answer first t (lists [] [] old)) (left first t (lists [] [] old)).moves
  reading_law =
      record {
        read = spells;
        spelled = λ k es rest h fits is. (told k es rest h fits is, fills k es rest h fits is);
        refused =
            λ e. ap (λ x. x.moves)
            (cond-false (is_ok (passed first t l)) _ l
            (sym (is_headed (passed first t l) (pass_ends (lines t) (beginning (length old)) first)) ∙ e));
      }

  -- of an answer and a list that are those
  pub read_by : (r : Result Header Telling) (new : List ℕ) → r ≡ answer first t (lists [] [] old)
      → new ≡ (left first t (lists [] [] old)).moves → ReadAsSpelled first t old r new
  read_by r new e f = rw (e, f) reading_law
