-- A line is read exactly as it is properly written.
use Rattle.std.proofs.Common.{◌≡◌, ℕ, ◌+◌, ◌-◌, ◌<◌, true, false, ◌&&◌, eqb, ltb, leb, List, [], ◌∷◌, ◌++◌, length, get_or, take, drop, is_some, is_ok, Some, None, Ok, Option, sym, refl, ap, ◌∙◌, subst, inl, inr, arith, length-append, take-append-drop}
use Rattle.std.specs.List.{prefix_len, AllByRecursion as Every}
use Rattle.std.proofs.ByRecursion.{All-weaker, All-append}
use Rattle.std.proofs.lemmas.List.{take_more, take_all, take_at, length-take-le, drop_more, drop_at, drop-drop, get_or_at, append_assoc}
use Rattle.std.proofs.lemmas.List.Sums.{prefix_len-le-length}
use Rattle.std.proofs.lemmas.Bool.{cond-true, cond-false, cases_Bool, and_parts, and_from, false≢true, eqb-true, eq-eqb, ltb-true, lt-ltb, leb-true}
use Rattle.refusal.specs.Tests.{between}
use Rattle.refusal.proofs.Tests.{between-says, says-between}
use Rattle.lines.specs.Bytes.{is_letter}
use Rattle.lines.specs.Lines.{inside, first_line, after_line, named, number_of, Said, says_word, says_number}
use Rattle.lines.specs.Lines.{numbered, valued, keyed_at, split, parsed, Reading, reading, ruled, read_line}
use Rattle.lines.specs.Writing.{line_of, written, Name, Proper, ReadAsWritten}
use Rattle.lines.proofs.Leading.{leading_append, leading_all, all_leading, all_from_leading}
use Rattle.lines.proofs.Numerals.{number_decimal, decimal_number, decimal_no_name, above_inside, decimal_inside}

-- names
pub named_name : (bs : List ℕ) → named bs ≡ true → Name bs
named_name bs e =
    let p = and_parts (between 1 8 (length bs)) (eqb (prefix_len is_letter bs) (length bs)) e in
    let q = between-says 1 8 (length bs) p.0 in
    let all = eqb-true (prefix_len is_letter bs) (length bs) p.1 in
    record { some = q.0; few = q.1; letters = all_from_leading is_letter bs all }

pub name_named : (bs : List ℕ) → Name bs → named bs ≡ true
name_named bs h =
    and_from (between 1 8 (length bs)) _ (says-between 1 8 (length bs) h.some h.few)
    (eq-eqb (prefix_len is_letter bs) (length bs) (leading_all is_letter bs h.letters))

name_inside : (bs : List ℕ) → Name bs → Every (λ b. inside b ≡ true) bs
name_inside bs h =
    All-weaker (λ b. is_letter b ≡ true) _
    (λ b l. above_inside b (omega (arith, leb-true 97 b (and_parts (leb 97 b) (leb b 122) l).0)))
    bs h.letters

-- the key, the equals sign and the value
abbrev pub body : Said → List ℕ
body (says_word key v) = key ++ (61 ∷ v)
body (says_number key v n) = key ++ (61 ∷ v)

pub written_body : (s : Said) → written s ≡ body s ++ (10 ∷ [])
written_body (says_word key v) = refl
written_body (says_number key v n) = refl

-- a proper line has no newline but its last byte
pub free_written : (s : Said) → Proper s → Every (λ b. inside b ≡ true) (body s)
free_written (says_word key v) h = All-append _ key (61 ∷ v) (name_inside key h.0) (refl, name_inside v h.1)
free_written (says_number key v n) h =
    All-append _ key (61 ∷ v) (name_inside key h.0) (refl, rw h.1 (decimal_inside n h.2))

-- what is read of a line is proper, and the line is how it is written
abbrev Spelt : List ℕ → Said → Type 0
Spelt l s = Proper s × (l ≡ written s)

numbered_spelt : (key v : List ℕ) (s : Said) (o : Option ℕ) → Name key → number_of v ≡ o → numbered key v o ≡ Some s
    → Spelt (line_of key v) s
numbered_spelt key v s None k f e = absurd (false≢true (ap is_some e))
numbered_spelt key v s (Some n) k f e =
    let d = decimal_number v n f in
    let same : says_number key v n ≡ s = cc in
    subst (Spelt (line_of key v)) same ((k, d.0, d.1), refl)

valued_spelt : (key v : List ℕ) (s : Said) → Name key → valued key v ≡ Some s → Spelt (line_of key v) s
valued_spelt key v s k e =
    elim (cases_Bool (named v)) [
      | inl t ↦
          let word : Some (says_word key v) ≡ Some s = sym (cond-true (named v) _ _ t) ∙ e in
          let same : says_word key v ≡ s = cc in
          subst (Spelt (line_of key v)) same ((k, named_name v t), refl)
      | inr f ↦ numbered_spelt key v s (number_of v) k refl (sym (cond-false (named v) _ _ f) ∙ e)
    ]

key_name : (bs : List ℕ) → between 1 8 (prefix_len is_letter bs) ≡ true → Name (take (prefix_len is_letter bs) bs)
key_name bs e =
    let k = prefix_len is_letter bs in
    let q = between-says 1 8 k e in
    let long = length-take-le k bs (prefix_len-le-length is_letter bs) in
    record { some = omega arith; few = omega arith; letters = all_leading is_letter bs }

split_spelt : (bs : List ℕ) (s : Said) → split (prefix_len is_letter bs) bs ≡ Some s → Spelt (bs ++ (10 ∷ [])) s
split_spelt bs s e =
    let k = prefix_len is_letter bs in
    elim (cases_Bool (keyed_at k bs)) [
      | inl t ↦
          let p = and_parts (between 1 8 k && ltb k (length bs)) (eqb (get_or bs k 0) 61) t in
          let q = and_parts (between 1 8 k) (ltb k (length bs)) p.0 in
          let sign = drop_more bs k 0 (ltb-true k (length bs) q.1)
          ∙ ap (λ b. b ∷ drop (k + 1) bs) (eqb-true (get_or bs k 0) 61 p.1) in
          let whole : bs ≡ take k bs ++ (61 ∷ drop (k + 1) bs)
          = sym (take-append-drop k bs) ∙ ap (λ r. take k bs ++ r) sign in
          let said = sym (cond-true (keyed_at k bs) _ _ t) ∙ e in
          subst (λ b. Spelt (b ++ (10 ∷ [])) s) (sym whole)
          (valued_spelt (take k bs) (drop (k + 1) bs) s (key_name bs q.0) said)
      | inr f ↦ absurd (false≢true (ap is_some (sym (cond-false (keyed_at k bs) _ _ f) ∙ e)))
    ]

whole_line : (l : List ℕ) → get_or l (length l - 1) 0 ≡ 10 → l ≡ take (length l - 1) l ++ (10 ∷ [])
whole_line [] e = absurd (omega arith)
whole_line (b ∷ bs) e =
    let l = b ∷ bs in
    sym (take_all (length l - 1 + 1) l (omega arith)) ∙ take_more l (length l - 1) 0 (omega arith)
    ∙ ap (λ x. take (length l - 1) l ++ (x ∷ [])) e

pub parsed-proper : (l : List ℕ) (s : Said) → parsed l ≡ Some s → Proper s × (l ≡ written s)
parsed-proper l s e =
    let last = eqb (get_or l (length l - 1) 0) 10 in
    elim (cases_Bool last) [
      | inl t ↦
          subst (λ x. Spelt x s) (sym (whole_line l (eqb-true (get_or l (length l - 1) 0) 10 t)))
          (split_spelt (take (length l - 1) l) s (sym (cond-true last _ _ t) ∙ e))
      | inr f ↦ absurd (false≢true (ap is_some (sym (cond-false last _ _ f) ∙ e)))
    ]

-- and what is proper is read of the line that is written
parsed_body : (b : List ℕ) → parsed (b ++ (10 ∷ [])) ≡ split (prefix_len is_letter b) b
parsed_body b =
    let l = b ++ (10 ∷ []) in
    let long = length-append b (10 ∷ []) in
    let n : length b ≡ length l - 1 = omega arith in
    cond-true _ _ _ (eq-eqb (get_or l (length l - 1) 0) 10 (get_or_at b 10 [] 0 (length l - 1) n))
    ∙ ap (λ x. split (prefix_len is_letter x) x) (take_at b (10 ∷ []) (length l - 1) n)

parsed_line : (key v : List ℕ) (s : Said) → Name key → valued key v ≡ Some s → parsed (line_of key v) ≡ Some s
parsed_line key v s h e =
    let b = key ++ (61 ∷ v) in
    let k = length key in
    let long = length-append key (61 ∷ v) in
    let lead : prefix_len is_letter b ≡ k = leading_append is_letter key (61 ∷ v) h.letters ∙ omega arith in
    let after : drop (k + 1) b ≡ v = sym (drop-drop 1 k b) ∙ ap (drop 1) (drop_at key (61 ∷ v) k refl) in
    let front : take k b ≡ key = take_at key (61 ∷ v) k refl in
    let few = says-between 1 8 k h.some h.few in
    let within = lt-ltb k (length b) (omega arith) in
    let sign = eq-eqb (get_or b k 0) 61 (get_or_at key 61 v 0 k refl) in
    parsed_body b ∙ ap (λ j. split j b) lead
    ∙ cond-true (keyed_at k b) _ _ (and_from _ _ (and_from _ _ few within) sign)
    ∙ (λ i. valued (front i) (after i)) ∙ e

pub parsed-written : (s : Said) → Proper s → parsed (written s) ≡ Some s
parsed-written (says_word key v) h =
    parsed_line key v _ h.0 (cond-true (named v) _ _ (name_named v h.1))
parsed-written (says_number key v n) h =
    let no_word : named v ≡ false = ap named h.1 ∙ decimal_no_name n h.2 in
    let number : number_of v ≡ Some n = ap number_of h.1 ∙ number_decimal n h.2 in
    parsed_line key v _ h.0 (cond-false (named v) _ _ no_word ∙ ap (numbered key v) number)

-- the first line of a text that begins with a proper one, and the text after it
line_ends : (s : Said) (rest : List ℕ) → Proper s → length (written s) ≡ prefix_len inside (written s ++ rest) + 1
line_ends s rest h =
    let b = body s in
    let long = length-append b (10 ∷ []) in
    let lead = leading_append inside b (10 ∷ rest) (free_written s h) in
    rw (written_body s, append_assoc b (10 ∷ []) rest) (omega arith)

pub first-written : (s : Said) (rest : List ℕ) → Proper s → first_line (written s ++ rest) ≡ written s
first-written s rest h = take_at (written s) rest _ (line_ends s rest h)

pub after-written : (s : Said) (rest : List ℕ) → Proper s → after_line (written s ++ rest) ≡ rest
after-written s rest h = drop_at (written s) rest _ (line_ends s rest h)

pub written-some : (s : Said) → 0 < length (written s)
written-some s = rw (written_body s) (omega (arith, length-append (body s) (10 ∷ [])))

-- a text that is not empty has a first line
read_some : (at : ℕ) (t : List ℕ) → 0 < length t
    → read_line at t ≡ ruled at (parsed (first_line t)) (after_line t)
read_some at [] h = absurd (omega arith)
read_some at (b ∷ bs) h = refl

ruled_spelt : (at : ℕ) (l rest : List ℕ) (o : Option Said) (x : Reading) → parsed l ≡ o → ruled at o rest ≡ Ok x
    → Proper x.said × (l ++ rest ≡ written x.said ++ x.rest)
ruled_spelt at l rest None x f e = absurd (false≢true (ap is_ok e))
ruled_spelt at l rest (Some s) x f e =
    let p = parsed-proper l s f in
    let same : reading at s rest ≡ x = cc in
    subst (λ y. Proper y.said × (l ++ rest ≡ written y.said ++ y.rest)) same (p.0, ap (λ w. w ++ rest) p.1)

pub read-proper : (at : ℕ) (t : List ℕ) (x : Reading) → read_line at t ≡ Ok x
    → Proper x.said × (t ≡ written x.said ++ x.rest)
read-proper at [] x e = absurd (false≢true (ap is_ok e))
read-proper at (b ∷ bs) x e =
    let t = b ∷ bs in
    let p = ruled_spelt at (first_line t) (after_line t) (parsed (first_line t)) x refl e in
    (p.0, sym (take-append-drop (prefix_len inside t + 1) t) ∙ p.1)

pub read-written : (at : ℕ) (s : Said) (rest : List ℕ) → Proper s
    → read_line at (written s ++ rest) ≡ Ok (reading at s rest)
read-written at s rest h =
    let some = written-some s in
    let long = length-append (written s) rest in
    read_some at (written s ++ rest) (omega arith)
    ∙ (λ i. ruled at (parsed (first-written s rest h i)) (after-written s rest h i))
    ∙ ap (λ o. ruled at o rest) (parsed-written s h)

pub read_law : (at : ℕ) (t : List ℕ) → ReadAsWritten at t (read_line at t)
read_law at t =
    record {
      proper = read-proper at t;
      taken = λ s rest h e. ap (read_line at) e ∙ read-written at s rest h;
    }
