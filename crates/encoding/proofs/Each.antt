-- What holds of each of a list, joined with what else holds of each, and of lists one after another.
use Rattle.std.proofs.Common.{◌≤◌, List, [], ◌∷◌, length, arith, length-append}
use Rattle.std.specs.List.{AllByRecursion as Every}
use Rattle.std.proofs.ByRecursion.{All-append}
use Rattle.process.specs.Process.{joined}

pub all_both : {A : Type 0} (P Q R : A → Type 0) → ((x : A) → P x → Q x → R x)
    → (xs : List A) → Every P xs → Every Q xs → Every R xs
all_both P Q R f [] p q = tt
all_both P Q R f (x ∷ xs) p q = (f x p.0 q.0, all_both P Q R f xs p.1 q.1)

pub all_joined : {A : Type 0} (P : A → Type 0) (xss : List (List A)) → Every (Every P) xss → Every P (joined xss)
all_joined P [] h = tt
all_joined P (xs ∷ xss) h = All-append P xs (joined xss) h.0 (all_joined P xss h.1)

pub some-joined : {A : Type 0} (xss : List (List A)) → 1 ≤ length xss → Every (λ l. 1 ≤ length l) xss
    → 1 ≤ length (joined xss)
some-joined [] h s = absurd (omega arith)
some-joined (xs ∷ xss) h s = omega (arith, s.0, length-append xs (joined xss))
