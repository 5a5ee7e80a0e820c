-- The words that name the kinds of vector.
use Rattle.std.specs.Prelude.{ℕ, List, [], ◌∷◌, codes, Option}
use Rattle.std.specs.List.{find}
use Rattle.std.specs.Str.{bytes_eq}
use Rattle.vector_text.specs.declared.format.Kind.{Kind}
use Rattle.vector_text.specs.declared.format.Kind.TheVariants.{Cap, Floor, Delay, Hope, Risk}

abbrev pub kind_word : Kind → List ℕ
kind_word Cap = codes "cap"
kind_word Floor = codes "floor"
kind_word Delay = codes "delay"
kind_word Hope = codes "hope"
kind_word Risk = codes "risk"

abbrev pub kinds : List Kind
kinds = Cap ∷ Floor ∷ Delay ∷ Hope ∷ Risk ∷ []

-- the kind that a word names
abbrev pub kind_named : List ℕ → Option Kind
kind_named v = find (λ k. bytes_eq v (kind_word k)) kinds
