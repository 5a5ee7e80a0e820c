-- A refusal as it is told: its number, its layer and one place. Every promise about a refusal goes through these.
use Rattle.std.specs.Prelude.{ℕ, Bool, ◌==◌, Ok, Err, Result}
use Rattle.std.specs.Ordering.{eq_of_both, on}
use Rattle.refusal.specs.declared.reason.Refusal.{Refusal}
use Rattle.refusal.specs.declared.reason.Refusal.TheVariants.{TextLine, TextOrder, TextValue, TextRoom, TextSum, TableLength, TableStarts, TableMove, TableSum, LadderTries, LadderChances, VectorLength, VectorEntry, VectorInequality, LookAheadReach, RegisterChance, PartMarks, RegisterFull}
use Rattle.refusal.specs.declared.layer.Layer.{Layer}
use Rattle.refusal.specs.declared.layer.Layer.TheVariants.{Text, Table, Ladder, Vector, LookAhead, Register, Part}

pub record Telling : Type 0 where
  pub number : ℕ
  pub layer : Layer
  pub place : ℕ

abbrev pub at_text : ℕ → ℕ → Telling
at_text n i = record { number = n; layer = Text; place = i }

abbrev pub at_table : ℕ → ℕ → Telling
at_table n i = record { number = n; layer = Table; place = i }

abbrev pub at_ladder : ℕ → ℕ → Telling
at_ladder n i = record { number = n; layer = Ladder; place = i }

abbrev pub at_vector : ℕ → ℕ → Telling
at_vector n i = record { number = n; layer = Vector; place = i }

abbrev pub at_look_ahead : ℕ → ℕ → Telling
at_look_ahead n i = record { number = n; layer = LookAhead; place = i }

abbrev pub at_register : ℕ → ℕ → Telling
at_register n i = record { number = n; layer = Register; place = i }

abbrev pub at_part : ℕ → ℕ → Telling
at_part n i = record { number = n; layer = Part; place = i }

-- a place that is not named is 0
abbrev pub tell : Refusal → Telling
tell (TextLine i) = at_text 11 i
tell (TextOrder i) = at_text 12 i
tell (TextValue i) = at_text 13 i
tell (TextRoom i) = at_text 14 i
tell (TextSum i) = at_text 15 i
tell (TableLength i) = at_table 21 i
tell (TableStarts i) = at_table 22 i
tell (TableMove i) = at_table 23 i
tell (TableSum i) = at_table 24 i
tell LadderTries = at_ladder 31 0
tell (LadderChances i) = at_ladder 32 i
tell (VectorLength i) = at_vector 41 i
tell (VectorEntry i) = at_vector 42 i
tell (VectorInequality i) = at_vector 43 i
tell (LookAheadReach i) = at_look_ahead 44 i
tell RegisterChance = at_register 45 0
tell (PartMarks i) = at_part 46 i
tell RegisterFull = at_register 51 0

abbrev pub number_of : Refusal → ℕ
number_of r = (tell r).number

abbrev pub layer_of : Refusal → Layer
layer_of r = (tell r).layer

abbrev pub place_of : Refusal → ℕ
place_of r = (tell r).place

-- the place of a layer among the layers
abbrev pub layer_index : Layer → ℕ
layer_index Text = 0
layer_index Table = 1
layer_index Ladder = 2
layer_index Vector = 3
layer_index LookAhead = 4
layer_index Register = 5
layer_index Part = 6

-- whether two refusals are told alike: the same number, place and layer
abbrev pub same_telling : Refusal → Refusal → Bool
same_telling =
    eq_of_both (on number_of ◌==◌) (eq_of_both (on place_of ◌==◌) (on (λ r. layer_index (layer_of r)) ◌==◌))

-- an answer, its value seen through a function and its refusal as it is told
abbrev pub told_as : {X Y : Type 0} → (X → Y) → Result X Refusal → Result Y Telling
told_as f (Ok x) = Ok (f x)
told_as f (Err e) = Err (tell e)

abbrev pub told : {X : Type 0} → Result X Refusal → Result X Telling
told r = told_as (λ x. x) r
