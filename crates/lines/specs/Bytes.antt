-- Letters, digits, the equals sign and the newline.
use Rattle.std.specs.Prelude.{ℕ, Bool, cond, ◌&&◌, ◌==◌, nat_le}
use Rattle.lines.specs.declared.bytes.Class.{Class}
use Rattle.lines.specs.declared.bytes.Class.TheVariants.{Letter, Digit, Equals, Newline, Other}

abbrev pub is_letter : ℕ → Bool
is_letter c = nat_le 97 c && nat_le c 122

abbrev pub is_digit : ℕ → Bool
is_digit c = nat_le 48 c && nat_le c 57

abbrev pub class_of : ℕ → Class
class_of c =
    cond (is_letter c) Letter (cond (is_digit c) Digit (cond (c == 61) Equals (cond (c == 10) Newline Other)))
