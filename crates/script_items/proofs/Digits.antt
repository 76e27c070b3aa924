-- Numbers in decimal, digit by digit.
use Rattle.std.proofs.Common.{◌≡◌, Bool, true, false, ◌&&◌, refl}
use Rattle.std.specs.List.{list_all}
use Rattle.std.specs.Char.{is_ascii_digit}
use Rattle.std.specs.Str.Parse.{digits_value}
use Rattle.std.proofs.Math.Dec.{leb}
use Rattle.std.proofs.lemmas.Bool.{leb-true, le-leb}
use Rattle.std.proofs.lemmas.Str.Parse.{IsNumeralModel, IsDigitsTest, numerals_by_value}

pub both : (a b : Bool) → (a && b) ≡ true → (a ≡ true) × (b ≡ true)
both true b e = (refl, e)
both false b e = cc

tells_digits : IsDigitsTest (λ ds. list_all is_ascii_digit ds ≡ true)
tells_digits = record {
  empty = refl;
  parts = λ c cs e. let k = both (is_ascii_digit c) (list_all is_ascii_digit cs) e in let m = both (leb 48 c) (leb c 57) k.0
      in ((leb-true 48 c m.0, leb-true c 57 m.1), k.1);
  more = λ c cs k e i. (le-leb 48 c k.0 i && le-leb c 57 k.1 i) && e i;
}

pub numerals : IsNumeralModel (λ ds. list_all is_ascii_digit ds ≡ true) (digits_value 10)
numerals = numerals_by_value (λ ds. list_all is_ascii_digit ds ≡ true) tells_digits
