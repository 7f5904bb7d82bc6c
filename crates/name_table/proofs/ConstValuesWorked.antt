-- Operators at worked values.
use Rattle.std.proofs.Common.{◌≡◌, ◌^◌, ◌-◌, Some, None, refl}
use Rattle.std.specs.Prelude.{pos, negsuc}
use Rattle.idl_tree.specs.declared.expression.Operator.TheVariants.{Or, Xor, And, ShiftLeft, ShiftRight, Add, Subtract, Multiply, Divide, Remainder}
use Rattle.idl_tree.specs.declared.expression.Sign.TheVariants.{Minus}
use Rattle.name_table.specs.Arithmetic.{applied, signed}

-- -7 / 2 is -3, and -7 % 2 is -1
pub divide_drops_the_fraction : applied Divide (negsuc 6) (pos 2) ≡ Some (negsuc 2)
divide_drops_the_fraction = refl

pub remainder_of_a_negative : applied Remainder (negsuc 6) (pos 2) ≡ Some (negsuc 0)
remainder_of_a_negative = refl

pub remainder_by_a_negative : applied Remainder (pos 7) (negsuc 1) ≡ Some (pos 1)
remainder_by_a_negative = refl

pub divide_by_zero : applied Divide (pos 7) (pos 0) ≡ None
divide_by_zero = refl

pub remainder_by_zero : applied Remainder (pos 7) (pos 0) ≡ None
remainder_by_zero = refl

-- the least number divided by -1 has no value, and its remainder is 0
pub divide_least : applied Divide (negsuc (2 ^ 127 - 1)) (negsuc 0) ≡ None
divide_least = refl

pub remainder_of_least : applied Remainder (negsuc (2 ^ 127 - 1)) (negsuc 0) ≡ Some (pos 0)
remainder_of_least = refl

pub shift_by_63 : applied ShiftLeft (pos 1) (pos 63) ≡ Some (pos (2 ^ 63))
shift_by_63 = refl

pub shift_by_64 : applied ShiftLeft (pos 1) (pos 64) ≡ None
shift_by_64 = refl

pub right_shift_by_64 : applied ShiftRight (pos 1) (pos 64) ≡ None
right_shift_by_64 = refl

pub right_shift : applied ShiftRight (pos 41) (pos 3) ≡ Some (pos 5)
right_shift = refl

pub shift_of_a_negative : applied ShiftLeft (negsuc 0) (pos 1) ≡ None
shift_of_a_negative = refl

pub shift_by_a_negative : applied ShiftRight (pos 8) (negsuc 0) ≡ None
shift_by_a_negative = refl

pub shift_past_128_bits : applied ShiftLeft (pos (2 ^ 64)) (pos 63) ≡ None
shift_past_128_bits = refl

pub or_of_bits : applied Or (pos 12) (pos 10) ≡ Some (pos 14)
or_of_bits = refl

pub xor_of_bits : applied Xor (pos 12) (pos 10) ≡ Some (pos 6)
xor_of_bits = refl

pub and_of_bits : applied And (pos 12) (pos 10) ≡ Some (pos 8)
and_of_bits = refl

pub or_of_a_negative : applied Or (pos 12) (negsuc 0) ≡ None
or_of_a_negative = refl

pub greatest_and_one : applied Add (pos (2 ^ 127 - 1)) (pos 1) ≡ None
greatest_and_one = refl

pub least_less_one : applied Subtract (negsuc (2 ^ 127 - 1)) (pos 1) ≡ None
least_less_one = refl

pub least_as_a_sum : applied Add (negsuc (2 ^ 127 - 2)) (negsuc 0) ≡ Some (negsuc (2 ^ 127 - 1))
least_as_a_sum = refl

pub least_as_a_product : applied Multiply (pos (2 ^ 126)) (negsuc 1) ≡ Some (negsuc (2 ^ 127 - 1))
least_as_a_product = refl

pub product_past_128_bits : applied Multiply (pos (2 ^ 64)) (pos (2 ^ 63)) ≡ None
product_past_128_bits = refl

pub minus_least : signed Minus (negsuc (2 ^ 127 - 1)) ≡ None
minus_least = refl

pub minus_zero : signed Minus (pos 0) ≡ Some (pos 0)
minus_zero = refl
