-- Whole numbers of constant expressions and the operators on them (ISO/IEC 19500-1, constant declaration). A number
-- has at most 128 bits with its sign.
use Rattle.std.specs.Prelude.{ℕ, ◌*◌, ◌/◌, ◌^◌, Bool, true, false, nat_lt, Option, Some, None, ℤ, pos, negsuc, neg_ℤ, ◌+ℤ◌, ◌-ℤ◌, ◌*ℤ◌, unsigned_abs, bit_and, bit_or, bit_xor, int_div, int_rem}
use Rattle.idl_tree.specs.declared.expression.Operator.{Operator}
use Rattle.idl_tree.specs.declared.expression.Operator.TheVariants.{Or, Xor, And, ShiftLeft, ShiftRight, Add, Subtract, Multiply, Divide, Remainder}
use Rattle.idl_tree.specs.declared.expression.Sign.{Sign}
use Rattle.idl_tree.specs.declared.expression.Sign.TheVariants.{Plus, Minus}

-- the value, where the test holds
abbrev pub where_true : {T : Type 0} → Bool → T → Option T
where_true true x = Some x
where_true false x = None

-- the number has at most 128 bits with its sign
abbrev pub has_128_bits : ℤ → Bool
has_128_bits (pos n) = nat_lt n (2 ^ 127)
has_128_bits (negsuc n) = nat_lt n (2 ^ 127)

-- a result that has more is none
abbrev pub fitting : Option ℤ → Option ℤ
fitting None = None
fitting (Some z) = where_true (has_128_bits z) z

-- two numbers that aren't negative
abbrev pub naturals : ℤ → ℤ → Option (ℕ × ℕ)
naturals (negsuc m) b = None
naturals (pos m) (negsuc n) = None
naturals (pos m) (pos n) = Some (m, n)

-- what an operator gives that takes only such numbers
abbrev pub of_naturals : (ℕ → ℕ → Option ℤ) → Option (ℕ × ℕ) → Option ℤ
of_naturals f None = None
of_naturals f (Some p) = f p.0 p.1

-- a shift is by at most 63 places
abbrev pub is_shift : ℕ → Bool
is_shift n = nat_lt n 64

abbrev pub is_not_zero : ℤ → Bool
is_not_zero z = nat_lt 0 (unsigned_abs z)

-- in numbers of any size: `/` drops the fraction towards zero, `%` has the sign of its left operand
abbrev pub exact : Operator → ℤ → ℤ → Option ℤ
exact Or a b = of_naturals (λ m n. Some (pos (bit_or m n))) (naturals a b)
exact Xor a b = of_naturals (λ m n. Some (pos (bit_xor m n))) (naturals a b)
exact And a b = of_naturals (λ m n. Some (pos (bit_and m n))) (naturals a b)
exact ShiftLeft a b = of_naturals (λ m n. where_true (is_shift n) (pos (m * 2 ^ n))) (naturals a b)
exact ShiftRight a b = of_naturals (λ m n. where_true (is_shift n) (pos (m / 2 ^ n))) (naturals a b)
exact Add a b = Some (a +ℤ b)
exact Subtract a b = Some (a -ℤ b)
exact Multiply a b = Some (a *ℤ b)
exact Divide a b = where_true (is_not_zero b) (int_div a b)
exact Remainder a b = where_true (is_not_zero b) (int_rem a b)

abbrev pub applied : Operator → ℤ → ℤ → Option ℤ
applied o a b = fitting (exact o a b)

-- a number with a sign before it
abbrev pub signed : Sign → ℤ → Option ℤ
signed Plus a = Some a
signed Minus a = fitting (Some (neg_ℤ a))
