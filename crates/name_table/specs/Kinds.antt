-- Which constants are of a declared type (ISO/IEC 19500-1, constant declaration, basic types).
use Rattle.std.specs.Prelude.{ℕ, ◌^◌, ◌-◌, Bool, true, false, nat_lt, nat_le, nat_eq, length, Option, Some, None, ℤ, pos, negsuc}
use Rattle.idl_tree.specs.declared.types.IntegerSize.{IntegerSize}
use Rattle.idl_tree.specs.declared.types.IntegerSize.TheVariants.{Short, Long, LongLong}
use Rattle.idl_tree.specs.declared.types.Integer.{Integer as IntegerType}
use Rattle.idl_tree.specs.declared.types.Integer.TheVariants.{Signed, Unsigned}
use Rattle.name_table.specs.Arithmetic.{where_true}
use Rattle.name_table.specs.declared.const_values.constant.Constant.{Constant}
use Rattle.name_table.specs.declared.const_values.constant.Constant.TheVariants.{Integer, Boolean, Character, Text, Enumerator}
use Rattle.name_table.specs.declared.const_values.kind.ConstKind.{ConstKind}
use Rattle.name_table.specs.declared.const_values.kind.ConstKind.TheVariants as Kinds

abbrev pub bits_of : IntegerSize → ℕ
bits_of Short = 16
bits_of Long = 32
bits_of LongLong = 64

-- a number of so many bits, in two's complement
abbrev pub is_signed_of : ℕ → ℤ → Bool
is_signed_of bits (pos n) = nat_lt n (2 ^ (bits - 1))
is_signed_of bits (negsuc n) = nat_lt n (2 ^ (bits - 1))

abbrev pub is_unsigned_of : ℕ → ℤ → Bool
is_unsigned_of bits (pos n) = nat_lt n (2 ^ bits)
is_unsigned_of bits (negsuc n) = false

abbrev pub is_of_integer : IntegerType → ℤ → Bool
is_of_integer (Signed s) z = is_signed_of (bits_of s) z
is_of_integer (Unsigned s) z = is_unsigned_of (bits_of s) z

abbrev pub is_within : Option ℕ → ℕ → Bool
is_within None n = true
is_within (Some bound) n = nat_le n bound

abbrev pub is_whole : (ℤ → Bool) → Constant → Bool
is_whole test (Integer z) = test z
is_whole test (Boolean b) = false
is_whole test (Character c) = false
is_whole test (Text t) = false
is_whole test (Enumerator e owner) = false

-- A whole number is of an integer type or `octet`, where its value is one of the type's. A character, a boolean, a
-- text and an enumerator are of their own types alone.
abbrev pub fits : ConstKind → Constant → Bool
fits (Kinds.Integer i) c = is_whole (is_of_integer i) c
fits Kinds.Octet c = is_whole (is_unsigned_of 8) c
fits Kinds.Char (Character c) = true
fits Kinds.Char (Integer z) = false
fits Kinds.Char (Boolean b) = false
fits Kinds.Char (Text t) = false
fits Kinds.Char (Enumerator e owner) = false
fits Kinds.Boolean (Boolean b) = true
fits Kinds.Boolean (Integer z) = false
fits Kinds.Boolean (Character c) = false
fits Kinds.Boolean (Text t) = false
fits Kinds.Boolean (Enumerator e owner) = false
fits (Kinds.String bound) (Text t) = is_within bound (length t)
fits (Kinds.String bound) (Integer z) = false
fits (Kinds.String bound) (Boolean b) = false
fits (Kinds.String bound) (Character c) = false
fits (Kinds.String bound) (Enumerator e owner) = false
fits (Kinds.Enum k) (Enumerator e owner) = nat_eq owner k
fits (Kinds.Enum k) (Integer z) = false
fits (Kinds.Enum k) (Boolean b) = false
fits (Kinds.Enum k) (Character c) = false
fits (Kinds.Enum k) (Text t) = false

-- the constant, where it is of the type
abbrev pub of_kind : ConstKind → Option Constant → Option Constant
of_kind kind None = None
of_kind kind (Some c) = where_true (fits kind c) c
