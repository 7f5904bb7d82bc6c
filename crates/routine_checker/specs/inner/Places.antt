-- Tables over places, as the code keeps them.
use Rattle.std.specs.Prelude.{ℕ, eqb, bit_and, bit_or, if◌then◌else◌}
use Rattle.type_graph.specs.declared.width.Width.{Width}
use Rattle.type_graph.specs.declared.width.Width.TheVariants.{One, Two, Four, Eight}

-- the places at which the gaps to the two widths are equally long
abbrev pub agreeing : Width → Width → ℕ
agreeing One One = 0xFF
agreeing One Two = 0x55
agreeing One Four = 0x11
agreeing One Eight = 0x01
agreeing Two One = 0x55
agreeing Two Two = 0xFF
agreeing Two Four = 0x99
agreeing Two Eight = 0x81
agreeing Four One = 0x11
agreeing Four Two = 0x99
agreeing Four Four = 0xFF
agreeing Four Eight = 0xE1
agreeing Eight One = 0x01
agreeing Eight Two = 0x81
agreeing Eight Four = 0xE1
agreeing Eight Eight = 0xFF

-- one place, if one of those that lead to it is in the set
abbrev pub led : ℕ → ℕ → ℕ → ℕ
led set from to = if eqb (bit_and set from) 0 then 0 else to

-- the places behind the gaps to the width
abbrev pub lined_up : Width → ℕ → ℕ
lined_up One set = set
lined_up Two set =
    bit_or (bit_or (bit_or (led set 0x81 0x01) (led set 0x06 0x04)) (led set 0x18 0x10)) (led set 0x60 0x40)
lined_up Four set = bit_or (led set 0xE1 0x01) (led set 0x1E 0x10)
lined_up Eight set = led set 0xFF 0x01
