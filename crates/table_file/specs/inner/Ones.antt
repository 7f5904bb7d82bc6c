-- One that is spelled, of each part of a table file.
use Rattle.std.proofs.Common.{ℕ, pos, false, List, [], ◌∷◌, ◌++◌, Option, None, refl, ap₂}
use Rattle.std.specs.Fmt.{◌++?◌}
use Rattle.type_graph.specs.declared.width.Width.TheVariants.{One}
use Rattle.type_graph.specs.declared.node.Node.TheVariants as nodes
use Rattle.marshal_program.specs.declared.instr.Disc.TheVariants as discs
use Rattle.marshal_program.specs.declared.instr.Instr.TheVariants as instrs
use Rattle.table_file.specs.declared.table.Which.TheVariants.{First}
use Rattle.table_file.specs.Octets.{spelled_octet, spelled_word, spelled_label, spelled_flag, spelled_ascii, spelled_maybe, spelled_run, spelled_list, spelled_pair}
use Rattle.table_file.specs.Spelling.{spelled_width, spelled_node, spelled_disc, spelled_instr, spelled_interface, spelled_operation, spelled_exception, spelled_routine}
use Rattle.table_file.specs.TableSpelling.{spelled_which}
use Rattle.table_file.specs.inner.Passing.{HasOne}

abbrev pub four_zeros : List ℕ
four_zeros = 0 ∷ 0 ∷ 0 ∷ 0 ∷ []

abbrev pub eight_zeros : List ℕ
eight_zeros = 0 ∷ 0 ∷ 0 ∷ 0 ∷ four_zeros

pub one_octet : HasOne spelled_octet
one_octet = (0, 0 ∷ [], refl)

pub one_word : HasOne spelled_word
one_word = (0, four_zeros, refl)

pub one_label : HasOne spelled_label
one_label = (pos 0, eight_zeros ++ eight_zeros, refl)

pub one_ascii : HasOne spelled_ascii
one_ascii = (0, 0 ∷ [], refl)

pub one_flag : HasOne spelled_flag
one_flag = (false, 0 ∷ [], refl)

pub one_width : HasOne spelled_width
one_width = (One, 1 ∷ [], refl)

pub one_maybe : HasOne spelled_maybe
one_maybe = (None, 0 ∷ [], refl)

pub one_list : {A : Type 0} (spelled : A → Option (List ℕ)) → HasOne (spelled_list spelled)
one_list spelled = ([], four_zeros, refl)

pub one_pair : {A B : Type 0} (f : A → Option (List ℕ)) (g : B → Option (List ℕ)) → HasOne f → HasOne g
    → HasOne (spelled_pair f g)
one_pair f g a b = ((a.0, b.0), a.1 ++ b.1, ap₂ (λ p q. p ++? q) a.2 b.2)

pub one_node : HasOne spelled_node
one_node = (nodes.Octet, 1 ∷ [], refl)

pub one_disc : HasOne spelled_disc
one_disc = (discs.Char, 0 ∷ [], refl)

pub one_instr : HasOne spelled_instr
one_instr = (instrs.Octets 0, 1 ∷ four_zeros, refl)

pub one_interface : HasOne spelled_interface
one_interface = (record { name = []; id = []; bases = []; operations = [] }, eight_zeros ++ eight_zeros, refl)

pub one_operation : HasOne spelled_operation
one_operation = (
  record { name = []; oneway = false; request = 0; reply = 0; exceptions = [] },
  four_zeros ++ 0 ∷ (eight_zeros ++ four_zeros),
  refl,
)

pub one_exception : HasOne spelled_exception
one_exception = (record { name = []; id = []; frame = 0 }, eight_zeros ++ four_zeros, refl)

pub one_exits : HasOne (spelled_run 8 spelled_octet)
one_exits = (eight_zeros, eight_zeros, refl)

pub one_routine : HasOne spelled_routine
one_routine = (
  record { node = 0; entry = 0; exits = eight_zeros; rank = 0; code = [] },
  four_zeros ++ 0 ∷ (eight_zeros ++ eight_zeros),
  refl,
)

pub one_which : HasOne spelled_which
one_which = (First, 0 ∷ [], refl)
