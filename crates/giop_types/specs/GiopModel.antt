-- The table of the types of GIOP: their names and their plain program.
use Rattle.std.specs.Prelude.{ℕ, List, [], ◌∷◌, ◌++◌, codes}
use Rattle.marshal_program.specs.Plain.{plain_program}
use Rattle.type_model.specs.ModelRules.{Parts, parts_of}
use Rattle.table_file.specs.declared.table.Which.{Which}
use Rattle.table_file.specs.declared.table.Which.TheVariants.{First}
use Rattle.table_file.specs.Table.{TableParts, table_of}
use Rattle.giop_types.specs.GiopNodes.{giop_nodes}

-- the names under which requests and replies are read and written
abbrev pub call_names : List (List ℕ × ℕ)
call_names =
    (codes "IOP::IOR", 13) ∷ (codes "GIOP::RequestHeader_1_2", 17) ∷ (codes "GIOP::ReplyHeader_1_2", 19) ∷ []

-- those of the other messages
abbrev pub locate_names : List (List ℕ × ℕ)
locate_names =
    (codes "GIOP::LocateRequestHeader_1_2", 20)
    ∷ (codes "GIOP::LocateReplyHeader_1_2", 21)
    ∷ (codes "GIOP::CancelRequestHeader", 22)
    ∷ []

-- those of bodies
abbrev pub body_names : List (List ℕ × ℕ)
body_names =
    (codes "SystemException", 23) ∷ (codes "IIOP::ProfileBody_1_0", 24) ∷ (codes "IIOP::ProfileBody_1_1", 25) ∷ []

-- those of the operations that every object has
abbrev pub operation_names : List (List ℕ × ℕ)
operation_names =
    (codes "is_a/in", 26)
    ∷ (codes "is_a/out", 27)
    ∷ (codes "non_existent/in", 28)
    ∷ (codes "non_existent/out", 27)
    ∷ []

abbrev pub giop_names : List (List ℕ × ℕ)
giop_names = ((call_names ++ locate_names) ++ body_names) ++ operation_names

abbrev pub giop_model : Parts
giop_model = parts_of giop_nodes giop_names [] [] []

-- each name is served by the first program
abbrev pub giop_uses : List Which
giop_uses =
    First ∷ First ∷ First ∷ First ∷ First ∷ First ∷ First ∷ First ∷ First ∷ First ∷ First ∷ First ∷ First ∷ []

abbrev pub giop_table : TableParts
giop_table = table_of giop_model (plain_program giop_nodes) [] giop_uses
