-- The types of GIOP 1.2 and IIOP (ISO/IEC 19500-2, GIOP message formats, IIOP profiles), behind the basic ones.
use Rattle.std.specs.Prelude.{ℕ, pos, List, [], ◌∷◌, ◌++◌, None}
use Rattle.type_graph.specs.declared.node.Node.{Node}
use Rattle.type_graph.specs.declared.node.Node.TheVariants as nodes
use Rattle.type_graph.specs.BasicNodes.{basic_nodes}

-- · 14 the reserved octets of a request;
-- · 15 an index with the object reference whose profile it selects, 16 the address of a target (TargetAddress): by the
--   object's key, by a profile, or by a selected one;
-- · 17 the header of a request: number, response flags, reserved octets, target, operation, service contexts.
abbrev pub request_nodes : List Node
request_nodes =
    nodes.Array 0 3
    ∷ nodes.Struct (6 ∷ 13 ∷ [])
    ∷ nodes.Union 3 ((pos 0, 10) ∷ (pos 1, 11) ∷ (pos 2, 15) ∷ []) None
    ∷ nodes.Struct (6 ∷ 0 ∷ 14 ∷ 16 ∷ 9 ∷ 12 ∷ [])
    ∷ []

-- · 18 the status of a reply, 19 its header: number, status, service contexts;
-- · 20 the header of a locate request: number, target; 21 that of a locate reply: number, status;
-- · 22 the header of a cancel request: number.
abbrev pub header_nodes : List Node
header_nodes =
    nodes.Enum 6
    ∷ nodes.Struct (6 ∷ 18 ∷ 12 ∷ [])
    ∷ nodes.Struct (6 ∷ 16 ∷ [])
    ∷ nodes.Struct (6 ∷ 6 ∷ [])
    ∷ nodes.Struct (6 ∷ [])
    ∷ []

-- · 23 the body of a system exception: id, minor code, completion status;
-- · 24 and 25 the body of an IIOP profile: version, host, port and object key; from version 1.1 on with components;
-- · 26 a string, 27 a boolean and 28 nothing, the arguments and results of the operations that every object has.
abbrev pub body_nodes : List Node
body_nodes =
    nodes.Frame (9 ∷ 6 ∷ 6 ∷ [])
    ∷ nodes.Struct (0 ∷ 0 ∷ 9 ∷ 4 ∷ 10 ∷ [])
    ∷ nodes.Struct (0 ∷ 0 ∷ 9 ∷ 4 ∷ 10 ∷ 12 ∷ [])
    ∷ nodes.Frame (9 ∷ [])
    ∷ nodes.Frame (2 ∷ [])
    ∷ nodes.Frame []
    ∷ []

abbrev pub giop_nodes : List Node
giop_nodes = ((basic_nodes ++ request_nodes) ++ header_nodes) ++ body_nodes

-- the numbers of the nodes that contracts name
abbrev pub target_address_node : ℕ
target_address_node = 16

abbrev pub request_header_node : ℕ
request_header_node = 17

abbrev pub reply_header_node : ℕ
reply_header_node = 19

abbrev pub locate_request_header_node : ℕ
locate_request_header_node = 20

abbrev pub locate_reply_header_node : ℕ
locate_reply_header_node = 21

abbrev pub cancel_request_header_node : ℕ
cancel_request_header_node = 22

abbrev pub system_exception_node : ℕ
system_exception_node = 23

abbrev pub profile_body_1_0_node : ℕ
profile_body_1_0_node = 24

abbrev pub profile_body_1_1_node : ℕ
profile_body_1_1_node = 25

abbrev pub id_argument_node : ℕ
id_argument_node = 26

abbrev pub boolean_result_node : ℕ
boolean_result_node = 27
