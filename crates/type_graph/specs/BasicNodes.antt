-- The nodes that every specification has before its own: the basic types, and what an object reference is made of
-- (ISO/IEC 19500-2, CDR transfer syntax: object references; IOP: IOR, tagged components).
use Rattle.std.specs.Prelude.{true, false, List, [], ◌∷◌}
use Rattle.type_graph.specs.declared.width.Width.TheVariants.{Two, Four, Eight}
use Rattle.type_graph.specs.declared.node.Node.{Node}
use Rattle.type_graph.specs.declared.node.Node.TheVariants as nodes

-- · 0 octet, 1 char, 2 boolean;
-- · 3 to 8 the integers: short, long and long long, each signed and then unsigned;
-- · 9 an unbounded string, 10 a sequence of octets;
-- · 11 a tag with its octets, 12 a sequence of these;
-- · 13 an object reference: a repository id and profiles.
abbrev pub basic_nodes : List Node
basic_nodes =
    nodes.Octet ∷ nodes.Char ∷ nodes.Boolean
    ∷ nodes.Integer Two true ∷ nodes.Integer Two false
    ∷ nodes.Integer Four true ∷ nodes.Integer Four false
    ∷ nodes.Integer Eight true ∷ nodes.Integer Eight false
    ∷ nodes.Text 0 ∷ nodes.Seq 0 0
    ∷ nodes.Struct (6 ∷ 10 ∷ []) ∷ nodes.Seq 11 0
    ∷ nodes.Struct (9 ∷ 12 ∷ [])
    ∷ []
