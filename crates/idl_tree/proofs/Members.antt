-- What structures and unions spell and their levels, by the lists of their `Vec`s.
use Rattle.std.proofs.Common.{◌≡◌, ◌++◌, suc, max, List, [], Vec, Global, refl, ap, ◌∙◌}
use Rattle.std.specs.Prelude.{Box, codes}
use Rattle.std.specs.List.{flat_map}
use Rattle.idl_tree.specs.declared.names.Leaf.{Leaf}
use Rattle.idl_tree.specs.declared.types.SwitchType.{SwitchType}
use Rattle.idl_tree.specs.declared.types.StructType.{StructType, roll-StructType, out-roll-StructType}
use Rattle.idl_tree.specs.declared.types.UnionType.{UnionType, roll-UnionType, out-roll-UnionType}
use Rattle.idl_tree.specs.declared.types.Member.{Member}
use Rattle.idl_tree.specs.declared.types.Case.{Case}
use Rattle.idl_tree.specs.Pieces.{Piece, keyword, mark}
use Rattle.idl_tree.specs.Yields.{identifier}
use Rattle.idl_tree.specs.TypeYields.{member_yield, members_yield, case_yield, cases_yield, struct_yield, union_yield, switch_yield}
use Rattle.idl_tree.specs.Levels.{highest}
use Rattle.idl_tree.specs.TypeLevels.{member_levels, members_levels, case_levels, cases_levels, struct_levels, union_levels, switch_levels}
use Rattle.idl_tree.proofs.Rows.{struct_walk, union_walk}

abbrev struct_of : Leaf → Box Member Global → Vec Member Global → StructType
struct_of name first rest = roll-StructType (record { identifier = name; first = first; rest = rest })

abbrev union_of : Leaf → Box SwitchType Global → Box Case Global → Vec Case Global → UnionType
union_of name switch first rest =
    roll-UnionType (record { identifier = name; switch = switch; first = first; rest = rest })

abbrev struct_pieces : Leaf → Member → List Piece → List Piece
struct_pieces name m others =
    keyword (codes "struct") ++ identifier name ++ mark (codes "{") ++ member_yield m ++ others ++ mark (codes "}")

abbrev union_pieces : Leaf → SwitchType → Case → List Piece → List Piece
union_pieces name switch c others =
    keyword (codes "union") ++ identifier name ++ keyword (codes "switch") ++ mark (codes "(") ++ switch_yield switch
    ++ mark (codes ")") ++ mark (codes "{") ++ case_yield c ++ others ++ mark (codes "}")

pub struct_yields : (name : Leaf) (first : Box Member Global) (rest : Vec Member Global)
    → struct_yield (struct_of name first rest) ≡ struct_pieces name first.value (flat_map member_yield rest.items)
struct_yields name first rest =
    struct_walk struct_yield (λ n row. members_yield row) struct_pieces [] (λ m others. member_yield m ++ others)
    (flat_map member_yield)
    (λ id p m shape row. refl) refl (λ n m row. refl) refl (λ m ms. refl) (struct_of name first rest)
    ∙ ap (λ s. struct_pieces s.identifier s.first.value (flat_map member_yield s.rest.items))
    (out-roll-StructType (record { identifier = name; first = first; rest = rest }))

pub struct_nests : (name : Leaf) (first : Box Member Global) (rest : Vec Member Global)
    → struct_levels (struct_of name first rest)
    ≡ suc (max (member_levels first.value) (highest member_levels rest.items))
struct_nests name first rest =
    struct_walk struct_levels (λ n row. members_levels row) (λ id m most. suc (max (member_levels m) most)) 0
    (λ m most. max (member_levels m) most) (highest member_levels)
    (λ id p m shape row. refl) refl (λ n m row. refl) refl (λ m ms. refl) (struct_of name first rest)
    ∙ ap (λ s. suc (max (member_levels s.first.value) (highest member_levels s.rest.items)))
    (out-roll-StructType (record { identifier = name; first = first; rest = rest }))

pub union_yields : (name : Leaf) (switch : Box SwitchType Global) (first : Box Case Global) (rest : Vec Case Global)
    → union_yield (union_of name switch first rest)
    ≡ union_pieces name switch.value first.value (flat_map case_yield rest.items)
union_yields name switch first rest =
    union_walk union_yield (λ n row. cases_yield row) union_pieces [] (λ c others. case_yield c ++ others)
    (flat_map case_yield)
    (λ id s p c shape row. refl) refl (λ n c row. refl) refl (λ c cs. refl) (union_of name switch first rest)
    ∙ ap (λ u. union_pieces u.identifier u.switch.value u.first.value (flat_map case_yield u.rest.items))
    (out-roll-UnionType (record { identifier = name; switch = switch; first = first; rest = rest }))

pub union_nests : (name : Leaf) (switch : Box SwitchType Global) (first : Box Case Global) (rest : Vec Case Global)
    → union_levels (union_of name switch first rest)
    ≡ suc (max (switch_levels switch.value) (max (case_levels first.value) (highest case_levels rest.items)))
union_nests name switch first rest =
    union_walk union_levels (λ n row. cases_levels row)
    (λ id s c most. suc (max (switch_levels s) (max (case_levels c) most))) 0 (λ c most. max (case_levels c) most)
    (highest case_levels)
    (λ id s p c shape row. refl) refl (λ n c row. refl) refl (λ c cs. refl) (union_of name switch first rest)
    ∙ ap (λ u. suc (max (switch_levels u.switch.value)
    (max (case_levels u.first.value) (highest case_levels u.rest.items))))
    (out-roll-UnionType (record { identifier = name; switch = switch; first = first; rest = rest }))
