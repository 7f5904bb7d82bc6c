use Rattle.std.proofs.Common.{◌++◌, ◌∙◌, suc, ap, sym}
use Rattle.std.specs.Prelude.{codes}
use Rattle.std.specs.List.{flat_map}
use Rattle.idl_tree.specs.Pieces.{keyword, mark}
use Rattle.idl_tree.specs.Yields.{identifier}
use Rattle.idl_tree.specs.TypeYields.{member_yield}
use Rattle.idl_tree.specs.Levels.{highest}
use Rattle.idl_tree.specs.TypeLevels.{member_levels}
use Rattle.idl_tree.proofs.Members.{struct_yields, struct_nests}
use Rattle.definition_reader.proofs.Pairs.{group_three}
use Rattle.definition_reader.proofs.read.constructed.structure.Goals as goal

pub returns-clause-spells : goal.returns-clause-spells
returns-clause-spells c =
    let first = c.in-Ok.part in
    let rest = c.first_boxed.new.list in
    let pre = keyword (codes "struct") ++ identifier c.args.name ++ mark (codes "{") in
    struct_yields c.args.name first rest
    ∙ sym (group_three pre (member_yield first.value) (flat_map member_yield rest.items) (mark (codes "}")))
    ∙ ap (λ ms. pre ++ (flat_map member_yield ms ++ mark (codes "}"))) (sym c.in-Ok.ensures.spells)

pub returns-clause-levels : goal.returns-clause-levels
returns-clause-levels c =
    struct_nests c.args.name c.in-Ok.part c.first_boxed.new.list
    ∙ ap (λ ms. suc (highest member_levels ms)) (sym c.in-Ok.ensures.spells)
