use Rattle.std.proofs.Common.{◌++◌, ◌∙◌, suc, max, ap, sym}
use Rattle.std.specs.Prelude.{codes}
use Rattle.std.specs.List.{flat_map}
use Rattle.idl_tree.specs.Pieces.{keyword, mark}
use Rattle.idl_tree.specs.Yields.{identifier}
use Rattle.idl_tree.specs.TypeYields.{case_yield, switch_yield}
use Rattle.idl_tree.specs.Levels.{highest}
use Rattle.idl_tree.specs.TypeLevels.{case_levels, switch_levels}
use Rattle.idl_tree.proofs.Members.{union_yields, union_nests}
use Rattle.definition_reader.proofs.Pairs.{group_three}
use Rattle.definition_reader.proofs.read.constructed.union_of.Goals as goal

pub returns-clause-spells : goal.returns-clause-spells
returns-clause-spells c =
    let first = c.in-Ok.part in
    let rest = c.first_boxed.new.list in
    let pre = keyword (codes "union") ++ identifier c.args.name ++ keyword (codes "switch") ++ mark (codes "(")
    ++ switch_yield c.args.switch
    ++ mark (codes ")") ++ mark (codes "{") in
    union_yields c.args.name c.in-Ok-boxed.part first rest
    ∙ ap (λ s. keyword (codes "union") ++ identifier c.args.name ++ keyword (codes "switch") ++ mark (codes "(")
    ++ switch_yield s
    ++ mark (codes ")") ++ mark (codes "{") ++ case_yield first.value ++ flat_map case_yield rest.items
    ++ mark (codes "}")) c.in-Ok-boxed.ensures.spells
    ∙ sym (group_three pre (case_yield first.value) (flat_map case_yield rest.items) (mark (codes "}")))
    ∙ ap (λ cs. pre ++ (flat_map case_yield cs ++ mark (codes "}"))) (sym c.in-Ok.ensures.spells)

pub returns-clause-levels : goal.returns-clause-levels
returns-clause-levels c =
    let first = c.in-Ok.part in
    let rest = c.first_boxed.new.list in
    union_nests c.args.name c.in-Ok-boxed.part first rest
    ∙ ap (λ s. suc (max (switch_levels s) (max (case_levels first.value) (highest case_levels rest.items))))
    c.in-Ok-boxed.ensures.spells
    ∙ ap (λ cs. suc (max (switch_levels c.args.switch) (highest case_levels cs))) (sym c.in-Ok.ensures.spells)
