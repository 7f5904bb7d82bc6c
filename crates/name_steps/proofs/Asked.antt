-- Each identifier, literal and pragma of a specification is asked for by one step, in the order of the source.
use Rattle.std.proofs.Common.{◌≡◌, ◌∙◌, codes, List, [], ◌∷◌, ◌++◌, append-nil, refl, sym, ap}
use Rattle.std.proofs.lemmas.List.Elements.{filter-append}
use Rattle.std.proofs.lemmas.Grind.{flat_map-append}
use Rattle.idl_tree.specs.declared.names.Leaf.{Leaf}
use Rattle.idl_tree.specs.declared.definitions.Definition.{Definition}
use Rattle.idl_tree.specs.Pieces.{Piece, kept, mark, piece}
use Rattle.idl_tree.specs.Yields.{const_expr_yield, identifier, name_yield}
use Rattle.idl_tree.specs.TypeYields.{const_type_yield}
use Rattle.idl_tree.specs.DefinitionYields.{definitions_spelled}
use Rattle.name_steps.specs.Asked.{asked, asked_by, is_asked, pieces_of}
use Rattle.name_steps.specs.Steps.{Step, DeclaresConst, IsNew, Leaves, const_type_steps, steps_of}
use Rattle.name_steps.proofs.Asks.{Asks, all_ask, none, silent, joined, plain, base, valued, declared, featured, undefined, inside, defines}

by_both : (xs ys : List Step) → asked_by (xs ++ ys) ≡ asked_by xs ++ asked_by ys
by_both xs ys = flat_map-append (λ s. asked (pieces_of s)) xs ys

asked_along : {ls : List Leaf} {ps : List Piece} {xs : List Step} → Asks ls ps xs → asked ps ≡ asked_by xs
unfolding piece kept
asked_along none = refl
asked_along (silent p unasked) = rw unasked
asked_along (joined {ps = ps} {qs = qs} {xs = xs} {ys = ys} a b) =
    filter-append (λ p. is_asked p.kind) ps qs ∙ ap (λ zs. zs ++ asked qs) (asked_along a)
    ∙ ap (λ zs. asked_by xs ++ zs) (asked_along b) ∙ sym (by_both xs ys)
asked_along (plain s is) = sym (append-nil (asked (pieces_of s)))
asked_along (base text id name) = sym (append-nil (asked (name_yield name)))
asked_along (valued c a) =
    let front = const_type_yield c.const_type in
    let own = (identifier c.identifier ++ mark (codes "=")) ++ const_expr_yield c.value in
    let steps = const_type_steps c.const_type in
    filter-append (λ p. is_asked p.kind) front own ∙ ap (λ zs. zs ++ asked own) (asked_along a)
    ∙ ap (λ zs. asked_by steps ++ zs) (sym (append-nil (asked (identifier c.identifier ++ const_expr_yield c.value))))
    ∙ sym (by_both steps (IsNew c.identifier ∷ DeclaresConst c ∷ []))
asked_along (declared kind id a) = ap (λ ps. asked (identifier id) ++ ps) (asked_along a)
asked_along (featured kind id a) = ap (λ ps. asked (identifier id) ++ ps) (asked_along a)
asked_along (undefined kind id a) = ap (λ ps. asked (identifier id) ++ ps) (asked_along a)
asked_along (inside {xs = xs} id a) = asked_along a ∙ sym (append-nil (asked_by xs)) ∙ sym (by_both xs (Leaves ∷ []))
asked_along (defines id a) = asked_along a

pub all_asked : (definitions : List Definition) → asked (definitions_spelled definitions)
    ≡ asked_by (steps_of definitions)
all_asked definitions = asked_along (all_ask definitions)
