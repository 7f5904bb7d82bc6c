use Rattle.std.proofs.Common.{◌≡◌, ◌++◌, ◌<◌, ◌^◌, pos, rules}
use Rattle.type_graph.specs.declared.width.Width.TheVariants.{Four}
use Rattle.type_graph.specs.declared.width.Order.TheVariants.{Big}
use Rattle.type_graph.specs.Words.{word}
use Rattle.type_graph.specs.Value.{IsText}
use Rattle.reference_texts.specs.References.{IsReference, reference_of, reference_tape}
use Rattle.giop.proofs.WrittenTargets.{on_ok_both, reference_pushed, refused_weaker, selected_reference}
use Rattle.giop.proofs.writing.target.push_selected.Goals as goal

pub returns-clause-added : goal.returns-clause-added
returns-clause-added c =
    let reference = reference_of c.args.reference.now in
    let after = c.push_reference.new.tape.items in
    let small : c.args.selected < 2 ^ 32 = search rules in
    let text : IsText 0 reference.type_id = search rules in
    let number : c.push_u32.new.tape.items ≡ c.push_u16.new.tape.items ++ word Big Four (pos c.args.selected) =
    search rules in
    on_ok_both c.push_reference.result
    (IsReference reference × (after ≡ c.push_u32.new.tape.items ++ reference_tape reference)) _ _
    (λ both octets. reference_pushed c.args.selected reference c.args.tape.now.items
    c.push_u16.new.tape.items c.push_u32.new.tape.items after small text octets both.0
    c.in_ok-push_u16.ensures number both.1)
    (on_ok_both c.push_reference.result _ _ _ (λ added fits. (fits, added)) c.push_reference.ensures.added
    c.push_reference.ensures.fits)
    c.push_reference.ensures.octets

pub returns-clause-refused : goal.returns-clause-refused
returns-clause-refused c =
    refused_weaker c.push_reference.result _ _
    (λ none fits. none (selected_reference c.args.selected (reference_of c.args.reference.now) fits))
    c.push_reference.ensures.refused
