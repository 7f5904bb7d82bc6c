use Rattle.std.proofs.Common.{◌≡◌, rules, refl, true, sym, ap, ◌∙◌}
use Rattle.std.proofs.lemmas.Option.{slice_get_read}
use Rattle.std.specs.Str.{bytes_eq}
use Rattle.type_model.specs.declared.signatures.Interface.{Interface}
use Rattle.command_tables.proofs.Objects.{first_place}
use Rattle.command_tables.proofs.object.interface_place.Goals as goal

pub returns-then-eq-clause-named : goal.returns-then-eq-clause-named
returns-then-eq-clause-named c =
    let interface = c.index-interfaces-place.result in
    let named : c.as_str.result.now ≡ interface.name =
    c.as_str.ensures ∙ ap (λ (i : Interface). i.name) (sym c.index-interfaces-place.is) in
    let same : bytes_eq interface.name c.args.name.now ≡ true =
    ap (λ n. bytes_eq n c.args.name.now) (sym named) ∙ sym c.eq.ensures ∙ c.if-eq.true in
    sym (c.loop-place.invariant ∙ first_place c.args.name.now c.args.interfaces.now c.loop-place.place interface
    (slice_get_read c.args.interfaces.now _ c.loop-place.place interface refl (search rules)
    c.index-interfaces-place.is) same)
