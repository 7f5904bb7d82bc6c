use Rattle.std.proofs.Common.{◌≡◌, ◌∙◌, inr, true, Ok, Err, sym, ap}
use Rattle.std.specs.Prelude.{if◌then◌else◌}
use Rattle.scoped_names.specs.declared.fault.NameFault.TheVariants.{Collides}
use Rattle.scoped_names.specs.Faults.{is_defined, scope_at}
use Rattle.scoped_names.specs.Reading.{Test}
use Rattle.idl_tree.specs.Starts.{leaf_at as at}
use Rattle.scoped_names.proofs.reader.Reader.is_undefined.Goals as goal

pub returns-then-contains : goal.returns-then-contains
returns-then-contains c =
    let st = c.args.self.now in
    let scope = c.args.scope.0 in
    let is : is_defined st scope ≡ true = sym (ap (λ s. is_defined s scope) c.self.view_is) ∙ sym c.contains.ensures
    ∙ c.if-contains.true in
    inr (ap (λ b. let r : Test = if b then Err (Collides (at c.args.identifier) (scope_at st.entries scope))
    else Ok tt in r) is
    ∙ ap (λ a. let r : Test = Err (Collides a (scope_at st.entries scope)) in r) (sym c.at.ensures)
    ∙ ap (λ o. let r : Test = Err (Collides c.at.result o) in r) (sym c.scope_at.ensures))
