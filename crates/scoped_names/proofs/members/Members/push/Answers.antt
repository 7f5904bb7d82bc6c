use Rattle.std.proofs.Common.{◌∙◌, ◌++◌, ◌∷◌, [], sym, ap, subst}
use Rattle.name_table.specs.Search.{word}
use Rattle.scoped_names.specs.Faults.{member_named}
use Rattle.scoped_names.specs.inner.StateKept.{AreFound, member_of, members_in}
use Rattle.scoped_names.proofs.members.Members.push.Goals as goal

pub invariant_of-self : goal.invariant_of-self
invariant_of-self c = c.in_err-keep.ensures.err (members_in c.self.inside.past) c.self.invariant

pub invariant_of-self-2 : goal.invariant_of-self-2
invariant_of-self-2 c =
    let inside = c.self.inside in
    let fresh = ap (λ xs. member_named xs c.args.scope.0 (word c.args.identifier)) c.self.view_is ∙ c.requires in
    subst (λ p. AreFound (members_in p ++ member_of c.args.scope.0 c.args.identifier ∷ []) c.keep.new.few.items
    c.keep.new.many.items) (sym c.of-before.ensures)
    (c.in_ok-keep.ensures.kept (members_in inside.past) c.self.invariant fresh)

pub returns-clause-pushed : goal.returns-clause-pushed
returns-clause-pushed c =
    ap (λ p. members_in p ++ member_of c.args.scope.0 c.args.identifier ∷ []) c.of-before.ensures
    ∙ ap (λ ms. ms ++ member_of c.args.scope.0 c.args.identifier ∷ []) c.self.view_is
