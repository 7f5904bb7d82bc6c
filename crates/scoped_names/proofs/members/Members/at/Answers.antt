use Rattle.std.proofs.Common.{◌≡◌, ◌∙◌, None, Option, Some, sym, ap}
use Rattle.std.specs.BTreeMap.{is_at}
use Rattle.std.specs.Map.{lookup}
use Rattle.std.specs.Option.{option_or}
use Rattle.name_table.specs.inner.Keys.{word_cmp}
use Rattle.scoped_names.specs.Faults.{member_named}
use Rattle.scoped_names.specs.inner.StateKept.{leaves_at, places_at, sought}
use Rattle.scoped_names.proofs.members.Members.at.Goals as goal

pub returns-in-Some : goal.returns-in-Some
returns-in-Some c =
    let key = c.args.key.now in
    let first : sought (leaves_at c.self.inside.few.items key.scope.0) key.word.text.now ≡ Some c.in-Some.at =
    ap (λ few. sought (leaves_at few key.scope.0) key.word.text.now) (sym c.as_slice.ensures.value)
    ∙ sym c.seek_first.ensures ∙ c.in-Some.is in
    sym (ap (λ o. option_or o (lookup (is_at (word_cmp key.word)) (places_at c.self.inside.many.items key.scope.0)))
    first)
    ∙ c.self.invariant key.scope.0 key.word ∙ ap (λ ms. member_named ms key.scope.0 key.word.text.now) c.self.view_is

pub returns-in-None : goal.returns-in-None
returns-in-None c =
    let key = c.args.key.now in
    let first : sought (leaves_at c.self.inside.few.items key.scope.0) key.word.text.now ≡ None =
    ap (λ few. sought (leaves_at few key.scope.0) key.word.text.now) (sym c.as_slice.ensures.value)
    ∙ sym c.seek_first.ensures ∙ c.in-None.is in
    c.seek_behind.ensures
    ∙ ap (λ many. lookup (is_at (word_cmp key.word)) (places_at many key.scope.0)) c.as_slice-in-None.ensures.value
    ∙ sym (ap (λ o. option_or o (lookup (is_at (word_cmp key.word)) (places_at c.self.inside.many.items key.scope.0)))
    first)
    ∙ c.self.invariant key.scope.0 key.word ∙ ap (λ ms. member_named ms key.scope.0 key.word.text.now) c.self.view_is
