use Rattle.std.proofs.Common.{◌≡◌, ◌∙◌, suc, length, slice_get, Some, None, refl, ap, sym, arith}
use Rattle.std.specs.Option.{option_map}
use Rattle.std.proofs.lemmas.Option.{slice_get-map, slice_get_past, slice_get_read}
use Rattle.name_table.specs.OwnNames.{is_named_so, is_own_name}
use Rattle.name_table.specs.inner.Records.{entry_of}
use Rattle.name_table.proofs.table.Table.is_own_name.Goals as goal

pub returns-in-Some-get : goal.returns-in-Some-get
returns-in-Some-get c =
    let es = c.args.self.now in
    let key = c.args.key.now in
    let name = key.word.text.now in
    let k = c.in-Some.number in
    let xs = c.deref.result.now in
    let r = c.in-Some-get.record.now in
    let scope : key.scope.0 ≡ suc k = omega arith in
    let there : slice_get xs k ≡ Some r =
    slice_get_read xs (length xs) k r refl c.in-Some-get.ensures.lookup.3.0 c.in-Some-get.ensures.lookup.1 in
    let here : slice_get es k ≡ Some (entry_of r) =
    sym (ap (λ ys. slice_get ys k) c.self.view_is) ∙ slice_get-map entry_of c.self.inside.records.items k
    ∙ ap (option_map entry_of) (ap (λ ys. slice_get ys k) (sym c.deref.ensures.value) ∙ there) in
    c.is_named_so.ensures ∙ sym (ap (λ s. is_own_name es s name) scope ∙ ap (is_named_so name) here)

pub returns-in-None : goal.returns-in-None
returns-in-None c =
    let es = c.args.self.now in
    let key = c.args.key.now in
    let name = key.word.text.now in
    let k = c.in-Some.number in
    let xs = c.deref.result.now in
    let scope : key.scope.0 ≡ suc k = omega arith in
    let here : slice_get es k ≡ None =
    sym (ap (λ ys. slice_get ys k) c.self.view_is) ∙ slice_get-map entry_of c.self.inside.records.items k
    ∙ ap (option_map entry_of) (ap (λ ys. slice_get ys k) (sym c.deref.ensures.value)
    ∙ slice_get_past xs k c.in-None.ensures.lookup.3) in
    sym (ap (λ s. is_own_name es s name) scope ∙ ap (is_named_so name) here)
