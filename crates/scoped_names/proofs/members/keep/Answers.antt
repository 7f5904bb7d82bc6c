use Rattle.std.proofs.Common.{◌∙◌, ap, refl}
use Rattle.std.proofs.lemmas.Result.{on_err_weaker, on_ok_weaker}
use Rattle.std.specs.BTreeMap.{is_at}
use Rattle.std.specs.Map.{lookup}
use Rattle.name_table.specs.declared.key.Key.{Key}
use Rattle.name_table.specs.inner.Keys.{word_cmp}
use Rattle.scoped_names.specs.inner.StateKept.{places_at, places_with}
use Rattle.scoped_names.proofs.MembersKept.{found_behind, found_first, found_like}
use Rattle.scoped_names.proofs.members.keep.Goals as goal

pub returns-then-has_few-clause-kept : goal.returns-then-has_few-clause-kept
returns-then-has_few-clause-kept c =
    on_ok_weaker c.keep_first.result
    (λ kept members found fresh. found_first members c.args.few.now.items c.args.many.now.items found c.args.scope.0
    c.args.identifier fresh c.keep_first.new.few.items kept)
    c.keep_first.ensures.kept

pub returns-then-has_few-clause-err : goal.returns-then-has_few-clause-err
returns-then-has_few-clause-err c =
    on_err_weaker c.keep_first.result
    (λ same members found. found_like members c.args.few.now.items c.keep_first.new.few.items c.args.many.now.items
    c.args.many.now.items found same (λ s. refl))
    c.keep_first.ensures.err

pub returns-clause-kept : goal.returns-clause-kept
returns-clause-kept c =
    let key : Key = record { scope = c.args.scope; word = c.new-word.result } in
    let many = c.args.many.now.items in
    on_ok_weaker c.keep_behind.result
    (λ kept members found fresh. found_behind members c.args.few.now.items many found c.args.scope.0 c.args.identifier
    fresh c.keep_behind.new.many.items
    key refl (c.new-word.ensures ∙ c.name.ensures)
    (λ s q. kept s q ∙ ap (λ a. places_with key a q (lookup (is_at (word_cmp q)) (places_at many s)) s) c.at.ensures))
    c.keep_behind.ensures.kept

pub returns-clause-err : goal.returns-clause-err
returns-clause-err c =
    on_err_weaker c.keep_behind.result
    (λ same members found. found_like members c.args.few.now.items c.args.few.now.items c.args.many.now.items
    c.keep_behind.new.many.items found (λ s. refl) same)
    c.keep_behind.ensures.err
