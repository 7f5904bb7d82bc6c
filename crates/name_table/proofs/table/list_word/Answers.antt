use Rattle.std.proofs.Common.{◌≡◌, ◌∙◌, ◌++◌, ◌∷◌, [], List, ℕ, sym, subst, Vec, Global}
use Rattle.std.specs.Prelude.{slice_set}
use Rattle.name_table.specs.declared.key.Word.{Word}
use Rattle.name_table.specs.inner.Records.{HasWord, words_at}
use Rattle.name_table.proofs.Tied.{HasWord_last, HasWord_push, kept_set, listed_set, words_of_item}
use Rattle.name_table.proofs.table.list_word.Goals as goal

-- the scope has the word behind its others
grown : (words : List (Vec Word Global)) (scope : ℕ) (old new : Vec Word Global) (w : Word)
    → words_at words scope ≡ old.items → new.items ≡ old.items ++ w ∷ []
    → (s : ℕ) (name : List ℕ) → HasWord (words_at words s) name → HasWord (words_at (slice_set words scope new) s) name
grown words scope old new w here items =
    kept_set words scope new
    (λ name h. subst (λ ws. HasWord ws name) (sym items)
    (HasWord_push old.items w name (subst (λ ws. HasWord ws name) here h)))

pub returns-in_err-make_room-clause-kept : goal.returns-in_err-make_room-clause-kept
returns-in_err-make_room-clause-kept c =
    λ s name h. subst (λ ws. HasWord ws name) (sym (c.in_err-make_room.ensures.same s)) h

pub returns-in_err-push-clause-kept : goal.returns-in_err-push-clause-kept
returns-in_err-push-clause-kept c =
    let words = c.make_room.new.words.items in
    let scope = c.args.scope.0 in
    let old = words_of_item words scope c.index_mut.result.now c.in_ok-make_room.ensures.there c.index_mut.ensures.value
    in
    λ s name h. kept_set words scope c.push.new.self
    (λ name. subst (λ ws. HasWord ws name) (old ∙ sym c.in_err-push.ensures.items)) s name
    (subst (λ ws. HasWord ws name) (sym (c.in_ok-make_room.ensures.same s)) h)

pub returns-clause-kept : goal.returns-clause-kept
returns-clause-kept c =
    let words = c.make_room.new.words.items in
    let scope = c.args.scope.0 in
    let old = words_of_item words scope c.index_mut.result.now c.in_ok-make_room.ensures.there c.index_mut.ensures.value
    in
    λ s name h. grown words scope c.index_mut.result.now c.push.new.self c.args.word old c.in_ok-push.ensures.items s
    name
    (subst (λ ws. HasWord ws name) (sym (c.in_ok-make_room.ensures.same s)) h)

pub returns-clause-listed : goal.returns-clause-listed
returns-clause-listed c =
    let words = c.make_room.new.words.items in
    let scope = c.args.scope.0 in
    λ name is. subst (λ ws. HasWord ws name)
    (sym (listed_set words scope c.push.new.self c.in_ok-make_room.ensures.there ∙ c.in_ok-push.ensures.items))
    (HasWord_last c.index_mut.result.now.items c.args.word name is)
