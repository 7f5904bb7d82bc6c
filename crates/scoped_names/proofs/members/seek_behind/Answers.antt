use Rattle.std.proofs.Common.{◌∙◌, sym, ap, arith}
use Rattle.std.specs.BTreeMap.{is_at}
use Rattle.std.specs.Map.{lookup}
use Rattle.name_table.specs.inner.Keys.{word_cmp}
use Rattle.scoped_names.proofs.MembersKept.{none_past, places_read}
use Rattle.scoped_names.proofs.members.seek_behind.Goals as goal

pub returns-then-key-many : goal.returns-then-key-many
returns-then-key-many c =
    let key = c.args.key.now in
    c.copied.ensures ∙ c.get.ensures.value
    ∙ ap (lookup (is_at (word_cmp key.word)))
    (sym (places_read c.args.many.now key.scope.0 c.index-many-key.result (omega arith) c.index-many-key.is))

pub returns-else-key-many : goal.returns-else-key-many
returns-else-key-many c =
    let key = c.args.key.now in
    ap (lookup (is_at (word_cmp key.word))) (sym (none_past c.args.many.now key.scope.0 (omega arith)))
