use Rattle.std.proofs.Common.{◌∙◌, ap}
use Rattle.name_table.specs.inner.Records.{words_at}
use Rattle.name_table.proofs.Tied.{kept_room}
use Rattle.name_table.proofs.table.make_room.Goals as goal

pub loop-alloc-preserved : goal.loop-alloc-preserved
loop-alloc-preserved c = λ s.
    ap (λ ws. words_at ws s) c.in_ok-push.ensures.items
    ∙ kept_room c.loop-alloc.words.items c.new.result c.new.ensures.items s ∙ c.loop-alloc.invariant s

pub returns-in_err-push-clause-same : goal.returns-in_err-push-clause-same
returns-in_err-push-clause-same c = λ s. ap (λ ws. words_at ws s) c.in_err-push.ensures.items ∙ c.loop-alloc.invariant s
