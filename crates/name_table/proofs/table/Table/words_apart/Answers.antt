use Rattle.name_table.proofs.Ways.{or_more, or_then}
use Rattle.name_table.proofs.table.Table.words_apart.Goals as goal

pub loop-near-preserved-then-near-far : goal.loop-near-preserved-then-near-far
loop-near-preserved-then-near-far c =
    let ws = c.loop-near.words.items in
    let vs = c.pass.new.words.items in
    let kept = c.in_ok-far-2.ensures.kept in
    record {
      near = λ name. or_more ws vs name (c.loop-near.invariant.near name) kept;
      far = λ name. or_then ws vs name (c.loop-near.invariant.far name) kept (c.in_ok-far-2.ensures.passes name);
    }

pub loop-near-preserved : goal.loop-near-preserved
loop-near-preserved c =
    let ws = c.loop-near.words.items in
    let vs = c.pass-else-near-far.new.words.items in
    let kept = c.in_ok-near-2.ensures.kept in
    record {
      near = λ name. or_then ws vs name (c.loop-near.invariant.near name) kept (c.in_ok-near-2.ensures.passes name);
      far = λ name. or_more ws vs name (c.loop-near.invariant.far name) kept;
    }
