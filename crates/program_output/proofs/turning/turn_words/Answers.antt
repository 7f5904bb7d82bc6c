use Rattle.std.proofs.Common.{◌≡◌, ◌∙◌, ◌≤◌, ◌+◌, ◌-◌, ◌*◌, ◌++◌, ℕ, List, take, drop, ap, sym, arith}
use Rattle.program_output.specs.Orders.{turned}
use Rattle.program_output.proofs.TurnedWords.{chunks_turned, still_there}
use Rattle.program_output.proofs.turning.turn_words.Goals as goal

pub turn_chunks-requires-clause-there : goal.turn_chunks-requires-clause-there
turn_chunks-requires-clause-there g c =
    let w = g.W.Words.width in
    let count = c.count.result in
    let l = c.loop-left in
    let whole : count * w ≡ 16 = ap (λ (n : ℕ). n * w) c.count.ensures.value ∙ c.count.ensures.whole in
    let left = still_there w count 4 l.left l.at _ whole (omega (arith, c.loop-left-test.true)) l.invariant.there in
    omega (arith, left)

pub loop-left-preserved : goal.loop-left-preserved
loop-left-preserved g c =
    let w = g.W.Words.width in
    let count = c.count-in-loop-left.result in
    let l = c.loop-left in
    let words : List ℕ = c.args.words.now in
    let value = c.count-in-loop-left.ensures.value in
    let whole : count * w ≡ 16 = ap (λ (n : ℕ). n * w) value ∙ c.count-in-loop-left.ensures.whole in
    let few : 4 * count ≤ l.left = omega (arith, c.loop-left-test.true, c.count.ensures.value, value) in
    let put = c.turn_chunks.ensures.put
    ∙ ap (λ (n : ℕ). take l.at l.out ++ turned w (4 * n) (drop l.at words)) (sym value) in
    record {
      there = still_there w count 4 l.left l.at _ whole few l.invariant.there;
      room = c.turn_chunks.ensures.long ∙ l.invariant.room;
      same = chunks_turned w count 4 l.left l.at words l.out c.turn_chunks.new.out _ whole few put l.invariant.same;
    }

pub loop-left-2-preserved : goal.loop-left-2-preserved
loop-left-2-preserved g c =
    let w = g.W.Words.width in
    let count = c.count-left.result in
    let l = c.loop-left-2 in
    let words : List ℕ = c.args.words.now in
    let value = c.count-left.ensures.value in
    let whole : count * w ≡ 16 = ap (λ (n : ℕ). n * w) value ∙ c.count-left.ensures.whole in
    let once : 1 * count ≡ count = omega arith in
    let few : 1 * count ≤ l.left =
    omega (arith, c.loop-left-2-test.true, c.count-in-loop-left-2.ensures.value, value) in
    let put = c.turn_chunks-in-loop-left-2.ensures.put
    ∙ ap (λ (n : ℕ). take l.at l.out ++ turned w (1 * n) (drop l.at words)) (sym value) in
    let after : List ℕ = take (l.at + 16) c.turn_chunks-in-loop-left-2.new.out in
    record {
      there = ap (λ (n : ℕ). l.at + 16 + (l.left - n) * w) (sym once)
          ∙ still_there w count 1 l.left l.at _ whole few l.invariant.there;
      room = c.turn_chunks-in-loop-left-2.ensures.long ∙ l.invariant.room;
      same = ap (λ (n : ℕ). after ++ turned w (l.left - n) (drop (l.at + 16) words)) (sym once)
          ∙ chunks_turned w count 1 l.left l.at words l.out c.turn_chunks-in-loop-left-2.new.out _ whole few put
          l.invariant.same;
    }
