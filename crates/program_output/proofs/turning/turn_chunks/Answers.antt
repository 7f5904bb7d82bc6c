use Rattle.std.proofs.Common.{◌+◌, ◌*◌, ◌∙◌, arith}
use Rattle.std.proofs.lemmas.Simd.{length-put_chunk}
use Rattle.program_output.proofs.TurnedWords.{chunks_more}
use Rattle.program_output.proofs.turning.turn_chunks.Goals as goal

pub loop-chunk-preserved : goal.loop-chunk-preserved
loop-chunk-preserved g c =
    let l = c.loop-chunk in
    record {
      long = length-put_chunk (c.args.at + l.chunk * 16) l.out c.turn.result ∙ l.invariant.long;
      put = chunks_more g.W.Words.width g.W.Words.count l.chunk c.args.at c.args.words.now l.out c.args.out.now
          c.turn.result c.count.ensures.whole
          (omega (arith, c.requires.there, c.loop-chunk-test.true)) (l.invariant.long ∙ c.requires.room) c.turn.ensures
          l.invariant.put;
    }
