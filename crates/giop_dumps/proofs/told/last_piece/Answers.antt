use Rattle.std.proofs.Common.{◌∙◌, ◌++◌, codes, append_assoc}
use Rattle.std.specs.Fmt.{decimal}
use Rattle.std.proofs.lemmas.Result.{IfOk-weaker}
use Rattle.giop_dumps.proofs.told.last_piece.Goals as goal

pub returns : goal.returns
returns c =
    IfOk-weaker c.format.result _ _
    (λ text h. (codes "last piece id " ++ decimal c.args.id ++ codes ": ", h ∙ simp append_assoc)) c.format.ensures.ok
