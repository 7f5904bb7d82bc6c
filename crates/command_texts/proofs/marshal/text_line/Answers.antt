use Rattle.std.proofs.Common.{rules, string_bytes}
use Rattle.std.proofs.lemmas.Result.{IfOk-weaker}
use Rattle.command_texts.proofs.Facts.{behind, told}
use Rattle.command_texts.proofs.marshal.text_line.Goals as goal

pub returns : goal.returns
returns c =
    IfOk-weaker c.counted.result _ _
    (λ line is. told c.args.names.now c.args.graph.now c.args.node c.args.taken c.args.tape.now _ (string_bytes line)
    c.in_ok-text.ensures (behind _ _ _ _ is (search rules))) c.counted.ensures
