use Rattle.std.proofs.Common.{◌≡◌, ◌∙◌, ℕ, Bool, true, false, List, cond, take, ap, sym}
use Rattle.std.specs.Char.{is_ascii}
use Rattle.std.specs.List.{list_all}
use Rattle.memchr.specs.Find.{is_byte2}
use Rattle.idl_lexer.specs.declared.fault.LexFault.{LexFault}
use Rattle.idl_lexer.specs.declared.fault.Start.{Start}
use Rattle.idl_lexer.specs.declared.fault.LexFault.TheVariants.{BadChar}
use Rattle.idl_lexer.specs.Faults.{before_end, if_ascii}
use Rattle.idl_lexer.proofs.Runs.{run-test}
use Rattle.idl_lexer.proofs.literal.unclosed.Goals as goal

judged : (s inside : List ℕ) (fault : LexFault) (start : Start) (b : Bool) → inside ≡ before_end s
    → list_all is_ascii inside ≡ b → cond b fault (BadChar start.line start.octet) ≡ if_ascii s fault start
judged s inside fault start b cut h =
    ap (λ x. cond x fault (BadChar start.line start.octet)) (sym h ∙ ap (list_all is_ascii) cut)

pub returns-then-are_ascii : goal.returns-then-are_ascii
returns-then-are_ascii c =
    let cut = c.split_at.ensures.front
    ∙ ap (λ k. take k c.args.octets.now)
    (c.unwrap_or.ensures ∙ run-test (is_byte2 39 10) c.args.octets.now _ c.memchr2.ensures) in
    judged c.args.octets.now _ c.args.fault c.args.start true cut (sym c.are_ascii.ensures ∙ c.if-are_ascii.true)

pub returns-else-are_ascii : goal.returns-else-are_ascii
returns-else-are_ascii c =
    let cut = c.split_at.ensures.front
    ∙ ap (λ k. take k c.args.octets.now)
    (c.unwrap_or.ensures ∙ run-test (is_byte2 39 10) c.args.octets.now _ c.memchr2.ensures) in
    judged c.args.octets.now _ c.args.fault c.args.start false cut (sym c.are_ascii.ensures ∙ c.if-are_ascii.false)
