use Rattle.std.proofs.Common.{◌≡◌, ◌∙◌, ℕ, ◌≤◌, Option, Some, IfSome, sym, subst, rules}
use Rattle.type_graph.specs.declared.width.Order.{Order}
use Rattle.table_file.specs.Table.{TableParts}
use Rattle.idlc_c.specs.declared.held.Loaded.{Loaded}
use Rattle.idlc_c.specs.Answers.{HasNoTape, order_of}
use Rattle.idlc_c.proofs.AnswerLaws.{none_of}
use Rattle.idlc_c.proofs.idlc_decode_text.Goals as goal

pub returns-clause-refused : goal.returns-clause-refused
returns-clause-refused c many =
    let none = none_of _ _ _ c.decode_text-answer.result (subst (λ (n : ℕ). 60 ≤ n) c.status_of.ensures.number many)
    c.decode_text-answer.ensures.refused in
    let there : c.args.handle.now.table ≡ Some c.in-Some.held.value.table = search rules in
    let in_order = subst (λ (o : Order). HasNoTape c.args.node o c.args.pos c.args.octets.now c.loaded.result.now.table)
    c.order.ensures none in
    let of_table = subst (λ (h : Loaded). HasNoTape c.args.node (order_of c.args.little) c.args.pos c.args.octets.now
    h.table) (c.loaded.ensures ∙ c.deref.ensures) in_order in
    subst (λ (t : Option TableParts). IfSome t
    (HasNoTape c.args.node (order_of c.args.little) c.args.pos c.args.octets.now)) (sym there) of_table
