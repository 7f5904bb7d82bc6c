use Rattle.std.proofs.Common.{◌≡◌, ℕ, ◌≤◌, Option, Some, IfSome, sym, subst, rules}
use Rattle.type_graph.specs.declared.width.Order.{Order}
use Rattle.table_file.specs.Table.{TableParts}
use Rattle.idlc_c.specs.declared.held.Loaded.{Loaded}
use Rattle.idlc_c.specs.Answers.{HasNoOctets, order_of}
use Rattle.idlc_c.proofs.AnswerLaws.{none_of}
use Rattle.idlc_c.proofs.idlc_encode.Goals as goal

pub returns-clause-refused : goal.returns-clause-refused
returns-clause-refused c many =
    let none = none_of _ _ _ c.encode-answer.result (subst (λ (n : ℕ). 60 ≤ n) c.done.ensures.number many)
    c.encode-answer.ensures.refused in
    let there : c.args.handle.now.table ≡ Some c.in-Some.held.value.table = search rules in
    let same : c.deref_mut.result.now ≡ c.in-Some.held.value = search rules in
    let in_order = subst (λ (o : Order). HasNoOctets c.args.node o c.args.pos c.args.tape.now
    c.deref_mut.result.now.table) c.order.ensures none in
    let of_table = subst (λ (h : Loaded). HasNoOctets c.args.node (order_of c.args.little) c.args.pos c.args.tape.now
    h.table) same in_order in
    subst (λ (t : Option TableParts). IfSome t
    (HasNoOctets c.args.node (order_of c.args.little) c.args.pos c.args.tape.now)) (sym there) of_table
