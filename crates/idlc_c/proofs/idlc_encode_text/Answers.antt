use Rattle.std.proofs.Common.{◌≡◌, ◌∙◌, ap, ℕ, ◌<◌, ◌≤◌, Option, Some, IfSome, sym, subst, rules}
use Rattle.type_graph.specs.declared.width.Order.{Order}
use Rattle.table_file.specs.Table.{TableParts}
use Rattle.idlc_c.specs.declared.held.Loaded.{Loaded}
use Rattle.idlc_c.specs.declared.source_place.SourcePlace.{SourcePlace}
use Rattle.idlc_c.specs.Answers.{order_of}
use Rattle.idlc_c.specs.Handle.{Labels}
use Rattle.idlc_c.specs.TextAnswers.{HasNoOctetsOfText, IsOfText, SaysNone}
use Rattle.idlc_c.proofs.TextLaws.{of_text, said_none, unsaid, untold}
use Rattle.idlc_c.proofs.idlc_encode_text.Goals as goal

pub returns-clause-refused : goal.returns-clause-refused
returns-clause-refused c many most =
    let is = c.told_at.ensures.number in
    let none = said_none _ _ _ _ c.encode_text-answer.result (subst (λ (n : ℕ). 60 ≤ n) is many)
    (subst (λ (n : ℕ). n ≤ 68) is most) c.encode_text-answer.ensures.refused in
    let there : c.args.handle.now.table ≡ Some c.in-Some.held.value.table = search rules in
    let named : c.args.handle.now.names ≡ c.in-Some.held.value.names = search rules in
    let node = c.args.node in let pos = c.args.pos in let text = c.args.text.now in
    let in_order = subst (λ (o : Order). HasNoOctetsOfText c.loaded.result.now.names node o pos text
    c.loaded.result.now.table) c.order.ensures none in
    let of_held = subst (λ (h : Loaded). HasNoOctetsOfText h.names node (order_of c.args.little) pos text h.table)
    (c.loaded.ensures ∙ c.deref.ensures) in_order in
    let of_names = subst (λ (names : Labels). HasNoOctetsOfText names node (order_of c.args.little) pos text
    c.in-Some.held.value.table) (sym named) of_held in
    subst (λ (t : Option TableParts). IfSome t
    (HasNoOctetsOfText c.args.handle.now.names node (order_of c.args.little) pos text)) (sym there) of_names

pub returns-clause-unsaid : goal.returns-clause-unsaid
returns-clause-unsaid c many =
    let is = c.told_at.ensures.number in
    let none = (unsaid _ _ _ _ c.encode_text-answer.result c.args.place.now (subst (λ (n : ℕ). 110 ≤ n) is many)
    c.encode_text-answer.ensures.refused).0 in
    let there : c.args.handle.now.table ≡ Some c.in-Some.held.value.table = search rules in
    let named : c.args.handle.now.names ≡ c.in-Some.held.value.names = search rules in
    let of_held = subst (λ (h : Loaded). SaysNone h.names c.args.node c.args.text.now h.table)
    (c.loaded.ensures ∙ c.deref.ensures) none in
    let of_names = subst (λ (names : Labels). SaysNone names c.args.node c.args.text.now c.in-Some.held.value.table)
    (sym named) of_held in
    subst (λ (t : Option TableParts). IfSome t (SaysNone c.args.handle.now.names c.args.node c.args.text.now))
    (sym there) of_names

pub returns-clause-told : goal.returns-clause-told
returns-clause-told c many =
    let is = c.told_at.ensures.number in
    let told = (unsaid _ _ _ _ c.encode_text-answer.result c.args.place.now (subst (λ (n : ℕ). 110 ≤ n) is many)
    c.encode_text-answer.ensures.refused).1 in
    ap (λ (place : SourcePlace). place.number) c.told_at.ensures.place ∙ told ∙ sym is

pub returns-clause-untold : goal.returns-clause-untold
returns-clause-untold c few =
    c.told_at.ensures.place ∙ untold c.encode_text-answer.result c.args.place.now
    (subst (λ (n : ℕ). n < 110) c.told_at.ensures.number few)

pub returns-clause-numbers : goal.returns-clause-numbers
returns-clause-numbers c =
    subst IsOfText (sym c.told_at.ensures.number)
    (of_text _ _ _ _ c.encode_text-answer.result c.encode_text-answer.ensures.refused)
