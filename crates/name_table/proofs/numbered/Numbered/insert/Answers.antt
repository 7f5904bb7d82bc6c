use Rattle.std.proofs.Common.{◌∙◌, ◌++◌, ◌∷◌, [], ap, sym}
use Rattle.std.specs.Prelude.{if◌then◌else◌}
use Rattle.std.proofs.lemmas.Result.{on_ok_weaker}
use Rattle.name_table.proofs.Numbers.{none_any}
use Rattle.name_table.proofs.numbered.Numbered.insert.Goals as goal

pub push-requires : goal.push-requires
push-requires g c = none_any _ c.args.self.now (sym c.contains.ensures ∙ c.if-contains.false)

pub returns-clause-inserted : goal.returns-clause-inserted
returns-clause-inserted g c =
    let keys = c.args.self.now in
    on_ok_weaker c.push.result
    (λ pushed. pushed ∙ sym (ap (λ b. if b then keys else keys ++ c.args.key ∷ [])
    (sym c.contains.ensures ∙ c.if-contains.false))) c.push.ensures.pushed

pub returns-then-contains-clause-inserted : goal.returns-then-contains-clause-inserted
returns-then-contains-clause-inserted g c =
    let keys = c.args.self.now in
    sym (ap (λ b. if b then keys else keys ++ c.args.key ∷ []) (sym c.contains.ensures ∙ c.if-contains.true))
