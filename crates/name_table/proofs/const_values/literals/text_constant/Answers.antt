use Rattle.std.proofs.Common.{◌∙◌, sym}
use Rattle.idl_tree.specs.Lists.{parts}
use Rattle.name_table.proofs.TextForms.{text_forms}
use Rattle.name_table.proofs.const_values.literals.text_constant.Goals as goal

pub new-requires : goal.new-requires
new-requires c = text_forms (parts c.args.literals.now) (sym c.are_texts.ensures ∙ c.if-are_texts.true)
