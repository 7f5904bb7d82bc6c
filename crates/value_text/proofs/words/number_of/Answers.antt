use Rattle.std.proofs.Common.{◌≡◌, ℤ, IfSome, Some, sym, subst}
use Rattle.json.specs.Reads.{token_of}
use Rattle.type_graph.specs.declared.node.Node.TheVariants.{Enum}
use Rattle.type_graph.specs.Value.{IsNumber}
use Rattle.value_text.specs.Says.{SaysNumber}
use Rattle.value_text.specs.inner.Refusing.{IsLow, IsNamed}
use Rattle.value_text.proofs.OneNumber.{is_short}
use Rattle.value_text.proofs.words.number_of.Goals as goal

pub returns-in-Enum-clause-some : goal.returns-in-Enum-clause-some
returns-in-Enum-clause-some c =
    subst (λ node. IfSome c.enumerator_said.result (λ n. SaysNumber c.args.labels.now node n (token_of c.args.token)))
    (sym c.in-Enum.is)
    (c.enumerator_said.ensures.some c.in-Enum.n)

pub returns-in-Enum-clause-complete : goal.returns-in-Enum-clause-complete
returns-in-Enum-clause-complete c =
    subst (λ node. IsLow node → IsNamed node c.args.labels.now → (n : ℤ) → IsNumber node n
    → SaysNumber c.args.labels.now node n (token_of c.args.token) → c.enumerator_said.result ≡ Some n)
    (sym c.in-Enum.is)
    (λ low named n is_number says. c.enumerator_said.ensures.complete named c.in-Enum.n n
    (is_short (Enum c.in-Enum.n) n low is_number) says)
