-- What a chain of operands is worth, by the list of its `Vec`.
use Rattle.std.proofs.Common.{◌≡◌, ◌∙◌, ℕ, ◌+◌, ◌<◌, List, [], ◌∷◌, Option, None, Err, Vec, Global, length, drop, get_or, refl, ap, sym}
use Rattle.std.specs.Prelude.{Box, ℤ}
use Rattle.idl_tree.specs.declared.expression.Expr.{Expr, Chain}
use Rattle.idl_tree.specs.declared.expression.Operand.{Operand}
use Rattle.idl_tree.proofs.Rows.{chain_walk}
use Rattle.name_table.proofs.MergedBases.{split_at}
use Rattle.name_table.specs.declared.const_values.constant.Constant.{Constant}
use Rattle.name_table.specs.Worth.{NamesWorth, worth, chain_worth, whole_number, whole_constant, operator_applied}
use Rattle.idl_tree.specs.declared.names.At.{At}
use Rattle.scoped_names.specs.declared.fault.NameFault.{NameFault}
use Rattle.name_table.specs.Entry.{Entry}
use Rattle.name_table.specs.declared.search.Sight.{Sight}
use Rattle.name_table.specs.declared.search.Sight.TheVariants.{Unseen, OtherCase, Unclear, Seen}
use Rattle.name_table.specs.Search.{found_by}
use Rattle.scoped_names.specs.Tests.{found_at}
use Rattle.scoped_names.specs.Constants.{worth_found}

-- what operators and operands make of what stands before them, by a list
abbrev pub operands_worth : NamesWorth → List Operand → Option ℤ → Option ℤ
operands_worth names [] before = before
operands_worth names (x ∷ xs) before =
    operands_worth names xs (operator_applied x.operator before (whole_number (worth names x.operand)))

pub chain_is : (names : NamesWorth) (first : Box Expr Global) (rest : Vec Operand Global)
    → worth names (Chain first rest)
    ≡ whole_constant (operands_worth names rest.items (whole_number (worth names first.value)))
chain_is names first rest =
    chain_walk (worth names) (λ n row before. chain_worth names before row)
    (λ e made. whole_constant (made (whole_number (worth names e)))) (λ before. before)
    (λ x made before. made (operator_applied x.operator before (whole_number (worth names x.operand))))
    (operands_worth names)
    (λ p e shape row. refl) refl (λ n x row. refl) refl (λ x xs. refl) first rest

-- the operands from the k-th on
pub operands_at : (names : NamesWorth) (xs : List Operand) (k : ℕ) (x : Operand) (before : Option ℤ) → k < length xs
    → get_or xs k x ≡ x
    → operands_worth names (drop k xs) before
    ≡ operands_worth names (drop (k + 1) xs)
    (operator_applied x.operator before (whole_number (worth names x.operand)))
operands_at names xs k x before lt here = ap (λ ys. operands_worth names ys before) (split_at xs k x lt (sym here))

-- the first operand begins a chain
pub chain_begins : (names : NamesWorth) (first : Box Expr Global) (rest : Vec Operand Global) (e e1 : Expr)
    (c : Option Constant) (xs : List Operand) (z : Option ℤ) → e ≡ Chain first rest → e1 ≡ first.value
    → xs ≡ rest.items → c ≡ worth names e1 → z ≡ whole_number c
    → whole_constant (operands_worth names xs z) ≡ worth names e
chain_begins names first rest e e1 c xs z is is1 items found whole =
    let front : z ≡ whole_number (worth names first.value) = whole ∙ ap whole_number (found ∙ ap (worth names) is1) in
    ap (λ ys. whole_constant (operands_worth names ys z)) items
    ∙ ap (λ b. whole_constant (operands_worth names rest.items b)) front
    ∙ sym (ap (worth names) is ∙ chain_is names first rest)

-- each further operand goes on with it
pub chain_goes_on : (names : NamesWorth) (xs : List Operand) (k : ℕ) (x : Operand) (before : Option ℤ)
    (c : Option Constant) (z y : Option ℤ) (w : Option Constant) → k < length xs → get_or xs k x ≡ x
    → whole_constant (operands_worth names (drop k xs) before) ≡ w → c ≡ worth names x.operand → z ≡ whole_number c
    → y ≡ operator_applied x.operator before z
    → whole_constant (operands_worth names (drop (k + 1) xs) y) ≡ w
chain_goes_on names xs k x before c z y w lt here made found whole step =
    let next : y ≡ operator_applied x.operator before (whole_number (worth names x.operand)) =
    step ∙ ap (operator_applied x.operator before) (whole ∙ ap whole_number found) in
    ap (λ b. whole_constant (operands_worth names (drop (k + 1) xs) b)) next
    ∙ sym (ap whole_constant (operands_at names xs k x before lt here)) ∙ made

-- what finds no entry alone is worth nothing
pub not_found : (es : List Entry) (at : At) (seen : Sight) (fault : NameFault) → found_at es at seen ≡ Err fault
    → worth_found es (found_by seen) ≡ None
not_found es at Unseen fault is = refl
not_found es at (OtherCase e) fault is = refl
not_found es at (Unclear a b) fault is = refl
not_found es at (Seen e) fault is = absurd cc
