-- What names and expressions are found to be stays, where nothing is declared or named as a base before their names.
use Rattle.std.proofs.Common.{◌≡◌, ◌∙◌, ℕ, ◌<◌, ◌≤◌, Bool, List, [], length, slice_get, Option, Some, None, Result, Ok, Err, refl, sym, ap, arith}
use Rattle.std.specs.Prelude.{if◌then◌else◌, ℤ}
use Rattle.idl_tree.specs.declared.names.ScopedName.{ScopedName}
use Rattle.idl_tree.specs.declared.expression.Expr.{Expr, Name, Number, Character, Text, Boolean, Parenthesized', Signed', Chain', Row_of-Operand, end_of-Operand, more_of-Operand}
use Rattle.idl_tree.specs.declared.const_expr.Bound.{Bound}
use Rattle.idl_tree.specs.declared.types.ConstType.{ConstType}
use Rattle.idl_tree.specs.declared.types.ConstType.TheVariants as ConstTypes
use Rattle.idl_tree.specs.Starts.{expr_start, name_start, leaf_at as at}
use Rattle.name_table.specs.declared.const_values.kind.ConstKind.TheVariants as Kinds
use Rattle.name_table.specs.Worth.{chain_worth, operator_applied, positive, sign_applied, whole_constant, whole_number, worth}
use Rattle.idl_tree.specs.declared.kinds.EntryKind.{EntryKind}
use Rattle.name_table.specs.declared.search.Sight.{Sight}
use Rattle.name_table.specs.declared.search.Sight.TheVariants.{Unseen, OtherCase, Unclear, Seen}
use Rattle.name_table.specs.Entry.{Entry, meant_in, worth_in}
use Rattle.name_table.specs.Search.{found_by, sees}
use Rattle.scoped_names.specs.declared.fault.Flaw.TheVariants.{NoConstant, NoWorth, NotOfType, NotPositive}
use Rattle.scoped_names.specs.declared.fault.NameFault.{NameFault}
use Rattle.scoped_names.specs.declared.fault.NameFault.TheVariants.{Ambiguous, CaseDiffers, NotAType}
use Rattle.scoped_names.specs.Constants.{meant_found, named_worth, of_type, worth_found}
use Rattle.scoped_names.specs.Faults.{is_interface}
use Rattle.scoped_names.specs.Reading.{Test, ◌>>◌}
use Rattle.name_steps.specs.Steps.{Step, DeclaresConst, HasBase, NamesType, NamesException, HasWorth, IsSize}
use Rattle.scoped_names.specs.Tests.{at_entry, constant_test, found_at, found_of, is_exception, is_of, is_type, kind_in, names_test, operands_test, or_bad, resolved, size_read, value_of_type, value_read}
use Rattle.scoped_names.specs.TypeKinds.{const_type_kind, known}
use Rattle.scoped_names.specs.Following.{FindsKnown}
use Rattle.scoped_names.specs.Holding.{asks}
use Rattle.scoped_names.proofs.Later.{Later, later_from}
use Rattle.scoped_names.proofs.Searches.{IsScope, IsSeenIn, sees_in, sees_stays, stays}

-- ---- where names stand

-- the names of an expression stand at the token n at the latest
abbrev mutual
  pub NamesUpTo : ℕ → Expr → Type 0
  NamesUpTo n (Name name) = (name_start name).number ≤ n
  NamesUpTo n (Number l) = Unit {0}
  NamesUpTo n (Character l) = Unit {0}
  NamesUpTo n (Text ls) = Unit {0}
  NamesUpTo n (Boolean b word) = Unit {0}
  NamesUpTo n (Parenthesized' l p inner) = NamesUpTo n inner
  NamesUpTo n (Signed' m s p inner) = NamesUpTo n inner
  NamesUpTo n (Chain' p first shape rest) = NamesUpTo n first × OperandsUpTo n rest

  pub OperandsUpTo : {k : _} → ℕ → Row_of-Operand k → Type 0
  OperandsUpTo n end_of-Operand = Unit {0}
  OperandsUpTo n (more_of-Operand o e rest) = NamesUpTo n e × OperandsUpTo n rest

abbrev pub BoundUpTo : ℕ → Option Bound → Type 0
BoundUpTo n None = Unit {0}
BoundUpTo n (Some b) = NamesUpTo n b.expr.value

abbrev pub TypeUpTo : ℕ → ConstType → Type 0
TypeUpTo n (ConstTypes.String bound) = BoundUpTo n bound
TypeUpTo n (ConstTypes.Name name) = (name_start name).number ≤ n
TypeUpTo n t = Unit {0}

-- those that a step asks for
abbrev pub StepUpTo : ℕ → Step → Type 0
StepUpTo n (NamesType name) = (name_start name).number ≤ n
StepUpTo n (NamesException name) = (name_start name).number ≤ n
StepUpTo n (HasBase l name) = (name_start name).number ≤ n
StepUpTo n (HasWorth e) = NamesUpTo n e
StepUpTo n (IsSize e) = NamesUpTo n e
StepUpTo n (DeclaresConst c) = TypeUpTo n c.const_type × NamesUpTo n c.value.expr
StepUpTo n s = Unit {0}

-- ---- what stays

then_same : {A B : Type 0} (r : Result A NameFault) (f g : A → Result B NameFault) → ((x : A) → r ≡ Ok x → f x ≡ g x)
    → (r >> f) ≡ (r >> g)
then_same (Ok x) f g same = same x refl
then_same (Err fault) f g same = refl

module _ (n : ℕ) (es fs : List Entry) (l : Later n es fs) (scope : ℕ) (is : IsScope es scope) where
  sight_stays : (name : ScopedName) → (name_start name).number ≤ n → sees fs scope name ≡ sees es scope name
  sight_stays name le = sees_stays es fs scope name (later_from (name_start name).number le l) is

  pub resolved_stays : (name : ScopedName) → (name_start name).number ≤ n
      → resolved fs scope name ≡ resolved es scope name
  resolved_stays name le =
      ap (found_at fs (at (name_start name))) (sight_stays name le) ∙ by (sees es scope name) (sees_in es scope name)
    where
      by : (seen : Sight) → IsSeenIn (length es) seen → found_at fs (at (name_start name)) seen
          ≡ found_at es (at (name_start name)) seen
      by Unseen lt = refl
      by (OtherCase e) lt = ap (λ o. Err (CaseDiffers (at (name_start name)) o)) (stays at_entry (λ x. refl) l e lt)
      by (Unclear a b) lt =
          ap (λ o. let r : Result ℕ NameFault = Err (Ambiguous (at (name_start name)) o (at_entry (slice_get fs b))) in
          r) (stays at_entry (λ x. refl) l a lt.0)
          ∙ ap (λ o. let r : Result ℕ NameFault =
          Err (Ambiguous (at (name_start name)) (at_entry (slice_get es a)) o) in r)
          (stays at_entry (λ x. refl) l b lt.1)
      by (Seen e) lt = refl

  resolved_in : (name : ScopedName) (e : ℕ) → resolved es scope name ≡ Ok e → e < length es
  resolved_in name e h = by (sees es scope name) (sees_in es scope name) h
    where
      by : (seen : Sight) → IsSeenIn (length es) seen → found_at es (at (name_start name)) seen ≡ Ok e → e < length es
      by Unseen lt h = absurd cc
      by (OtherCase k) lt h = absurd cc
      by (Unclear a b) lt h = absurd cc
      by (Seen k) lt h = let same : k ≡ e = cc in omega arith

  -- what is asked of the entry that a name finds
  found_then : (f : Option Entry → Test) → ((e : Entry) → f (Some (record e { bases = [] })) ≡ f (Some e))
      → (name : ScopedName) → (name_start name).number ≤ n
      → (resolved fs scope name >> λ e. f (slice_get fs e)) ≡ (resolved es scope name >> λ e. f (slice_get es e))
  found_then f same name le =
      ap (λ r. r >> λ e. f (slice_get fs e)) (resolved_stays name le)
      ∙ then_same (resolved es scope name) (λ e. f (slice_get fs e)) (λ e. f (slice_get es e))
      (λ e is_e. stays f same l e (resolved_in name e is_e))

  pub found_of_stays : (wanted : EntryKind → Bool) (name : ScopedName) → (name_start name).number ≤ n
      → found_of wanted fs scope name ≡ found_of wanted es scope name
  found_of_stays wanted name le =
      found_then (λ o. if is_of wanted o then Ok tt else Err (NotAType (at (name_start name)) (kind_in o))) (λ x. refl)
      name le

  constant_test_stays : (name : ScopedName) → (name_start name).number ≤ n
      → constant_test fs scope name ≡ constant_test es scope name
  constant_test_stays name le =
      found_then (λ o. or_bad NoConstant (at (name_start name)) (worth_in o) >> λ c. Ok tt) (λ x. refl) name le

  named_worth_stays : (name : ScopedName) → (name_start name).number ≤ n
      → named_worth fs scope name ≡ named_worth es scope name
  named_worth_stays name le = ap (λ s. worth_found fs (found_by s)) (sight_stays name le)
      ∙ by (sees es scope name) (sees_in es scope name)
    where
      by : (seen : Sight) → IsSeenIn (length es) seen → worth_found fs (found_by seen) ≡ worth_found es (found_by seen)
      by Unseen lt = refl
      by (OtherCase e) lt = refl
      by (Unclear a b) lt = refl
      by (Seen e) lt = stays worth_in (λ x. refl) l e lt

  meant_stays : (name : ScopedName) → (name_start name).number ≤ n
      → meant_found fs (found_by (sees fs scope name)) ≡ meant_found es (found_by (sees es scope name))
  meant_stays name le = ap (λ s. meant_found fs (found_by s)) (sight_stays name le)
      ∙ by (sees es scope name) (sees_in es scope name)
    where
      by : (seen : Sight) → IsSeenIn (length es) seen → meant_found fs (found_by seen) ≡ meant_found es (found_by seen)
      by Unseen lt = refl
      by (OtherCase e) lt = refl
      by (Unclear a b) lt = refl
      by (Seen e) lt = stays meant_in (λ x. refl) l e lt

  mutual
    names_test_stays : (e : Expr) → NamesUpTo n e → names_test fs scope e ≡ names_test es scope e
    names_test_stays (Name name) h = constant_test_stays name h
    names_test_stays (Number k) h = refl
    names_test_stays (Character k) h = refl
    names_test_stays (Text ls) h = refl
    names_test_stays (Boolean b word) h = refl
    names_test_stays (Parenthesized' k p inner) h = names_test_stays inner h
    names_test_stays (Signed' m s p inner) h = names_test_stays inner h
    names_test_stays (Chain' p first shape rest) h =
        ap (λ r. r >> λ u. operands_test fs scope rest) (names_test_stays first h.0)
        ∙ ap (λ t. names_test es scope first >> λ u. t) (operands_test_stays rest h.1)

    operands_test_stays : {k : _} (row : Row_of-Operand k) → OperandsUpTo n row
        → operands_test fs scope row ≡ operands_test es scope row
    operands_test_stays end_of-Operand h = refl
    operands_test_stays (more_of-Operand o e rest) h =
        ap (λ r. r >> λ u. operands_test fs scope rest) (names_test_stays e h.0)
        ∙ ap (λ t. names_test es scope e >> λ u. t) (operands_test_stays rest h.1)

  mutual
    worth_stays : (e : Expr) → NamesUpTo n e → worth (named_worth fs scope) e ≡ worth (named_worth es scope) e
    worth_stays (Name name) h = named_worth_stays name h
    worth_stays (Number k) h = refl
    worth_stays (Character k) h = refl
    worth_stays (Text ls) h = refl
    worth_stays (Boolean b word) h = refl
    worth_stays (Parenthesized' k p inner) h = worth_stays inner h
    worth_stays (Signed' m s p inner) h =
        ap (λ w. whole_constant (sign_applied s (whole_number w))) (worth_stays inner h)
    worth_stays (Chain' p first shape rest) h =
        ap (λ w. whole_constant (chain_worth (named_worth fs scope) (whole_number w) rest)) (worth_stays first h.0)
        ∙ ap whole_constant (chain_stays rest h.1 (whole_number (worth (named_worth es scope) first)))

    chain_stays : {k : _} (row : Row_of-Operand k) → OperandsUpTo n row → (before : Option ℤ)
        → chain_worth (named_worth fs scope) before row ≡ chain_worth (named_worth es scope) before row
    chain_stays end_of-Operand h before = refl
    chain_stays (more_of-Operand o e rest) h before =
        ap (λ w. chain_worth (named_worth fs scope) (operator_applied o before (whole_number w)) rest)
        (worth_stays e h.0)
        ∙ chain_stays rest h.1 (operator_applied o before (whole_number (worth (named_worth es scope) e)))

  pub value_stays : (e : Expr) → NamesUpTo n e → value_read fs scope e ≡ value_read es scope e
  value_stays e h =
      ap (λ r. r >> λ u. or_bad NoWorth (at (expr_start e)) (worth (named_worth fs scope) e)) (names_test_stays e h)
      ∙ ap (λ w. names_test es scope e >> λ u. or_bad NoWorth (at (expr_start e)) w) (worth_stays e h)

  pub size_stays : (e : Expr) → NamesUpTo n e → size_read fs scope e ≡ size_read es scope e
  size_stays e h = ap (λ r. r >> λ c. or_bad NotPositive (at (expr_start e)) (positive (whole_number (Some c))))
      (value_stays e h)

  pub kind_stays : (t : ConstType) → TypeUpTo n t → const_type_kind fs scope t ≡ const_type_kind es scope t
  kind_stays (ConstTypes.Integer i) h = refl
  kind_stays ConstTypes.Char h = refl
  kind_stays ConstTypes.Boolean h = refl
  kind_stays ConstTypes.Octet h = refl
  kind_stays (ConstTypes.String None) h = refl
  kind_stays (ConstTypes.String (Some b)) h = ap (λ r. Some (Kinds.String (known r))) (size_stays b.expr.value h)
  kind_stays (ConstTypes.Name name) h = meant_stays name h

  pub typed_stays : (t : ConstType) (e : Expr) → TypeUpTo n t → NamesUpTo n e
      → value_of_type (const_type_kind fs scope t) fs scope e ≡ value_of_type (const_type_kind es scope t) es scope e
  typed_stays t e ht he =
      ap (λ k. value_of_type k fs scope e) (kind_stays t ht)
      ∙ ap (λ r. r >> λ c. or_bad NotOfType (at (expr_start e)) (of_type (const_type_kind es scope t) (Some c)))
      (value_stays e he)

  -- what a step asks is answered as it was
  pub asks_stays : (s : Step) → StepUpTo n s → asks fs scope s ≡ asks es scope s
  asks_stays (NamesType name) h = found_of_stays is_type name h
  asks_stays (NamesException name) h = found_of_stays is_exception name h
  asks_stays (HasBase k name) h = found_of_stays is_interface name h
  asks_stays (HasWorth e) h = ap (λ r. r >> λ c. Ok tt) (value_stays e h)
  asks_stays (IsSize e) h = ap (λ r. r >> λ c. Ok tt) (size_stays e h)
  asks_stays (DeclaresConst c) h = ap (λ r. r >> λ w. Ok tt) (typed_stays c.const_type c.value.expr h.0 h.1)
  asks_stays s h = refl

  -- what the name of a step finds was declared before
  pub finds_known : (s : Step) → StepUpTo n s → FindsKnown (λ e. e < length es) fs scope s
  finds_known (NamesType name) h = λ e is_e. resolved_in name e (sym (resolved_stays name h) ∙ is_e)
  finds_known (NamesException name) h = λ e is_e. resolved_in name e (sym (resolved_stays name h) ∙ is_e)
  finds_known (HasBase k name) h = λ e is_e. resolved_in name e (sym (resolved_stays name h) ∙ is_e)
  finds_known s h = tt
